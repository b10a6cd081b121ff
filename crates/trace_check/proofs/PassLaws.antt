-- The pass over the lines.
use Rattle.std.proofs.Common.{◌≡◌, ◌+◌, ℕ, List, [], ◌∷◌, ◌++◌, take, length, refl, ap, sym, subst, ◌∙◌, append_assoc, arith}
use Rattle.std.proofs.Math.Seq.{take-append_seam, take-append-add}
use Rattle.std.proofs.lemmas.List.{length-append}
use Rattle.ce_algorithms.specs.Lines.{lines_of}
use Rattle.ce_events.specs.declared.event.Event.{Event}
use Rattle.event_reader.specs.Steps.{TextsTellSteps}
use Rattle.order_law.specs.After.{after}
use Rattle.order_law.specs.Book.{Book, blank}
use Rattle.order_law.specs.Law.{Lawful, may_come, read}
use Rattle.order_law.proofs.Runs.{read_append}
use Rattle.trace_check.specs.Next.{IsAfterLine, NoneMayCome}
use Rattle.trace_check.specs.Traces.{AreLawful, IsLog}
use Rattle.trace_check.specs.Verdict.{BreaksAt}
use Rattle.trace_check.proofs.TraceLaws.{log-append, lawful-append, none_goes_on}
use Rattle.std.proofs.Common.{Some}

-- these lines were read of all, and the rest is left: they are those of a lawful log, and this is the book after it
pub record HasRead (all rest : List ℕ) (count : ℕ) (b : Book) : Type 0 where
  pub lines : List (List ℕ)
  pub log : List Event
  pub is_log : IsLog lines log
  pub split : lines ++ lines_of rest ≡ lines_of all
  pub count_is : count ≡ length lines
  pub law : Lawful log
  pub book : read blank log ≡ b

pub nothing_read : (all : List ℕ) → HasRead all all 0 blank
nothing_read all = record { lines = []; log = []; is_log = tt; split = refl; count_is = refl; law = refl; book = refl }

-- one line more
pub more_read : (all rest line behind : List ℕ) (count : ℕ) (b next : Book) → HasRead all rest count b → lines_of rest ≡ line ∷ lines_of behind
    → IsAfterLine b line (Some next) → HasRead all behind (count + 1) next
more_read all rest line behind count b next has cut is = record {
  lines = has.lines ++ line ∷ [];
  log = has.log ++ is.0 ∷ [];
  is_log = log-append has.lines has.log line is.0 has.is_log is.1 is.2;
  split = append_assoc has.lines (line ∷ []) (lines_of behind) ∙ (ap (λ (l : List (List ℕ)). has.lines ++ l) (sym cut) ∙ has.split);
  count_is = omega (arith, has.count_is, length-append has.lines (line ∷ []));
  law = lawful-append blank has.log is.0 has.law (ap (λ (c : Book). may_come c is.0) has.book ∙ is.3);
  book = read_append blank has.log is.0 ∙ (ap (λ (c : Book). after c is.0) has.book ∙ sym is.4);
}

-- with this line they are those of no lawful log
pub breaks_here : TextsTellSteps → (all rest line behind : List ℕ) (count : ℕ) (b : Book) → HasRead all rest count b → lines_of rest ≡ line ∷ lines_of behind
    → NoneMayCome b line → BreaksAt (count + 1) (lines_of all)
breaks_here tell all rest line behind count b has cut none =
    let lines = has.lines in
    let all_is : lines_of all ≡ lines ++ line ∷ lines_of behind = sym has.split ∙ ap (λ (l : List (List ℕ)). lines ++ l) cut in
    record {
      before = length lines;
      number_is = omega (arith, has.count_is);
      within = omega (arith, ap length all_is, length-append lines (line ∷ lines_of behind));
      lawful = subst AreLawful (sym (ap (take (length lines)) all_is ∙ take-append_seam lines (line ∷ lines_of behind))) (has.log, has.is_log, has.law);
      with_it = λ are.
          let with_line : AreLawful (lines ++ line ∷ []) =
          subst AreLawful (ap (take (length lines + 1)) all_is ∙ take-append-add lines (line ∷ lines_of behind) 1) are in
          none_goes_on tell blank lines line has.log with_line.0 has.is_log with_line.1 with_line.2
          (subst (λ (c : Book). NoneMayCome c line) (sym has.book) none);
    }
