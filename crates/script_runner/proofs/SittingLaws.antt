-- A session that was run over some lines, and then over others.
use Rattle.std.proofs.Common.{◌≡◌, ℕ, ◌+◌, ◌||◌, List, [], ◌∷◌, ◌++◌, length, refl, sym, ap, subst, ◌∙◌, append_assoc, append-nil, add-zero, add_assoc, arith}
use Rattle.std.proofs.Common.{length-append}
use Rattle.std.proofs.KnownBytes.{Appends-nil, Appends-trans}
use Rattle.std.proofs.Math.Bool.{or_assoc, or-false}
use Rattle.std.proofs.lemmas.List.{map-append, length-map}
use Rattle.std.proofs.lemmas.List.Folds.{list_any-append}
use Rattle.std.specs.Io.KnownBytes.{Appends}
use Rattle.std.specs.List.{list_any}
use Rattle.std.specs.declared.option.Option.{Option}
use Rattle.ce_base.specs.Outside.{AppendsPart}
use Rattle.rule_script.specs.Reading.{longest, reading}
use Rattle.ce_events.specs.declared.event.Event.{Event}
use Rattle.ce_algorithms.specs.Model.{model}
use Rattle.ce_algorithms.specs.Session.{run_line, run_lines, log_of}
use Rattle.ce_algorithms.specs.State.{State}
use Rattle.ce_algorithms.specs.Steps.{Goes, Throws, Spent, then_do}
use Rattle.ce_events.specs.Text.{text}
use Rattle.ce_algorithms.specs.Written.{behind, behind_in}
use Rattle.ce_machine.specs.Ended.{outcome_of}
use Rattle.ce_machine.specs.declared.end.End.{End}
use Rattle.ce_machine.specs.declared.end.End.TheVariants.{Replied, FuelSpent}
use Rattle.script_runner.specs.Script.{run_from, readings, has_bad, is_bad}
use Rattle.script_runner.specs.Ran.{Ran, Answered, answers}
use Rattle.script_runner.specs.Sitting.{Sitting}
use Rattle.ce_algorithms.proofs.FramedLines.{framed_run_lines}
use Rattle.ce_algorithms.proofs.Growth.{behind_in-append, log_of-behind, text-append}

-- ---- the model's run over lines

-- the lines that come first, and then the others
pub run_from-append : (number : ℕ) (xs ys : List (List ℕ)) (s : State)
    → run_from number (xs ++ ys) s ≡ then_do (run_from number xs s) (λ _. run_from (number + length xs) ys)
run_from-append number [] ys s = ap (λ n. run_from n ys s) (sym (add-zero number))
run_from-append number (x ∷ xs) ys s =
    let count : number + 1 + length xs ≡ number + length (x ∷ xs) = omega arith in
    elim (run_line model number (reading longest x) s) as
    (λ o. then_do o (λ _. run_from (number + 1) (xs ++ ys))
    ≡ then_do (then_do o (λ _. run_from (number + 1) xs)) (λ _. run_from (number + length (x ∷ xs)) ys)) [
      | Goes u t ↦ run_from-append (number + 1) xs ys t ∙ ap (λ n. then_do (run_from (number + 1) xs t) (λ _. run_from n ys)) count
      | Throws f t ↦ refl
      | Spent t ↦ refl
    ]

log_of-end : (end : End) (s : State) → s.log ≡ [] → log_of (outcome_of end s) ≡ []
log_of-end Replied s h = h
log_of-end FuelSpent s h = h

has_bad-append : (xs ys : List (List ℕ)) → has_bad (xs ++ ys) ≡ (has_bad xs || has_bad ys)
has_bad-append xs ys = rw (map-append (reading longest) xs ys) (list_any-append is_bad (readings xs) (readings ys))

-- ---- a session over lines

pub ran_nothing : (s : Sitting) → s.state.log ≡ [] → Ran s [] Replied s []
ran_nothing s empty = record {
  same = refl;
  empty = empty;
  trace = refl;
  line = λ _. sym (add-zero s.line);
  bad = λ _. sym (or-false s.bad);
}

-- after a line no other is left
then_nothing : (number : ℕ) (events : List Event) (end : End) (s : State)
    → then_do (behind_in events (outcome_of end s)) (λ _. run_from number []) ≡ behind_in events (outcome_of end s)
then_nothing number events Replied s = refl
then_nothing number events FuelSpent s = refl

pub ran_line : (s : Sitting) (line : List ℕ) (end : End) (t : Sitting) (events : List Event)
    → run_line model (s.line + 1) (reading longest line) s.state ≡ behind_in events (outcome_of end t.state) → t.state.log ≡ [] → t.trace ≡ s.trace
    → t.line ≡ s.line + 1 → t.bad ≡ (s.bad || is_bad (reading longest line))
    → Ran s (line ∷ []) end t events
ran_line s line end t events same empty trace number bad = record {
  same = ap (λ o. then_do o (λ _. run_from (s.line + 1 + 1) [])) same ∙ then_nothing (s.line + 1 + 1) events end t.state;
  empty = empty;
  trace = trace;
  line = λ _. number;
  bad = λ _. bad ∙ ap (λ b. s.bad || b) (sym (or-false (is_bad (reading longest line))));
}

-- what a session that ran some lines does with more
run_more : (a b : Sitting) (xs ys : List (List ℕ)) (events : List Event) → Ran a xs Replied b events
    → run_from (a.line + 1) (xs ++ ys) a.state ≡ behind_in events (run_from (b.line + 1) ys b.state)
run_more a b xs ys events ran =
    let number : a.line + 1 + length xs ≡ b.line + 1 = omega (arith, ran.line refl) in
    run_from-append (a.line + 1) xs ys a.state
    ∙ (ap (λ o. then_do o (λ _. run_from (a.line + 1 + length xs) ys)) ran.same
    ∙ (ap (λ n. run_from n ys (behind events b.state)) number
    ∙ (framed_run_lines (b.line + 1) (readings ys)).at events b.state))

pub ran_more : (a b c : Sitting) (xs ys : List (List ℕ)) (end : End) (one two : List Event) → Ran a xs Replied b one → Ran b ys end c two
    → Ran a (xs ++ ys) end c (one ++ two)
ran_more a b c xs ys end one two first second = record {
  same = run_more a b xs ys one first ∙ (ap (behind_in one) second.same ∙ behind_in-append one two (outcome_of end c.state));
  empty = second.empty;
  trace = second.trace ∙ first.trace;
  line = λ goes. second.line goes
      ∙ (ap (λ n. n + length ys) (first.line refl) ∙ (add_assoc a.line (length xs) (length ys) ∙ ap (λ n. a.line + n) (sym (length-append xs ys))));
  bad = λ goes. second.bad goes ∙ (ap (λ t. t || has_bad ys) (first.bad refl)
      ∙ (or_assoc a.bad (has_bad xs) (has_bad ys) ∙ ap (λ t. a.bad || t) (sym (has_bad-append xs ys))));
}

-- the fuel is spent before the other lines
pub ran_spent : (a b : Sitting) (xs ys : List (List ℕ)) (events : List Event) → Ran a xs FuelSpent b events → Ran a (xs ++ ys) FuelSpent b events
ran_spent a b xs ys events ran = record {
  same = run_from-append (a.line + 1) xs ys a.state ∙ ap (λ o. then_do o (λ _. run_from (a.line + 1 + length xs) ys)) ran.same;
  empty = ran.empty;
  trace = ran.trace;
  line = λ goes. (cc);
  bad = λ goes. (cc);
}

-- what lines write that were run
pub ran_answers : (a b : Sitting) (xs : List (List ℕ)) (end : End) (events : List Event) → Ran a xs end b events → answers a xs ≡ text a.trace events
ran_answers a b xs end events ran =
    ap (text a.trace) (ap log_of ran.same
    ∙ (log_of-behind events (outcome_of end b.state) ∙ (ap (λ l. events ++ l) (log_of-end end b.state ran.empty) ∙ append-nil events)))

-- what is written for these lines, and then for more
pub answers_more : (a b : Sitting) (xs ys : List (List ℕ)) (events : List Event) → Ran a xs Replied b events
    → answers a (xs ++ ys) ≡ text a.trace events ++ answers b ys
answers_more a b xs ys events ran =
    ap (text a.trace) (ap log_of (run_more a b xs ys events ran) ∙ log_of-behind events (run_from (b.line + 1) ys b.state))
    ∙ (text-append a.trace events (log_of (run_from (b.line + 1) ys b.state))
    ∙ ap (λ t. text a.trace events ++ text t (log_of (run_from (b.line + 1) ys b.state))) (sym ran.trace))

-- ---- with what was written

-- lines that say the same write the same
pub answers_same : (s : Sitting) (xs ys : List (List ℕ)) → readings xs ≡ readings ys → answers s xs ≡ answers s ys
answers_same s xs ys same = ap (λ said. text s.trace (log_of (run_lines model (s.line + 1) said s.state))) same

pub answered_same : (s t : Sitting) (xs ys : List (List ℕ)) (end : End) (held held' : Option (List ℕ)) → readings xs ≡ readings ys
    → Answered s xs end t held held' → Answered s ys end t held held'
answered_same s t xs ys end held held' same done =
    let as_many : length xs ≡ length ys = sym (length-map xs (reading longest)) ∙ (ap length same ∙ length-map ys (reading longest)) in
    record {
      events = done.events;
      ran = record {
        same = sym (ap (λ said. run_lines model (s.line + 1) said s.state) same) ∙ done.ran.same;
        empty = done.ran.empty;
        trace = done.ran.trace;
        line = λ goes. done.ran.line goes ∙ ap (λ n. s.line + n) as_many;
        bad = λ goes. done.ran.bad goes ∙ ap (λ said. s.bad || list_any is_bad said) same;
      };
      wrote = done.wrote;
    }

pub answered_nothing : (s : Sitting) (held : Option (List ℕ)) → s.state.log ≡ [] → Answered s [] Replied s held held
answered_nothing s held empty = record { events = []; ran = ran_nothing s empty; wrote = Appends-nil held }

pub answered_more : (a b c : Sitting) (xs ys : List (List ℕ)) (end : End) (held mid held' : Option (List ℕ)) → Answered a xs Replied b held mid
    → Answered b ys end c mid held' → Answered a (xs ++ ys) end c held held'
answered_more a b c xs ys end held mid held' first second =
    let P : List ℕ → Type 0 = λ l. Appends held held' l in
    let both : text a.trace (first.events ++ second.events) ≡ text a.trace first.events ++ text b.trace second.events =
    text-append a.trace first.events second.events ∙ ap (λ t. text a.trace first.events ++ text t second.events) (sym first.ran.trace) in
    record {
      events = first.events ++ second.events;
      ran = ran_more a b c xs ys end first.events second.events first.ran second.ran;
      wrote = subst P (sym both) (Appends-trans held mid held' _ _ first.wrote second.wrote);
    }

pub answered_spent : (a b : Sitting) (xs ys : List (List ℕ)) (held held' : Option (List ℕ)) → Answered a xs FuelSpent b held held'
    → Answered a (xs ++ ys) FuelSpent b held held'
answered_spent a b xs ys held held' done = record { events = done.events; ran = ran_spent a b xs ys done.events done.ran; wrote = done.wrote }

pub answered_all : (a b : Sitting) (xs : List (List ℕ)) (end : End) (held held' : Option (List ℕ)) → Answered a xs end b held held'
    → Appends held held' (answers a xs)
answered_all a b xs end held held' done =
    let P : List ℕ → Type 0 = λ l. Appends held held' l in
    subst P (sym (ran_answers a b xs end done.events done.ran)) done.wrote

-- a front of what the lines behind write
pub answered_part : (a b : Sitting) (xs ys : List (List ℕ)) (held mid held' : Option (List ℕ)) → Answered a xs Replied b held mid
    → AppendsPart mid held' (answers b ys) → AppendsPart held held' (answers a (xs ++ ys))
answered_part a b xs ys held mid held' done more =
    let before = text a.trace done.events in
    let whole : (before ++ more.0) ++ more.1.0 ≡ answers a (xs ++ ys) =
    append_assoc before more.0 more.1.0 ∙ (ap (λ l. before ++ l) more.1.1 ∙ sym (answers_more a b xs ys done.events done.ran)) in
    (before ++ more.0, (more.1.0, whole), Appends-trans held mid held' before more.0 done.wrote more.2)
