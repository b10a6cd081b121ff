-- What a loop over the lines of a feed has done.
use Rattle.std.proofs.Common.{◌≡◌, ◌≢◌, ◌≤◌, ◌+◌, ℕ, true, List, [], ◌∷◌, ◌++◌, ◌||◌, length, refl, sym, ap, subst, ◌∙◌, append_assoc, append-nil, arith}
use Rattle.std.proofs.Common.{length-append, All}
use Rattle.std.proofs.KnownBytes.{Appends-nil}
use Rattle.std.specs.declared.option.Option.{Option}
use Rattle.ce_base.specs.Outside.{AppendsPart}
use Rattle.rule_script.specs.Reading.{longest, reading}
use Rattle.ce_algorithms.specs.Lines.{whole_lines, last_part}
use Rattle.ce_algorithms.specs.Model.{model}
use Rattle.ce_algorithms.specs.Session.{run_line, log_of}
use Rattle.ce_events.specs.Text.{text}
use Rattle.ce_algorithms.specs.Written.{Did}
use Rattle.ce_machine.specs.Ended.{outcome_of}
use Rattle.ce_machine.specs.declared.end.End.{End}
use Rattle.ce_machine.specs.declared.end.End.TheVariants.{Replied, FuelSpent}
use Rattle.script_runner.specs.Script.{is_bad, readings, run_from}
use Rattle.line_feed.specs.Feed.{GivesLine}
use Rattle.script_runner.specs.Blank.{says_nothing}
use Rattle.script_runner.specs.Ran.{Answered, Drained, answers}
use Rattle.script_runner.specs.Sitting.{Sitting}
use Rattle.script_runner.proofs.GivenLaws.{reading_line}
use Rattle.script_runner.proofs.BlankLaws.{nothing_reads}
use Rattle.line_feed.proofs.LineLaws.{whole_lines-line, last_part-line, whole_lines-no_feed, last_part-no_feed}
use Rattle.script_runner.proofs.SittingLaws.{ran_line, answers_same, answered_same, answered_nothing, answered_more, answered_spent, answered_part}
use Rattle.ce_algorithms.proofs.FramedLines.{framed_run_lines}
use Rattle.ce_algorithms.proofs.Writing.{part_then}
use Rattle.std.proofs.Math.Bool.{or-false}

pub answered_line : (s t : Sitting) (end : End) (line : List ℕ) (held held' : Option (List ℕ))
    → Did s.trace held held' (run_line model (s.line + 1) (reading longest line) s.state) (outcome_of end t.state)
    → t.state.log ≡ [] → t.trace ≡ s.trace → t.line ≡ s.line + 1 → t.bad ≡ (s.bad || is_bad (reading longest line))
    → Answered s (line ∷ []) end t held held'
answered_line s t end line held held' did empty trace number bad =
    record { events = did.events; ran = ran_line s line end t did.events did.same empty trace number bad; wrote = did.written }

-- a front of what a line writes is one of what it and others write
pub part_lines : (s : Sitting) (line : List ℕ) (more : List (List ℕ)) (held held' : Option (List ℕ))
    → AppendsPart held held' (text s.trace (log_of (run_line model (s.line + 1) (reading longest line) s.state)))
    → AppendsPart held held' (answers s (line ∷ more))
part_lines s line more held held' part =
    part_then s.trace held held' (run_line model (s.line + 1) (reading longest line) s.state) (λ _. run_from (s.line + 1 + 1) more) part
    (λ _. framed_run_lines (s.line + 1 + 1) (readings more))

-- a session has run some lines of the feed, and the sink has their answers
pub record RunsOn (a s : Sitting) (fed feed : List ℕ) (held held' : Option (List ℕ)) : Type 0 where
  pub lines : List (List ℕ)
  pub split : whole_lines fed ≡ lines ++ whole_lines feed
  pub done : Answered a lines Replied s held held'
  pub part : last_part fed ≡ last_part feed
  pub number : s.line + length feed ≤ a.line + length fed

pub runs_nothing : (s : Sitting) (feed : List ℕ) (held : Option (List ℕ)) → s.state.log ≡ [] → RunsOn s s feed feed held held
runs_nothing s feed held empty = record {
  lines = [];
  split = refl;
  done = answered_nothing s held empty;
  part = refl;
  number = omega arith;
}

-- the line that was given, whole, is the first one
first_line : (feed feed' line : List ℕ) (gives : GivesLine longest feed feed' line) → whole_lines feed ≡ gives.whole ∷ whole_lines feed'
first_line feed feed' line gives = ap whole_lines gives.split ∙ whole_lines-line gives.whole feed' gives.clean

-- what was given of the first line says what the line says
reads_first : (feed feed' line : List ℕ) (gives : GivesLine longest feed feed' line) (more : List (List ℕ))
    → readings (line ∷ more) ≡ readings (gives.whole ∷ more)
reads_first feed feed' line gives more = ap (λ said. said ∷ readings more) (reading_line longest longest feed feed' line gives (omega arith))

-- one more line
pub runs_line : (a s t : Sitting) (fed feed feed' line : List ℕ) (held mid held' : Option (List ℕ))
    → RunsOn a s fed feed held mid → GivesLine longest feed feed' line
    → Did s.trace mid held' (run_line model (s.line + 1) (reading longest line) s.state) (outcome_of Replied t.state)
    → t.state.log ≡ [] → t.trace ≡ s.trace → t.line ≡ s.line + 1 → t.bad ≡ (s.bad || is_bad (reading longest line))
    → RunsOn a t fed feed' held held'
runs_line a s t fed feed feed' line held mid held' runs gives did empty trace number bad =
    let front = answered_line s t Replied line mid held' did empty trace number bad in
    let one = answered_same s t (line ∷ []) (gives.whole ∷ []) Replied mid held' (reads_first feed feed' line gives []) front in
    record {
      lines = runs.lines ++ gives.whole ∷ [];
      split = runs.split ∙ (ap (λ l. runs.lines ++ l) (first_line feed feed' line gives)
          ∙ sym (append_assoc runs.lines (gives.whole ∷ []) (whole_lines feed')));
      done = answered_more a s t runs.lines (gives.whole ∷ []) Replied held mid held' runs.done one;
      part = runs.part ∙ (ap last_part gives.split ∙ last_part-line gives.whole feed' gives.clean);
      number = omega (arith, runs.number, number, ap length gives.split, length-append gives.whole (10 ∷ feed'));
    }

-- one more line, which says nothing
pub runs_blank : (a s : Sitting) (fed feed feed' line : List ℕ) (held held' : Option (List ℕ))
    → RunsOn a s fed feed held held' → GivesLine longest feed feed' line → says_nothing longest line ≡ true
    → RunsOn a (record s { line = s.line + 1 }) fed feed' held held'
runs_blank a s fed feed feed' line held held' runs gives nothing =
    let reads = nothing_reads longest line nothing in
    runs_line a s (record s { line = s.line + 1 }) fed feed feed' line held held' held' runs gives
    (record { events = []; written = Appends-nil held'; same = ap (λ said. run_line model (s.line + 1) said s.state) reads })
    runs.done.ran.empty refl refl (sym (ap (λ said. s.bad || is_bad said) reads ∙ or-false s.bad))

-- the fuel is spent in a line
pub runs_spent : (a s t : Sitting) (fed feed feed' line : List ℕ) (held mid held' : Option (List ℕ))
    → RunsOn a s fed feed held mid → GivesLine longest feed feed' line
    → Did s.trace mid held' (run_line model (s.line + 1) (reading longest line) s.state) (outcome_of FuelSpent t.state)
    → t.state.log ≡ [] → t.trace ≡ s.trace → t.line ≡ s.line + 1 → t.bad ≡ (s.bad || is_bad (reading longest line))
    → Answered a (whole_lines fed) FuelSpent t held held'
runs_spent a s t fed feed feed' line held mid held' runs gives did empty trace number bad =
    let P : List (List ℕ) → Type 0 = λ l. Answered a l FuelSpent t held held' in
    let front = answered_line s t FuelSpent line mid held' did empty trace number bad in
    let one = answered_same s t (line ∷ []) (gives.whole ∷ []) FuelSpent mid held' (reads_first feed feed' line gives []) front in
    let rest = answered_spent s t (gives.whole ∷ []) (whole_lines feed') mid held' one in
    let lines : whole_lines fed ≡ runs.lines ++ (gives.whole ∷ whole_lines feed') = runs.split ∙ ap (λ l. runs.lines ++ l) (first_line feed feed' line gives) in
    subst P (sym lines) (answered_more a s t runs.lines (gives.whole ∷ whole_lines feed') FuelSpent held mid held' runs.done rest)

-- all lines ran
pub runs_all : (a s : Sitting) (fed feed : List ℕ) (held held' : Option (List ℕ))
    → RunsOn a s fed feed held held' → All (λ b. b ≢ 10) feed → Answered a (whole_lines fed) Replied s held held'
runs_all a s fed feed held held' runs clean =
    let P : List (List ℕ) → Type 0 = λ l. Answered a l Replied s held held' in
    let lines : whole_lines fed ≡ runs.lines = runs.split ∙ (ap (λ l. runs.lines ++ l) (whole_lines-no_feed feed clean) ∙ append-nil runs.lines) in
    subst P (sym lines) runs.done

pub runs_drained : (a s : Sitting) (fed feed : List ℕ) (held held' : Option (List ℕ)) → RunsOn a s fed feed held held' → All (λ b. b ≢ 10) feed
    → Drained fed feed
runs_drained a s fed feed held held' runs clean = record { part = sym (runs.part ∙ last_part-no_feed feed clean); clean = clean }

-- a front was written where it stops
runs_front : (a s : Sitting) (fed feed : List ℕ) (held mid held' : Option (List ℕ)) → RunsOn a s fed feed held mid
    → AppendsPart mid held' (answers s (whole_lines feed)) → AppendsPart held held' (answers a (whole_lines fed))
runs_front a s fed feed held mid held' runs part =
    let P : List (List ℕ) → Type 0 = λ l. AppendsPart held held' (answers a l) in
    subst P (sym runs.split) (answered_part a s runs.lines (whole_lines feed) held mid held' runs.done part)

-- before a line
pub runs_stop : (a s : Sitting) (fed feed : List ℕ) (held held' : Option (List ℕ)) → RunsOn a s fed feed held held'
    → AppendsPart held held' (answers a (whole_lines fed))
runs_stop a s fed feed held held' runs = runs_front a s fed feed held held' held' runs ([], (answers s (whole_lines feed), refl), Appends-nil held')

-- in a line
pub runs_part : (a s : Sitting) (fed feed feed' line : List ℕ) (held mid held' : Option (List ℕ))
    → RunsOn a s fed feed held mid → GivesLine longest feed feed' line
    → AppendsPart mid held' (text s.trace (log_of (run_line model (s.line + 1) (reading longest line) s.state)))
    → AppendsPart held held' (answers a (whole_lines fed))
runs_part a s fed feed feed' line held mid held' runs gives part =
    let P : List ℕ → Type 0 = λ l. AppendsPart mid held' l in
    let same : answers s (line ∷ whole_lines feed') ≡ answers s (whole_lines feed) =
    answers_same s (line ∷ whole_lines feed') (gives.whole ∷ whole_lines feed') (reads_first feed feed' line gives (whole_lines feed'))
    ∙ ap (answers s) (sym (first_line feed feed' line gives)) in
    runs_front a s fed feed held mid held' runs (subst P same (part_lines s line (whole_lines feed') mid held' part))
