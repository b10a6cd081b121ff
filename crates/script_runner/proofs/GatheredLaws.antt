-- Answers that are written through a sink over a sink.
use Rattle.std.proofs.Common.{◌≡◌, ◌≤◌, ℕ, List, []}
use Rattle.std.specs.Io.KnownBytes.{Keeps}
use Rattle.std.specs.declared.option.Option.{Option}
use Rattle.ce_base.specs.Gathered.{behind, count_of}
use Rattle.ce_base.specs.Outside.{AppendsPart}
use Rattle.ce_base.proofs.Passed.{passed_some}
use Rattle.ce_machine.specs.declared.end.End.{End}
use Rattle.script_runner.specs.Ran.{Answered, answers}
use Rattle.script_runner.specs.Sitting.{Sitting}
use Rattle.script_runner.proofs.SittingLaws.{answered_all}

-- a write failed, and a front was passed on
pub answers_passed : (a s : Sitting) (xs : List (List ℕ)) (end : End) (held mid below : Option (List ℕ)) (before after : List ℕ)
    → before ≡ [] → Answered a xs end s (behind held before) mid → Keeps mid (behind below after) → count_of held ≤ count_of below
    → AppendsPart held below (answers a xs)
answers_passed a s xs end held mid below before after none done keeps le =
    passed_some held mid below before after (answers a xs) none (answered_all a s xs end (behind held before) mid done) keeps le
