-- Questions of a node that may not be one that they can be asked of.
use Rattle.std.specs.Prelude.{ℕ, if◌then◌else◌, List, Option, Result, Ok, Err}
use Rattle.ce_base.specs.declared.fault.Fault.{Fault}
use Rattle.ce_base.specs.declared.fault.Fault.TheVariants.{TypeError}
use Rattle.rule_lines.specs.declared.ask_word.AskWord.{AskWord}
use Rattle.ce_events.specs.declared.event.Answer.{Answer}
use Rattle.ce_algorithms.specs.Fits.{fits}
use Rattle.ce_algorithms.specs.Page.{Page}
use Rattle.ce_algorithms.specs.Questions.{question}

-- the answer, or a TypeError where the node is none that the question can be asked of
abbrev pub asked : AskWord → Option (List ℕ) → Page → ℕ → Result Answer Fault
asked word name p n = if fits (question word name).asked_of p n then Ok ((question word name).answer p n) else Err TypeError
