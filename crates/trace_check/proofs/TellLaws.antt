-- Where telling a verdict stops.
use Rattle.std.proofs.Common.{◌≡◌, ℕ, List, Err, inr, refl, subst}
use Rattle.std.specs.declared.option.Option.{Option}
use Rattle.ce_base.specs.Faults.{Rose}
use Rattle.ce_base.specs.Outside.{AppendsPart}
use Rattle.ce_base.specs.declared.stop.Stop.{Stop}
use Rattle.ce_base.specs.declared.stop.Stop.TheVariants.{NoMemory, WriteFault}
use Rattle.trace_check.specs.Told.{TellsVerdict, line_of}
use Rattle.trace_check.specs.Verdict.{IsVerdict}
use Rattle.trace_check.specs.declared.verdict.Verdict.{Verdict}

-- a front of the verdict's line was written
pub told_part : (lines : List (List ℕ)) (v : Verdict) (line : List ℕ) (stop : Stop) (held held' : Option (List ℕ)) (before now : ℕ)
    → IsVerdict v lines → line ≡ line_of v → AppendsPart held held' line → (stop ≡ WriteFault → Rose before now)
    → TellsVerdict lines (Err stop) held held' before now
told_part lines v line WriteFault held held' before now is text part cause = (cause refl, (v, is, subst (AppendsPart held held') text part))
told_part lines v line NoMemory held held' before now is text part cause = inr (v, is, subst (AppendsPart held held') text part)
