use Rattle.std.proofs.Common.{ap, ◌∙◌, arith}
use Rattle.std.proofs.lemmas.Grind.{common_steps}
use Rattle.control_state.specs.Reading.{collapsed_from}
use Rattle.control_state.proofs.Characters.{collapsed_from-char, put_more}
use Rattle.control_state.proofs.Words.{collapsed-reads}
use Rattle.control_state.proofs.building.collapsed.Goals as goal

pub loop-c-preserved : goal.loop-c-preserved
loop-c-preserved c =
    put_more _ _ _ _ _ _ c.loop-c.invariant c.in_ok-put_collapsed.ensures (ap (collapsed_from c.loop-c.begun c.loop-c.apart) c.in-Some.ensures.steps.0
    ∙ collapsed_from-char c.loop-c.begun c.loop-c.apart c.is_ascii_whitespace-apart.result c.in-Some.c _ c.is_ascii_whitespace-apart.ensures.value)

pub returns : goal.returns
returns c = grind (arith, common_steps, collapsed-reads c.args.text.now)
