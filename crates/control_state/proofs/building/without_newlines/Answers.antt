use Rattle.std.proofs.Common.{ap, ◌∙◌, arith}
use Rattle.std.proofs.lemmas.Grind.{common_steps}
use Rattle.form_controls.specs.Texts.{without_newlines}
use Rattle.control_state.proofs.Characters.{without_newlines-char, put_more}
use Rattle.control_state.proofs.building.without_newlines.Goals as goal

pub loop-c-preserved : goal.loop-c-preserved
loop-c-preserved c =
    put_more _ _ _ _ _ _ c.loop-c.invariant c.in_ok-put_kept.ensures (ap without_newlines c.in-Some.ensures.steps.0 ∙ without_newlines-char c.in-Some.c _)

pub returns : goal.returns
returns c = grind (arith, common_steps)
