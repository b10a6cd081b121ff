use Rattle.std.proofs.Common.{ap, ◌∙◌, arith}
use Rattle.std.proofs.lemmas.Grind.{common_steps}
use Rattle.form_controls.specs.Texts.{normalized_from}
use Rattle.control_state.proofs.Characters.{normalized_from-char, put_more}
use Rattle.control_state.proofs.building.normalized.Goals as goal

pub loop-c-preserved : goal.loop-c-preserved
loop-c-preserved c =
    put_more _ _ _ _ _ _ c.loop-c.invariant c.in_ok-put_normal.ensures
    (ap (normalized_from c.loop-c.behind) c.in-Some.ensures.steps.0 ∙ normalized_from-char c.loop-c.behind c.in-Some.c _)

pub returns : goal.returns
returns c = grind (arith, common_steps)
