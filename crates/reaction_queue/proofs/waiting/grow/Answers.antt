use Rattle.std.proofs.Common.{◌++◌, ◌∷◌, [], ap, ◌∙◌, None, suc}
use Rattle.reaction_queue.proofs.waiting.grow.Goals as goal

pub loop-ends-preserved : goal.loop-ends-preserved
loop-ends-preserved c =
    (suc c.loop-ends.invariant.0, c.in_ok-push.ensures.items ∙ ap (λ ends. ends ++ None ∷ []) c.loop-ends.invariant.1)
