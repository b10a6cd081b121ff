use Rattle.reaction_queue.proofs.SideLemmas.{no_chains}
use Rattle.reaction_queue.proofs.waiting.Waiting.make.Goals as goal

pub invariant_of-result : goal.invariant_of-result
invariant_of-result c =
    no_chains c.new.result c.new-2.result.items c.new.ensures.empty c.new-2.ensures.items
