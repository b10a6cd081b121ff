use Rattle.std.proofs.Common.{sym, subst}
use Rattle.reaction_queue.specs.Chains.{IsChain}
use Rattle.reaction_queue.proofs.TakeLemmas.{taken_others, taken_rest, taken_waits}
use Rattle.reaction_queue.proofs.chain.take_first.Goals as goal

pub returns-clause-first : goal.returns-clause-first
returns-clause-first c = λ i l ls is.
    taken_waits c.args.cells.now i c.args.ends c.remove-cell.result l ls c.remove-cell.ensures.value is

pub returns-clause-rest : goal.returns-clause-rest
returns-clause-rest c = λ i l ls is.
    subst (λ e. IsChain c.remove-cell.new.self i e ls) (sym c.rest_of-rest.ensures)
    (taken_rest c.args.cells.now c.remove-cell.new.self i c.args.ends c.remove-cell.result l ls c.remove-cell.ensures.value c.remove-cell.ensures.updates is)

pub returns-clause-others : goal.returns-clause-others
returns-clause-others c = λ i j l ls is differs.
    taken_others c.args.cells.now c.remove-cell.new.self i j c.args.ends l ls c.remove-cell.ensures.updates is differs
