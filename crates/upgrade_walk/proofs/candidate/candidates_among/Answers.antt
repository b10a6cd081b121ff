use Rattle.std.specs.Prelude.{option_copied}
use Rattle.node_trees.specs.Kinds.{IsElement}
use Rattle.node_trees.specs.Nodes.{IsNode}
use Rattle.node_trees.specs.Spots.{facts_at}
use Rattle.node_trees.specs.Candidates.{is_candidate}
use Rattle.upgrade_walk.proofs.ElementLemmas.{candidate_is}
use Rattle.ce_base.proofs.Filtered.{filter-next}
use Rattle.upgrade_walk.proofs.FilterLemmas.{filter_holds}
use Rattle.upgrade_walk.proofs.candidate.candidates_among.Goals as goal

pub loop-i-preserved : goal.loop-i-preserved
loop-i-preserved c =
    filter-next (λ n. is_candidate c.args.local.now (option_copied c.args.is_value) (facts_at c.args.tree.now n)) c.args.nodes.now c.loop-i.i
    c.node_at-n.result c.node_at-n.ensures.here c.loop-i.found _ c.is_candidate-is_found.result c.loop-i.invariant c.is_candidate-is_found.ensures
    c.in_ok-keep_where.ensures

pub returns-clause-nodes : goal.returns-clause-nodes
returns-clause-nodes c = filter_holds (IsNode c.args.tree.now) (IsElement c.args.tree.now)
    (λ n. is_candidate c.args.local.now (option_copied c.args.is_value) (facts_at c.args.tree.now n))
    (candidate_is c.args.local.now (option_copied c.args.is_value) c.args.tree.now) c.args.nodes.now c.loop-i.found c.loop-i.i c.loop-i.invariant c.requires
