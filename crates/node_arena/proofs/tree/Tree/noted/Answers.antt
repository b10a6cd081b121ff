use Rattle.std.proofs.Common.{◌++◌, ◌∷◌, []}
use Rattle.tree_laws.proofs.OrderListing.{list-start, list-less, list-last, list-on}
use Rattle.tree_laws.proofs.Walked.{order-has}
use Rattle.tree_laws.proofs.PastIn.{inside-node}
use Rattle.node_arena.proofs.MarkLemmas.{none_marked, one_marked, all_marked}
use Rattle.node_arena.proofs.tree.Tree.noted.Goals as goal

pub loop-next-init : goal.loop-next-init
loop-next-init c = record { tidy = c.count-count.ensures.tidy; marked = ([], list-start _ _ c.count-count.ensures.tidy c.requires, none_marked _ _) }

pub set_mark-requires : goal.set_mark-requires
set_mark-requires c = (inside-node _ _ c.loop-next.invariant.tidy c.requires _ c.loop-next.invariant.marked.1.inside).low

pub next_in_shadow_order-requires-clause-inside : goal.next_in_shadow_order-requires-clause-inside
next_in_shadow_order-requires-clause-inside c = order-has _ _ c.loop-next.invariant.marked.1.inside

pub loop-next-smaller : goal.loop-next-smaller
loop-next-smaller c = list-less _ _ c.loop-next.invariant.tidy c.requires _ _ c.in-Some.ensures.next

pub loop-next-preserved : goal.loop-next-preserved
loop-next-preserved c =
    let so_far = c.loop-next.invariant.marked in
    record {
      tidy = c.loop-next.invariant.tidy;
      marked = (
        so_far.0 ++ c.loop-next.at ∷ [],
        list-on _ _ c.loop-next.invariant.tidy c.requires _ _ so_far.1 _ c.in-Some.ensures.next,
        one_marked so_far.0 c.loop-next.at _ _ _ _ so_far.2 (c.set_mark.ensures.here _ c.of-mark.ensures) c.set_mark.ensures.others,
      );
    }

pub returns-in-None-clause-noted : goal.returns-in-None-clause-noted
returns-in-None-clause-noted c =
    let so_far = c.loop-next.invariant.marked in
    λ some. all_marked _ _ (so_far.0 ++ c.loop-next.at ∷ []) _ _ _ (list-last _ _ c.loop-next.invariant.tidy c.requires _ _ so_far.1 c.in-None.ensures.next)
    (one_marked so_far.0 c.loop-next.at _ _ _ _ so_far.2 (c.set_mark.ensures.here _ c.of-mark.ensures) c.set_mark.ensures.others)
