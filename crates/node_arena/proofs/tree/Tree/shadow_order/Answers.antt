use Rattle.std.proofs.Common.{sym, subst, ◌∙◌}
use Rattle.tree_laws.proofs.ConnectedBelow.{all_connected}
use Rattle.tree_laws.proofs.OrderListing.{Listing, list-start, list-less, list-last, list-on, listed-nodes}
use Rattle.tree_laws.proofs.Walked.{order-has}
use Rattle.node_arena.proofs.tree.Tree.shadow_order.Goals as goal

pub loop-out-init : goal.loop-out-init
loop-out-init c = record {
  tidy = c.count-count.ensures.tidy;
  listing = subst (Listing _ _ _) (sym c.make-out.ensures) (list-start _ _ c.count-count.ensures.tidy c.requires);
}

pub next_in_shadow_order-requires-clause-inside : goal.next_in_shadow_order-requires-clause-inside
next_in_shadow_order-requires-clause-inside c = order-has _ _ c.loop-out.invariant.listing.inside

pub loop-out-smaller : goal.loop-out-smaller
loop-out-smaller c = list-less _ _ c.loop-out.invariant.tidy c.requires _ _ c.in-Some.ensures.next

pub loop-out-preserved : goal.loop-out-preserved
loop-out-preserved c = record {
  tidy = c.loop-out.invariant.tidy;
  listing = subst (Listing _ _ _) (sym c.in_ok-push.ensures)
      (list-on _ _ c.loop-out.invariant.tidy c.requires _ _ c.loop-out.invariant.listing _ c.in-Some.ensures.next);
}

pub returns-in-None-clause-order : goal.returns-in-None-clause-order
returns-in-None-clause-order c =
    c.in_ok-push.ensures ∙ list-last _ _ c.loop-out.invariant.tidy c.requires _ _ c.loop-out.invariant.listing c.in-None.ensures.next

pub returns-in-None-clause-nodes : goal.returns-in-None-clause-nodes
returns-in-None-clause-nodes c = listed-nodes _ _ c.loop-out.invariant.tidy c.requires _ (returns-in-None-clause-order c)

pub returns-in-None-clause-connected : goal.returns-in-None-clause-connected
returns-in-None-clause-connected c = all_connected _ _ _ c.requires (λ some. c.loop-out.invariant.tidy) (returns-in-None-clause-order c)
