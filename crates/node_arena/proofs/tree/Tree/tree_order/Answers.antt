use Rattle.std.proofs.Common.{◌∙◌, sym, subst}
use Rattle.tree_laws.proofs.Listing.{Listing, list-start, list-last, list-on, list-less}
use Rattle.node_arena.proofs.tree.Tree.tree_order.Goals as goal

pub loop-out-init : goal.loop-out-init
loop-out-init c = record {
  tidy = c.count-count.ensures.tidy;
  so_far = subst (Listing _ _ _) (sym c.make-out.ensures) (list-start _ _ c.count-count.ensures.tidy c.requires);
}

pub loop-out-smaller : goal.loop-out-smaller
loop-out-smaller c = list-less _ _ c.loop-out.invariant.tidy c.requires _ _ c.in-Some.ensures.next

pub loop-out-preserved : goal.loop-out-preserved
loop-out-preserved c = record {
  tidy = c.loop-out.invariant.tidy;
  so_far = subst (Listing _ _ _) (sym c.in_ok-push.ensures)
      (list-on _ _ c.loop-out.invariant.tidy c.requires _ _ c.loop-out.invariant.so_far _ c.in-Some.ensures.next);
}

pub returns-in-None : goal.returns-in-None
returns-in-None c = c.in_ok-push.ensures ∙ list-last _ _ c.loop-out.invariant.tidy c.requires _ _ c.loop-out.invariant.so_far c.in-None.ensures.next
