use Rattle.std.proofs.Common.{[], ◌∷◌, ◌++◌, ap, refl, ◌∙◌}
use Rattle.tree_laws.proofs.OrderListing.{list-start, list-less, list-last, list-on}
use Rattle.tree_laws.proofs.Walked.{order-has}
use Rattle.tree_laws.proofs.PastIn.{inside-node}
use Rattle.ordered_tables.specs.Held.{is_held}
use Rattle.form_owner.specs.Candidates.{is_with, is_with_among}
use Rattle.form_owner.proofs.Considering.{less, nothing, one-more}
use Rattle.form_owner.proofs.reach.consider_near.Goals as goal

pub loop-named_by-init : goal.loop-named_by-init
loop-named_by-init c = record { so_far = ([], list-start _ _ c.requires.tidy c.requires.node, nothing _ c.args.found.now (λ m is. refl)) }

pub consider_moved-requires-clause-node : goal.consider_moved-requires-clause-node
consider_moved-requires-clause-node c = inside-node _ _ c.requires.tidy c.requires.node _ c.loop-named_by.invariant.so_far.1.inside

pub next_in_shadow_order-requires-clause-inside : goal.next_in_shadow_order-requires-clause-inside
next_in_shadow_order-requires-clause-inside c = order-has _ _ c.loop-named_by.invariant.so_far.1.inside

pub loop-named_by-smaller : goal.loop-named_by-smaller
loop-named_by-smaller c = list-less _ _ c.requires.tidy c.requires.node _ _ c.in-Some.ensures.next

pub loop-named_by-preserved : goal.loop-named_by-preserved
loop-named_by-preserved c =
    let so_far = c.loop-named_by.invariant.so_far in
    record {
      so_far = (
        so_far.0 ++ c.loop-named_by.at ∷ [],
        list-on _ _ c.requires.tidy c.requires.node _ _ so_far.1 _ c.in-Some.ensures.next,
        one-more (is_with c.args.tree.now (is_held c.args.named.now)) so_far.0 c.loop-named_by.at so_far.2 c.in_ok-named_by.ensures,
      );
    }

pub returns-in-None-clause-all : goal.returns-in-None-clause-all
returns-in-None-clause-all c = λ ended.
    let so_far = c.loop-named_by.invariant.so_far in
    less (λ m passes. ap (λ ns. is_with_among c.args.tree.now (is_held c.args.named.now) ns m)
    (list-last _ _ c.requires.tidy c.requires.node _ _ so_far.1 c.in-None.ensures.next) ∙ passes)
    (one-more (is_with c.args.tree.now (is_held c.args.named.now)) so_far.0 c.loop-named_by.at so_far.2 c.in_ok-named_by.ensures)
