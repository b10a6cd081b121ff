use Rattle.std.proofs.Common.{ℕ, ◌-◌, Option, length, refl, ap, subst, sym, ◌∙◌}
use Rattle.std.specs.Prelude.{IfSome, slice_get}
use Rattle.node_trees.specs.Orders.{tree_order_of}
use Rattle.tree_laws.proofs.Children.{tree_order-apart}
use Rattle.form_owner.specs.Moves.{HasNoneBehind, is_listed_in}
use Rattle.form_owner.proofs.Groups.{look-here, look-on, look-less, look-last}
use Rattle.form_owner.proofs.Lasts.{none-among, none-here, none-on}
use Rattle.form_owner.proofs.moving.listed_behind.Goals as goal

pub loop-next-init : goal.loop-next-init
loop-next-init c =
    let last = c.copied-past.ensures ∙ c.last.ensures.value ∙ ap (λ ms. slice_get ms (length ms - 1)) c.controls_in.ensures in
    record {
      looking = record { among = c.requires.inside; is = refl };
      past = subst (λ (o : Option ℕ). IfSome o (HasNoneBehind (is_listed_in c.args.rows.now c.args.form) (tree_order_of c.args.tree.now c.args.root)))
          (sym last) c.requires.last;
    }

pub next_in_tree-requires-clause-inside : goal.next_in_tree-requires-clause-inside
next_in_tree-requires-clause-inside c = c.loop-next.invariant.looking.among

pub returns-then-is_listed : goal.returns-then-is_listed
returns-then-is_listed c =
    look-here (is_listed_in c.args.rows.now c.args.form) (tree_order_of c.args.tree.now c.args.root)
    (tree_order-apart _ _ c.requires.tidy) _ _ c.loop-next.invariant.looking _ c.in-Some.ensures.next (sym c.is_listed.ensures ∙ c.if-is_listed.true)

pub loop-next-smaller : goal.loop-next-smaller
loop-next-smaller c = look-less (is_listed_in c.args.rows.now c.args.form) (tree_order_of c.args.tree.now c.args.root)
    (tree_order-apart _ _ c.requires.tidy) _ _ c.loop-next.invariant.looking _ c.in-Some.ensures.next

pub loop-next-preserved : goal.loop-next-preserved
loop-next-preserved c =
    let apart = tree_order-apart c.args.tree.now c.args.root c.requires.tidy in
    record {
      looking = look-on (is_listed_in c.args.rows.now c.args.form)
          (tree_order_of c.args.tree.now c.args.root) apart _ _ c.loop-next.invariant.looking _ c.in-Some.ensures.next
          (sym c.is_listed.ensures ∙ c.if-is_listed.false);
      past = none-on (is_listed_in c.args.rows.now c.args.form)
          (tree_order_of c.args.tree.now c.args.root) apart c.loop-next.past _ c.loop-next.invariant.past c.next_or_none-past.ensures;
    }

pub next_or_none-past-requires-clause-inside : goal.next_or_none-past-requires-clause-inside
next_or_none-past-requires-clause-inside c =
    none-among (is_listed_in c.args.rows.now c.args.form) (tree_order_of c.args.tree.now c.args.root)
    (tree_order-apart c.args.tree.now c.args.root c.requires.tidy) c.loop-next.past c.loop-next.invariant.past

pub returns-then-eq : goal.returns-then-eq
returns-then-eq c =
    let apart = tree_order-apart c.args.tree.now c.args.root c.requires.tidy in
    let past = none-on (is_listed_in c.args.rows.now c.args.form)
    (tree_order_of c.args.tree.now c.args.root) apart c.loop-next.past _ c.loop-next.invariant.past c.next_or_none-past.ensures in
    none-here (is_listed_in c.args.rows.now c.args.form) (tree_order_of c.args.tree.now c.args.root) c.next_or_none-past.result c.args.n past
    (sym c.eq.ensures ∙ c.if-eq.true)

pub returns : goal.returns
returns c =
    look-last (is_listed_in c.args.rows.now c.args.form) (tree_order_of c.args.tree.now c.args.root)
    (tree_order-apart _ _ c.requires.tidy) _ _ c.loop-next.invariant.looking (sym c.in_default.is ∙ c.next_in_tree.ensures.next)
