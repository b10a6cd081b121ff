use Rattle.std.proofs.Common.{◌∙◌, sym, arith}
use Rattle.form_controls.specs.Disabled.{disables}
use Rattle.owner_reading.proofs.Ancestors.{ancestors-less}
use Rattle.owner_reading.proofs.Climbing.{any-up, any-top}
use Rattle.disabled_reading.proofs.Ways.{on-way}
use Rattle.disabled_reading.proofs.disabled.is_in_disabled_fieldset.Goals as goal

pub returns-then-disables : goal.returns-then-disables
returns-then-disables c = grind (
  arith,
  c.loop-parent.invariant.is,
  any-up _ _ c.requires.tidy c.loop-parent.invariant.node (disables c.args.tree.now c.args.n) _ c.in-Some.ensures.parent,
  c.disables.ensures,
  c.if-disables.true,
)

pub loop-parent-smaller : goal.loop-parent-smaller
loop-parent-smaller c = ancestors-less _ _ c.requires.tidy c.loop-parent.invariant.node _ c.in-Some.ensures.parent

pub loop-parent-preserved : goal.loop-parent-preserved
loop-parent-preserved c = record {
  node = c.in-Some.ensures.node;
  way = on-way _ _ c.requires.tidy c.requires.node _ _ c.loop-parent.invariant.node c.loop-parent.invariant.way c.in-Some.ensures.parent;
  is = grind (
    arith,
    c.loop-parent.invariant.is,
    any-up _ _ c.requires.tidy c.loop-parent.invariant.node (disables c.args.tree.now c.args.n) _ c.in-Some.ensures.parent,
    c.disables.ensures,
    c.if-disables.false,
  );
}

pub returns : goal.returns
returns c = sym (c.loop-parent.invariant.is
    ∙ any-top _ _ c.requires.tidy c.loop-parent.invariant.node (disables c.args.tree.now c.args.n) (sym c.in_default.is ∙ c.parent.ensures.parent))
