use Rattle.std.proofs.Common.{◌∙◌, sym, arith}
use Rattle.element_names.specs.declared.natives.Native.TheVariants.{Form}
use Rattle.form_controls.specs.Kinds.{is_a}
use Rattle.owner_reading.proofs.Ancestors.{ancestors-less}
use Rattle.owner_reading.proofs.Climbing.{find-up, find-top}
use Rattle.owner_reading.proofs.owner.nearest_form.Goals as goal

pub returns-then-is_a : goal.returns-then-is_a
returns-then-is_a c = grind (
  arith,
  c.loop-parent.invariant.is,
  find-up _ _ c.requires.tidy c.loop-parent.invariant.node (is_a Form c.args.tree.now) _ c.in-Some.ensures.parent,
)

pub loop-parent-smaller : goal.loop-parent-smaller
loop-parent-smaller c = ancestors-less _ _ c.requires.tidy c.loop-parent.invariant.node _ c.in-Some.ensures.parent

pub loop-parent-preserved : goal.loop-parent-preserved
loop-parent-preserved c = record {
  node = c.in-Some.ensures.node;
  is = grind (
    arith,
    c.loop-parent.invariant.is,
    find-up _ _ c.requires.tidy c.loop-parent.invariant.node (is_a Form c.args.tree.now) _ c.in-Some.ensures.parent,
  );
}

pub returns : goal.returns
returns c = sym (c.loop-parent.invariant.is
    ∙ find-top _ _ c.requires.tidy c.loop-parent.invariant.node (is_a Form c.args.tree.now) (sym c.in_default.is ∙ c.parent.ensures.parent))
