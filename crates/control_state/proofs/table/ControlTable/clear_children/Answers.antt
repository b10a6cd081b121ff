use Rattle.std.proofs.Common.{◌≡◌, ◌∙◌, arith}
use Rattle.std.specs.Prelude.{if◌then◌else◌}
use Rattle.element_names.specs.declared.natives.Native.TheVariants.{OptionItem}
use Rattle.form_controls.specs.Controls.{clear}
use Rattle.form_controls.specs.Kinds.{is_a}
use Rattle.control_state.proofs.Walks.{walk-on, walk-less, walk-ends, fold-filter}
use Rattle.control_state.proofs.table.ControlTable.clear_children.Goals as goal
use Rattle.control_state.proofs.table.ControlTable.clear_children.Goals.{then-is_a, else-is_a}

pub loop-next-smaller : goal.loop-next-smaller
loop-next-smaller c = walk-less _ _ c.count-count.ensures.tidy c.requires _ _ _ _ _ _ c.loop-next.invariant c.in-Some.is c.next_sibling-next.ensures.sibling

pub loop-next-preserved : goal.loop-next-preserved
loop-next-preserved c =
    let made : c.if-is_a.self ≡ (if is_a OptionItem c.args.tree.now c.in-Some.child then clear c.loop-next.self c.in-Some.child else c.loop-next.self) =
    elim c.if-is_a.branch [
      | then-is_a w ↦ grind (arith, w.self-is, w.clear.ensures, w.if-is_a.true, c.is_a.ensures)
      | else-is_a w ↦ grind
          (arith, w.self-is, w.if-is_a.false, c.is_a.ensures)
    ] in
    walk-on _ _ c.count-count.ensures.tidy c.requires _ _ _ _ _ _ _ c.loop-next.invariant c.in-Some.is c.next_sibling-next.ensures.sibling made

pub returns : goal.returns
returns c =
    walk-ends _ _ _ _ _ _ c.loop-next.invariant c.in_default.is
    ∙ fold-filter clear (is_a OptionItem c.args.tree.now) c.args.self.now _
