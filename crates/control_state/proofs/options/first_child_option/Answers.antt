use Rattle.std.proofs.Common.{◌≡◌, None, arith, ◌∙◌}
use Rattle.element_names.specs.declared.natives.Native.TheVariants.{OptionItem}
use Rattle.tree_laws.proofs.Members.{first-filtered}
use Rattle.form_controls.specs.Kinds.{is_a}
use Rattle.control_state.specs.Choosing.{first_where}
use Rattle.control_state.proofs.Chosen.{first-among}
use Rattle.control_state.proofs.Walks.{walk-on, walk-less, walk-ends}
use Rattle.control_state.proofs.options.first_child_option.Goals as goal
use Rattle.control_state.proofs.options.first_child_option.Goals.{then-is_a, else-is_a}

pub loop-next-smaller : goal.loop-next-smaller
loop-next-smaller c = walk-less _ _ c.count-count.ensures.tidy c.requires _ _ _ _ _ _ c.loop-next.invariant c.in-Some.is c.next_sibling-next.ensures.sibling

pub loop-next-preserved : goal.loop-next-preserved
loop-next-preserved c =
    let made : c.if-is_a.found ≡ first_where (is_a OptionItem c.args.tree.now c.in-Some.child) c.loop-next.found c.in-Some.child =
    elim c.if-is_a.branch [
      | then-is_a w ↦ grind (arith, w.found-is, w.or-found.ensures, w.if-is_a.true, c.is_a.ensures)
      | else-is_a w ↦ grind
          (arith, w.found-is, w.if-is_a.false, c.is_a.ensures)
    ] in
    walk-on _ _ c.count-count.ensures.tidy c.requires _ _ _ _ _ _ _ c.loop-next.invariant c.in-Some.is c.next_sibling-next.ensures.sibling made

pub returns : goal.returns
returns c =
    walk-ends _ _ _ _ _ _ c.loop-next.invariant c.in_default.is
    ∙ first-among (is_a OptionItem c.args.tree.now) None _
    ∙ first-filtered (is_a OptionItem c.args.tree.now) _
