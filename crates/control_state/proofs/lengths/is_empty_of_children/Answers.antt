use Rattle.std.proofs.Common.{◌≡◌, ◌∙◌, ◌++◌, ap, sym, refl, true, false}
use Rattle.node_trees.specs.Spots.{children_at}
use Rattle.form_controls.specs.Texts.{is_empty}
use Rattle.form_controls.specs.Values.{child_text}
use Rattle.control_state.proofs.Walks.{walk-on, walk-less, walk-ends}
use Rattle.control_state.proofs.Texts.{still, still-is, still-fails}
use Rattle.control_state.proofs.lengths.is_empty_of_children.Goals as goal

pub loop-next-smaller : goal.loop-next-smaller
loop-next-smaller c = walk-less _ _ c.count-count.ensures.tidy c.requires _ _ _ _ _ _ c.loop-next.invariant c.in-Some.is c.next_sibling-next.ensures.sibling

pub loop-next-preserved : goal.loop-next-preserved
loop-next-preserved c =
    walk-on _ _ c.count-count.ensures.tidy c.requires _ _ _ _ _ _ _ c.loop-next.invariant c.in-Some.is c.next_sibling-next.ensures.sibling
    (sym c.if-not-is_empty.false ∙ c.is_empty.ensures ∙ ap is_empty c.chars.ensures.chars)

pub returns-then-not-is_empty : goal.returns-then-not-is_empty
returns-then-not-is_empty c =
    let law = c.normalized_newlines_leave_something.ensures in
    let failed : false ≡ still c.args.tree.now is_empty true c.in-Some.child =
    sym c.if-not-is_empty.true ∙ c.is_empty.ensures ∙ ap is_empty c.chars.ensures.chars in
    still-fails c.args.tree.now is_empty refl (λ a b. sym (law.alone (a ++ b)) ∙ law.pieces a b) (children_at c.args.tree.now c.args.n) _
    (walk-on _ _ c.count-count.ensures.tidy c.requires _ _ _ _ _ _ _ c.loop-next.invariant c.in-Some.is refl failed)
    ∙ sym (law.alone (child_text c.args.tree.now c.args.n))

pub returns : goal.returns
returns c =
    let law = c.normalized_newlines_leave_something.ensures in
    walk-ends _ _ _ _ _ _ c.loop-next.invariant c.in_default.is
    ∙ still-is c.args.tree.now is_empty refl (λ a b. sym (law.alone (a ++ b)) ∙ law.pieces a b) true (children_at c.args.tree.now c.args.n)
    ∙ sym (law.alone (child_text c.args.tree.now c.args.n))
