use Rattle.std.proofs.Common.{◌∙◌}
use Rattle.form_controls.specs.Options.{options_at}
use Rattle.control_state.specs.Choosing.{noted, nothing_found}
use Rattle.control_state.proofs.Walks.{walk-on, walk-less, walk-ends, fold-flat}
use Rattle.control_state.proofs.choosing.found_in.Goals as goal

pub loop-next-smaller : goal.loop-next-smaller
loop-next-smaller c = walk-less _ _ c.count-count.ensures.tidy c.requires _ _ _ _ _ _ c.loop-next.invariant c.in-Some.is c.next_sibling-next.ensures.sibling

pub loop-next-preserved : goal.loop-next-preserved
loop-next-preserved c = walk-on _ _ c.count-count.ensures.tidy c.requires _ _ _ _ _ _ _ c.loop-next.invariant c.in-Some.is c.next_sibling-next.ensures.sibling
    c.note_at-found.ensures

pub returns : goal.returns
returns c =
    walk-ends _ _ _ _ _ _ c.loop-next.invariant c.in_default.is
    ∙ fold-flat (noted c.args.controls.now c.args.tree.now) (options_at c.args.tree.now) nothing_found _
