use Rattle.std.proofs.Common.{None, ap, ◌∙◌}
use Rattle.std.specs.Option.{option_or}
use Rattle.form_controls.specs.Options.{options_at}
use Rattle.control_state.proofs.Chosen.{first-part}
use Rattle.control_state.proofs.Walks.{walk-on, walk-less, walk-ends}
use Rattle.control_state.proofs.options.first_option.Goals as goal

pub loop-next-smaller : goal.loop-next-smaller
loop-next-smaller c = walk-less _ _ c.count-count.ensures.tidy c.requires _ _ _ _ _ _ c.loop-next.invariant c.in-Some.is c.next_sibling-next.ensures.sibling

pub loop-next-preserved : goal.loop-next-preserved
loop-next-preserved c =
    walk-on _ _ c.count-count.ensures.tidy c.requires _ _ _ _ _ _ _ c.loop-next.invariant c.in-Some.is c.next_sibling-next.ensures.sibling
    (c.or-found.ensures ∙ ap (option_or c.loop-next.found) c.first_option_at.ensures)

pub returns : goal.returns
returns c = walk-ends _ _ _ _ _ _ c.loop-next.invariant c.in_default.is ∙ first-part (options_at c.args.tree.now) None _
