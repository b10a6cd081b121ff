use Rattle.std.proofs.Common.{ap, sym, subst, ◌∙◌, length}
use Rattle.std.specs.Prelude.{not}
use Rattle.order_law.specs.Reads.{none_of_element}
use Rattle.order_checker.specs.Slots.{LastOf}
use Rattle.order_checker.proofs.SlotLemmas.{none_there}
use Rattle.order_checker.proofs.waits.Waits.none_of_element.Goals as goal

pub returns : goal.returns
returns c =
    ap not c.waits_at.ensures
    ∙ none_there c.self.inside.slots.items c.args.element c.last_of.result c.self.invariant.0.links
    (subst (LastOf c.args.element (length c.self.inside.slots.items) c.self.inside.slots.items) (sym c.last_of.ensures)
    (c.self.invariant.0.lasts c.args.element))
    ∙ ap (λ w. none_of_element c.args.element w.entries) c.self.view_is
