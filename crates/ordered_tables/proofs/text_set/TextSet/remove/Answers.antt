use Rattle.std.proofs.Common.{None, ◌∙◌, ap, bytes_eq, filter, not}
use Rattle.std.specs.Map.{values_of}
use Rattle.std.proofs.lemmas.Map.Text.{btree_map_updates_text}
use Rattle.ordered_tables.proofs.Places.{finds-without, not_there, taken_away}
use Rattle.ordered_tables.proofs.TextSetPlaces.{text_of, values-without}
use Rattle.ordered_tables.proofs.text_set.TextSet.remove.Goals as goal

pub returns-in_default : goal.returns-in_default
returns-in_default c =
    ap values_of (not_there text_of c.self.inside.texts c.self.inside.places c.self.inside.next c.args.s.now c.self.invariant c.in_default.ensures.value)
    ∙ values-without c.self.inside.texts.entries c.args.s.now c.self.invariant.once
    ∙ ap (filter (λ t. not (bytes_eq t c.args.s.now))) c.self.view_is

pub invariant_of-self-2 : goal.invariant_of-self-2
invariant_of-self-2 c =
    finds-without text_of c.self.inside.texts c.remove-2.new.self c.self.inside.places c.remove.new.self c.self.inside.next c.args.s.now c.self.invariant
    (taken_away text_of c.self.inside.texts c.remove-2.new.self c.self.inside.places c.self.inside.next c.in-Some.place c.args.s.now c.self.invariant
    c.in-Some.ensures.value c.remove-2.ensures.entries)
    (btree_map_updates_text c.args.s.now c.self.inside.places c.remove.new.self None c.remove.ensures.updates)

pub returns : goal.returns
returns c =
    ap values_of (taken_away text_of c.self.inside.texts c.remove-2.new.self c.self.inside.places c.self.inside.next c.in-Some.place c.args.s.now
    c.self.invariant c.in-Some.ensures.value c.remove-2.ensures.entries)
    ∙ values-without c.self.inside.texts.entries c.args.s.now c.self.invariant.once
    ∙ ap (filter (λ t. not (bytes_eq t c.args.s.now))) c.self.view_is
