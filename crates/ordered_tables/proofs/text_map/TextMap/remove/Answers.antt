use Rattle.std.proofs.Common.{ℕ, List, None, ap, sym, ◌∙◌}
use Rattle.std.specs.Map.{values_of}
use Rattle.std.specs.Option.{option_map}
use Rattle.std.proofs.lemmas.Map.Text.{btree_map_updates_text}
use Rattle.node_trees.specs.Facts.{value_in, without_value}
use Rattle.ordered_tables.proofs.TextMapPlaces.{name_of, gone, no_value, value_at, values-without}
use Rattle.ordered_tables.proofs.Places.{finds-without, not_there, taken_away}
use Rattle.ordered_tables.proofs.text_map.TextMap.remove.Goals as goal

-- the name is not there

pub returns-in_err-place-clause-left : goal.returns-in_err-place-clause-left
returns-in_err-place-clause-left c =
    ap values_of (not_there name_of c.self.inside.pairs c.self.inside.places c.self.inside.next c.args.name.now c.self.invariant c.in_err-place.ensures.value)
    ∙ values-without c.self.inside.pairs.entries c.args.name.now
    ∙ ap (without_value c.args.name.now) c.self.view_is

pub returns-in_err-place-clause-was : goal.returns-in_err-place-clause-was
returns-in_err-place-clause-was c =
    rw c.from_residual.ensures
    (sym (no_value c.self.inside.pairs c.self.inside.places c.self.inside.next c.self.invariant c.args.name.now c.in_err-place.ensures.value)
    ∙ ap (λ xs. value_in xs c.args.name.now) c.self.view_is)

pub returns-in_err-place-clause-gone : goal.returns-in_err-place-clause-gone
returns-in_err-place-clause-gone c =
    no_value c.self.inside.pairs c.self.inside.places c.self.inside.next c.self.invariant c.args.name.now c.in_err-place.ensures.value

-- it is taken away

pub invariant_of-self-2 : goal.invariant_of-self-2
invariant_of-self-2 c =
    finds-without name_of c.self.inside.pairs c.remove-2.new.self c.self.inside.places c.remove.new.self c.self.inside.next c.args.name.now c.self.invariant
    (taken_away name_of c.self.inside.pairs c.remove-2.new.self c.self.inside.places c.self.inside.next c.in_ok-place.place c.args.name.now c.self.invariant
    c.in_ok-place.ensures.value c.remove-2.ensures.entries)
    (btree_map_updates_text c.args.name.now c.self.inside.places c.remove.new.self None c.remove.ensures.updates)

pub returns-clause-left : goal.returns-clause-left
returns-clause-left c =
    ap values_of (taken_away name_of c.self.inside.pairs c.remove-2.new.self c.self.inside.places c.self.inside.next c.in_ok-place.place c.args.name.now
    c.self.invariant c.in_ok-place.ensures.value c.remove-2.ensures.entries)
    ∙ values-without c.self.inside.pairs.entries c.args.name.now
    ∙ ap (without_value c.args.name.now) c.self.view_is

pub returns-clause-was : goal.returns-clause-was
returns-clause-was c =
    c.value_of.ensures
    ∙ ap (option_map (λ (a : List ℕ × List ℕ). a.1)) c.remove-2.ensures.value
    ∙ value_at c.self.inside.pairs c.self.inside.places c.self.inside.next c.self.invariant c.in_ok-place.place c.args.name.now c.in_ok-place.ensures.value
    ∙ ap (λ xs. value_in xs c.args.name.now) c.self.view_is

pub returns-clause-gone : goal.returns-clause-gone
returns-clause-gone c =
    ap (λ es. value_in (values_of es) c.args.name.now)
    (taken_away name_of c.self.inside.pairs c.remove-2.new.self c.self.inside.places c.self.inside.next c.in_ok-place.place c.args.name.now
    c.self.invariant c.in_ok-place.ensures.value c.remove-2.ensures.entries)
    ∙ gone c.self.inside.pairs c.self.inside.places c.self.inside.next c.self.invariant c.args.name.now
