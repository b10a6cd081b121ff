use Rattle.std.proofs.Common.{ℕ, List, ap, sym, ◌∙◌}
use Rattle.std.specs.Map.{values_of}
use Rattle.std.specs.Option.{option_map}
use Rattle.node_trees.specs.Facts.{value_in, with_value}
use Rattle.ordered_tables.proofs.TextMapPlaces.{name_of, no_value, value_at, values_with, with_value-new}
use Rattle.ordered_tables.proofs.Places.{finds-with, set_there}
use Rattle.ordered_tables.proofs.text_map.TextMap.set.Goals as goal

-- the name is not there

pub push-requires : goal.push-requires
push-requires c =
    ap (λ xs. value_in xs c.args.name) (sym c.self.view_is)
    ∙ no_value c.self.inside.pairs c.self.inside.places c.self.inside.next c.self.invariant c.args.name (rw c.as_str.ensures at c.in_default.ensures.value)

pub returns-in_default-clause-ok : goal.returns-in_default-clause-ok
returns-in_default-clause-ok c =
    c.in_ok-push.ensures.ok
    ∙ with_value-new c.args.self.now c.args.name c.args.value
    (ap (λ xs. value_in xs c.args.name) (sym c.self.view_is)
    ∙ no_value c.self.inside.pairs c.self.inside.places c.self.inside.next c.self.invariant c.args.name (rw c.as_str.ensures at c.in_default.ensures.value))

pub returns-in_default-clause-was : goal.returns-in_default-clause-was
returns-in_default-clause-was c =
    sym (no_value c.self.inside.pairs c.self.inside.places c.self.inside.next c.self.invariant c.args.name (rw c.as_str.ensures at c.in_default.ensures.value))
    ∙ ap (λ xs. value_in xs c.args.name) c.self.view_is

-- it keeps its place

pub invariant_of-self-2 : goal.invariant_of-self-2
invariant_of-self-2 c =
    let at = rw c.as_str.ensures at c.in-Some.ensures.value in
    finds-with name_of c.self.inside.pairs c.insert.new.self c.self.inside.places c.self.inside.next (c.args.name, c.args.value) c.self.invariant
    (set_there name_of c.self.inside.pairs c.insert.new.self c.self.inside.places c.self.inside.next c.in-Some.field-0.now
    (c.args.name, c.args.value) c.self.invariant at c.in_ok-old.ensures.entries)

pub returns-clause-ok : goal.returns-clause-ok
returns-clause-ok c =
    let at = rw c.as_str.ensures at c.in-Some.ensures.value in
    ap values_of (set_there name_of c.self.inside.pairs c.insert.new.self c.self.inside.places c.self.inside.next c.in-Some.field-0.now
    (c.args.name, c.args.value) c.self.invariant at c.in_ok-old.ensures.entries)
    ∙ values_with c.self.inside.pairs c.self.inside.places c.self.inside.next c.self.invariant c.in-Some.field-0.now c.args.name c.args.value at
    ∙ ap (with_value c.args.name c.args.value) c.self.view_is

pub returns-clause-was : goal.returns-clause-was
returns-clause-was c =
    let at = rw c.as_str.ensures at c.in-Some.ensures.value in
    c.value_of.ensures
    ∙ ap (option_map (λ (a : List ℕ × List ℕ). a.1)) c.in_ok-old.ensures.old
    ∙ value_at c.self.inside.pairs c.self.inside.places c.self.inside.next c.self.invariant c.in-Some.field-0.now c.args.name at
    ∙ ap (λ xs. value_in xs c.args.name) c.self.view_is
