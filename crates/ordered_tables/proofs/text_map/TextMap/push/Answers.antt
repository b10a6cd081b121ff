use Rattle.std.proofs.Common.{Some, ◌∙◌, ◌++◌, ◌∷◌, [], ap, string_bytes}
use Rattle.std.specs.Map.{values_of}
use Rattle.std.proofs.lemmas.Map.Text.{btree_map_updates_text}
use Rattle.node_trees.specs.Facts.{value_in}
use Rattle.ordered_tables.proofs.TextMapPlaces.{name_of, no_place}
use Rattle.ordered_tables.proofs.Places.{back, finds-kept, finds-push, pushed, values-push}
use Rattle.ordered_tables.proofs.text_map.TextMap.push.Goals as goal

-- its place was not noted, so it went again
pub invariant_of-self-in-Err : goal.invariant_of-self-in-Err
invariant_of-self-in-Err c =
    finds-kept name_of c.self.inside.pairs c.remove.new.self c.self.inside.places c.insert-2.new.self c.self.inside.next c.self.invariant
    (back name_of c.self.inside.pairs c.insert.new.self c.remove.new.self c.self.inside.places c.self.inside.next
    (c.args.name, c.args.value) c.self.invariant c.in_ok-insert.ensures.entries c.remove.ensures.entries)
    c.in-Err.ensures.err

pub returns-in-Err-clause-err : goal.returns-in-Err-clause-err
returns-in-Err-clause-err c =
    ap values_of (back name_of c.self.inside.pairs c.insert.new.self c.remove.new.self c.self.inside.places c.self.inside.next
    (c.args.name, c.args.value) c.self.invariant c.in_ok-insert.ensures.entries c.remove.ensures.entries)
    ∙ c.self.view_is

-- both maps have it
pub invariant_of-self-2 : goal.invariant_of-self-2
invariant_of-self-2 c =
    let sets = btree_map_updates_text (string_bytes c.in_ok-key.key) c.self.inside.places c.insert-2.new.self
    (Some c.self.inside.next) c.in_default-insert.ensures.updates in
    let new = no_place c.self.inside.pairs c.self.inside.places c.self.inside.next c.self.invariant c.args.name
    (ap (λ xs. value_in xs c.args.name) c.self.view_is ∙ c.requires) in
    rw c.in-Some.ensures.1 (finds-push name_of c.self.inside.pairs c.insert.new.self c.self.inside.places c.insert-2.new.self c.self.inside.next
    (c.args.name, c.args.value) c.self.invariant new c.in_ok-insert.ensures.entries
    (rw (c.in_ok-key.ensures.ok, c.as_str.ensures) at sets))

pub returns-clause-ok : goal.returns-clause-ok
returns-clause-ok c =
    ap values_of (pushed name_of c.self.inside.pairs c.insert.new.self c.self.inside.places c.self.inside.next
    (c.args.name, c.args.value) c.self.invariant c.in_ok-insert.ensures.entries)
    ∙ values-push c.self.inside.pairs.entries c.self.inside.next (c.args.name, c.args.value)
    ∙ ap (λ xs. xs ++ (c.args.name, c.args.value) ∷ []) c.self.view_is
