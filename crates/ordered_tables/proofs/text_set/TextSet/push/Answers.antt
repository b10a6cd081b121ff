use Rattle.std.proofs.Common.{Some, ◌∙◌, ◌++◌, ◌∷◌, [], ap, bytes_eq, string_bytes}
use Rattle.std.specs.List.{list_any}
use Rattle.std.specs.Map.{values_of}
use Rattle.std.proofs.lemmas.Map.Text.{btree_map_updates_text}
use Rattle.ordered_tables.proofs.Places.{back, finds-kept, finds-push, pushed, values-push}
use Rattle.ordered_tables.proofs.TextSetPlaces.{absent, text_of}
use Rattle.ordered_tables.proofs.text_set.TextSet.push.Goals as goal

-- its place was not noted, so it went again
pub invariant_of-self-in-Err : goal.invariant_of-self-in-Err
invariant_of-self-in-Err c =
    finds-kept text_of c.self.inside.texts c.remove.new.self c.self.inside.places c.insert-2.new.self c.self.inside.next c.self.invariant
    (back text_of c.self.inside.texts c.insert.new.self c.remove.new.self c.self.inside.places c.self.inside.next c.args.t c.self.invariant
    c.in_ok-insert.ensures.entries c.remove.ensures.entries)
    c.in-Err.ensures.err

-- both maps have it
pub invariant_of-self-2 : goal.invariant_of-self-2
invariant_of-self-2 c =
    let sets = btree_map_updates_text (string_bytes c.in_ok-key.key) c.self.inside.places c.insert-2.new.self
    (Some c.self.inside.next) c.in_default-insert.ensures.updates in
    rw c.in-Some.ensures.1 (finds-push text_of c.self.inside.texts c.insert.new.self c.self.inside.places c.insert-2.new.self c.self.inside.next c.args.t
    c.self.invariant
    (absent c.self.inside.texts.entries c.args.t (ap (list_any (bytes_eq c.args.t)) c.self.view_is ∙ c.requires)) c.in_ok-insert.ensures.entries
    (rw (c.in_ok-key.ensures.ok, c.as_str.ensures) at sets))

pub returns : goal.returns
returns c =
    ap values_of (pushed text_of c.self.inside.texts c.insert.new.self c.self.inside.places c.self.inside.next c.args.t c.self.invariant
    c.in_ok-insert.ensures.entries)
    ∙ values-push c.self.inside.texts.entries c.self.inside.next c.args.t
    ∙ ap (λ ts. ts ++ c.args.t ∷ []) c.self.view_is
