use Rattle.std.proofs.Common.{string_bytes}
use Rattle.std.proofs.lemmas.Map.Text.{btree_map_updates_text}
use Rattle.class_table.proofs.ClassesLaws.{finds-added}
use Rattle.class_table.proofs.classes.Classes.add.Goals as goal

-- the key is the class's name, so the map follows the new class
pub invariant_of-self-in-Ok : goal.invariant_of-self-in-Ok
invariant_of-self-in-Ok c =
    let sets = btree_map_updates_text (string_bytes c.in_ok-key.key) c.self.inside.numbers c.insert.new.self _ c.in-Ok.ensures.updates in
    rw c.in_ok-push.ensures.items (finds-added c.self.inside.numbers c.insert.new.self c.self.inside.items.items _ c.self.invariant
    (rw (c.make.ensures, c.self.view_is) c.requires)
    (rw c.make.ensures (rw (c.in_ok-key.ensures.ok, c.as_str.ensures, c.len.ensures, c.self.inside.items.ok.0) at sets)))
