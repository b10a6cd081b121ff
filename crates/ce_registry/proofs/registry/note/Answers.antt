use Rattle.std.proofs.Common.{Some, ap, string_bytes}
use Rattle.std.proofs.lemmas.Map.Text.{btree_map_updates_text}
use Rattle.ce_registry.proofs.FoundLaws.{finds-added, set-at}
use Rattle.ce_registry.proofs.registry.note.Goals as goal
use Rattle.ce_registry.proofs.registry.note.Goals.{in-Ok, in-Err}

-- both maps follow the new definition
pub returns-clause-ok : goal.returns-clause-ok
returns-clause-ok c = elim c.match-insert.branch [
  | in-Ok w ↦ rw (w.result-is, w.classes-is) (λ ds finds no_name no_class is.
      let names = btree_map_updates_text (string_bytes c.in_ok-name.name) c.args.names.now c.insert-2.new.self _ w.in-Ok.ensures.updates in
      let classes = set-at c.args.classes.now c.insert.new.self c.class_key-class.result c.args.entry.now.class _ _ c.class_key-class.ensures
      (ap Some is) c.in_ok-insert.ensures.updates.0 in
      finds-added c.args.names.now c.insert-2.new.self c.args.classes.now c.insert.new.self ds c.args.entry.now finds no_name no_class
      (rw (c.in_ok-name.ensures, is) at names) classes)
  | in-Err w ↦ rw w.result-is tt
]
