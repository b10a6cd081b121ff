use Rattle.std.proofs.Common.{true, string_bytes}
use Rattle.std.proofs.lemmas.Map.Text.{btree_set_updates_text}
use Rattle.ce_registry.proofs.FoundLaws.{names-more}
use Rattle.ce_registry.proofs.entry.set_of.Goals as goal

pub loop-name-preserved : goal.loop-name-preserved
loop-name-preserved c = λ q.
    let sets = btree_set_updates_text (string_bytes c.in_ok-from_str.field-0) c.loop-name.set c.insert.new.self true c.in_ok-insert.ensures.updates q in
    names-more c.loop-name.set c.insert.new.self c.as_slice-name-items.result.now c.loop-name.name-index c.name-item.result q c.loop-name-test.true
    c.name-item.is
    (rw (c.in_ok-from_str.ensures.ok, c.as_str.ensures) at sets) (c.loop-name.invariant q)
