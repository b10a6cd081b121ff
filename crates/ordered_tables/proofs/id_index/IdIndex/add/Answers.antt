use Rattle.std.proofs.Common.{Some, string_bytes}
use Rattle.std.proofs.lemmas.Result.{err_from_is_err_and}
use Rattle.std.proofs.lemmas.Map.Text.{btree_map_updates_text}
use Rattle.ordered_tables.proofs.IdIndexGroups.{put, put_known, still_known, kept, put_first, first_known}
use Rattle.ordered_tables.proofs.id_index.IdIndex.add.Goals as goal

pub returns-in_err-insert-clause-err : goal.returns-in_err-insert-clause-err
returns-in_err-insert-clause-err c =
    rw (err_from_is_err_and c.from_residual.result c.from_residual.ensures.1).1
    (kept c.args.self.now.groups (c.get_mut.follows.lender c.insert.new.self) c.args.id.now c.in-Some.group.now c.insert.new.self c.node.inside.0
    c.in-Some.ensures.value (c.get_mut.follows.holds c.insert.new.self) c.in_err-insert.ensures.err)

pub returns-in_err-insert-clause-unlearned : goal.returns-in_err-insert-clause-unlearned
returns-in_err-insert-clause-unlearned c =
    rw (err_from_is_err_and c.from_residual.result c.from_residual.ensures.1).1
    (still_known c.args.self.now.groups (c.get_mut.follows.lender c.insert.new.self) c.args.id.now c.in-Some.group.now c.insert.new.self
    c.node.inside.0 c.in-Some.ensures.value (c.get_mut.follows.holds c.insert.new.self))

pub returns-in-Some-clause-ok : goal.returns-in-Some-clause-ok
returns-in-Some-clause-ok c =
    rw (← c.node.view_is) (put c.args.self.now.groups
    (c.get_mut.follows.lender c.insert.new.self) c.args.id.now c.in-Some.group.now c.insert.new.self c.node.inside.0 c.in-Some.ensures.value
    (c.get_mut.follows.holds c.insert.new.self) c.in_ok-insert.ensures.updates)

pub returns-clause-ok : goal.returns-clause-ok
returns-clause-ok c =
    rw (← c.node.view_is) (put_first c.args.self.now.groups c.get_mut.follows.lender-at-none c.insert-3.new.self c.args.id.now c.new-group.result
    c.insert-2.new.self c.node.inside.0 c.get_mut.follows.holds-at-none c.in_default.ensures.value c.new-group.ensures.empty
    (rw c.in_ok-key.ensures.ok at (btree_map_updates_text (string_bytes c.in_ok-key.key) c.get_mut.follows.lender-at-none c.insert-3.new.self
    (Some c.insert-2.new.self) c.in_ok-insert-3.ensures.updates)) c.in_ok-insert-2.ensures.updates)

pub returns-in-Some-clause-known : goal.returns-in-Some-clause-known
returns-in-Some-clause-known c =
    put_known c.args.self.now.groups (c.get_mut.follows.lender c.insert.new.self) c.args.id.now c.in-Some.group.now c.insert.new.self c.node.inside.0
    c.in-Some.ensures.value (c.get_mut.follows.holds c.insert.new.self)

pub returns-clause-known : goal.returns-clause-known
returns-clause-known c =
    first_known c.args.self.now.groups c.get_mut.follows.lender-at-none c.insert-3.new.self c.args.id.now c.new-group.result c.insert-2.new.self
    c.node.inside.0 c.get_mut.follows.holds-at-none c.in_default.ensures.value c.new-group.ensures.empty
    (rw c.in_ok-key.ensures.ok at (btree_map_updates_text (string_bytes c.in_ok-key.key) c.get_mut.follows.lender-at-none c.insert-3.new.self
    (Some c.insert-2.new.self) c.in_ok-insert-3.ensures.updates))
