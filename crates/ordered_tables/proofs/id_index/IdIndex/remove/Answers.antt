use Rattle.std.proofs.Common.{◌∙◌, sym}
use Rattle.std.proofs.lemmas.Bool.{false≢true}
use Rattle.ordered_tables.proofs.IdIndexGroups.{taken, emptied, now_there, still_known, held_by_none, forgotten, others_stay}
use Rattle.ordered_tables.proofs.id_index.IdIndex.remove.Goals as goal

pub returns-else-is_empty-clause-held : goal.returns-else-is_empty-clause-held
returns-else-is_empty-clause-held c =
    rw (← c.node.view_is) (taken c.args.self.now.groups
    (c.get_mut.follows.lender c.remove.new.self) c.args.id.now c.in-Some.group.now c.remove.new.self c.node.inside.0 c.in-Some.ensures.value
    (c.get_mut.follows.holds c.remove.new.self) c.remove.ensures.updates)

pub returns-else-is_empty-clause-forgotten : goal.returns-else-is_empty-clause-forgotten
returns-else-is_empty-clause-forgotten c = λ none.
    absurd (false≢true (sym c.if-is_empty.false ∙ c.is_empty.ensures.1
    (held_by_none c.args.self.now.groups (c.get_mut.follows.lender c.remove.new.self) c.args.id.now c.in-Some.group.now c.remove.new.self
    c.node.inside.0 c.in-Some.ensures.value (c.get_mut.follows.holds c.remove.new.self) none)))

pub returns-else-is_empty-clause-others : goal.returns-else-is_empty-clause-others
returns-else-is_empty-clause-others c = λ q e.
    still_known c.args.self.now.groups (c.get_mut.follows.lender c.remove.new.self) c.args.id.now c.in-Some.group.now c.remove.new.self
    c.node.inside.0 c.in-Some.ensures.value (c.get_mut.follows.holds c.remove.new.self) q

pub returns-then-is_empty-clause-held : goal.returns-then-is_empty-clause-held
returns-then-is_empty-clause-held c = λ q m.
    emptied (c.get_mut.follows.lender c.remove.new.self) c.remove-then-is_empty.new.self c.args.id.now c.remove-then-is_empty.ensures.updates
    c.remove.new.self (now_there c.args.self.now.groups (c.get_mut.follows.lender c.remove.new.self) c.args.id.now c.in-Some.group.now
    c.remove.new.self c.node.inside.0 c.in-Some.ensures.value (c.get_mut.follows.holds c.remove.new.self))
    (c.is_empty.ensures.0 (c.if-is_empty.true)) q m
    ∙ rw (← c.node.view_is) (taken c.args.self.now.groups
    (c.get_mut.follows.lender c.remove.new.self) c.args.id.now c.in-Some.group.now c.remove.new.self c.node.inside.0 c.in-Some.ensures.value
    (c.get_mut.follows.holds c.remove.new.self) c.remove.ensures.updates q m)

pub returns-then-is_empty-clause-forgotten : goal.returns-then-is_empty-clause-forgotten
returns-then-is_empty-clause-forgotten c = λ none.
    forgotten (c.get_mut.follows.lender c.remove.new.self) c.remove-then-is_empty.new.self c.args.id.now c.remove-then-is_empty.ensures.updates

pub returns-then-is_empty-clause-others : goal.returns-then-is_empty-clause-others
returns-then-is_empty-clause-others c = λ q e.
    others_stay (c.get_mut.follows.lender c.remove.new.self) c.remove-then-is_empty.new.self c.args.id.now c.remove-then-is_empty.ensures.updates q e
    ∙ still_known c.args.self.now.groups (c.get_mut.follows.lender c.remove.new.self) c.args.id.now c.in-Some.group.now c.remove.new.self
    c.node.inside.0 c.in-Some.ensures.value (c.get_mut.follows.holds c.remove.new.self) q
