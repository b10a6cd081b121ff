use Rattle.std.proofs.Common.{ap, sym, ◌∙◌, refl}
use Rattle.node_trees.specs.Facts.{without_value, value_in}
use Rattle.node_arena.proofs.IdNotes.{covers-taken}
use Rattle.node_arena.proofs.NodeWrites.{attributes_edited, facts_there}
use Rattle.node_arena.proofs.facts.remove_attribute.Goals as goal

pub returns-clause-left : goal.returns-clause-left
returns-clause-left c = attributes_edited _ _ _ (without_value c.args.name.now) _ _ c.index_of-at.ensures c.requires c.remove-old.ensures.left refl

pub returns-clause-was : goal.returns-clause-was
returns-clause-was c = λ it here. c.remove-old.ensures.was
    ∙ ap (λ v. value_in v.attributes c.args.name.now) (facts_there _ _ _ _ it c.index_of-at.ensures c.requires here)

pub returns-clause-covers : goal.returns-clause-covers
returns-clause-covers c = λ covers.
    rw (returns-clause-left c)
    (covers-taken c.args.ids.now c.forget.new.ids _ c.args.node c.requires.0 covers c.args.name.now c.eq-is_id.result c.eq-is_id.ensures c.forget.ensures.same
    c.forget.ensures.others
    (λ k at. ap (λ v. value_in (without_value c.args.name.now v.attributes) c.args.name.now) (sym (facts_there _ _ _ _ k c.index_of-at.ensures c.requires at))
    ∙ ap (λ xs. value_in xs c.args.name.now) (sym c.remove-old.ensures.left) ∙ c.remove-old.ensures.gone))
