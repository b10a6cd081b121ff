use Rattle.std.proofs.Common.{ap, ◌∙◌, refl, arith}
use Rattle.std.proofs.lemmas.List.{get_or-set_same}
use Rattle.std.specs.Prelude.{bytes_eq}
use Rattle.node_trees.specs.Facts.{with_value, value_in}
use Rattle.node_arena.specs.declared.node.Node.{Node}
use Rattle.node_arena.proofs.IdNotes.{covers-set, id_name}
use Rattle.node_arena.proofs.NodeWrites.{attributes_edited, facts_there}
use Rattle.node_arena.proofs.facts.set_attribute.Goals as goal

pub returns-clause-ok : goal.returns-clause-ok
returns-clause-ok c = attributes_edited _ _ _ (with_value c.args.name c.args.value) _ _ c.index_of-at.ensures c.requires c.in_ok-old.ensures.ok refl

pub returns-clause-was : goal.returns-clause-was
returns-clause-was c = λ it here. c.in_ok-old.ensures.was
    ∙ ap (λ v. value_in v.attributes c.args.name) (facts_there _ _ _ _ it c.index_of-at.ensures c.requires here)

pub returns-clause-covers : goal.returns-clause-covers
returns-clause-covers c = λ covers.
    rw (returns-clause-ok c)
    (covers-set c.args.ids.now c.forget.new.ids _ c.args.node c.requires.0 covers c.args.name c.eq-is_id.result
    (c.eq-is_id.ensures ∙ ap (λ v. bytes_eq v id_name) c.as_str.ensures) c.note.new.ids c.args.value
    (rw c.as_str-2.ensures at c.in_ok-note.ensures.noted) c.in_ok-note.ensures.kept c.forget.ensures.others
    (λ k id at is. c.forget.ensures.has id
    (c.get.ensures ∙ ap (λ (v : Node). value_in v.attributes id_name)
    (get_or-set_same c.args.nodes.now c.index_of-at.result _ c.index-nodes-at-2.result (omega (arith, c.index_of-at.ensures, c.requires.0, c.requires.1)))
    ∙ ap (λ xs. value_in xs id_name)
    (c.in_ok-old.ensures.ok ∙ ap (λ v. with_value c.args.name c.args.value v.attributes) (facts_there _ _ _ _ k c.index_of-at.ensures c.requires at))
    ∙ is)))
