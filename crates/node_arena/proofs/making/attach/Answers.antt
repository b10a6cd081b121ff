use Rattle.std.proofs.Common.{refl, arith, ap, ◌∙◌, ◌∷◌, [], length, length-append}
use Rattle.node_arena.proofs.NodeWrites.{attached}
use Rattle.node_arena.proofs.making.attach.Goals as goal

pub returns-clause-ok : goal.returns-clause-ok
returns-clause-ok c =
    let more = ap length c.in_ok-push_node.ensures.items ∙ length-append c.args.nodes.now.items (c.args.root ∷ []) in
    attached _ _ _ _ _ _ _ c.index_mut.result.now c.in_ok-push_node.ensures.items c.index_of-at.ensures c.requires
    (omega (arith, c.len.ensures, more, c.push_node.new.nodes.ok.0)) c.index_mut.ensures.value refl
