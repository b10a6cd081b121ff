use Rattle.std.proofs.Common.{sym, ◌∙◌}
use Rattle.tree_laws.proofs.Seeking.{seek-start, seek-node, seek-here, seek-last, seek-on, seek-less}
use Rattle.node_arena.proofs.tree.Tree.first_met.Goals as goal

pub loop-root-init : goal.loop-root-init
loop-root-init c = record { node = c.requires; seeking = λ tidy. seek-start _ _ _ tidy c.requires }

pub returns-then-has_id-clause-found : goal.returns-then-has_id-clause-found
returns-then-has_id-clause-found c =
    let tidy = c.has_id.ensures.tidy in
    seek-here _ _ _ tidy c.requires _ (c.loop-root.invariant.seeking tidy) (sym c.has_id.ensures.has ∙ c.if-has_id.true)

pub next_in_tree-requires-clause-inside : goal.next_in_tree-requires-clause-inside
next_in_tree-requires-clause-inside c = let s = c.loop-root.invariant.seeking c.has_id.ensures.tidy in s.among

pub loop-root-smaller : goal.loop-root-smaller
loop-root-smaller c = let tidy = c.has_id.ensures.tidy in seek-less _ _ _ tidy c.requires _ (c.loop-root.invariant.seeking tidy) _ c.in-Some.ensures.next

pub loop-root-preserved : goal.loop-root-preserved
loop-root-preserved c =
    let tidy = c.has_id.ensures.tidy in
    let on = seek-on _ _ _ tidy c.requires _ (c.loop-root.invariant.seeking tidy) _ (sym c.has_id.ensures.has ∙ c.if-has_id.false) c.in-Some.ensures.next in
    record { node = seek-node _ _ _ tidy c.requires _ on; seeking = λ again. on }

pub returns-in-None-clause-found : goal.returns-in-None-clause-found
returns-in-None-clause-found c =
    let tidy = c.has_id.ensures.tidy in
    seek-last _ _ _ tidy c.requires _ (c.loop-root.invariant.seeking tidy) (sym c.has_id.ensures.has ∙ c.if-has_id.false) c.in-None.ensures.next
