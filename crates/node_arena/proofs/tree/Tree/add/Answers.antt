use Rattle.std.proofs.Common.{◌≡◌, ℕ, Bool, subst, ◌∙◌, ◌+◌, ◌∷◌, [], ap, arith, length, length-append, sym}
use Rattle.std.proofs.lemmas.List.{length-map}
use Rattle.std.proofs.lemmas.Result.{err_from_is_err_and}
use Rattle.node_arena.specs.NodeLinks.{link_from, facts_of}
use Rattle.node_trees.specs.Nodes.{size}
use Rattle.node_arena.specs.Marks.{mark_at, Allows}
use Rattle.node_arena.specs.Seen.{seen_fact, seen_is}
use Rattle.node_arena.proofs.Calls.{counts, last_node, pushed, pushed_or_not, pushed_covers, new_free}
use Rattle.tree_laws.proofs.NodeKinds.{kinds-same, kinds-new, kind-new}
use Rattle.tree_laws.proofs.OtherSpots.{spots-same, spot_at-new}
use Rattle.tree_laws.proofs.Sizes.{size-with_node}
use Rattle.tree_laws.proofs.Connected.{connected-new}
use Rattle.tree_laws.proofs.Alone.{new_alone}
use Rattle.tree_laws.proofs.Apart.{apart-new, apart-same}
use Rattle.node_arena.proofs.MarkLemmas.{hold_same, hold_more, hold_less}
use Rattle.node_arena.proofs.tree.Tree.add.Goals as goal

pub invariant_of-self-inside : goal.invariant_of-self-inside
invariant_of-self-inside c = (
  pushed_or_not _ _ _ _
      (seen_fact _ _ _ c.self.view_is) c.requires.loose c.requires.kind c.requires.parts _ c.push_node.ensures.items,
  tt,
)

pub invariant_of-self-2 : goal.invariant_of-self-2
invariant_of-self-2 c =
    let a = seen_fact _ _ _ c.self.view_is in
    let b = pushed _ _ _ _ a c.requires.loose c.requires.kind c.requires.parts c.in_ok-push_node.ensures.items in
    let e = seen_is _ _ _ b in
    let blank = λ (is : Bool). subst (λ (k : ℕ). Allows (mark_at c.push_node.new.marks.items (k + 1)) is) (counts _ _ a) (c.push_node.ensures.blank is) in (
      pushed_covers _ _ _ _ _ c.requires.bare c.push_node.ensures.items c.self.invariant.0,
      hold_more c.args.self.now _ _ _ (ap size e ∙ size-with_node (size c.args.self.now + 1) (facts_of c.args.node) c.args.self.now)
          (connected-new _ (facts_of c.args.node) _ _ a.tidy (rw e b.tidy) e) blank c.push_node.ensures.others
          (hold_same _ _ _ (sym c.self.view_is) c.self.invariant.1),
    )

pub returns-in_err-push_node-clause-err : goal.returns-in_err-push_node-clause-err
returns-in_err-push_node-clause-err c =
    let p = err_from_is_err_and c.from_residual.result c.from_residual.ensures.1 in
    rw p.1 (seen_is _ _ _ (rw c.in_err-push_node.ensures.items (seen_fact _ _ _ c.self.view_is)))

pub returns-clause-number : goal.returns-clause-number
returns-clause-number c =
    let old = (seen_fact _ _ _ c.self.view_is).counted in
    let more = ap length c.in_ok-push_node.ensures.items ∙ length-append c.self.inside.nodes.items (c.args.node ∷ []) in
    omega (arith, c.len.ensures, more, old, length-map c.self.inside.nodes.items link_from, c.push_node.new.nodes.ok.0)

pub returns-clause-ok : goal.returns-clause-ok
returns-clause-ok c = c.note.ensures
    ∙ seen_is _ _ _ (pushed _ _ _ _ (seen_fact _ _ _ c.self.view_is) c.requires.loose c.requires.kind c.requires.parts c.in_ok-push_node.ensures.items)

pub returns-clause-size : goal.returns-clause-size
returns-clause-size c = ap size (returns-clause-ok c) ∙ size-with_node (size c.args.self.now + 1) (facts_of c.args.node) c.args.self.now

pub returns-clause-free : goal.returns-clause-free
returns-clause-free c =
    let a = seen_fact _ _ _ c.self.view_is in
    rw (returns-clause-ok c, returns-clause-number c) (new_free c.args.self.now (facts_of c.args.node) a.tidy)

pub returns-in_err-push_node-clause-kinds : goal.returns-in_err-push_node-clause-kinds
returns-in_err-push_node-clause-kinds c = kinds-same _ _ (seen_is _ _ _ (rw c.in_err-push_node.ensures.items (seen_fact _ _ _ c.self.view_is)))

pub returns-clause-kinds : goal.returns-clause-kinds
returns-clause-kinds c = kinds-new _ _ _ _ (seen_fact _ _ _ c.self.view_is).tidy (returns-clause-ok c)

pub returns-clause-made : goal.returns-clause-made
returns-clause-made c = kind-new (facts_of c.args.node) _ _ _ (seen_fact _ _ _ c.self.view_is).tidy (returns-clause-ok c) (returns-clause-number c)

pub returns-in_err-push_node-clause-others : goal.returns-in_err-push_node-clause-others
returns-in_err-push_node-clause-others c = λ m at. spots-same _ _ m (seen_is _ _ _ (rw c.in_err-push_node.ensures.items (seen_fact _ _ _ c.self.view_is)))

pub returns-clause-others : goal.returns-clause-others
returns-clause-others c = λ m at. spots-same _ _ m (returns-clause-ok c) ∙ spot_at-new _ _ _ m (seen_fact _ _ _ c.self.view_is).tidy at

pub returns-clause-alone : goal.returns-clause-alone
returns-clause-alone c =
    let a = seen_fact _ _ _ c.self.view_is in
    let b = pushed _ _ _ _ a c.requires.loose c.requires.kind c.requires.parts c.in_ok-push_node.ensures.items in
    new_alone c.args.self.now _ (facts_of c.args.node) _ a.tidy (rw (returns-clause-ok c) b.tidy) (returns-clause-ok c) (returns-clause-number c)

pub returns-in_err-push_node-clause-apart : goal.returns-in_err-push_node-clause-apart
returns-in_err-push_node-clause-apart c = apart-same c.args.self.now _ (seen_is _ _ _ (rw c.in_err-push_node.ensures.items (seen_fact _ _ _ c.self.view_is)))

pub returns-clause-apart : goal.returns-clause-apart
returns-clause-apart c =
    let a = seen_fact _ _ _ c.self.view_is in
    let b = pushed _ _ _ _ a c.requires.loose c.requires.kind c.requires.parts c.in_ok-push_node.ensures.items in
    apart-new _ _ _ _ a.tidy (rw (returns-clause-ok c) b.tidy) (returns-clause-ok c)

pub returns-clause-tidy : goal.returns-clause-tidy
returns-clause-tidy c = (seen_fact _ _ _ c.self.view_is).tidy

pub returns-in_err-push_node-clause-tidy : goal.returns-in_err-push_node-clause-tidy
returns-in_err-push_node-clause-tidy c = (seen_fact _ _ _ c.self.view_is).tidy

pub invariant_of-self : goal.invariant_of-self
invariant_of-self c =
    let e = seen_is _ _ _ (rw c.in_err-push_node.ensures.items (seen_fact _ _ _ c.self.view_is)) in (
      pushed_covers _ _ _ _ _ c.requires.bare c.push_node.ensures.items c.self.invariant.0,
      hold_same _ _ _ e (hold_less _ _ _ c.push_node.ensures.others (hold_same _ _ _ (sym c.self.view_is) c.self.invariant.1)),
    )

pub note-requires : goal.note-requires
note-requires c =
    let a = seen_fact _ _ _ c.self.view_is in
    let long = ap size (seen_is _ _ _ (pushed _ _ _ _ a c.requires.loose c.requires.kind c.requires.parts c.in_ok-push_node.ensures.items))
    ∙ size-with_node (size c.args.self.now + 1) (facts_of c.args.node) c.args.self.now in
    let more = ap length c.in_ok-push_node.ensures.items ∙ length-append c.self.inside.nodes.items (c.args.node ∷ []) in
    let number : c.len.result ≡ size c.args.self.now + 1 =
    omega (arith, c.len.ensures, more, a.counted, length-map c.self.inside.nodes.items link_from, c.push_node.new.nodes.ok.0) in
    last_node _ _ _ long number
