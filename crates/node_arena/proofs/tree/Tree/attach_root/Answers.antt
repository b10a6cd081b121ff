use Rattle.std.proofs.Common.{◌≡◌, ℕ, Bool, subst, sym, ◌+◌, ◌∙◌, ap, refl, arith, length, Some}
use Rattle.std.proofs.lemmas.Result.{on_ok_weaker, on_err_weaker, IfOk-weaker}
use Rattle.node_trees.specs.declared.kind.NodeKind.TheVariants.{ShadowRoot}
use Rattle.node_trees.specs.Facts.{blank}
use Rattle.node_trees.specs.Spots.{document_at}
use Rattle.node_trees.specs.Nodes.{size}
use Rattle.tree_laws.proofs.NodeKinds.{by_result, kinds-same}
use Rattle.tree_laws.proofs.Sizes.{size-with_shadow}
use Rattle.node_arena.specs.Marks.{mark_at, Allows}
use Rattle.node_arena.specs.Seen.{seen_fact, seen_is}
use Rattle.node_arena.proofs.Calls.{attached_forest, attached_or_not, attached_covers, attached_kinds, attached_connected, root_link, counts}
use Rattle.node_arena.proofs.NodeReads.{in_place}
use Rattle.node_arena.proofs.MarkLemmas.{hold_same, hold_more, hold_less}
use Rattle.node_arena.proofs.tree.Tree.attach_root.Goals as goal

pub attach-requires : goal.attach-requires
attach-requires c = in_place _ _ (seen_fact _ _ _ c.self.view_is) _ c.requires.node

pub invariant_of-self-inside : goal.invariant_of-self-inside
invariant_of-self-inside c = (
  attached_or_not c.self.inside.nodes.items c.attach.new.nodes.items c.args.self.now c.args.host
      (record c.blank-root.result { host = Some c.args.host }) (blank ShadowRoot (document_at c.args.self.now c.args.host))
      (seen_fact _ _ _ c.self.view_is) c.requires.node c.requires.element c.requires.bare refl refl
      (root_link c.args.self.now c.args.host c.blank-root.result (record c.blank-root.result { host = Some c.args.host })
      (blank ShadowRoot (document_at c.args.self.now c.args.host)) c.blank-root.ensures.loose refl
      (c.blank-root.ensures.facts ∙ ap (blank ShadowRoot) c.document.ensures)) c.attach.result c.attach.ensures.ok c.attach.ensures.err,
  tt,
)

pub returns-clause-number : goal.returns-clause-number
returns-clause-number c = IfOk-weaker c.attach.result (λ n. n ≡ length c.self.inside.nodes.items + 1) (λ n. n ≡ size c.args.self.now + 1)
    (λ n e. omega (arith, e, counts _ _ (seen_fact _ _ _ c.self.view_is))) c.attach.ensures.number

pub returns-clause-made : goal.returns-clause-made
returns-clause-made c = on_ok_weaker c.attach.result
    (λ w. seen_is _ _ _ (attached_forest c.self.inside.nodes.items c.attach.new.nodes.items c.args.self.now c.args.host
    (record c.blank-root.result { host = Some c.args.host }) (blank ShadowRoot (document_at c.args.self.now c.args.host))
    (seen_fact _ _ _ c.self.view_is) c.requires.node c.requires.element c.requires.bare refl refl
    (root_link c.args.self.now c.args.host c.blank-root.result (record c.blank-root.result { host = Some c.args.host })
    (blank ShadowRoot (document_at c.args.self.now c.args.host)) c.blank-root.ensures.loose refl
    (c.blank-root.ensures.facts ∙ ap (blank ShadowRoot) c.document.ensures)) w)) c.attach.ensures.ok

pub returns-clause-size : goal.returns-clause-size
returns-clause-size c = on_ok_weaker c.attach.result
    (λ e. ap size e ∙ size-with_shadow c.args.host (size c.args.self.now + 1) (blank ShadowRoot (document_at c.args.self.now c.args.host)) c.args.self.now
    (seen_fact _ _ _ c.self.view_is).tidy c.requires.node) (returns-clause-made c)

pub returns-clause-err : goal.returns-clause-err
returns-clause-err c = on_err_weaker c.attach.result (λ e. seen_is _ _ _ (rw e (seen_fact _ _ _ c.self.view_is))) c.attach.ensures.err

pub returns-clause-kinds : goal.returns-clause-kinds
returns-clause-kinds c = by_result c.attach.result
    (attached_kinds c.self.inside.nodes.items c.attach.new.nodes.items c.args.self.now c.args.host (record c.blank-root.result { host = Some c.args.host })
    (blank ShadowRoot (document_at c.args.self.now c.args.host)) (seen_fact _ _ _ c.self.view_is) c.requires.node c.requires.element c.requires.bare refl refl
    (root_link c.args.self.now c.args.host c.blank-root.result (record c.blank-root.result { host = Some c.args.host })
    (blank ShadowRoot (document_at c.args.self.now c.args.host)) c.blank-root.ensures.loose refl
    (c.blank-root.ensures.facts ∙ ap (blank ShadowRoot) c.document.ensures)) _) (kinds-same _ _) (returns-clause-made c) (returns-clause-err c)

pub returns-clause-tidy : goal.returns-clause-tidy
returns-clause-tidy c = (seen_fact _ _ _ c.self.view_is).tidy

pub invariant_of-self : goal.invariant_of-self
invariant_of-self c =
    let blank_mark = λ (is : Bool). subst (λ (k : ℕ). Allows (mark_at c.attach.new.marks.items (k + 1)) is) (counts _ _ (seen_fact _ _ _ c.self.view_is))
    (c.attach.ensures.blank is) in
    let hold = hold_same _ _ _ (sym c.self.view_is) c.self.invariant.1 in (
      attached_covers c.self.inside.nodes.items c.attach.new.nodes.items c.args.self.now c.args.host (record c.blank-root.result { host = Some c.args.host })
          (blank ShadowRoot (document_at c.args.self.now c.args.host))
          (seen_fact _ _ _ c.self.view_is) c.requires.node c.requires.element c.requires.bare refl refl
          (root_link c.args.self.now c.args.host c.blank-root.result (record c.blank-root.result { host = Some c.args.host })
          (blank ShadowRoot (document_at c.args.self.now c.args.host)) c.blank-root.ensures.loose refl
          (c.blank-root.ensures.facts ∙ ap (blank ShadowRoot) c.document.ensures)) c.self.inside.ids c.attach.result c.blank-root.ensures.bare
          c.attach.ensures.ok c.attach.ensures.err c.self.invariant.0,
      by_result c.attach.result (λ e. hold_more c.args.self.now _ _ _
          (ap size e ∙ size-with_shadow c.args.host (size c.args.self.now + 1) (blank ShadowRoot (document_at c.args.self.now c.args.host)) c.args.self.now
          (seen_fact _ _ _ c.self.view_is).tidy c.requires.node)
          (attached_connected c.self.inside.nodes.items c.attach.new.nodes.items c.args.self.now c.args.host
          (record c.blank-root.result { host = Some c.args.host }) (blank ShadowRoot (document_at c.args.self.now c.args.host))
          (seen_fact _ _ _ c.self.view_is) c.requires.node c.requires.element c.requires.bare refl refl
          (root_link c.args.self.now c.args.host c.blank-root.result (record c.blank-root.result { host = Some c.args.host })
          (blank ShadowRoot (document_at c.args.self.now c.args.host)) c.blank-root.ensures.loose refl
          (c.blank-root.ensures.facts ∙ ap (blank ShadowRoot) c.document.ensures)) _ e) blank_mark c.attach.ensures.others hold)
          (λ e. hold_same _ _ _ e (hold_less _ _ _ c.attach.ensures.others hold)) (returns-clause-made c) (returns-clause-err c),
    )
