use Rattle.std.proofs.Common.{◌∙◌, refl, subst, sym}
use Rattle.node_trees.specs.Kinds.{IsElement}
use Rattle.ce_algorithms.specs.Forms.{forms_in}
use Rattle.ce_algorithms.specs.Page.{Page}
use Rattle.ce_page.proofs.WholeLemmas.{whole_unsettled, whole_redefined}
use Rattle.ce_page.proofs.page.Page.redefine.Goals as goal

pub invariant_of-self : goal.invariant_of-self
invariant_of-self c =
    let element = subst (λ (p : Page). IsElement p.forest c.args.n) (sym c.self.view_is) c.requires in
    whole_unsettled _ _ _ _ _ _ _ _ _ c.args.n c.args.d element c.write_definition.ensures c.self.invariant

pub invariant_of-self-in_err-_changes : goal.invariant_of-self-in_err-_changes
invariant_of-self-in_err-_changes c =
    let element = subst (λ (p : Page). IsElement p.forest c.args.n) (sym c.self.view_is) c.requires in
    whole_unsettled _ _ _ _ _ _ _ _ _ c.args.n c.args.d element c.write_definition.ensures c.self.invariant

pub invariant_of-self-2 : goal.invariant_of-self-2
invariant_of-self-2 c =
    let element = subst (λ (p : Page). IsElement p.forest c.args.n) (sym c.self.view_is) c.requires in
    let stood = c.self.invariant.owners c.if-not-self.false in
    let stands = c.in_ok-_changes.ensures.stands (forms_in c.self.inside.elements.items c.self.inside.registry c.self.inside.tree) stood
    (record { element = element; is = refl }) in
    whole_redefined _ _ _ _ _ _ _ _ _ c.args.n c.args.d c.is_form_associated.result c.if-not-self.false element
    (sym c.is_given.ensures ∙ c.if-not-is_given.false) c.write_definition.ensures c.is_form_associated.ensures.definition c.self.invariant stands
