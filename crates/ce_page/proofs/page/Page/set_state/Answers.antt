use Rattle.std.proofs.Common.{◌≡◌, length, Some, ap, refl, subst, sym, ◌∙◌}
use Rattle.ce_algorithms.specs.Page.{Element, Page}
use Rattle.ce_page.specs.Parts.{row_place}
use Rattle.ce_page.proofs.RowLemmas.{row_defined, row_there, state_given}
use Rattle.ce_page.proofs.WholeLemmas.{whole_state}
use Rattle.ce_page.proofs.page.Page.set_state.Goals as goal

pub invariant_of-self : goal.invariant_of-self
invariant_of-self c =
    let place : row_place (length c.self.inside.elements.items) c.args.n ≡ Some c.in-Some.i =
    subst (λ (p : Page). row_place (length p.elements) c.args.n ≡ Some c.in-Some.i) (sym c.self.view_is) (sym c.row_of.ensures ∙ c.in-Some.is) in
    let there = row_there c.self.inside.elements.items c.args.n c.in-Some.i c.index_mut-e.result.now place c.index_mut-e.ensures.value in
    rw c.set_state.ensures (whole_state _ c.in-Some.i _ (ap (λ (e : Element). e.definition) there.1)
    (row_defined c.in-Some.i c.index_mut-e.result.now c.self.invariant.sound.rows there.1) c.self.invariant)

pub returns-in-Some-clause-page : goal.returns-in-Some-clause-page
returns-in-Some-clause-page c =
    let place : row_place (length c.self.inside.elements.items) c.args.n ≡ Some c.in-Some.i =
    subst (λ (p : Page). row_place (length p.elements) c.args.n ≡ Some c.in-Some.i) (sym c.self.view_is) (sym c.row_of.ensures ∙ c.in-Some.is) in
    rw (
      ← c.self.view_is,
      c.set_state.ensures,
      state_given c.self.inside.elements.items c.args.n c.in-Some.i c.index_mut-e.result.now c.args.state place c.index_mut-e.ensures.value,
    ) refl
