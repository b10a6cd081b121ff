-- What stands above a child, from what stands above its parent.
use Rattle.std.proofs.Common.{◌≡◌, ℕ, true, false, not, ◌&&◌, ◌||◌, ◌==◌, if◌then◌else◌, List, ◌∷◌, Option, Some, None, refl, ap, sym, subst, ◌∙◌}
use Rattle.std.proofs.Common.{arith}
use Rattle.std.proofs.lemmas.Bool.{false_from_ne_true}
use Rattle.std.proofs.lemmas.Bool.Decides.{nat_tests}
use Rattle.element_names.specs.declared.natives.Native.TheVariants.{Fieldset, Form, Legend}
use Rattle.node_trees.specs.Trees.{Trees, is_number}
use Rattle.node_trees.specs.Nodes.{IsNode, IsTidy}
use Rattle.node_trees.specs.Paths.{is_among}
use Rattle.node_trees.specs.Spots.{parent_at, children_at}
use Rattle.tree_laws.proofs.Children.{child-parent}
use Rattle.tree_laws.proofs.Members.{among-found}
use Rattle.form_controls.specs.Kinds.{is_a}
use Rattle.form_controls.specs.Owners.{ancestors}
use Rattle.form_controls.specs.Disabled.{disables, first_legend, has_disabled, is_in_disabled_fieldset, is_inside}
use Rattle.owner_reading.proofs.Ancestors.{ancestors-top, ancestors-up}
use Rattle.owner_reading.proofs.Climbing.{any-up, find-up}
use Rattle.disabled_reading.proofs.Legends.{inside-first}
use Rattle.disabled_reading.proofs.Ways.{above-apart, above-node}
use Rattle.above_reading.proofs.Roots.{root-top, root-up}
use Rattle.above_reading.proofs.Tests.{any-same}
use Rattle.above_reading.specs.declared.above.Above.{Above}
use Rattle.above_reading.specs.Above.{above_at, disables_below, is_disabled_below, is_on}

-- ---- lists

inside-on : (f : Trees) (n : ℕ) (o : Option ℕ) → is_inside f n o ≡ is_on (ancestors f n) o
inside-on f n None = refl
inside-on f n (Some l) = refl

on-more : (n : ℕ) (way : List ℕ) (o : Option ℕ) → is_on (n ∷ way) o ≡ (is_number o n || is_on way o)
on-more n way None = refl
on-more n way (Some l) = grind (arith, nat_tests)

-- ---- a step down

module _ (f : Trees) (n q : ℕ) (tidy : IsTidy f) (node : IsNode f n) (parent : IsNode f q) (up : parent_at f n ≡ Some q) where
  -- the first legend of the parent is not above n
  not-above : is_on (ancestors f n) (first_legend f q) ≡ false
  not-above =
      let it = inside-first f n n q tidy node node parent (grind (arith, nat_tests)) up in
      let on = inside-on f n (first_legend f q) in
      grind (arith, nat_tests, it, on)

  inside-head : disables f n q ≡ (is_a Fieldset f q && has_disabled f q)
  inside-head = grind (arith, inside-on f n (first_legend f q), not-above)

  inside-rest : (a : ℕ) → disables f n a ≡ disables_below f q a
  inside-rest a =
      ap (λ b. is_a Fieldset f a && has_disabled f a && not b)
      (inside-on f n (first_legend f a) ∙ ap (λ way. is_on way (first_legend f a)) (ancestors-up f n tidy node q up))

  pub inside-up : is_in_disabled_fieldset f n ≡ ((is_a Fieldset f q && has_disabled f q) || is_disabled_below f q)
  inside-up =
      any-up f n tidy node (disables f n) q (sym up)
      ∙ grind (arith, inside-head, any-same (disables f n) (disables_below f q) (ancestors f q) (λ a _. inside-rest a))

  below-head : disables_below f n q ≡ (is_a Fieldset f q && (has_disabled f q && not (is_number (first_legend f q) n)))
  below-head = grind (arith, on-more n (ancestors f n) (first_legend f q), not-above)

  -- the first legend of what is above the parent is not n
  other-legend : (a : ℕ) → is_among a (ancestors f q) ≡ true → is_number (first_legend f a) n ≡ false
  other-legend a among = by_first (first_legend f a) refl
    where
      by_first : (o : Option ℕ) → first_legend f a ≡ o → is_number o n ≡ false
      by_first None e = refl
      by_first (Some l) e =
          let here = among-found (is_a Legend f) (children_at f a) l e in
          let its = child-parent f a tidy (above-node f q tidy parent a among) l here in
          false_from_ne_true (l == n) (λ same. let l_is : l ≡ n = grind (arith, nat_tests, same) in
          let twice : Some a ≡ Some q = sym its ∙ ap (parent_at f) l_is ∙ up in
          let a_is : a ≡ q = cc in
          let both : true ≡ false = sym (subst (λ v. is_among v (ancestors f q) ≡ true) a_is among) ∙ above-apart f q tidy parent in
          cc)

  below-rest : (a : ℕ) → is_among a (ancestors f q) ≡ true → disables_below f n a ≡ disables_below f q a
  below-rest a among =
      ap (λ b. is_a Fieldset f a && has_disabled f a && not b)
      (on-more n (ancestors f n) (first_legend f a) ∙ ap (λ b. b || is_on (ancestors f n) (first_legend f a)) (other-legend a among)
      ∙ ap (λ way. is_on way (first_legend f a)) (ancestors-up f n tidy node q up))

  pub below-up : is_disabled_below f n ≡ (((is_a Fieldset f q && has_disabled f q) && not (is_number (first_legend f q) n)) || is_disabled_below f q)
  below-up =
      any-up f n tidy node (disables_below f n) q (sym up)
      ∙ grind (arith, below-head, any-same (disables_below f n) (disables_below f q) (ancestors f q) below-rest)

  pub above-up : (a : Above) → a ≡ above_at f q → above_at f n ≡ record {
    form = if is_a Form f q then Some q else a.form;
    inside = (is_a Fieldset f q && has_disabled f q) || a.below;
    below = ((is_a Fieldset f q && has_disabled f q) && not (is_number (first_legend f q) n)) || a.below;
    root = a.root;
  }
  above-up a e =
      let form = find-up f n tidy node (is_a Form f) q (sym up) in
      let root = root-up f tidy n node q up in
      grind (arith, e, form, inside-up, below-up, root)

-- what stands above a root
pub above-top : (f : Trees) (n : ℕ) → IsTidy f → IsNode f n → parent_at f n ≡ None
    → above_at f n ≡ record { form = None; inside = false; below = false; root = n }
above-top f n tidy node top =
    let above = ancestors-top f n tidy node top in
    let root = root-top f tidy n node top in
    grind (arith, above, root)
