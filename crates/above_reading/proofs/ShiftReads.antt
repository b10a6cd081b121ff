-- A tree that moves, to a parent or away from it, and what is read of the nodes outside it.
use Rattle.std.proofs.Common.{◌≡◌, ◌≢◌, ℕ, Bool, true, false, cond, List, [], Option, Some, None, refl, ap, sym, ◌∙◌, subst, arith, inl, inr}
use Rattle.std.specs.Prelude.{codes, filter, not, is_some, ◌&&◌}
use Rattle.std.specs.List.{find}
use Rattle.std.proofs.lemmas.Bool.{cases_eq, cases_lt}
use Rattle.std.specs.Prelude.{unwrap_or}
use Rattle.element_names.specs.declared.natives.Native.{Native}
use Rattle.element_names.specs.declared.natives.Native.TheVariants.{Form, Fieldset, Legend, Optgroup}
use Rattle.element_names.specs.Natives.{native}
use Rattle.node_trees.specs.Facts.{Facts, is_document, value_in}
use Rattle.node_trees.specs.Trees.{Trees, tree_of}
use Rattle.node_trees.specs.Nodes.{times, IsNode}
use Rattle.node_trees.specs.Orders.{order, tree_order, tree_order_of}
use Rattle.node_trees.specs.Paths.{is_among, path, root_at, connected}
use Rattle.node_trees.specs.Ids.{has_id, first_with_id}
use Rattle.node_trees.specs.Spots.{facts_at, kind_at, attribute_at, parent_at, children_at, first_of}
use Rattle.tree_laws.proofs.CutReads.{in-tree}
use Rattle.tree_laws.proofs.Walked.{order-has}
use Rattle.form_controls.specs.Kinds.{native_at, is_a}
use Rattle.form_controls.specs.Owners.{ancestors, where_form, named_form}
use Rattle.form_controls.specs.Disabled.{has_disabled, first_legend, is_inside, disables, is_in_disabled_group}
use Rattle.above_reading.specs.Locality.{IsAsideOfMove}
use Rattle.above_reading.proofs.Ancestors.{ancestor-order}
use Rattle.above_reading.proofs.FirstWithId.{named-same}
use Rattle.above_reading.proofs.OutOfTree.{root-outside}
use Rattle.above_reading.proofs.Shift.{IsShift}
use Rattle.above_reading.proofs.SameReads.{ReadsSame, is_a-same}
use Rattle.above_reading.proofs.Tests.{find-same, filter-none}

module _ (f g : Trees) (n p m : ℕ) (is_n : IsNode f n) (is_m : IsNode f m) (shift : IsShift f g n p) (aside : IsAsideOfMove g n p m) where
  -- outside the tree

  outside : times m (tree_of n f) ≡ 0
  outside = elim (cases_lt 0 (times m (tree_of n f))) [
    | inl low ↦
        let inside : is_among m (order (tree_of n f)) ≡ true = order-has m (tree_of n f) low in
        let not_there : is_among m (order (tree_of n f)) ≡ false = ap (λ t. is_among m (order t)) (sym shift.whole) ∙ aside.outside in
        absurd (cc)
    | inr z ↦ omega arith
  ]

  apart-from : (i : ℕ) → times i (tree_of n f) ≡ 0 → i ≢ n
  apart-from i z e = let low = in-tree f n shift.old is_n in let gone : times n (tree_of n f) ≡ 0 =
      subst (λ v. times v (tree_of n f) ≡ 0) e z in absurd (omega arith)

  natives : (i : ℕ) → native_at g i ≡ native_at f i
  natives i = ap (λ (x : Facts). native x.local) (shift.facts i)

  attributes : (i : ℕ) (name : List ℕ) → attribute_at g i name ≡ attribute_at f i name
  attributes i name = ap (λ (x : Facts). value_in x.attributes name) (shift.facts i)

  is-a : (element : Native) (i : ℕ) → is_a element g i ≡ is_a element f i
  is-a = is_a-same f g natives

  -- the group of an option

  parent-same : parent_at g m ≡ parent_at f m
  parent-same = shift.parents m (apart-from m outside)

  group-same : (o : Option ℕ) → is_in_disabled_group g o ≡ is_in_disabled_group f o
  group-same None = refl
  group-same (Some i) =
      ap (λ b. b && has_disabled g i) (is-a Optgroup i) ∙ ap (λ v. is_a Optgroup f i && is_some v) (attributes i (codes "disabled"))

  -- whether it is connected

  joined-same : connected g m ≡ connected f m
  joined-same =
      ap (λ xs. is_document (kind_at g (unwrap_or (first_of xs) m))) (shift.way m outside)
      ∙ ap (λ (x : Facts). is_document x.kind) (shift.facts (unwrap_or (first_of (path m f)) m))

  -- the form that an ID names

  root-stays : root_at g m ≡ root_at f m
  root-stays = shift.root m is_m outside

  module _ (id : List ℕ) (names : attribute_at g m (codes "form") ≡ Some id) where
    abbrev has : ℕ → Bool
    has i = has_id id (facts_at f i)

    nothing : filter has (tree_order (tree_of n f)) ≡ []
    nothing = filter-none has (tree_order (tree_of n f)) (λ j h.
        ap (has_id id) (sym (shift.facts j)) ∙ aside.unnamed id j names (ap (λ t. is_among j (tree_order t)) shift.whole ∙ h))

    first-same : first_with_id g (root_at g m) id ≡ first_with_id f (root_at f m) id
    first-same =
        ap (λ r. first_with_id g r id) root-stays
        ∙ named-same f g (root_at f m) id shift.facts (shift.kept has (root_at f m) (root-outside f n m shift.old is_n is_m outside) nothing)

    where-same : (o : Option ℕ) → where_form g o ≡ where_form f o
    where-same None = refl
    where-same (Some i) = ap (λ b. cond b (Some i) None) (is-a Form i)

    form-same : named_form g m id ≡ named_form f m id
    form-same = ap (where_form g) first-same ∙ where-same (first_with_id f (root_at f m) id)

  -- whether a fieldset above it disables it

  legend-same : (i : ℕ) → find (is_a Legend g) (children_at g i) ≡ find (is_a Legend f) (children_at g i)
  legend-same i = find-same (is_a Legend g) (is_a Legend f) (children_at g i) (λ j _. is-a Legend j)

  inside-same : (o : Option ℕ) → is_inside g m o ≡ is_inside f m o
  inside-same None = refl
  inside-same (Some i) = ap (is_among i) (shift.above m outside)

  -- with the same first legend it does as it did
  with-legend : (i : ℕ) → first_legend g i ≡ first_legend f i → disables g m i ≡ disables f m i
  with-legend i e =
      ap (λ b. b && has_disabled g i && not (is_inside g m (first_legend g i))) (is-a Fieldset i)
      ∙ ap (λ v. is_a Fieldset f i && is_some v && not (is_inside g m (first_legend g i))) (attributes i (codes "disabled"))
      ∙ ap (λ b. is_a Fieldset f i && has_disabled f i && not b) (ap (is_inside g m) e ∙ inside-same (first_legend f i))

  no-fieldset : (i : ℕ) → is_a Fieldset g i ≡ false → disables g m i ≡ disables f m i
  no-fieldset i e =
      ap (λ b. b && has_disabled g i && not (is_inside g m (first_legend g i))) e
      ∙ sym (ap (λ b. b && has_disabled f i && not (is_inside f m (first_legend f i))) (sym (is-a Fieldset i) ∙ e))

  at-parent : is_among p (ancestors f m) ≡ true → (fieldset legend : Bool) → is_a Fieldset g p ≡ fieldset → is_a Legend g n ≡ legend
      → disables g m p ≡ disables f m p
  at-parent h false legend is_fieldset is_legend = no-fieldset p is_fieldset
  at-parent h true false is_fieldset is_legend =
      with-legend p (legend-same p ∙ shift.found (is_a Legend f) (sym (is-a Legend n) ∙ is_legend))
  at-parent h true true is_fieldset is_legend =
      let below : is_among m (tree_order_of g p) ≡ true = ancestor-order g p m shift.new (ap (is_among p) (shift.above m outside) ∙ h) in
      let not_below = aside.legend is_legend is_fieldset in
      absurd (cc)

  disabling-same : (i : ℕ) → is_among i (ancestors f m) ≡ true → disables g m i ≡ disables f m i
  disabling-same i h = elim (cases_eq i p) [
    | inl e ↦
        let at : is_among p (ancestors f m) ≡ true = subst (λ v. is_among v (ancestors f m) ≡ true) e h in
        subst (λ v. disables g m v ≡ disables f m v) (sym e) (at-parent at (is_a Fieldset g p) (is_a Legend g n) refl refl)
    | inr ne ↦ with-legend i (legend-same i ∙ ap (find (is_a Legend f)) (shift.children i ne))
  ]

  pub shift-reads : ReadsSame f g m
  shift-reads = record {
    native = natives;
    attribute = attributes m;
    group = ap (is_in_disabled_group g) parent-same ∙ group-same (parent_at f m);
    above = shift.above m outside;
    joined = joined-same;
    named = form-same;
    disabling = disabling-same;
  }
