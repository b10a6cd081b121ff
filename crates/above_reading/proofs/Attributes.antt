-- What an attribute that is set or gone leaves.
use Rattle.std.proofs.Common.{◌≡◌, ◌≢◌, ℕ, Bool, true, false, cond, List, [], Option, Some, None, refl, ap, sym, ◌∙◌, subst, inl, inr}
use Rattle.std.specs.Prelude.{codes, not, is_some, ◌&&◌}
use Rattle.std.specs.List.{find}
use Rattle.std.proofs.lemmas.Bool.{cases_eq}
use Rattle.element_names.specs.declared.natives.Native.{Native}
use Rattle.element_names.specs.declared.natives.Native.TheVariants.{Form, Fieldset, Legend, Optgroup}
use Rattle.element_names.specs.Natives.{native}
use Rattle.node_trees.specs.Facts.{Facts, value_in}
use Rattle.node_trees.specs.Kinds.{IsElement}
use Rattle.node_trees.specs.Trees.{Trees, with_facts}
use Rattle.node_trees.specs.Nodes.{IsNode, IsTidy}
use Rattle.node_trees.specs.Orders.{tree_order_of}
use Rattle.node_trees.specs.Paths.{is_among, root_at}
use Rattle.node_trees.specs.Ids.{has_id, first_with_id}
use Rattle.node_trees.specs.Spots.{facts_at, attribute_at, parent_at, children_at, or_no_spot}
use Rattle.tree_laws.proofs.Changed.{spot-with-other}
use Rattle.tree_laws.proofs.ChangedReads.{read-with, parent_at-with, children_at-with}
use Rattle.tree_laws.proofs.Connected.{connected-with}
use Rattle.tree_laws.proofs.OtherFacts.{order_of-with}
use Rattle.form_controls.specs.Kinds.{native_at, is_a}
use Rattle.form_controls.specs.Owners.{Forms, ancestors, where_form, named_form}
use Rattle.form_controls.specs.Disabled.{has_disabled, first_legend, is_inside, disables, is_in_disabled_group}
use Rattle.above_reading.specs.Locality.{IsAsideOfAttribute, IsUnchanged}
use Rattle.above_reading.proofs.Ancestors.{ancestor-order}
use Rattle.above_reading.proofs.SameReads.{ReadsSame, is_a-same, unchanged}
use Rattle.above_reading.proofs.WithFacts.{above-with, root-with}
use Rattle.above_reading.proofs.Tests.{find-same}

-- a change of n's facts that leaves its local name and its kind
module _ (f : Trees) (n : ℕ) (c : Facts → Facts) (local : (x : Facts) → (c x).local ≡ x.local) (kind : (x : Facts) → (c x).kind ≡ x.kind) where
  abbrev g : Trees
  g = with_facts n c f

  natives : (i : ℕ) → native_at g i ≡ native_at f i
  natives = read-with n c f Native (λ s. native s.facts.local) (λ s. ap native (local s.facts))

  is-a : (element : Native) (i : ℕ) → is_a element g i ≡ is_a element f i
  is-a = is_a-same f g natives

  facts-other : (i : ℕ) → i ≢ n → facts_at g i ≡ facts_at f i
  facts-other i ne = ap (λ o. (or_no_spot o).facts) (spot-with-other n c None None i f ne)

  disabled-other : (i : ℕ) → i ≢ n → has_disabled g i ≡ has_disabled f i
  disabled-other i ne = ap (λ (x : Facts). is_some (value_in x.attributes (codes "disabled"))) (facts-other i ne)

  legend-with : (i : ℕ) → first_legend g i ≡ first_legend f i
  legend-with i =
      find-same (is_a Legend g) (is_a Legend f) (children_at g i) (λ j _. is-a Legend j) ∙ ap (find (is_a Legend f)) (children_at-with n c f i)

  where-with : (o : Option ℕ) → where_form g o ≡ where_form f o
  where-with None = refl
  where-with (Some i) = ap (λ b. cond b (Some i) None) (is-a Form i)

  module _ (m : ℕ) (tidy : IsTidy f) (is_n : IsNode f n) (is_m : IsNode f m) (aside : IsAsideOfAttribute f g n m) where
    attributes : (name : List ℕ) → attribute_at g m name ≡ attribute_at f m name
    attributes name = ap (λ (x : Facts). value_in x.attributes name) (facts-other m aside.other)

    above-same : ancestors g m ≡ ancestors f m
    above-same = above-with n c [] m f

    -- the group of an option

    group-at : (o : Option ℕ) → parent_at g m ≡ o → is_in_disabled_group g o ≡ is_in_disabled_group f o
    group-at None e = refl
    group-at (Some i) e = ap (λ b. b && has_disabled g i) (is-a Optgroup i) ∙ elim (cases_eq i n) [
      | inl at ↦ at-n (is_a Optgroup g n) refl at
      | inr ne ↦ ap (λ b. is_a Optgroup f i && b) (disabled-other i ne)
    ]
      where
        at-n : (b : Bool) → is_a Optgroup g n ≡ b → i ≡ n → (is_a Optgroup f i && has_disabled g i) ≡ (is_a Optgroup f i && has_disabled f i)
        at-n true is at = subst (λ v. (is_a Optgroup f v && has_disabled g v) ≡ (is_a Optgroup f v && has_disabled f v)) (sym at)
            (ap (λ b. is_a Optgroup f n && b) (aside.optgroup is (e ∙ ap Some at)))
        at-n false is at = subst (λ v. (is_a Optgroup f v && has_disabled g v) ≡ (is_a Optgroup f v && has_disabled f v)) (sym at)
            (let no : is_a Optgroup f n ≡ false = sym (is-a Optgroup n) ∙ is in ap (λ b. b && has_disabled g n) no ∙ sym (ap (λ b. b && has_disabled f n) no))

    -- the form that an ID names

    module _ (id : List ℕ) (names : attribute_at g m (codes "form") ≡ Some id) where
      id-same : (i : ℕ) → has_id id (facts_at g i) ≡ has_id id (facts_at f i)
      id-same i = elim (cases_eq i n) [
        | inl e ↦ subst (λ v. has_id id (facts_at g v) ≡ has_id id (facts_at f v)) (sym e) (aside.unnamed id names)
        | inr ne ↦ ap (has_id id) (facts-other i ne)
      ]

      first-same : first_with_id g (root_at g m) id ≡ first_with_id f (root_at f m) id
      first-same =
          ap (λ r. first_with_id g r id) (root-with f n c m)
          ∙ find-same (λ i. has_id id (facts_at g i)) (λ i. has_id id (facts_at f i)) (tree_order_of g (root_at f m)) (λ i _. id-same i)
          ∙ ap (find (λ i. has_id id (facts_at f i))) (order_of-with n c (root_at f m) f)

      named-same : named_form g m id ≡ named_form f m id
      named-same = ap (where_form g) first-same ∙ where-with (first_with_id f (root_at f m) id)

    -- whether a fieldset above it disables it

    inside-same : (o : Option ℕ) → is_inside g m o ≡ is_inside f m o
    inside-same None = refl
    inside-same (Some i) = ap (is_among i) above-same

    with-state : (i : ℕ) → has_disabled g i ≡ has_disabled f i → disables g m i ≡ disables f m i
    with-state i e =
        ap (λ b. b && has_disabled g i && not (is_inside g m (first_legend g i))) (is-a Fieldset i)
        ∙ ap (λ b. is_a Fieldset f i && b && not (is_inside g m (first_legend g i))) e
        ∙ ap (λ b. is_a Fieldset f i && has_disabled f i && not b) (ap (is_inside g m) (legend-with i) ∙ inside-same (first_legend f i))

    at-n : is_among n (ancestors f m) ≡ true → (b : Bool) → is_a Fieldset g n ≡ b → disables g m n ≡ disables f m n
    at-n h true is =
        let below : is_among m (tree_order_of g n) ≡ true = ap (is_among m) (order_of-with n c n f) ∙ ancestor-order f n m tidy h in
        with-state n (aside.fieldset is below)
    at-n h false is =
        ap (λ b. b && has_disabled g n && not (is_inside g m (first_legend g n))) is
        ∙ sym (ap (λ b. b && has_disabled f n && not (is_inside f m (first_legend f n))) (sym (is-a Fieldset n) ∙ is))

    disabling-same : (i : ℕ) → is_among i (ancestors f m) ≡ true → disables g m i ≡ disables f m i
    disabling-same i h = elim (cases_eq i n) [
      | inl e ↦ subst (λ v. disables g m v ≡ disables f m v) (sym e) (at-n (subst (λ v. is_among v (ancestors f m) ≡ true) e h) (is_a Fieldset g n) refl)
      | inr ne ↦ with-state i (disabled-other i ne)
    ]

    attribute-reads : ReadsSame f g m
    attribute-reads = record {
      native = natives;
      attribute = attributes;
      group = group-at (parent_at g m) refl ∙ ap (is_in_disabled_group f) (parent_at-with n c f m);
      above = above-same;
      joined = connected-with n c f kind m;
      named = named-same;
      disabling = disabling-same;
    }

pub unchanged-with : (f : Forms) (n : ℕ) (c : Facts → Facts) → ((x : Facts) → (c x).local ≡ x.local) → ((x : Facts) → (c x).kind ≡ x.kind) → IsTidy f.forest
    → IsElement f.forest n
    → (m : ℕ) → IsNode f.forest m → IsAsideOfAttribute f.forest (with_facts n c f.forest) n m → IsUnchanged f (record f { forest = with_facts n c f.forest }) m
unchanged-with f n c local kind tidy is_n m is_m aside =
    unchanged f (with_facts n c f.forest) m (attribute-reads f.forest n c local kind m tidy is_n.node is_m aside)
