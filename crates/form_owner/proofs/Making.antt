-- Rows that stand for the trees stand for them still where a node is made, and where a node document is set.
use Rattle.std.proofs.Common.{◌≡◌, ◌≢◌, ℕ, ◌+◌, ◌⊎◌, Bool, true, false, cond, List, [], ◌∷◌, ◌++◌, Option, Some, None, refl, sym, ap, ◌∙◌, subst, arith, inl}
use Rattle.std.proofs.Common.{inr, ◌≤◌}
use Rattle.std.specs.Prelude.{not, ◌&&◌, ◌||◌, ◌==◌, codes, filter, find, is_some}
use Rattle.std.specs.List.{list_any}
use Rattle.std.proofs.lemmas.Bool.{cases_eq, cases_lt, eq-eqb}
use Rattle.std.proofs.lemmas.Bool.Decides.{nat_tests}
use Rattle.std.specs.Option.{option_or}
use Rattle.element_names.specs.declared.natives.Native.{Native}
use Rattle.element_names.specs.declared.natives.Native.TheVariants.{Fieldset, Form, Legend, Optgroup, OptionItem}
use Rattle.element_names.specs.Natives.{native, same_native}
use Rattle.node_trees.specs.Facts.{Facts, is_element, value_in}
use Rattle.node_trees.specs.Trees.{Trees, none, tree, join, single, with_node, with_shadow, with_document, roots, is_number}
use Rattle.node_trees.specs.Nodes.{times, size, IsNode, IsTidy}
use Rattle.node_trees.specs.Spots.{Spot, spot_in, or_no_spot, facts_at, parent_at, children_at, attribute_at}
use Rattle.node_trees.specs.Paths.{is_among, root_at, connected}
use Rattle.node_trees.specs.Orders.{tree_order_of}
use Rattle.node_trees.specs.Ids.{has_id, is_id, first_with_id}
use Rattle.node_trees.proofs.Absent.{is_among-append, spot-absent}
use Rattle.node_trees.proofs.Weights.{weight-join, weight-shadow}
use Rattle.tree_laws.proofs.Sums.{tidy-apart}
use Rattle.tree_laws.proofs.Rooted.{root_is_node}
use Rattle.tree_laws.specs.Alike.{AreAlike}
use Rattle.tree_laws.proofs.Alike.{attribute-alike, root-alike, named-alike, connected-alike}
use Rattle.tree_laws.proofs.NewNode.{alike_new, alike_hung}
use Rattle.tree_laws.proofs.OtherFacts.{alike_facts}
use Rattle.tree_laws.proofs.Changed.{size-with}
use Rattle.tree_laws.proofs.Parents.{number-is}
use Rattle.tree_laws.proofs.Sizes.{new-absent}
use Rattle.ordered_tables.specs.Held.{is_known}
use Rattle.form_controls.specs.Kinds.{native_at, is_a}
use Rattle.form_controls.specs.Owners.{Forms, is_associated, is_listed_native, owner_by, form_owner, where_form, named_form, nearest_form, ancestors_below}
use Rattle.form_controls.specs.Owners.{ancestors, is_owned_by, controls_of}
use Rattle.form_controls.specs.Disabled.{has_disabled, first_legend, is_inside, disables, is_in_disabled_fieldset, is_in_disabled_group, is_option_disabled}
use Rattle.form_controls.specs.Disabled.{is_disabled}
use Rattle.above_reading.proofs.Tests.{filter-none}
use Rattle.above_reading.proofs.WithFacts.{above-with}
use Rattle.owner_rows.specs.OwnerRow.{Seen, row_of}
use Rattle.form_owner.specs.OwnerRows.{OwnerRows}
use Rattle.form_owner.specs.Attributes.{is_text}
use Rattle.form_owner.specs.Candidates.{is_concerned}
use Rattle.form_owner.specs.Looks.{look_at}
use Rattle.owner_reading.specs.Owners.{listed_by, owner_with}
use Rattle.above_reading.specs.Disabled.{disabled_with}
use Rattle.form_owner.specs.Stands.{Stands}
use Rattle.form_controls.proofs.Ancestors.{above-absent}
use Rattle.owner_reading.proofs.Ancestors.{ancestors-up}
use Rattle.form_owner.proofs.Nodes.{absent, found-passes, not-a-form, not-listed, no-owner, not-disabled, no-controls, owner-form}
use Rattle.form_owner.proofs.Rows.{filter-members}
use Rattle.form_owner.proofs.Looking.{right-still}

-- what is above a node, and its children, are nodes

above-free : (n : ℕ) (above : List ℕ) (i : ℕ) (f : Trees) → is_among n above ≡ false → times n f ≡ 0 → is_among n (ancestors_below above i f) ≡ false
above-free n above i none out z = refl
above-free n above i (tree m x s k r) out z =
    by_test (m == i) (above-free n [] i s refl (omega arith)) (above-free n (m ∷ above) i k (grind (arith, nat_tests)) (omega arith))
    (above-free n above i r out (omega arith))
  where
    by_test : (b : Bool) → is_among n (ancestors_below [] i s) ≡ false → is_among n (ancestors_below (m ∷ above) i k) ≡ false
        → is_among n (ancestors_below above i r) ≡ false →
        is_among n (cond b above ((ancestors_below [] i s ++ ancestors_below (m ∷ above) i k) ++ ancestors_below above i r)) ≡ false
    by_test true in_s in_k in_r = out
    by_test false in_s in_k in_r =
        is_among-append n (ancestors_below [] i s ++ ancestors_below (m ∷ above) i k) (ancestors_below above i r)
        ∙ ap (λ b. b || is_among n (ancestors_below above i r)) (is_among-append n (ancestors_below [] i s) (ancestors_below (m ∷ above) i k)
        ∙ ap (λ b. b || is_among n (ancestors_below (m ∷ above) i k)) in_s ∙ in_k)
        ∙ in_r

roots-free : (n : ℕ) (f : Trees) → times n f ≡ 0 → is_among n (roots f) ≡ false
roots-free n none z = refl
roots-free n (tree m x s k r) z = let more = roots-free n r (omega arith) in grind (arith, nat_tests, more)

-- n is none of the children of what stands there
abbrev lacks : ℕ → Option Spot → Bool
lacks n None = true
lacks n (Some s) = not (is_among n s.children)

lacks-or : (n : ℕ) (a b : Option Spot) → lacks n a ≡ true → lacks n b ≡ true → lacks n (option_or a b) ≡ true
lacks-or n None b x y = y
lacks-or n (Some s) b x y = x

spot-free : (n : ℕ) (p h : Option ℕ) (i : ℕ) (f : Trees) → times n f ≡ 0 → lacks n (spot_in p h i f) ≡ true
spot-free n p h i none z = refl
spot-free n p h i (tree m x s k r) z =
    grind (
      arith,
      nat_tests,
      roots-free n k (omega arith),
      lacks-or n (spot_in None (Some m) i s) (option_or (spot_in (Some m) None i k) (spot_in p h i r)) (spot-free n None (Some m) i s (omega arith))
          (lacks-or n (spot_in (Some m) None i k) (spot_in p h i r) (spot-free n (Some m) None i k (omega arith)) (spot-free n p h i r (omega arith))),
    )

children-free : (n i : ℕ) (f : Trees) → times n f ≡ 0 → is_among n (children_at f i) ≡ false
children-free n i f z = by_spot (spot_in None None i f) (spot-free n None None i f z)
  where
    by_spot : (o : Option Spot) → lacks n o ≡ true → is_among n (or_no_spot o).children ≡ false
    by_spot None e = refl
    by_spot (Some s) e = by_test (is_among n s.children) e
      where
        by_test : (b : Bool) → not b ≡ true → b ≡ false
        by_test true e = cc
        by_test false e = refl

-- tests that differ at n alone

module _ (n : ℕ) (p q : ℕ → Bool) (same : (m : ℕ) → m ≢ n → p m ≡ q m) where
  find-free : (xs : List ℕ) → is_among n xs ≡ false → find p xs ≡ find q xs
  find-free [] out = refl
  find-free (x ∷ xs) out =
      let ne : x ≢ n = λ e. (let yes = eq-eqb x n e in grind (arith, nat_tests)) in
      ap (λ b. cond b (Some x) (find p xs)) (same x ne) ∙ ap (λ v. cond (q x) (Some x) v) (find-free xs (grind (arith, nat_tests)))

  any-free : (xs : List ℕ) → is_among n xs ≡ false → list_any p xs ≡ list_any q xs
  any-free [] out = refl
  any-free (x ∷ xs) out =
      let ne : x ≢ n = λ e. (let yes = eq-eqb x n e in grind (arith, nat_tests)) in
      ap (λ b. b || list_any p xs) (same x ne) ∙ ap (λ v. q x || v) (any-free xs (grind (arith, nat_tests)))

-- nothing is above a lone node, and it is above nobody

ancestors-beside : (i n : ℕ) (x : Facts) (f : Trees) → ancestors (join f (single n x)) i ≡ ancestors f i
ancestors-beside i n x none = lone
  where
    lone : ancestors_below [] i (single n x) ≡ []
    lone = grind (arith, nat_tests)
ancestors-beside i n x (tree m y s k r) = let more = ancestors-beside i n x r in grind (arith, nat_tests, more)

ancestors-hung : (above : List ℕ) (i n q : ℕ) (x : Facts) (f : Trees) → ancestors_below above i (with_shadow q (single n x) f) ≡ ancestors_below above i f
ancestors-hung above i n q x none = refl
ancestors-hung above i n q x (tree m y s k r) =
    grind (arith, nat_tests, ancestors-hung [] i n q x s, ancestors-hung (m ∷ above) i n q x k, ancestors-hung above i n q x r, ancestors-beside i n x s)

module _ (f made : Trees) (tidy : IsTidy f) (n : ℕ) (alike : AreAlike n f made) (above_is : (i : ℕ) → ancestors made i ≡ ancestors f i) where
  outside : IsNode f n → ⊥
  outside node = omega (arith, tidy.once n node, alike.free)

  native-made : (i : ℕ) → i ≢ n → native_at made i ≡ native_at f i
  native-made i ne = ap native (alike.local i ne)

  is_a-made : (element : Native) (i : ℕ) → i ≢ n → is_a element made i ≡ is_a element f i
  is_a-made element i ne = ap (same_native element) (native-made i ne)

  has_disabled-made : (i : ℕ) → has_disabled made i ≡ has_disabled f i
  has_disabled-made i = ap (λ (o : Option (List ℕ)). is_some o) (attribute-alike n f made alike i (codes "disabled"))

  -- form owners

  nearest-made : (i : ℕ) → nearest_form made i ≡ nearest_form f i
  nearest-made i = ap (find (is_a Form made)) (above_is i)
      ∙ find-free n (is_a Form made) (is_a Form f) (is_a-made Form) (ancestors f i) (above-free n [] i f refl alike.free)

  where-made : (o : Option ℕ) → ((k : ℕ) → o ≡ Some k → k ≢ n) → where_form made o ≡ where_form f o
  where-made None ne = refl
  where-made (Some k) ne = ap (λ b. cond b (Some k) None) (is_a-made Form k (ne k refl))

  named-made : (i : ℕ) (id : List ℕ) → IsNode f i → named_form made i id ≡ named_form f i id
  named-made i id node =
      ap (λ r. where_form made (first_with_id made r id)) (root-alike n f made alike i (other i node))
      ∙ ap (where_form made) (named-alike n f made alike id (root_at f i) (other (root_at f i) (root_is_node f i tidy node)))
      ∙ where-made (first_with_id f (root_at f i) id) found
    where
      other : (k : ℕ) → IsNode f k → k ≢ n
      other k node e = outside (subst (IsNode f) e node)

      found : (k : ℕ) → first_with_id f (root_at f i) id ≡ Some k → k ≢ n
      found k e same =
          let yes : has_id id (facts_at f k) ≡ true = found-passes (λ m. has_id id (facts_at f m)) (tree_order_of f (root_at f i)) k e in
          let no_node : has_id id (facts_at f n) ≡ false = ap (has_id id) (absent f n tidy outside) in
          let here : has_id id (facts_at f n) ≡ true = subst (λ v. has_id id (facts_at f v) ≡ true) same yes in
          cc

  owner_by-made : (i : ℕ) (o : Option (List ℕ)) → IsNode f i → i ≢ n → owner_by made i o ≡ owner_by f i o
  owner_by-made i None node ne = nearest-made i
  owner_by-made i (Some id) node ne =
      ap (λ b. cond b (named_form made i id) (nearest_form made i)) (connected-alike n f made alike i ne)
      ∙ ap (λ v. cond (connected f i) v (nearest_form made i)) (named-made i id node)
      ∙ ap (λ v. cond (connected f i) (named_form f i id) v) (nearest-made i)

  listed-made : (i : ℕ) (a : Bool) → i ≢ n → listed_by made i a ≡ listed_by f i a
  listed-made i a ne = ap (λ e. is_listed_native e || a) (native-made i ne)

  owner-made : (i : ℕ) (a : Bool) → IsNode f i → i ≢ n → owner_with made i a ≡ owner_with f i a
  owner-made i a node ne =
      ap (λ b. cond b (owner_by made i (attribute_at made i (codes "form"))) None) (listed-made i a ne)
      ∙ ap (λ o. cond (listed_by f i a) (owner_by made i o) None) (attribute-alike n f made alike i (codes "form"))
      ∙ ap (λ v. cond (listed_by f i a) v None) (owner_by-made i (attribute_at f i (codes "form")) node ne)

  -- disabled states

  legend-made : (i : ℕ) → first_legend made i ≡ first_legend f i
  legend-made i = ap (find (is_a Legend made)) (alike.children i)
      ∙ find-free n (is_a Legend made) (is_a Legend f) (is_a-made Legend) (children_at f i) (children-free n i f alike.free)

  inside-made : (i : ℕ) (o : Option ℕ) → is_inside made i o ≡ is_inside f i o
  inside-made i None = refl
  inside-made i (Some a) = ap (is_among a) (above_is i)

  disables-made : (i a : ℕ) → a ≢ n → disables made i a ≡ disables f i a
  disables-made i a ne =
      ap (λ b. b && has_disabled made a && not (is_inside made i (first_legend made a))) (is_a-made Fieldset a ne)
      ∙ ap (λ b. is_a Fieldset f a && b && not (is_inside made i (first_legend made a))) (has_disabled-made a)
      ∙ ap (λ o. is_a Fieldset f a && has_disabled f a && not (is_inside made i o)) (legend-made a)
      ∙ ap (λ b. is_a Fieldset f a && has_disabled f a && not b) (inside-made i (first_legend f a))

  in_fieldset-made : (i : ℕ) → is_in_disabled_fieldset made i ≡ is_in_disabled_fieldset f i
  in_fieldset-made i = ap (list_any (disables made i)) (above_is i)
      ∙ any-free n (disables made i) (disables f i) (disables-made i) (ancestors f i) (above-free n [] i f refl alike.free)

  group-made : (o : Option ℕ) → ((k : ℕ) → o ≡ Some k → k ≢ n) → is_in_disabled_group made o ≡ is_in_disabled_group f o
  group-made None ne = refl
  group-made (Some k) ne = ap (λ b. b && has_disabled made k) (is_a-made Optgroup k (ne k refl)) ∙ ap (λ b. is_a Optgroup f k && b) (has_disabled-made k)

  parent-node : (i : ℕ) → IsNode f i → (k : ℕ) → parent_at f i ≡ Some k → k ≢ n
  parent-node i node k e same =
      let up = ancestors-up f i tidy node k e in
      let out : is_among n (k ∷ ancestors f k) ≡ false = subst (λ xs. is_among n xs ≡ false) up (above-free n [] i f refl alike.free) in
      let yes = eq-eqb k n same in
      grind (arith, nat_tests)

  option-made : (i : ℕ) → IsNode f i → is_option_disabled made i ≡ is_option_disabled f i
  option-made i node =
      ap (λ b. b || is_in_disabled_group made (parent_at made i)) (has_disabled-made i)
      ∙ ap (λ o. has_disabled f i || is_in_disabled_group made o) (alike.parent i)
      ∙ ap (λ b. has_disabled f i || b) (group-made (parent_at f i) (parent-node i node))

  disabled-made : (i : ℕ) (a : Bool) → IsNode f i → i ≢ n → disabled_with made i a ≡ disabled_with f i a
  disabled-made i a node ne =
      ap (λ b. cond b (is_option_disabled made i)
      ((listed_by made i a && not (is_a Fieldset made i)) && (has_disabled made i || is_in_disabled_fieldset made i))) (is_a-made OptionItem i ne)
      ∙ ap (λ b. cond (is_a OptionItem f i) b ((listed_by made i a && not (is_a Fieldset made i)) && (has_disabled made i || is_in_disabled_fieldset made i)))
      (option-made i node)
      ∙ ap (λ b. cond (is_a OptionItem f i) (is_option_disabled f i)
      ((b && not (is_a Fieldset made i)) && (has_disabled made i || is_in_disabled_fieldset made i))) (listed-made i a ne)
      ∙ ap (λ b. cond (is_a OptionItem f i) (is_option_disabled f i) ((listed_by f i a && not b) && (has_disabled made i || is_in_disabled_fieldset made i)))
      (is_a-made Fieldset i ne)
      ∙ ap (λ b. cond (is_a OptionItem f i) (is_option_disabled f i) ((listed_by f i a && not (is_a Fieldset f i)) && (b || is_in_disabled_fieldset made i)))
      (has_disabled-made i)
      ∙ ap (λ b. cond (is_a OptionItem f i) (is_option_disabled f i) ((listed_by f i a && not (is_a Fieldset f i)) && (has_disabled f i || b)))
      (in_fieldset-made i)

  -- the new node

  no-attribute : (name : List ℕ) → attribute_at made n name ≡ None
  no-attribute name = attribute-alike n f made alike n name ∙ ap (λ (y : Facts). value_in y.attributes name) (absent f n tidy outside)

  nothing-above : ancestors made n ≡ []
  nothing-above = above_is n ∙ above-absent [] n f alike.free

  pub owner-new : (a : Bool) → owner_with made n a ≡ None
  owner-new a =
      ap (λ o. cond (listed_by made n a) (owner_by made n o) None) (no-attribute (codes "form"))
      ∙ by_test (listed_by made n a) (nearest_form made n) (ap (find (is_a Form made)) nothing-above)
    where
      by_test : (b : Bool) (o : Option ℕ) → o ≡ None → cond b o None ≡ None
      by_test true o e = e
      by_test false o e = refl

  pub disabled-new : (a : Bool) → disabled_with made n a ≡ false
  disabled-new a =
      let top : parent_at made n ≡ None = alike.parent n ∙ ap (λ v. (or_no_spot v).parent) (spot-absent None None n f alike.free) in
      ap (λ o. cond (is_a OptionItem made n) (is_some o || is_in_disabled_group made (parent_at made n))
      ((listed_by made n a && not (is_a Fieldset made n)) && (is_some o || is_in_disabled_fieldset made n))) (no-attribute (codes "disabled"))
      ∙ ap (λ o. cond (is_a OptionItem made n) (is_in_disabled_group made o)
      ((listed_by made n a && not (is_a Fieldset made n)) && is_in_disabled_fieldset made n)) top
      ∙ ap (λ xs. cond (is_a OptionItem made n) false ((listed_by made n a && not (is_a Fieldset made n)) && list_any (disables made n) xs)) nothing-above
      ∙ by_test (is_a OptionItem made n) (listed_by made n a && not (is_a Fieldset made n))
    where
      by_test : (b c : Bool) → cond b false (c && false) ≡ false
      by_test true c = refl
      by_test false true = refl
      by_test false false = refl

-- all that a table has

is_node_or_not : (f : Trees) (m : ℕ) → IsNode f m ⊎ (IsNode f m → ⊥)
is_node_or_not f m = elim (cases_lt 0 m) [
  | inl low ↦ elim (cases_lt (size f) m) [
    | inl past ↦ inr (λ node. let high = node.high in omega arith)
    | inr high ↦ inl (record { low = low; high = high })
  ]
  | inr none_low ↦ inr (λ node. let low = node.low in omega arith)
]

module _ (f : Forms) (made : Trees) (tidy : IsTidy f.forest) (knows : (m : ℕ) → is_associated f m ≡ true → IsNode f.forest m) (n : ℕ)
    (alike : AreAlike n f.forest made)
    (above_is : (i : ℕ) → ancestors made i ≡ ancestors f.forest i) where
  abbrev after : Forms
  after = record f { forest = made }

  no_node : IsNode f.forest n → ⊥
  no_node = outside f.forest made tidy n alike above_is

  unlisted-after : (m : ℕ) → (IsNode f.forest m → ⊥) → m ≢ n → listed_by after.forest m (is_associated f m) ≡ false
  unlisted-after m out ne = listed-made f.forest made tidy n alike above_is m (is_associated f m) ne ∙ not-listed f tidy knows m out

  owner-after : (m : ℕ) → form_owner after m ≡ form_owner f m
  owner-after m = elim (cases_eq m n) [
    | inl e ↦ subst (λ v. form_owner after v ≡ form_owner f v) (sym e)
        (owner-new f.forest made tidy n alike above_is (is_associated f n) ∙ sym (no-owner f tidy knows n no_node))
    | inr ne ↦ elim (is_node_or_not f.forest m) [
      | inl node ↦ owner-made f.forest made tidy n alike above_is m (is_associated f m) node ne
      | inr out ↦ ap (λ b. cond b (owner_by after.forest m (attribute_at after.forest m (codes "form"))) None) (unlisted-after m out ne)
          ∙ sym (no-owner f tidy knows m out)
    ]
  ]

  disabled-after : (m : ℕ) → is_disabled after m ≡ is_disabled f m
  disabled-after m = elim (cases_eq m n) [
    | inl e ↦ subst (λ v. is_disabled after v ≡ is_disabled f v) (sym e)
        (disabled-new f.forest made tidy n alike above_is (is_associated f n) ∙ sym (not-disabled f tidy knows n no_node))
    | inr ne ↦ elim (is_node_or_not f.forest m) [
      | inl node ↦ disabled-made f.forest made tidy n alike above_is m (is_associated f m) node ne
      | inr out ↦
          ap (λ b. cond b (is_option_disabled after.forest m)
          ((listed_by after.forest m (is_associated f m) && not (is_a Fieldset after.forest m))
          && (has_disabled after.forest m || is_in_disabled_fieldset after.forest m)))
          (is_a-made f.forest made tidy n alike above_is OptionItem m ne
          ∙ ap (λ (y : Facts). same_native OptionItem (native y.local)) (absent f.forest m tidy out))
          ∙ ap (λ b. (b && not (is_a Fieldset after.forest m)) && (has_disabled after.forest m || is_in_disabled_fieldset after.forest m))
          (unlisted-after m out ne)
          ∙ sym (not-disabled f tidy knows m out)
    ]
  ]

  controls-after : (m : ℕ) → controls_of after m ≡ controls_of f m
  controls-after m = elim (cases_eq m n) [
    | inl e ↦ subst (λ v. controls_of after v ≡ controls_of f v) (sym e) (none-new ∙ sym (no-controls f n (not-a-form f tidy knows n no_node)))
    | inr ne ↦ elim (is_node_or_not f.forest m) [
      | inl node ↦
          let root = root_is_node f.forest m tidy node in
          let other : root_at f.forest m ≢ n = λ e. no_node (subst (IsNode f.forest) e root) in
          ap (λ r. filter (is_owned_by after m) (tree_order_of after.forest r)) (root-alike n f.forest made alike m ne)
          ∙ ap (filter (is_owned_by after m)) (alike.order (root_at f.forest m) other)
          ∙ filter-members (is_owned_by after m) (is_owned_by f m) (tree_order_of f.forest (root_at f.forest m))
          (λ k _. ap (λ o. is_number o m) (owner-after k))
      | inr out ↦ none-outside out ∙ sym (no-controls f m (not-a-form f tidy knows m out))
    ]
  ]
    where
      none-owned : (k : ℕ) → is_a Form f.forest k ≡ false → controls_of after k ≡ []
      none-owned k not_form = filter-none (is_owned_by after k) (tree_order_of after.forest (root_at after.forest k))
          (λ j _. by_test j (is_owned_by after k j) refl)
        where
          by_test : (j : ℕ) (b : Bool) → is_owned_by after k j ≡ b → b ≡ false
          by_test j true e = absurd (let yes = owner-form f j k (sym (owner-after j) ∙ number-is (form_owner after j) k e) in cc)
          by_test j false e = refl

      none-new : controls_of after n ≡ []
      none-new = none-owned n (not-a-form f tidy knows n no_node)

      none-outside : (IsNode f.forest m → ⊥) → controls_of after m ≡ []
      none-outside out = none-owned m (not-a-form f tidy knows m out)

stands_alike : (table : OwnerRows) (f : Forms) (made : Trees) (n : ℕ) → IsTidy f.forest → AreAlike n f.forest made
    → ((i : ℕ) → ancestors made i ≡ ancestors f.forest i) → size f.forest ≤ size made → Stands table f → Stands table (record f { forest = made })
stands_alike table f made n tidy alike above_is more s = record {
  within = omega (arith, s.within, more);
  associated = record {
    flags = s.associated.flags;
    nodes = λ m h. let node = s.associated.nodes m h in
        record { low = node.low; high = omega (arith, node.high, more) };
  };
  owner = λ i. s.owner i ∙ sym (owner-after f made tidy s.associated.nodes n alike above_is (i + 1));
  disabled = λ i. s.disabled i ∙ sym (disabled-after f made tidy s.associated.nodes n alike above_is (i + 1));
  controls = λ i. s.controls i ∙ sym (controls-after f made tidy s.associated.nodes n alike above_is (i + 1));
  seen = λ i. s.seen i ∙ sym (ap seen_in (alike.attributes (i + 1)));
  named = λ id m. s.named id m ∙ sym (ap (λ items. is_text id (value_in items (codes "form"))) (alike.attributes m));
  looks = λ i. right-still f.forest made table.rows table.rows (is_known table.named) (i + 1) node-made (about-made (i + 1)) (has-made (i + 1))
      (attribute-alike n f.forest made alike (i + 1) (codes "id")) (look_at table.looks i) (s.looks i);
}
  where
    node-made : {m : ℕ} → IsNode f.forest m → IsNode made m
    node-made node = record { low = node.low; high = omega (arith, node.high, more) }

    -- forms are about the same
    other : (m : ℕ) → IsNode f.forest m → m ≢ n
    other m node e = outside f.forest made tidy n alike above_is (subst (IsNode f.forest) e node)

    about-made : (m : ℕ) → IsNode f.forest m → is_concerned made table.rows m ≡ is_concerned f.forest table.rows m
    about-made m node =
        ap (λ b. b || is_a OptionItem made m) (listed-made f.forest made tidy n alike above_is m (row_of table.rows m).associated (other m node))
        ∙ ap (λ b. listed_by f.forest m (row_of table.rows m).associated || b) (is_a-made f.forest made tidy n alike above_is OptionItem m (other m node))

    -- and nodes have the same IDs
    has-made : (m : ℕ) → IsNode f.forest m → (id : List ℕ) → has_id id (facts_at made m) ≡ has_id id (facts_at f.forest m)
    has-made m node id =
        ap (λ k. is_element k && is_id id (value_in (facts_at made m).attributes (codes "id"))) (alike.kind m (other m node))
        ∙ ap (λ items. is_element (facts_at f.forest m).kind && is_id id (value_in items (codes "id"))) (alike.attributes m)

    -- what is seen among attributes
    seen_in : List (List ℕ × List ℕ) → Seen
    seen_in items = record { id = value_in items (codes "id"); form = value_in items (codes "form"); disabled = is_some (value_in items (codes "disabled")) }

pub stands_made : (table : OwnerRows) (f : Forms) (x : Facts) → IsTidy f.forest → x.attributes ≡ [] → Stands table f
    → Stands table (record f { forest = with_node (size f.forest + 1) x f.forest })
stands_made table f x tidy bare =
    stands_alike table f (with_node (size f.forest + 1) x f.forest) (size f.forest + 1) tidy
    (alike_new (size f.forest + 1) x f.forest (new-absent f.forest tidy) bare)
    (λ i. ancestors-beside i (size f.forest + 1) x f.forest)
    (omega (arith, weight-join (λ m y. 1) f.forest (single (size f.forest + 1) x)))

pub stands_hung : (table : OwnerRows) (f : Forms) (host : ℕ) (x : Facts) → IsTidy f.forest → x.attributes ≡ [] → Stands table f
    → Stands table (record f { forest = with_shadow host (single (size f.forest + 1) x) f.forest })
stands_hung table f host x tidy bare =
    stands_alike table f (with_shadow host (single (size f.forest + 1) x) f.forest) (size f.forest + 1) tidy
    (alike_hung (size f.forest + 1) x f.forest (new-absent f.forest tidy) host bare)
    (λ i. ancestors-hung [] i (size f.forest + 1) host x f.forest)
    (omega (arith, weight-shadow (λ m y. 1) host (single (size f.forest + 1) x) f.forest (tidy-apart f.forest tidy host)))

pub stands_adopted : (table : OwnerRows) (f : Forms) (n document : ℕ) → IsTidy f.forest → Stands table f
    → Stands table (record f { forest = with_document n document f.forest })
stands_adopted table f n document tidy =
    stands_alike table f (with_document n document f.forest) (size f.forest + 1) tidy
    (alike_facts n (λ x. record x { document = document }) f.forest (size f.forest + 1) (new-absent f.forest tidy) (λ x. refl) (λ x. refl) (λ x. refl))
    (λ i. above-with n (λ x. record x { document = document }) [] i f.forest)
    (omega (arith, size-with n (λ x. record x { document = document }) f.forest))
