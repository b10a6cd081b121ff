-- Who is not among the candidates of an attribute, or of a definition, has the form owner and the disabled state that it had.
use Rattle.std.proofs.Common.{◌≡◌, ℕ, ◌+◌, ◌-◌, Bool, true, false, cond, ◌==◌, List, [], Option, Some, None, refl, sym, ap, ◌∙◌, subst, arith, inl, inr}
use Rattle.std.specs.Prelude.{not, ◌&&◌, ◌||◌, bytes_eq, codes}
use Rattle.std.specs.Bool.{beq}
use Rattle.std.specs.Option.{option_eq}
use Rattle.std.proofs.lemmas.Bool.{or_parts}
use Rattle.std.proofs.lemmas.Bool.Decides.{nat_tests}
use Rattle.std.proofs.lemmas.Slice.Eq.{bytes_eq-Decides}
use Rattle.element_names.specs.declared.natives.Native.{Native}
use Rattle.element_names.specs.declared.natives.Native.TheVariants.{Form, Fieldset, Legend, Button, Input, Select, Optgroup, OptionItem, Textarea, Datalist}
use Rattle.element_names.specs.declared.natives.Native.TheVariants.{Other}
use Rattle.element_names.specs.Natives.{same_native}
use Rattle.node_trees.specs.Facts.{Facts, is_element, value_in, with_value, without_value}
use Rattle.node_trees.specs.Ids.{has_id, is_id}
use Rattle.node_trees.specs.Trees.{Trees}
use Rattle.node_trees.specs.Nodes.{IsNode, IsTidy}
use Rattle.node_trees.specs.Orders.{tree_order_of}
use Rattle.node_trees.specs.Paths.{is_among}
use Rattle.node_trees.specs.Spots.{attribute_at, children_at, facts_at, kind_at, parent_at}
use Rattle.tree_laws.proofs.ChangedReads.{kind_at-with, read-with}
use Rattle.tree_laws.proofs.Parents.{parent-child}
use Rattle.form_controls.specs.Changes.{differs}
use Rattle.form_controls.specs.Disabled.{has_disabled}
use Rattle.form_controls.specs.Kinds.{is_a, native_at}
use Rattle.form_controls.specs.Owners.{Forms}
use Rattle.form_controls.proofs.Differ.{states_alike}
use Rattle.ordered_tables.specs.Held.{is_held}
use Rattle.above_reading.specs.Locality.{IsAsideOfAttribute, IsUnchanged}
use Rattle.above_reading.proofs.Attributes.{unchanged-with}
use Rattle.above_reading.proofs.SameReads.{unchanged-marked}
use Rattle.tree_laws.proofs.Sizes.{node-still}
use Rattle.owner_rows.specs.OwnerRow.{Seen, row_of}
use Rattle.owner_rows.specs.Attributes.{seen_at}
use Rattle.form_owner.specs.Candidates.{Considers, Covers, is_concerned, is_named_by, is_of_change, is_of_group, is_of_ids}
use Rattle.form_owner.specs.OwnerRows.{OwnerRows}
use Rattle.form_owner.specs.Stands.{Stands}
use Rattle.form_owner.specs.Touches.{IsChanged, IsDefined, with_associated}
use Rattle.form_owner.proofs.Covering.{flag, left-out}
use Rattle.form_owner.proofs.Naming.{has-other}
use Rattle.form_owner.proofs.Touched.{among-with}
use Rattle.form_owner.proofs.Touching.{facts-changed}
use Rattle.form_owner.proofs.Unchanged.{no-change, unconcerned}

same-option : (a b : Option (List ℕ)) → option_eq bytes_eq a b ≡ true → a ≡ b
same-option None None e = refl
same-option None (Some y) e = absurd cc
same-option (Some x) None e = absurd cc
same-option (Some x) (Some y) e = ap Some ((bytes_eq-Decides x y).0 e)

no-fieldset : (x : Native) → same_native Optgroup x ≡ true → same_native Fieldset x ≡ false
no-fieldset Form e = absurd cc
no-fieldset Fieldset e = absurd cc
no-fieldset Legend e = absurd cc
no-fieldset Button e = absurd cc
no-fieldset Input e = absurd cc
no-fieldset Select e = absurd cc
no-fieldset Optgroup e = refl
no-fieldset OptionItem e = absurd cc
no-fieldset Textarea e = absurd cc
no-fieldset Datalist e = absurd cc
no-fieldset Other e = absurd cc

-- what an attribute leaves of each node
pub record KeepsKind (old new : Trees) : Type 0 where
  pub local : (i : ℕ) → (facts_at new i).local ≡ (facts_at old i).local
  pub kind : (i : ℕ) → kind_at new i ≡ kind_at old i

keeps-kind : (n : ℕ) (old new : Trees) → IsChanged n old new → KeepsKind old new
keeps-kind n old new t = elim t.is [
  | inl set ↦ subst (KeepsKind old) (sym set.1) (record {
    local = read-with n (λ x. record x { attributes = with_value t.name set.0 x.attributes }) old (List ℕ) (λ s. s.facts.local) (λ s. refl);
    kind = kind_at-with n (λ x. record x { attributes = with_value t.name set.0 x.attributes }) old (λ x. refl);
  })
  | inr gone ↦ subst (KeepsKind old) (sym gone) (record {
    local = read-with n (λ x. record x { attributes = without_value t.name x.attributes }) old (List ℕ) (λ s. s.facts.local) (λ s. refl);
    kind = kind_at-with n (λ x. record x { attributes = without_value t.name x.attributes }) old (λ x. refl);
  })
]

unchanged-beside : (before : Forms) (now : Trees) (n : ℕ) (t : IsChanged n before.forest now) (m : ℕ) → IsNode before.forest m
    → IsAsideOfAttribute before.forest now n m → IsUnchanged before (record { forest = now; associated = before.associated }) m
unchanged-beside before now n t m node aside = elim t.is [
  | inl set ↦ subst (λ f. IsAsideOfAttribute before.forest f n m → IsUnchanged before (record { forest = f; associated = before.associated }) m) (sym set.1)
      (unchanged-with before n (λ x. record x { attributes = with_value t.name set.0 x.attributes }) (λ x. refl) (λ x. refl) t.tidy t.element m node) aside
  | inr gone ↦ subst (λ f. IsAsideOfAttribute before.forest f n m → IsUnchanged before (record { forest = f; associated = before.associated }) m) (sym gone)
      (unchanged-with before n (λ x. record x { attributes = without_value t.name x.attributes }) (λ x. refl) (λ x. refl) t.tidy t.element m node) aside
]

module _ (table : OwnerRows) (before : Forms) (stands : Stands table before) (now : Trees) (tidy : IsTidy now) (n : ℕ) (t : IsChanged n before.forest now) where
  abbrev changed : Forms
  changed = record { forest = now; associated = before.associated }

  seen : (row_of table.rows n).seen ≡ seen_at before.forest n
  seen = let low = t.element.node.low in let same : (n - 1) + 1 ≡ n = omega arith in stands.seen (n - 1) ∙ ap (seen_at before.forest) same

  module _ (m : ℕ) (node : IsNode now m) (fails : is_of_change now table.rows (is_held table.named) n m ≡ false) where
    parts : ((n == m) ≡ false) × ((is_of_ids (is_held table.named) (row_of table.rows n).seen.id (attribute_at now n (codes "id")) m
        || (not (beq (row_of table.rows n).seen.disabled (has_disabled now n)) && is_of_group now n m)) ≡ false)
    parts = or_parts (n == m) (is_of_ids (is_held table.named) (row_of table.rows n).seen.id (attribute_at now n (codes "id")) m
        || (not (beq (row_of table.rows n).seen.disabled (has_disabled now n)) && is_of_group now n m)) fails

    rest : (is_of_ids (is_held table.named) (row_of table.rows n).seen.id (attribute_at now n (codes "id")) m ≡ false)
        × ((not (beq (row_of table.rows n).seen.disabled (has_disabled now n)) && is_of_group now n m) ≡ false)
    rest = or_parts (is_of_ids (is_held table.named) (row_of table.rows n).seen.id (attribute_at now n (codes "id")) m)
        (not (beq (row_of table.rows n).seen.disabled (has_disabled now n)) && is_of_group now n m) parts.1

    form_stays : attribute_at now m (codes "form") ≡ attribute_at before.forest m (codes "form")
    form_stays = ap (λ (x : Facts). value_in x.attributes (codes "form")) (facts-changed n before.forest now t m parts.0)

    -- an ID that came or went isn't that which m names
    unnamed : (id : List ℕ) → attribute_at now m (codes "form") ≡ Some id → has_id id (facts_at now n) ≡ has_id id (facts_at before.forest n)
    unnamed id is = by_test (option_eq bytes_eq (row_of table.rows n).seen.id (attribute_at now n (codes "id"))) refl
      where
        was : (row_of table.rows n).seen.id ≡ attribute_at before.forest n (codes "id")
        was = ap (λ (s : Seen). s.id) seen

        by_test : (b : Bool) → option_eq bytes_eq (row_of table.rows n).seen.id (attribute_at now n (codes "id")) ≡ b
            → has_id id (facts_at now n) ≡ has_id id (facts_at before.forest n)
        by_test true e =
            ap (λ k. is_element k && is_id id (attribute_at now n (codes "id"))) ((keeps-kind n before.forest now t).kind n)
            ∙ ap (λ o. is_element (kind_at before.forest n) && is_id id o) (sym (same-option (row_of table.rows n).seen.id (attribute_at now n (codes "id")) e)
            ∙ was)
        by_test false e =
            let none = or_parts (is_named_by (is_held table.named) (row_of table.rows n).seen.id m)
            (is_named_by (is_held table.named) (attribute_at now n (codes "id")) m)
            (sym (ap (λ b. not b && (is_named_by (is_held table.named) (row_of table.rows n).seen.id m || is_named_by (is_held table.named)
            (attribute_at now n (codes "id")) m)) e) ∙ rest.0) in
            has-other before.forest (is_held table.named) stands.named now m form_stays (attribute_at now n (codes "id")) none.1 id is (facts_at now n) refl
            ∙ sym (has-other before.forest (is_held table.named) stands.named now m form_stays (row_of table.rows n).seen.id none.0 id is
            (facts_at before.forest n) (sym was))

    -- a group that m is in has `disabled` as before
    same_state : is_of_group now n m ≡ true → has_disabled now n ≡ has_disabled before.forest n
    same_state within =
        sym (states_alike (row_of table.rows n).seen.disabled (has_disabled now n)
        (not-false (beq (row_of table.rows n).seen.disabled (has_disabled now n)) (is_of_group now n m) within rest.1))
        ∙ ap (λ (s : Seen). s.disabled) seen
      where
        not-false : (a b : Bool) → b ≡ true → (not a && b) ≡ false → a ≡ true
        not-false true b is e = refl
        not-false false true is e = absurd cc
        not-false false false is e = absurd cc

    in-group : is_a Optgroup now n ≡ true → parent_at now m ≡ Some n → is_of_group now n m ≡ true
    in-group optgroup up =
        ap (λ b. cond b (is_among m (tree_order_of now n)) (is_a Optgroup now n && is_among m (children_at now n))) (no-fieldset (native_at now n) optgroup)
        ∙ ap (λ b. b && is_among m (children_at now n)) optgroup
        ∙ parent-child now tidy m n up

    aside : IsAsideOfAttribute before.forest now n m
    aside = record {
      other = λ same. absurd (let it = parts.0 in let e : n ≡ m = sym same in grind (arith, nat_tests, it, e));
      unnamed = unnamed;
      fieldset = λ fieldset among. same_state
          (ap (λ b. cond b (is_among m (tree_order_of now n)) (is_a Optgroup now n && is_among m (children_at now n))) fieldset ∙ among);
      optgroup = λ optgroup up. same_state (in-group optgroup up);
    }

  pub covers-changed : (set : List ℕ) → Considers now (is_concerned now table.rows) (is_of_change now table.rows (is_held table.named) n) [] set
      → Covers set before changed
  covers-changed set all m node out = by_test (is_concerned now table.rows m) refl
    where
      by_test : (b : Bool) → is_concerned now table.rows m ≡ b → differs before changed m ≡ false
      by_test true is = no-change before changed m
          (unchanged-beside before now n t m (node-still before.forest now t.size_is m node) (aside m node (left-out all m node out is)))
      by_test false is =
          let of_row = flag table before stands now m node in
          no-change before changed m
          (unconcerned before changed m (row_of table.rows m).associated ((keeps-kind n before.forest now t).local m) of_row of_row is)

-- the definition of an element

pub covers-marked : (before : Forms) (now : Trees) (n : ℕ) (on : Bool) → IsDefined n before.forest now → (set : List ℕ)
    → Considers now (λ m. true) (λ m. n == m) [] set → Covers set before (record { forest = now; associated = with_associated n on before.associated })
covers-marked before now n on t set all m node out =
    no-change before (record { forest = now; associated = with_associated n on before.associated }) m
    (subst (λ f. IsUnchanged before (record { forest = f; associated = with_associated n on before.associated }) m) (sym t.is)
    (unchanged-marked before (with_associated n on before.associated) m same))
  where
    apart : (n == m) ≡ false
    apart = left-out all m node out refl

    same : is_among m (with_associated n on before.associated) ≡ is_among m before.associated
    same = among-with n m on before.associated ∙ ap (λ b. cond b on (is_among m before.associated)) apart
