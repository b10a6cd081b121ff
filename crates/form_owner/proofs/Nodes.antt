-- What is a node, and what forms are about where there is none.
use Rattle.std.proofs.Common.{◌≡◌, All, ℕ, ◌+◌, ◌-◌, ◌<◌, ◌≤◌, Bool, true, false, cond, List, [], ◌∷◌, Option, Some, None, refl, sym, ap, ◌∙◌, subst, arith}
use Rattle.std.proofs.Common.{inl, inr}
use Rattle.std.specs.Prelude.{filter, find, codes}
use Rattle.std.proofs.lemmas.Bool.{cases_lt, cases_eq}
use Rattle.std.proofs.lemmas.Bool.Decides.{nat_tests}
use Rattle.std.proofs.lemmas.List.Elements.{All-map, All-filter, All-nil, All-cons, All-head, All-tail}
use Rattle.std.proofs.lemmas.List.FromFn.{length-range_with_len, get_or-range_with_len}
use Rattle.element_names.specs.declared.natives.Native.TheVariants.{Form, OptionItem}
use Rattle.node_trees.specs.Trees.{Trees, none, tree, roots}
use Rattle.node_trees.specs.Links.{AreRead}
use Rattle.node_trees.specs.Nodes.{times, size, IsNode, IsNodeOrNone, IsTidy}
use Rattle.node_trees.specs.Orders.{tree_order_of}
use Rattle.node_trees.specs.Paths.{is_among, root_at, connected}
use Rattle.node_trees.specs.Ids.{first_with_id}
use Rattle.node_trees.specs.Spots.{attribute_at, or_no_spot, facts_at}
use Rattle.node_trees.proofs.Absent.{spot-absent}
use Rattle.tree_laws.proofs.InOrder.{member_is_node}
use Rattle.tree_laws.proofs.Members.{all-members}
use Rattle.tree_laws.proofs.Parents.{number-is}
use Rattle.form_controls.specs.declared.change.Change.{Change}
use Rattle.form_controls.specs.Changes.{is_change, numbers}
use Rattle.form_controls.specs.Kinds.{is_a}
use Rattle.form_controls.specs.Owners.{Forms, is_listed, is_associated, owner_by, form_owner, where_form, named_form, nearest_form, ancestors, is_owned_by}
use Rattle.form_controls.specs.Owners.{controls_of}
use Rattle.form_controls.specs.Disabled.{is_disabled}
use Rattle.above_reading.proofs.Tests.{filter-none}
use Rattle.owner_rows.specs.OwnerRow.{OwnerRow}
use Rattle.form_owner.specs.Reading.{change_read, changes_read}

-- the numbers of all nodes are nodes

pub numbers-nodes : (f : Trees) → All (IsNode f) (numbers f)
numbers-nodes f = λ i d lt.
    let less : i < size f = omega (arith, lt, length-range_with_len 1 (size f)) in
    subst (IsNode f) (sym (get_or-range_with_len 1 (size f) i d less)) (record { low = omega arith; high = omega arith })

-- so those of changes have their rows
pub changes-placed : (f : Trees) (rows : List OwnerRow) (count : ℕ) (cs : List Change) → size f ≤ count → cs ≡ changes_read f rows (numbers f)
    → All (λ (c : Change). c.node - 1 < count) cs
changes-placed f rows count cs le is =
    subst (All (λ (c : Change). c.node - 1 < count)) (sym is)
    (All-map (λ (c : Change). c.node - 1 < count) (change_read f rows) (filter (λ n. is_change (change_read f rows n)) (numbers f))
    (λ i d lt. let node = All-filter (λ n. is_change (change_read f rows n)) (IsNode f) (numbers f) (numbers-nodes f) i d lt in let low = node.low in
    let high = node.high in omega arith))

pub past-node : (f : Trees) (i : ℕ) → size f ≤ i → IsNode f (i + 1) → ⊥
past-node f i past node = let high = node.high in omega arith

-- what is no node has no owner, is not disabled and is no form

pub absent : (f : Trees) (n : ℕ) → IsTidy f → (IsNode f n → ⊥) → facts_at f n ≡ facts_at none 0
absent f n tidy outside = elim (cases_lt 0 (times n f)) [
  | inl low ↦ absurd (outside (tidy.only n low))
  | inr z ↦ ap (λ v. (or_no_spot v).facts) (spot-absent None None n f (omega arith))
]

module _ (f : Forms) (tidy : IsTidy f.forest) (nodes : (n : ℕ) → is_associated f n ≡ true → IsNode f.forest n) (n : ℕ) (outside : IsNode f.forest n → ⊥) where
  pub not-associated : is_associated f n ≡ false
  not-associated = by_test (is_associated f n) refl
    where
      by_test : (b : Bool) → is_associated f n ≡ b → b ≡ false
      by_test true e = absurd (outside (nodes n e))
      by_test false e = refl

  pub not-a-form : is_a Form f.forest n ≡ false
  not-a-form = rw (absent f.forest n tidy outside) refl

  pub not-listed : is_listed f n ≡ false
  not-listed = rw (absent f.forest n tidy outside, not-associated) refl

  pub no-owner : form_owner f n ≡ None
  no-owner = rw not-listed refl

  pub not-disabled : is_disabled f n ≡ false
  not-disabled =
      let option : is_a OptionItem f.forest n ≡ false = rw (absent f.forest n tidy outside) refl in
      rw (option, not-listed) refl

-- an owner is a form

pub found-passes : (p : ℕ → Bool) (xs : List ℕ) (k : ℕ) → find p xs ≡ Some k → p k ≡ true
found-passes p [] k e = absurd cc
found-passes p (x ∷ xs) k e = by_test (found-passes p xs k) (p x) refl e
  where
    by_test : (find p xs ≡ Some k → p k ≡ true) → (b : Bool) → p x ≡ b → cond b (Some x) (find p xs) ≡ Some k → p k ≡ true
    by_test more true t i = let same : x ≡ k = cc in rw (← same) t
    by_test more false t i = more i

named-passes : (f : Trees) (o : Option ℕ) (k : ℕ) → where_form f o ≡ Some k → is_a Form f k ≡ true
named-passes f None k e = absurd cc
named-passes f (Some n) k e = by_test (is_a Form f n) refl e
  where
    by_test : (b : Bool) → is_a Form f n ≡ b → cond b (Some n) None ≡ Some k → is_a Form f k ≡ true
    by_test true t i = let same : n ≡ k = cc in rw (← same) t
    by_test false t i = absurd cc

owner-by-form : (f : Trees) (n : ℕ) (a : Option (List ℕ)) (k : ℕ) → owner_by f n a ≡ Some k → is_a Form f k ≡ true
owner-by-form f n None k e = found-passes (is_a Form f) (ancestors f n) k e
owner-by-form f n (Some id) k e = by_test (connected f n) e
  where
    by_test : (b : Bool) → cond b (named_form f n id) (nearest_form f n) ≡ Some k → is_a Form f k ≡ true
    by_test true i = named-passes f (first_with_id f (root_at f n) id) k i
    by_test false i = found-passes (is_a Form f) (ancestors f n) k i

pub owner-form : (f : Forms) (n k : ℕ) → form_owner f n ≡ Some k → is_a Form f.forest k ≡ true
owner-form f n k e = by_test (is_listed f n) e
  where
    by_test : (b : Bool) → cond b (owner_by f.forest n (attribute_at f.forest n (codes "form"))) None ≡ Some k → is_a Form f.forest k ≡ true
    by_test true i = owner-by-form f.forest n (attribute_at f.forest n (codes "form")) k i
    by_test false i = absurd cc

-- so it is a node

form-node : (f : Trees) (k : ℕ) → IsTidy f → is_a Form f k ≡ true → IsNode f k
form-node f k tidy is = elim (cases_lt 0 (times k f)) [
  | inl low ↦ tidy.only k low
  | inr z ↦
      let gone : facts_at f k ≡ facts_at none 0 = ap (λ v. (or_no_spot v).facts) (spot-absent None None k f (omega arith)) in
      let no : is_a Form f k ≡ false = rw gone refl in
      absurd cc
]

pub owner-node : (f : Forms) (n : ℕ) (o : Option ℕ) → IsTidy f.forest → o ≡ form_owner f n → IsNodeOrNone f.forest o
owner-node f n None tidy e = tt
owner-node f n (Some k) tidy e = form-node f.forest k tidy (owner-form f n k (sym e))

-- what holds of all of a list holds of each member

pub all-among : (P : ℕ → Type 0) (xs : List ℕ) → All P xs → (n : ℕ) → is_among n xs ≡ true → P n
all-among P [] all n h = absurd cc
all-among P (x ∷ xs) all n h = elim (cases_eq x n) [
  | inl same ↦ subst P same (All-head P x xs all)
  | inr other ↦ all-among P xs (All-tail P x xs all) n (grind (arith, nat_tests))
]

-- all of an order are nodes
pub order-nodes : (f : Trees) (root : ℕ) (ns : List ℕ) → IsTidy f → ns ≡ tree_order_of f root → All (IsNode f) ns
order-nodes f root ns tidy is = all-members (IsNode f) ns (λ n among. member_is_node f root n tidy (sym (ap (is_among n) is) ∙ among))

-- so are children that were read
pub read-nodes : (f t : Trees) → AreRead f t → All (IsNode f) (roots t)
read-nodes f none read = All-nil (IsNode f)
read-nodes f (tree m x s k q) read = All-cons (IsNode f) m (roots q) read.0.node (read-nodes f q read.1.1)

-- so are the controls of a form
pub controls-nodes : (f : Forms) (form : ℕ) → IsTidy f.forest → All (IsNode f.forest) (controls_of f form)
controls-nodes f form tidy =
    let order = tree_order_of f.forest (root_at f.forest form) in
    All-filter (is_owned_by f form) (IsNode f.forest) order
    (all-members (IsNode f.forest) order (λ n among. member_is_node f.forest (root_at f.forest form) n tidy among))

-- so what is no form has no controls

pub no-controls : (f : Forms) (n : ℕ) → is_a Form f.forest n ≡ false → controls_of f n ≡ []
no-controls f n not_form = filter-none (is_owned_by f n) (tree_order_of f.forest (root_at f.forest n)) (λ m _. by_test m (is_owned_by f n m) refl)
  where
    by_test : (m : ℕ) (b : Bool) → is_owned_by f n m ≡ b → b ≡ false
    by_test m true e = absurd (let yes = owner-form f m n (number-is (form_owner f m) n e) in cc)
    by_test m false e = refl
