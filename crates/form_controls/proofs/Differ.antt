-- The changes are the differences.
use Rattle.std.proofs.Common.{◌≡◌, ◌≢◌, ℕ, ◌<◌, ◌+◌, Bool, true, false, List, [], ◌∷◌, Option, Some, None, refl, sym, ap, ◌∙◌, subst, arith, inl, inr, ⊎_elim}
use Rattle.std.specs.Prelude.{◌⊎◌, filter, map, is_some, nat_eq, if◌then◌else◌}
use Rattle.std.specs.Bool.{beq}
use Rattle.std.specs.List.{Contains}
use Rattle.std.specs.List.Sorted.{IsStrictlyIncreasing}
use Rattle.std.specs.Option.{option_eq}
use Rattle.std.proofs.lemmas.Bool.{eqb-true, eq-eqb, or_cases, or_left, or_right}
use Rattle.std.proofs.lemmas.List.Kept.{IsStrictlyIncreasing-filter}
use Rattle.std.proofs.lemmas.Option.{none-some}
use Rattle.node_trees.specs.Nodes.{IsNode, size}
use Rattle.form_controls.specs.declared.change.Change.{Change}
use Rattle.form_controls.specs.Owners.{Forms, form_owner}
use Rattle.form_controls.specs.Disabled.{is_disabled}
use Rattle.form_controls.specs.Changes.{where_new, form_change, differs, numbers, form_changes}
use Rattle.form_controls.specs.Differences.{IsNews, Differs, IsDifference}
use Rattle.form_controls.proofs.Listed.{contains_made, made_contains, contains_range, in_range, range_increases}

-- two answers of a test

true_false : true ≡ false → ⊥
true_false e = cc

-- a test that tells whether two values are the same

pub record Tells {A : Type 0} (same : A → A → Bool) : Type 0 where
  pub yes : (a b : A) → same a b ≡ true → a ≡ b
  pub no : (a b : A) → a ≡ b → same a b ≡ true

pub owners_alike : (a b : Option ℕ) → option_eq nat_eq a b ≡ true → a ≡ b
owners_alike None None e = refl
owners_alike None (Some y) e = cc
owners_alike (Some x) None e = cc
owners_alike (Some x) (Some y) e = ap Some (eqb-true x y e)

pub owners_tell : Tells (option_eq nat_eq)
owners_tell = record { yes = owners_alike; no = no }
  where
    itself : (a : Option ℕ) → option_eq nat_eq a a ≡ true
    itself None = refl
    itself (Some x) = eq-eqb x x refl

    no : (a b : Option ℕ) → a ≡ b → option_eq nat_eq a b ≡ true
    no a b e = subst (λ c. option_eq nat_eq a c ≡ true) e (itself a)

pub states_alike : (a b : Bool) → beq a b ≡ true → a ≡ b
states_alike true true e = refl
states_alike true false e = cc
states_alike false true e = cc
states_alike false false e = refl

pub states_tell : Tells beq
states_tell = record { yes = states_alike; no = no }
  where
    itself : (a : Bool) → beq a a ≡ true
    itself true = refl
    itself false = refl

    no : (a b : Bool) → a ≡ b → beq a b ≡ true
    no a b e = subst (λ c. beq a c ≡ true) e (itself a)

-- what is new

pub new-none : {A : Type 0} (same : A → A → Bool) → Tells same → (a : A) → where_new same a a ≡ None
new-none same tells a = ap (λ b. if b then None else Some a) (tells.no a a refl)

module _ {A : Type 0} (same : A → A → Bool) (tells : Tells same) (old new : A) where
  news : IsNews old new (where_new same old new)
  news = by_test (same old new) refl
    where
      by_test : (b : Bool) → same old new ≡ b → IsNews old new (if b then None else Some new)
      by_test true e = record { other = λ x i. absurd (none-some x i); same = λ _. tells.yes old new e }
      by_test false e = record {
        other = λ x i. (cc, λ j. true_false (sym (tells.no old new j) ∙ e));
        same = λ i. absurd (none-some new (sym i));
      }

  told_is_new : is_some (where_new same old new) ≡ true → old ≢ new
  told_is_new t j = by_test (same old new) refl t
    where
      by_test : (b : Bool) → same old new ≡ b → is_some (if b then None else Some new) ≡ true → ⊥
      by_test true e i = cc
      by_test false e i = true_false (sym (tells.no old new j) ∙ e)

  new_is_told : (old ≡ new → ⊥) → is_some (where_new same old new) ≡ true
  new_is_told n = by_test (same old new) refl
    where
      by_test : (b : Bool) → same old new ≡ b → is_some (if b then None else Some new) ≡ true
      by_test true e = absurd (n (tells.yes old new e))
      by_test false e = refl

-- what differs

module _ (old new : Forms) (n : ℕ) where
  differs_if : differs old new n ≡ true → Differs old new n
  differs_if e = ⊎_elim
      (λ i. inl (told_is_new (option_eq nat_eq) owners_tell (form_owner old n) (form_owner new n) i))
      (λ i. inr (told_is_new beq states_tell (is_disabled old n) (is_disabled new n) i))
      (or_cases (is_some (form_change old new n).owner) (is_some (form_change old new n).disabled) e)

  if_differs : Differs old new n → differs old new n ≡ true
  if_differs d = ⊎_elim
      (λ i. or_left (is_some (form_change old new n).owner) (is_some (form_change old new n).disabled)
      (new_is_told (option_eq nat_eq) owners_tell (form_owner old n) (form_owner new n) i))
      (λ i. or_right (is_some (form_change old new n).owner) (is_some (form_change old new n).disabled)
      (new_is_told beq states_tell (is_disabled old n) (is_disabled new n) i))
      d

-- the law

pub changes_are_differences : (old new : Forms) (c : Change) → Contains (form_changes old new) c → IsDifference old new c
changes_are_differences old new c h = subst (IsDifference old new) w.3 (record {
  node = record { low = (in_range 1 (size new.forest) w.0 w.1).0; high = omega (arith, bounds) };
  owner = news (option_eq nat_eq) owners_tell (form_owner old w.0) (form_owner new w.0);
  disabled = news beq states_tell (is_disabled old w.0) (is_disabled new w.0);
  some = differs_if old new w.0 w.2;
})
  where
    w : (n : ℕ) × Contains (numbers new.forest) n × (differs old new n ≡ true) × (form_change old new n ≡ c)
    w = contains_made (form_change old new) (differs old new) (numbers new.forest) c h

    bounds : w.0 < 1 + size new.forest
    bounds = (in_range 1 (size new.forest) w.0 w.1).1

pub differences_are_changes : (old new : Forms) (n : ℕ) → IsNode new.forest n → Differs old new n
    → (c : Change) × Contains (form_changes old new) c × (c.node ≡ n)
differences_are_changes old new n is d = (
  form_change old new n,
  made_contains (form_change old new) (differs old new) (numbers new.forest) n (contains_range 1 (size new.forest) n is.low (omega (arith, is.high)))
      (if_differs old new n d),
  refl,
)

-- the nodes that changes are made for are the nodes of the changes
pub nodes_back : (change : ℕ → Change) → ((n : ℕ) → (change n).node ≡ n) → (ns : List ℕ) → map (λ (c : Change). c.node) (map change ns) ≡ ns
nodes_back change is [] = refl
nodes_back change is (n ∷ ns) = ap (λ m. m ∷ map (λ (c : Change). c.node) (map change ns)) (is n) ∙ ap (λ ms. n ∷ ms) (nodes_back change is ns)

pub changes_increase : (old new : Forms) → IsStrictlyIncreasing (map (λ (c : Change). c.node) (form_changes old new))
changes_increase old new =
    subst IsStrictlyIncreasing (sym (nodes_back (form_change old new) (λ n. refl) (filter (differs old new) (numbers new.forest))))
    (IsStrictlyIncreasing-filter (differs old new) (numbers new.forest) (range_increases 1 (size new.forest)))
