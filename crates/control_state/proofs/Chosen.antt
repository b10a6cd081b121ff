-- What is found among options is what is chosen.
use Rattle.std.proofs.Common.{◌≡◌, ℕ, Bool, true, false, cond, List, [], ◌∷◌, ◌++◌, Option, Some, None, refl, ap, ◌∙◌}
use Rattle.std.specs.Prelude.{filter, find, flat_map, fold, not}
use Rattle.std.specs.List.{last_or}
use Rattle.std.specs.Option.{option_or, option_to_list}
use Rattle.node_trees.specs.Trees.{Trees}
use Rattle.node_trees.specs.Spots.{first_of}
use Rattle.tree_laws.proofs.Members.{first-filtered}
use Rattle.form_controls.specs.declared.control.Control.{Control}
use Rattle.form_controls.specs.Disabled.{is_option_disabled}
use Rattle.form_controls.specs.Options.{chosen_one, is_selected}
use Rattle.control_state.specs.declared.choosing.Found.{Found}
use Rattle.control_state.specs.Choosing.{first_where, noted, noted_all, nothing_found}

first-found : (p : ℕ → Bool) (o : Option ℕ) (x : ℕ) (xs : List ℕ) → option_or (first_where (p x) o x) (find p xs) ≡ option_or o (find p (x ∷ xs))
first-found p o x xs = by_test (p x) o
  where
    by_test : (b : Bool) (o : Option ℕ) → option_or (first_where b o x) (find p xs) ≡ option_or o (cond b (Some x) (find p xs))
    by_test true None = refl
    by_test true (Some y) = refl
    by_test false o = refl

-- the first that passes, of those that are looked at one after another
pub first-among : (p : ℕ → Bool) (o : Option ℕ) (xs : List ℕ) → fold (λ v x. first_where (p x) v x) o xs ≡ option_or o (find p xs)
first-among p None [] = refl
first-among p (Some y) [] = refl
first-among p o (x ∷ xs) = first-among p (first_where (p x) o x) xs ∙ first-found p o x xs

-- and the first of all parts
pub first-part : (parts : ℕ → List ℕ) (o : Option ℕ) (xs : List ℕ)
    → fold (λ v x. option_or v (first_of (parts x))) o xs ≡ option_or o (first_of (flat_map parts xs))
first-part parts None [] = refl
first-part parts (Some y) [] = refl
first-part parts o (x ∷ xs) = first-part parts (option_or o (first_of (parts x))) xs ∙ by_case o (parts x) (flat_map parts xs)
  where
    by_case : (o : Option ℕ) (ys zs : List ℕ) → option_or (option_or o (first_of ys)) (first_of zs) ≡ option_or o (first_of (ys ++ zs))
    by_case (Some y) ys zs = refl
    by_case None [] zs = refl
    by_case None (y ∷ ys) zs = refl

pub first-one : (o : Option ℕ) → o ≡ first_of (option_to_list o)
first-one None = refl
first-one (Some x) = refl

module _ (controls : List Control) (f : Trees) where
  first-is : (v : Found) (xs : List ℕ) → (noted_all controls f v xs).first ≡ option_or v.first (find (is_selected controls f) xs)
  first-is v [] = by_case v.first
    where
      by_case : (o : Option ℕ) → o ≡ option_or o None
      by_case None = refl
      by_case (Some y) = refl
  first-is v (x ∷ xs) = first-is (noted controls f v x) xs ∙ first-found (is_selected controls f) v.first x xs

  enabled-is : (v : Found) (xs : List ℕ) → (noted_all controls f v xs).enabled ≡ option_or v.enabled (find (λ o. not (is_option_disabled f o)) xs)
  enabled-is v [] = by_case v.enabled
    where
      by_case : (o : Option ℕ) → o ≡ option_or o None
      by_case None = refl
      by_case (Some y) = refl
  enabled-is v (x ∷ xs) = enabled-is (noted controls f v x) xs ∙ first-found (λ o. not (is_option_disabled f o)) v.enabled x xs

  last-is : (v : Found) (xs : List ℕ) → (noted_all controls f v xs).last ≡ last_or v.last (filter (is_selected controls f) xs)
  last-is v [] = refl
  last-is v (x ∷ xs) = last-is (noted controls f v x) xs ∙ by_test (is_selected controls f x)
    where
      by_test : (b : Bool) → last_or (cond b (Some x) v.last) (filter (is_selected controls f) xs)
          ≡ last_or v.last (cond b (x ∷ filter (is_selected controls f) xs) (filter (is_selected controls f) xs))
      by_test true = refl
      by_test false = refl

  -- where only one can be chosen
  pub one-found : (v : Found) (xs : List ℕ) → v ≡ noted_all controls f nothing_found xs
      → option_or v.last v.enabled ≡ chosen_one f (filter (is_selected controls f) xs) xs
  one-found v xs e = rw (e, last-is nothing_found xs, enabled-is nothing_found xs) refl

  -- where several can be
  pub first-found-is : (v : Found) (xs : List ℕ) → v ≡ noted_all controls f nothing_found xs → v.first ≡ first_of (filter (is_selected controls f) xs)
  first-found-is v xs e = ap (λ (w : Found). w.first) e ∙ first-is nothing_found xs ∙ first-filtered (is_selected controls f) xs
