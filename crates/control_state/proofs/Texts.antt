-- Texts that are read off nodes one after another.
use Rattle.std.proofs.Common.{◌≡◌, ℕ, Bool, true, false, List, [], ◌∷◌, ◌++◌, Option, refl, ap, sym, ◌∙◌}
use Rattle.std.specs.Prelude.{flat_map, fold, map, ◌&&◌}
use Rattle.std.specs.List.{concat}
use Rattle.node_trees.specs.Trees.{Trees}
use Rattle.node_trees.specs.Spots.{facts_at}
use Rattle.form_controls.specs.Texts.{collapsed, is_empty}
use Rattle.control_state.proofs.Left.{left_from}
use Rattle.control_state.proofs.Walks.{Walks}
use Rattle.control_state.proofs.Listing.{grown-parts}

abbrev pub chars_at : Trees → ℕ → List ℕ
chars_at f n = (facts_at f n).chars

-- a text with that of one more node behind it
abbrev pub joined : Trees → List ℕ → ℕ → List ℕ
joined f text n = text ++ chars_at f n

parts-joined : (f : Trees) (xs : List ℕ) → flat_map (chars_at f) xs ≡ concat (map (chars_at f) xs)
parts-joined f [] = refl
parts-joined f (x ∷ xs) = ap (λ v. chars_at f x ++ v) (parts-joined f xs)

pub joined-is : (f : Trees) (xs : List ℕ) → fold (joined f) [] xs ≡ concat (map (chars_at f) xs)
joined-is f xs = grown-parts (chars_at f) [] xs ∙ parts-joined f xs

-- the texts of some nodes of a list were taken, as pieces of one
pub record Taken {C : Type 0} (Counts : C → List ℕ → Type 0) (f : Trees) (xs : List ℕ) (counter : C) (next : Option ℕ) : Type 0 where
  pub text : List ℕ
  pub walk : Walks f xs (joined f) [] text next
  pub counts : Counts counter text

-- nothing is left of a text once white space is stripped and collapsed
abbrev pub is_blank : List ℕ → Bool
is_blank text = is_empty (collapsed text)

-- what is asked of each text was still true, and is of one more
abbrev pub still : Trees → (List ℕ → Bool) → Bool → ℕ → Bool
still f test so_far n = so_far && test (chars_at f n)

-- a test that a text passes where each of its pieces does
module _ (f : Trees) (test : List ℕ → Bool) (nothing : test [] ≡ true) (pieces : (a b : List ℕ) → test (a ++ b) ≡ (test a && test b)) where
  pub still-is : (so_far : Bool) (xs : List ℕ) → fold (still f test) so_far xs ≡ (so_far && test (concat (map (chars_at f) xs)))
  still-is so_far [] = sym (ap (λ b. so_far && b) nothing ∙ alone so_far)
    where
      alone : (b : Bool) → (b && true) ≡ b
      alone true = refl
      alone false = refl
  still-is so_far (x ∷ xs) =
      still-is (still f test so_far x) xs
      ∙ regroup so_far (test (chars_at f x)) (test (concat (map (chars_at f) xs)))
      ∙ ap (λ b. so_far && b) (sym (pieces (chars_at f x) (concat (map (chars_at f) xs))))
    where
      regroup : (a b c : Bool) → ((a && b) && c) ≡ (a && (b && c))
      regroup true b c = refl
      regroup false b c = refl

  -- a text of which one piece does not
  pub still-fails : (xs : List ℕ) (next : Option ℕ) → Walks f xs (still f test) true false next → false ≡ test (concat (map (chars_at f) xs))
  still-fails xs next walk = sym (still-is false (left_from next xs)) ∙ sym walk.is ∙ still-is true xs
