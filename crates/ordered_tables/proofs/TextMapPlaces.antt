-- Names with values, at places that rise.
use Rattle.std.proofs.Common.{◌≡◌, ℕ, ◌+◌, true, cond, Some, None, String, List, [], ◌∷◌, ◌++◌, refl, ap, sym, ◌∙◌, arith}
use Rattle.std.specs.Option.{option_map}
use Rattle.std.specs.Map.{lookup, values_of}
use Rattle.std.specs.Ordering.{nat_cmp}
use Rattle.std.specs.BTreeMap.{BTreeMap, get_by_text, is_at}
use Rattle.std.proofs.lemmas.Bool.Decides.{nat_tests}
use Rattle.node_trees.specs.Facts.{value_in, with_value, without_value}
use Rattle.ordered_tables.specs.Found.{place_of, is_rising, Finds}
use Rattle.ce_base.proofs.SameTexts.{text_same}
use Rattle.ordered_tables.proofs.Places.{number_test, place_from, place-without, with_item, without}

abbrev pub name_of : List ℕ × List ℕ → List ℕ
name_of a = a.0

-- ---- what is read

value-absent : (es : List (ℕ × (List ℕ × List ℕ))) (s : List ℕ) → place_of name_of es s ≡ None → value_in (values_of es) s ≡ None
value-absent [] s none = refl
value-absent (e ∷ es) s none = grind (arith, value-absent es s)

place-absent : (es : List (ℕ × (List ℕ × List ℕ))) (s : List ℕ) → value_in (values_of es) s ≡ None → place_of name_of es s ≡ None
place-absent [] s none = refl
place-absent (e ∷ es) s none = grind (arith, place-absent es s)

value-there : (from : ℕ) (es : List (ℕ × (List ℕ × List ℕ))) (next p : ℕ) (s : List ℕ) → is_rising from es next ≡ true → place_of name_of es s ≡ Some p
    → option_map (λ a. a.1) (lookup (is_at (nat_cmp p)) es) ≡ value_in (values_of es) s
value-there from [] next p s up at = refl
value-there from (e ∷ es) next p s up at =
    grind (arith, nat_tests, number_test p e.0, place_from name_of (e.0 + 1) es next s p, value-there (e.0 + 1) es next p s)

-- ---- what is changed

pub values-without : (es : List (ℕ × (List ℕ × List ℕ))) (s : List ℕ) → values_of (without name_of s es) ≡ without_value s (values_of es)
values-without [] s = refl
values-without (e ∷ es) s = grind (arith, values-without es s)

values-with : (es : List (ℕ × (List ℕ × List ℕ))) (s v : List ℕ) (p : ℕ) → place_of name_of es s ≡ Some p
    → values_of (with_item name_of (s, v) es) ≡ with_value s v (values_of es)
values-with [] s v p at = absurd cc
values-with (e ∷ es) s v p at = grind (arith, values-with es s v p)

pub with_value-new : (xs : List (List ℕ × List ℕ)) (s v : List ℕ) → value_in xs s ≡ None → xs ++ (s, v) ∷ [] ≡ with_value s v xs
with_value-new [] s v none = refl
with_value-new (a ∷ xs) s v none = grind (arith, with_value-new xs s v)

-- ---- the same in the words of the functions

module _ {Y : Type 0} (pairs : BTreeMap ℕ (List ℕ × List ℕ)) (places : BTreeMap (String Y) ℕ) (next : ℕ) (f : Finds name_of pairs places next) where
  pub no_value : (s : List ℕ) → None ≡ get_by_text places s → value_in (values_of pairs.entries) s ≡ None
  no_value s at = value-absent pairs.entries s (sym (f.found s) ∙ sym at)

  pub no_place : (s : List ℕ) → value_in (values_of pairs.entries) s ≡ None → place_of name_of pairs.entries s ≡ None
  no_place s none = place-absent pairs.entries s none

  pub value_at : (p : ℕ) (s : List ℕ) → Some p ≡ get_by_text places s
      → option_map (λ a. a.1) (lookup (is_at (nat_cmp p)) pairs.entries) ≡ value_in (values_of pairs.entries) s
  value_at p s at = value-there 0 pairs.entries next p s f.rising (sym (f.found s) ∙ sym at)

  pub values_with : (p : ℕ) (s v : List ℕ) → Some p ≡ get_by_text places s
      → values_of (with_item name_of (s, v) pairs.entries) ≡ with_value s v (values_of pairs.entries)
  values_with p s v at = values-with pairs.entries s v p (sym (f.found s) ∙ sym at)

  pub gone : (s : List ℕ) → value_in (values_of (without name_of s pairs.entries)) s ≡ None
  gone s = value-absent (without name_of s pairs.entries) s
      (place-without name_of pairs.entries s s f.once ∙ ap (λ b. cond b None (place_of name_of pairs.entries s)) (text_same s s refl))
