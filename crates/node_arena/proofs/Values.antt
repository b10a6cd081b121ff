-- The value of an attribute after it or another was set, or another was taken away.
use Rattle.std.proofs.Common.{◌≡◌, ℕ, true, false, cond, List, [], ◌∷◌, Some, refl, ap, ◌∙◌, arith}
use Rattle.std.specs.Prelude.{bytes_eq}
use Rattle.node_trees.specs.Facts.{value_in, with_value, without_value}
use Rattle.ce_base.proofs.SameTexts.{same_text, text_same}
use Rattle.node_arena.proofs.AttributeLemmas.{value_in-with}

-- no text is two others
two_texts : (a name key : List ℕ) → bytes_eq a name ≡ true → bytes_eq a key ≡ bytes_eq name key
two_texts a name key e = ap (λ v. bytes_eq v key) (same_text a name e)

pub value_in-set_here : (name value : List ℕ) (xs : List (List ℕ × List ℕ)) → value_in (with_value name value xs) name ≡ Some value
value_in-set_here name value xs = value_in-with name value name xs ∙ ap (λ b. cond b (Some value) (value_in xs name)) (text_same name name refl)

pub value_in-set_other : (name value key : List ℕ) (xs : List (List ℕ × List ℕ)) → bytes_eq name key ≡ false
    → value_in (with_value name value xs) key ≡ value_in xs key
value_in-set_other name value key xs ne = value_in-with name value key xs ∙ ap (λ b. cond b (Some value) (value_in xs key)) ne

pub value_in-taken_other : (name key : List ℕ) (xs : List (List ℕ × List ℕ)) → bytes_eq name key ≡ false
    → value_in (without_value name xs) key ≡ value_in xs key
value_in-taken_other name key [] ne = refl
value_in-taken_other name key (x ∷ xs) ne = grind (arith, ne, two_texts x.0 name key, value_in-taken_other name key xs)
