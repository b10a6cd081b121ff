-- Texts, at places that rise.
use Rattle.std.proofs.Common.{◌≡◌, ℕ, Bool, true, false, cond, not, None, List, [], ◌∷◌, refl, ap, sym, arith}
use Rattle.std.specs.Prelude.{bytes_eq, filter, is_some}
use Rattle.std.specs.List.{list_any}
use Rattle.std.specs.Map.{values_of}
use Rattle.ordered_tables.specs.Found.{place_of, is_once}
use Rattle.ce_base.proofs.SameTexts.{bytes_sym, same_text}
use Rattle.ordered_tables.proofs.Places.{is_nothing, without}

-- a text is its own name
abbrev pub text_of : List ℕ → List ℕ
text_of t = t

-- a text is found where it is there
pub found_there : (es : List (ℕ × List ℕ)) (s : List ℕ) → is_some (place_of text_of es s) ≡ list_any (bytes_eq s) (values_of es)
found_there [] s = refl
found_there (e ∷ es) s = grind (arith, bytes_sym s e.1, found_there es s)

pub absent : (es : List (ℕ × List ℕ)) (s : List ℕ) → list_any (bytes_eq s) (values_of es) ≡ false → place_of text_of es s ≡ None
absent [] s e = refl
absent (x ∷ es) s e = grind (arith, bytes_sym s x.1, absent es s)

-- where it is not there all are left
all_left : (es : List (ℕ × List ℕ)) (s : List ℕ) → place_of text_of es s ≡ None → filter (λ t. not (bytes_eq t s)) (values_of es) ≡ values_of es
all_left [] s e = refl
all_left (x ∷ es) s e = go (bytes_eq x.1 s) refl (λ none. all_left es s none)
  where
    go : (same : Bool) → bytes_eq x.1 s ≡ same → (place_of text_of es s ≡ None → filter (λ t. not (bytes_eq t s)) (values_of es) ≡ values_of es)
        → cond (not same) (x.1 ∷ filter (λ t. not (bytes_eq t s)) (values_of es)) (filter (λ t. not (bytes_eq t s)) (values_of es)) ≡ x.1 ∷ values_of es
    go true is rest = let f = rw is at e in absurd cc
    go false is rest = ap (λ ts. x.1 ∷ ts) (rest (rw is at e))

pub values-without : (es : List (ℕ × List ℕ)) (s : List ℕ) → is_once text_of es ≡ true
    → values_of (without text_of s es) ≡ filter (λ t. not (bytes_eq t s)) (values_of es)
values-without [] s once = refl
values-without (x ∷ es) s once = go (bytes_eq x.1 s) refl (values-without es s (grind arith))
  where
    go : (same : Bool) → bytes_eq x.1 s ≡ same → values_of (without text_of s es) ≡ filter (λ t. not (bytes_eq t s)) (values_of es)
        → values_of (cond same es (x ∷ without text_of s es))
        ≡ cond (not same) (x.1 ∷ filter (λ t. not (bytes_eq t s)) (values_of es)) (filter (λ t. not (bytes_eq t s)) (values_of es))
    go true is rest = sym (all_left es s (grind (arith, is_nothing (place_of text_of es x.1), same_text x.1 s)))
    go false is rest = ap (λ ts. x.1 ∷ ts) rest
