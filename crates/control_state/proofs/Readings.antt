-- A text that is read from the left gives what its front gives, and then what the rest gives behind that front.
use Rattle.std.proofs.Common.{◌≡◌, ℕ, Bool, true, false, not, ◌&&◌, ◌||◌, eqb, List, [], ◌∷◌, ◌++◌, refl, ap, ◌∙◌, sym, append_assoc, append-nil}
use Rattle.std.specs.List.{list_all}
use Rattle.std.proofs.lemmas.List.Folds.{list_all-append}
use Rattle.std.specs.Char.{is_ascii_whitespace}
use Rattle.form_controls.specs.Texts.{normal_byte, normalized, normalized_from, collapsed}
use Rattle.control_state.specs.Reading.{behind_after, collapsed_byte, collapsed_from, begun_after, apart_after}
use Rattle.control_state.proofs.Words.{collapsed-reads}

pub normalized_from-append : (behind : Bool) (xs ys : List ℕ)
    → normalized_from behind (xs ++ ys) ≡ normalized_from behind xs ++ normalized_from (behind_after behind xs) ys
normalized_from-append behind [] ys = refl
normalized_from-append behind (b ∷ xs) ys =
    ap (λ rest. normal_byte behind b ++ rest) (normalized_from-append (eqb b 13) xs ys)
    ∙ sym (append_assoc (normal_byte behind b) (normalized_from (eqb b 13) xs) (normalized_from (behind_after (eqb b 13) xs) ys))

pub behind_after-push : (behind : Bool) (text : List ℕ) (b : ℕ) → behind_after behind (text ++ b ∷ []) ≡ eqb b 13
behind_after-push behind [] b = refl
behind_after-push behind (x ∷ text) b = behind_after-push (eqb x 13) text b

pub normalized_push : (text : List ℕ) (b : ℕ) → normalized (text ++ b ∷ []) ≡ normalized text ++ normal_byte (behind_after false text) b
normalized_push text b =
    normalized_from-append false text (b ∷ []) ∙ ap (λ added. normalized text ++ added) (append-nil (normal_byte (behind_after false text) b))

begun-cons : (begun white all : Bool) → begun || not (white && all) ≡ ((begun || not white) || not all)
begun-cons true white all = refl
begun-cons false true all = refl
begun-cons false false all = refl

-- what a reader knows after a byte
begun_after-cons : (begun : Bool) (b : ℕ) (text : List ℕ) → begun_after begun (b ∷ text) ≡ begun_after (begun || not (is_ascii_whitespace b)) text
begun_after-cons begun b text = begun-cons begun (is_ascii_whitespace b) (list_all is_ascii_whitespace text)

begun_after-nil : (begun : Bool) → begun_after begun [] ≡ begun
begun_after-nil true = refl
begun_after-nil false = refl

pub collapsed_from-append : (begun apart : Bool) (xs ys : List ℕ)
    → collapsed_from begun apart (xs ++ ys) ≡ collapsed_from begun apart xs ++ collapsed_from (begun_after begun xs) (apart_after apart xs) ys
collapsed_from-append begun apart [] ys = ap (λ v. collapsed_from v apart ys) (sym (begun_after-nil begun))
collapsed_from-append begun apart (b ∷ xs) ys =
    let white = is_ascii_whitespace b in
    let now = begun || not white in
    ap (λ rest. collapsed_byte begun apart b ++ rest) (collapsed_from-append now white xs ys)
    ∙ sym (append_assoc (collapsed_byte begun apart b) (collapsed_from now white xs) (collapsed_from (begun_after now xs) (apart_after white xs) ys))
    ∙ ap (λ v. (collapsed_byte begun apart b ++ collapsed_from now white xs) ++ collapsed_from v (apart_after white xs) ys)
    (sym (begun_after-cons begun b xs))

pub apart_after-push : (apart : Bool) (text : List ℕ) (b : ℕ) → apart_after apart (text ++ b ∷ []) ≡ is_ascii_whitespace b
apart_after-push apart [] b = refl
apart_after-push apart (x ∷ text) b = apart_after-push (is_ascii_whitespace x) text b

begun-push : (begun all white : Bool) → begun || not (all && (white && true)) ≡ ((begun || not all) || not white)
begun-push true all white = refl
begun-push false true true = refl
begun-push false true false = refl
begun-push false false white = refl

pub begun_after-push : (begun : Bool) (text : List ℕ) (b : ℕ) → begun_after begun (text ++ b ∷ []) ≡ (begun_after begun text || not (is_ascii_whitespace b))
begun_after-push begun text b =
    ap (λ all. begun || not all) (list_all-append is_ascii_whitespace text (b ∷ []))
    ∙ begun-push begun (list_all is_ascii_whitespace text) (is_ascii_whitespace b)

pub collapsed_push : (text : List ℕ) (b : ℕ) → collapsed (text ++ b ∷ []) ≡ collapsed text ++ collapsed_byte (begun_after false text) (apart_after false text) b
collapsed_push text b =
    sym (collapsed-reads (text ++ b ∷ [])) ∙ collapsed_from-append false false text (b ∷ [])
    ∙ ap (λ front. front ++ collapsed_from (begun_after false text) (apart_after false text) (b ∷ [])) (collapsed-reads text)
    ∙ ap (λ added. collapsed text ++ added) (append-nil (collapsed_byte (begun_after false text) (apart_after false text) b))
