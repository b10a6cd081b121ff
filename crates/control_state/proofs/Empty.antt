-- When nothing is left of a text, in one piece or in two.
use Rattle.std.proofs.Common.{◌≡◌, ℕ, Bool, true, false, not, ◌&&◌, cond, List, [], ◌∷◌, ◌++◌, eqb, refl, ap, ◌∙◌, sym}
use Rattle.std.specs.List.{list_all, filter}
use Rattle.std.proofs.lemmas.List.Folds.{list_all-append}
use Rattle.std.specs.Char.{is_ascii_whitespace}
use Rattle.form_controls.specs.Texts.{is_newline, without_newlines, normalized, normalized_from, collapsed, is_empty}
use Rattle.control_state.proofs.Words.{is_empty-cons, is_empty-collapsed}

is_empty-kept : (dropped none : Bool) (b : ℕ) (bytes : List ℕ) → is_empty bytes ≡ none → is_empty (cond (not dropped) (b ∷ bytes) bytes) ≡ (dropped && none)
is_empty-kept true none b bytes h = h
is_empty-kept false none b bytes h = is_empty-cons b bytes

is_empty-filter : (p : ℕ → Bool) (text : List ℕ) → is_empty (filter (λ b. not (p b)) text) ≡ list_all p text
is_empty-filter p [] = refl
is_empty-filter p (b ∷ text) =
    is_empty-kept (p b) (list_all p text) b (filter (λ c. not (p c)) text) (is_empty-filter p text)

pub is_empty-without_newlines : (text : List ℕ) → is_empty (without_newlines text) ≡ list_all is_newline text
is_empty-without_newlines text = is_empty-filter is_newline text

is_empty-append : (a b : List ℕ) → is_empty (a ++ b) ≡ (is_empty a && is_empty b)
is_empty-append [] b = refl
is_empty-append (x ∷ a) b =
    is_empty-cons x (a ++ b) ∙ ap (λ none. none && is_empty b) (sym (is_empty-cons x a))

normal-begins : (return : Bool) (b : ℕ) (rest : List ℕ) → is_empty (cond return (10 ∷ []) (b ∷ []) ++ rest) ≡ false
normal-begins true b rest = is_empty-cons 10 rest
normal-begins false b rest = is_empty-cons b rest

pub is_empty-normalized : (text : List ℕ) → is_empty (normalized text) ≡ is_empty text
is_empty-normalized [] = refl
is_empty-normalized (b ∷ text) =
    normal-begins (eqb b 13) b (normalized_from (eqb b 13) text) ∙ sym (is_empty-cons b text)

pub is_empty-normalized-append : (a b : List ℕ) → is_empty (normalized (a ++ b)) ≡ (is_empty a && is_empty b)
is_empty-normalized-append a b = is_empty-normalized (a ++ b) ∙ is_empty-append a b

both : (a b c d : Bool) → a ≡ c → b ≡ d → (a && b) ≡ (c && d)
both a b c d e f = cc

pub is_empty-collapsed-append : (a b : List ℕ) → is_empty (collapsed (a ++ b)) ≡ (is_empty (collapsed a) && is_empty (collapsed b))
is_empty-collapsed-append a b =
    is_empty-collapsed (a ++ b) ∙ list_all-append is_ascii_whitespace a b ∙ sym (both _ _ _ _ (is_empty-collapsed a) (is_empty-collapsed b))

pub is_empty-without_newlines-append : (a b : List ℕ) → is_empty (without_newlines (a ++ b)) ≡ (is_empty (without_newlines a) && is_empty (without_newlines b))
is_empty-without_newlines-append a b =
    is_empty-without_newlines (a ++ b) ∙ list_all-append is_newline a b ∙ sym (both _ _ _ _ (is_empty-without_newlines a) (is_empty-without_newlines b))
