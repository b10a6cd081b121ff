-- Taking bytes from the front of what is left of a list.
use Rattle.std.proofs.Common.{◌≡◌, ℕ, ◌+◌, ◌<◌, List, [], ◌∷◌, ◌++◌, length, take, drop, get_or, ap, sym, ◌∙◌, take-append-drop}
use Rattle.std.proofs.lemmas.List.{drop-drop, take_more}
use Rattle.std.proofs.Math.Seq.{take-append_seam}

-- what is left is the front that was copied over a buffer, and then what is left behind it
pub left-copied : (content copied rest : List ℕ) (at n : ℕ) → length copied ≡ n → copied ≡ take n (drop at content)
    → drop at content ≡ take n (copied ++ rest) ++ drop (at + n) content
left-copied content copied rest at n len is =
    let front : take n (copied ++ rest) ≡ copied = rw (← len) (take-append_seam copied rest) in
    rw (front, is, ← drop-drop n at content) (sym (take-append-drop n (drop at content)))

-- a loop that copies the members of a list comes to one more
pub copied-more : {A : Type 0} (xs items new : List A) (i : ℕ) (x y : A) → i < length xs → items ≡ take i xs → x ≡ get_or xs i x → y ≡ x
    → new ≡ items ++ y ∷ [] → new ≡ take (i + 1) xs
copied-more xs items new i x y within so_far is same longer =
    longer ∙ ap (λ z. items ++ z ∷ []) same ∙ ap (λ ys. ys ++ x ∷ []) so_far ∙ ap (λ z. take i xs ++ z ∷ []) is ∙ sym (take_more xs i x within)
