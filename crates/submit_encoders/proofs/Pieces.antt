-- A body that is put piece by piece.
use Rattle.std.proofs.Common.{◌≡◌, ◌<◌, ◌+◌, ℕ, List, [], ◌∷◌, ◌++◌, length, get_or, take, sym, ap, ◌∙◌, append_assoc, codes}
use Rattle.std.specs.Prelude.{flat_map}
use Rattle.std.proofs.lemmas.List.{flat_map_more, take_more}
use Rattle.form_submission.specs.LineEnds.{newline}

-- what each gives is put behind what those before it gave
pub one_more : {A : Type 0} (f : A → List ℕ) (xs : List A) (i : ℕ) (x : A) (now new : List ℕ) → i < length xs → x ≡ get_or xs i x
    → now ≡ flat_map f (take i xs) → new ≡ now ++ f x → new ≡ flat_map f (take (i + 1) xs)
one_more f xs i x now new within read so_far longer =
    let more = take_more xs i x within ∙ ap (λ y. take i xs ++ y ∷ []) (sym read) in
    longer ∙ (ap (λ l. l ++ f x) so_far ∙ (flat_map_more f [] (take i xs) x ∙ ap (flat_map f) (sym more)))

-- the line that closes is put as the delimiter, and what stands behind it
pub closes : (front : List ℕ) → front ++ codes "--\r\n" ≡ front ++ codes "--" ++ newline
closes front = sym (append_assoc front (codes "--") newline)
