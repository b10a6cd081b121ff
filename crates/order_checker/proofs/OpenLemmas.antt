-- The current element queue of the open brackets.
use Rattle.std.proofs.Common.{◌≡◌, ◌-◌, ℕ, List, [], ◌∷◌, length, get_or, refl, ap, sym, ◌∙◌, arith, Some, None}
use Rattle.std.specs.Prelude.{reverse}
use Rattle.std.specs.List.{slice_get}
use Rattle.std.proofs.lemmas.Option.{slice_get-get_or, get_or_from_slice_get}
use Rattle.ce_base.proofs.LastFirst.{reverse-last}
use Rattle.order_law.specs.Book.{Bracket, Filling, Draining, Reacting, Upgrading}
use Rattle.order_law.specs.Reads.{current, fillings}

abbrev pub head_or_zero : List ℕ → ℕ
head_or_zero [] = 0
head_or_zero (q ∷ qs) = q

pub current_of : (bs : List Bracket) → current bs ≡ head_or_zero (fillings bs)
current_of [] = refl
current_of (Filling q ∷ bs) = refl
current_of (Draining q ∷ bs) = current_of bs
current_of (Reacting w called ∷ bs) = current_of bs
current_of (Upgrading n ∷ bs) = current_of bs

pub head_is : (xs : List ℕ) (q : ℕ) → Some q ≡ slice_get xs (length xs - 1) → q ≡ head_or_zero (reverse xs)
head_is [] q read = absurd (cc read)
head_is (y ∷ xs) q read =
    let last : get_or (y ∷ xs) (length (y ∷ xs) - 1) q ≡ q = get_or_from_slice_get (y ∷ xs) (length (y ∷ xs) - 1) q q (sym read) in
    ap head_or_zero (sym (reverse-last (y ∷ xs) (length (y ∷ xs) - 1) q (omega arith) (sym last)))

pub zero_is : (xs : List ℕ) → None ≡ slice_get xs (length xs - 1) → 0 ≡ head_or_zero (reverse xs)
zero_is [] read = refl
zero_is (y ∷ xs) read =
    let there : slice_get (y ∷ xs) (length (y ∷ xs) - 1) ≡ Some (get_or (y ∷ xs) (length (y ∷ xs) - 1) y) =
    slice_get-get_or (y ∷ xs) (length (y ∷ xs) - 1) y (omega arith) in
    let k : None ≡ Some (get_or (y ∷ xs) (length (y ∷ xs) - 1) y) = read ∙ there in
    absurd (cc k)
