-- A list that is searched from both ends at once.
use Rattle.std.proofs.Common.{◌≡◌, ℕ, zero, suc, ◌+◌, ◌≤◌, ◌<◌, ◌==◌, false, List, [], ◌∷◌, ◌++◌, take, drop, eqb, get_or, length, refl, sym, ap, ◌∙◌, arith}
use Rattle.std.proofs.lemmas.Bool.{or_parts}
use Rattle.std.proofs.lemmas.Bool.Decides.{nat_tests}
use Rattle.std.proofs.lemmas.List.{take-append-drop, take_more, drop_more}
use Rattle.node_trees.specs.Paths.{is_among}
use Rattle.node_trees.proofs.Absent.{is_among-append}

-- what is not in a front is in no shorter one
in-less : (n low high : ℕ) (xs : List ℕ) → high ≤ low → is_among n (take low xs) ≡ false → is_among n (take high xs) ≡ false
in-less n low zero xs le out = refl
in-less n low (suc high) [] le out = refl
in-less n zero (suc high) (x ∷ xs) le out = absurd (omega (arith, le))
in-less n (suc low) (suc high) (x ∷ xs) le out =
    let both = or_parts (x == n) (is_among n (take low xs)) out in
    let rest = in-less n low high xs (omega (arith, le)) both.1 in
    grind (arith, nat_tests, rest, both.0)

-- where the ends have met, what is in neither part is not in the list
pub nowhere : (n low high : ℕ) (xs : List ℕ) → high ≤ low → is_among n (take low xs) ≡ false → is_among n (drop high xs) ≡ false → is_among n xs ≡ false
nowhere n low high xs met front back =
    let start = in-less n low high xs met front in
    ap (is_among n) (sym (take-append-drop high xs)) ∙ is_among-append n (take high xs) (drop high xs) ∙ grind (arith, start, back)

-- one more of each end

pub from-front : (n low x : ℕ) (xs : List ℕ) → low < length xs → x ≡ get_or xs low x → eqb x n ≡ false → is_among n (take low xs) ≡ false
    → is_among n (take (low + 1) xs) ≡ false
from-front n low x xs lt at other out =
    ap (is_among n) (take_more xs low x lt ∙ ap (λ y. take low xs ++ y ∷ []) (sym at))
    ∙ is_among-append n (take low xs) (x ∷ [])
    ∙ grind (arith, nat_tests, out, other)

pub from-back : (n high x : ℕ) (xs : List ℕ) → high < length xs → x ≡ get_or xs high x → eqb x n ≡ false → is_among n (drop (high + 1) xs) ≡ false
    → is_among n (drop high xs) ≡ false
from-back n high x xs lt at other out =
    ap (is_among n) (drop_more xs high x lt ∙ ap (λ y. y ∷ drop (high + 1) xs) (sym at)) ∙ grind (arith, nat_tests, out, other)
