-- How often a number stands in a list.
use Rattle.std.proofs.Common.{◌≡◌, ℕ, true, false, ◌+◌, ◌<◌, ◌≤◌, ◌==◌, if◌then◌else◌, List, [], ◌∷◌, ◌++◌, arith}
use Rattle.std.proofs.lemmas.Bool.Decides.{nat_tests}
use Rattle.node_trees.specs.Paths.{is_among}

abbrev pub count : ℕ → List ℕ → ℕ
count n [] = 0
count n (m ∷ ms) = (if m == n then 1 else 0) + count n ms

-- no number stands twice
abbrev pub AreApart : List ℕ → Type 0
AreApart ms = (i : ℕ) → count i ms ≤ 1

pub count-append : (n : ℕ) (xs ys : List ℕ) → count n (xs ++ ys) ≡ count n xs + count n ys
count-append n [] ys = omega arith
count-append n (x ∷ xs) ys = omega (arith, count-append n xs ys)

pub count-among : (n : ℕ) (ms : List ℕ) → is_among n ms ≡ true → 0 < count n ms
count-among n [] h = cc
count-among n (m ∷ ms) h = grind (arith, nat_tests, count-among n ms)

pub among-count : (n : ℕ) (ms : List ℕ) → 0 < count n ms → is_among n ms ≡ true
among-count n [] low = absurd (omega arith)
among-count n (m ∷ ms) low = grind (arith, nat_tests, among-count n ms)

pub count-absent : (n : ℕ) (ms : List ℕ) → count n ms ≡ 0 → is_among n ms ≡ false
count-absent n [] z = cc
count-absent n (m ∷ ms) z = grind (arith, nat_tests, count-absent n ms)

pub absent-count : (n : ℕ) (ms : List ℕ) → is_among n ms ≡ false → count n ms ≡ 0
absent-count n [] h = cc
absent-count n (m ∷ ms) h = grind (arith, nat_tests, absent-count n ms)
