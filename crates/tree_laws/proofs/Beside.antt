-- What stands beside a number in a list that another was put into, or taken out of.
use Rattle.std.proofs.Common.{◌≡◌, ◌≢◌, ℕ, Bool, true, false, List, [], ◌∷◌, Option, Some, None, refl, arith, cond}
use Rattle.std.proofs.lemmas.Bool.Decides.{nat_tests}
use Rattle.node_trees.specs.Trees.{is_number}
use Rattle.node_trees.specs.Spots.{first_of, after}
use Rattle.node_trees.specs.Paths.{is_among}
use Rattle.tree_laws.specs.Beside.{before_from, before}
use Rattle.tree_laws.specs.Numbers.{insert_number, remove_number}
use Rattle.tree_laws.proofs.Counts.{count, AreApart}

abbrev pub is_no_number : Option ℕ → Bool
is_no_number None = true
is_no_number (Some n) = false

-- b is none, or in the list
abbrev pub is_in : Option ℕ → List ℕ → Bool
is_in None ms = true
is_in (Some b) ms = is_among b ms

-- ---- what stands before, in a list that k comes before

before-some : (k : ℕ) (b : Option ℕ) (ms : List ℕ) → is_no_number (before_from (Some k) b ms) ≡ false
before-some k b [] = refl
before-some k b (m ∷ ms) = grind (arith, before-some m b ms)

-- it is k or in the list
before-other : (m k : ℕ) (b : Option ℕ) (ms : List ℕ) → count m ms ≡ 0 → k ≢ m → is_number (before_from (Some k) b ms) m ≡ false
before-other m k b [] z ne = grind (arith, nat_tests)
before-other m k b (j ∷ ms) z ne = grind (arith, nat_tests, before-other m j b ms (grind (arith, nat_tests)) (grind (arith, nat_tests)))

pub before-absent : (a b : Option ℕ) (m : ℕ) (ms : List ℕ) → is_among m ms ≡ false → is_number a m ≡ false → is_number (before_from a b ms) m ≡ false
before-absent a b m [] absent other = other
before-absent a b m (k ∷ ms) absent other = grind (arith, nat_tests, before-absent (Some k) b m ms)

pub before-among : (a b : Option ℕ) (m : ℕ) (ms : List ℕ) → is_number a m ≡ false → before_from a b ms ≡ Some m → is_among m ms ≡ true
before-among a b m [] other e = absurd (grind (arith, nat_tests, other, e))
before-among a b m (k ∷ ms) other e = grind (arith, nat_tests, before-among (Some k) b m ms, e)

-- ---- n put before b, or at the end

pub first-insert : (b : Option ℕ) (n : ℕ) (ms : List ℕ) → first_of (insert_number b n ms) ≡ cond (is_no_number (before b ms)) (Some n) (first_of ms)
first-insert b n [] = refl
first-insert b n (k ∷ ms) = grind (arith, before-some k b ms)

pub last-insert : (a b : Option ℕ) (n : ℕ) (ms : List ℕ) → is_in b ms ≡ true
    → before_from a None (insert_number b n ms) ≡ cond (is_no_number b) (Some n) (before_from a None ms)
last-insert a None n [] h = refl
last-insert a None n (k ∷ ms) h = last-insert (Some k) None n ms refl
last-insert a (Some b) n [] h = absurd cc
last-insert a (Some b) n (k ∷ ms) h = grind (arith, nat_tests, last-insert (Some k) (Some b) n ms)

pub after-inserted : (b : Option ℕ) (n : ℕ) (ms : List ℕ) → is_in b ms ≡ true → count n ms ≡ 0 → after n (insert_number b n ms) ≡ b
after-inserted None n [] h z = grind (arith, nat_tests)
after-inserted None n (k ∷ ms) h z = grind (arith, nat_tests, after-inserted None n ms refl (grind (arith, nat_tests)))
after-inserted (Some b) n [] h z = absurd cc
after-inserted (Some b) n (k ∷ ms) h z = grind (arith, nat_tests, after-inserted (Some b) n ms)

pub before-inserted : (a b : Option ℕ) (n : ℕ) (ms : List ℕ) → count n ms ≡ 0 → before_from a (Some n) (insert_number b n ms) ≡ before_from a b ms
before-inserted a b n [] z = grind (arith, nat_tests)
before-inserted a b n (k ∷ ms) z = grind (arith, nat_tests, before-inserted (Some k) b n ms)

-- what comes first, and so follows m before the list
first-behind : (b : Option ℕ) (n m : ℕ) (ms : List ℕ) → count m ms ≡ 0 → is_in b ms ≡ true
    → first_of (insert_number b n ms) ≡ cond (is_number (before_from (Some m) b ms) m) (Some n) (first_of ms)
first-behind None n m [] z h = grind (arith, nat_tests)
first-behind None n m (k ∷ ms) z h = grind (arith, nat_tests, before-other m k None ms (grind (arith, nat_tests)) (grind (arith, nat_tests)))
first-behind (Some b) n m [] z h = absurd cc
first-behind (Some b) n m (k ∷ ms) z h = grind (arith, nat_tests, before-other m k (Some b) ms (grind (arith, nat_tests)) (grind (arith, nat_tests)))

pub after-insert : (a b : Option ℕ) (n m : ℕ) (ms : List ℕ) → m ≢ n → is_number a m ≡ false → AreApart ms → is_in b ms ≡ true
    → after m (insert_number b n ms) ≡ cond (is_number (before_from a b ms) m) (Some n) (after m ms)
after-insert a b n m [] ne other apart h = grind (arith, nat_tests)
after-insert a None n m (k ∷ ms) ne other apart h =
    let one = apart m in
    let on = λ (d : k ≢ m). after-insert (Some k) None n m ms ne (grind (arith, nat_tests)) (λ i. omega (arith, apart i)) refl in
    grind (arith, nat_tests, on, first-behind None n m ms)
after-insert a (Some b) n m (k ∷ ms) ne other apart h =
    let one = apart m in
    let on = λ (d : k ≢ m). after-insert (Some k) (Some b) n m ms ne (grind (arith, nat_tests)) (λ i. omega (arith, apart i)) in
    grind (arith, nat_tests, on, first-behind (Some b) n m ms)

pub before-insert : (a b : Option ℕ) (n m : ℕ) (ms : List ℕ) → m ≢ n → is_among m ms ≡ true
    → before_from a (Some m) (insert_number b n ms) ≡ cond (is_number b m) (Some n) (before_from a (Some m) ms)
before-insert a b n m [] ne h = absurd cc
before-insert a None n m (k ∷ ms) ne h = grind (arith, nat_tests, before-insert (Some k) None n m ms)
before-insert a (Some b) n m (k ∷ ms) ne h = grind (arith, nat_tests, before-insert (Some k) (Some b) n m ms)

-- ---- n taken out

pub first-remove : (n : ℕ) (ms : List ℕ) → is_among n ms ≡ true
    → first_of (remove_number n ms) ≡ cond (is_no_number (before (Some n) ms)) (after n ms) (first_of ms)
first-remove n [] h = absurd cc
first-remove n (k ∷ ms) h = grind (arith, nat_tests, before-some k (Some n) ms)

pub last-remove : (a : Option ℕ) (n : ℕ) (ms : List ℕ) → is_among n ms ≡ true
    → before_from a None (remove_number n ms) ≡ cond (is_no_number (after n ms)) (before_from a (Some n) ms) (before_from a None ms)
last-remove a n [] h = absurd cc
last-remove a n (k ∷ []) h = grind (arith, nat_tests)
last-remove a n (k ∷ j ∷ ms) h = grind (arith, nat_tests, last-remove (Some k) n (j ∷ ms))

first-without : (n m : ℕ) (ms : List ℕ) → count m ms ≡ 0 → is_among n ms ≡ true
    → first_of (remove_number n ms) ≡ cond (is_number (before_from (Some m) (Some n) ms) m) (after n ms) (first_of ms)
first-without n m [] z h = absurd cc
first-without n m (k ∷ ms) z h = grind (arith, nat_tests, before-other m k (Some n) ms (grind (arith, nat_tests)) (grind (arith, nat_tests)))

pub after-remove : (a : Option ℕ) (n m : ℕ) (ms : List ℕ) → m ≢ n → is_number a m ≡ false → AreApart ms → is_among n ms ≡ true
    → after m (remove_number n ms) ≡ cond (is_number (before_from a (Some n) ms) m) (after n ms) (after m ms)
after-remove a n m [] ne other apart h = absurd cc
after-remove a n m (k ∷ ms) ne other apart h =
    let one = apart m in
    let on = λ (d : k ≢ m). after-remove (Some k) n m ms ne (grind (arith, nat_tests)) (λ i. omega (arith, apart i)) in
    grind (arith, nat_tests, on, first-without n m ms)

after-absent : (n m : ℕ) (ms : List ℕ) → count m ms ≡ 0 → is_number (after n ms) m ≡ false
after-absent n m [] z = refl
after-absent n m (k ∷ []) z = grind (arith, nat_tests)
after-absent n m (k ∷ j ∷ ms) z = grind (arith, nat_tests, after-absent n m (j ∷ ms))

pub before-remove : (a : Option ℕ) (n m : ℕ) (ms : List ℕ) → m ≢ n → AreApart ms → is_among n ms ≡ true → is_among m ms ≡ true
    → before_from a (Some m) (remove_number n ms) ≡ cond (is_number (after n ms) m) (before_from a (Some n) ms) (before_from a (Some m) ms)
before-remove a n m [] ne apart h i = absurd cc
before-remove a n m (k ∷ []) ne apart h i = grind (arith, nat_tests)
before-remove a n m (k ∷ j ∷ ms) ne apart h i =
    let one_m = apart m in
    let one_n = apart n in
    let on = before-remove (Some k) n m (j ∷ ms) ne (λ v. omega (arith, apart v)) in
    grind (arith, nat_tests, on, after-absent n m (j ∷ ms))
