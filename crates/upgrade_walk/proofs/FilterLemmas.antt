-- A part of a list, an element at a time.
use Rattle.std.proofs.Common.{◌≡◌, All, ℕ, Bool, true, List, take}
use Rattle.std.specs.Prelude.{filter}
use Rattle.std.proofs.lemmas.List.Elements.{All-filter, All-take, filter_passes}

-- of each element that passes a test holds what the test and the list say of it
pub filter_holds : (P Q : ℕ → Type 0) (p : ℕ → Bool) → ((n : ℕ) → p n ≡ true → P n → Q n) → (xs found : List ℕ) (i : ℕ) → found ≡ filter p (take i xs)
    → All P xs → All Q found
filter_holds P Q p says xs found i is all =
    let passed : All (λ n. p n ≡ true) (filter p (take i xs)) = filter_passes p (take i xs) in
    let held : All P (filter p (take i xs)) = All-filter p P (take i xs) (All-take P i xs all) in
    rw is (λ k d lt. says _ (passed k d lt) (held k d lt))
