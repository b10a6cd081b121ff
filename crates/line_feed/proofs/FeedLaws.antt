-- A line in the middle of bytes.
use Rattle.std.proofs.Common.{◌≡◌, ◌≢◌, ◌≤◌, ◌<◌, ◌+◌, ◌-◌, ℕ, List, ◌∷◌, ◌++◌, length, take, drop, get_or, sym, ap, ◌∙◌, take-append-drop, add-one, drop-cons}
use Rattle.std.proofs.Common.{arith, All}
use Rattle.std.proofs.lemmas.List.{drop-drop, get_or-take, get_or-drop, length-drop, length-take}
use Rattle.std.proofs.lemmas.List.Elements.{All-from_get_or}

-- from a place on: the bytes before the line feed, the line feed, and what is behind it
pub split_at_feed : (xs : List ℕ) (start end : ℕ) → start ≤ end → end < length xs → get_or xs end 0 ≡ 10
    → drop start xs ≡ take (end - start) (drop start xs) ++ 10 ∷ drop (end + 1) xs
split_at_feed xs start end le lt is =
    let sum : start + (end - start) ≡ end = omega arith in
    let behind : drop (end - start) (drop start xs) ≡ 10 ∷ drop (end + 1) xs =
    drop-drop (end - start) start xs ∙ (ap (λ k. drop k xs) sum ∙ rw (add-one, drop-cons xs end 0) (cc)) in
    sym (take-append-drop (end - start) (drop start xs)) ∙ ap (λ l. take (end - start) (drop start xs) ++ l) behind

-- where no place has a line feed, the bytes between have none
pub no_feed_between : (xs : List ℕ) (start end : ℕ) → start ≤ end → end < length xs → ((k : ℕ) → start ≤ k → k < end → get_or xs k 0 ≢ 10)
    → All (λ b. b ≢ 10) (take (end - start) (drop start xs))
no_feed_between xs start end le lt clean = All-from_get_or (λ b. b ≢ 10) (take (end - start) (drop start xs)) 0 (λ i within.
    let small : i < end - start = omega (arith, length-take (end - start) (drop start xs)) in
    λ feed. clean (start + i) (omega arith) (omega arith) (sym (get_or-drop start xs i 0) ∙ (sym (get_or-take (end - start) (drop start xs) i 0 small) ∙ feed)))

-- nor have those from a place on
pub no_feed_behind : (xs : List ℕ) (start : ℕ) → ((k : ℕ) → start ≤ k → k < length xs → get_or xs k 0 ≢ 10) → All (λ b. b ≢ 10) (drop start xs)
no_feed_behind xs start clean = All-from_get_or (λ b. b ≢ 10) (drop start xs) 0 (λ i within.
    let small : start + i < length xs = omega (arith, within, length-drop start xs) in
    λ feed. clean (start + i) (omega arith) small (sym (get_or-drop start xs i 0) ∙ feed))
