-- The first line of bytes, and those behind it.
use Rattle.std.proofs.Common.{◌≡◌, ◌<◌, ◌+◌, ℕ, zero, suc, length, List, [], ◌∷◌, ◌++◌, take, drop, get_or, refl, sym, ap, ◌∙◌}
use Rattle.std.proofs.Common.{append-nil, arith, subst, drop-cons}
use Rattle.std.proofs.Math.Seq.{take-length}
use Rattle.std.proofs.lemmas.List.{take-append-drop}
use Rattle.ce_algorithms.specs.Lines.{last_line, lines_of}
use Rattle.ce_algorithms.proofs.NoFeeds.{NoFeed, part_from-no_feed, whole_from-no_feed}

-- a line, its line feed, and other bytes
lines_of-feed : (line rest : List ℕ) → NoFeed line → lines_of (line ++ 10 ∷ rest) ≡ line ∷ lines_of rest
lines_of-feed line rest none = rw (whole_from-no_feed [] line (10 ∷ rest) none, part_from-no_feed [] line (10 ∷ rest) none) refl

-- a last line without a line feed
lines_of-no_feed : (bytes : List ℕ) → NoFeed bytes → lines_of bytes ≡ last_line bytes
lines_of-no_feed bytes none =
    ap lines_of (sym (append-nil bytes)) ∙ rw (whole_from-no_feed [] bytes [] none, part_from-no_feed [] bytes [] none) refl

-- no line feed stands before this place
abbrev NoneBefore : List ℕ → ℕ → Type 0
NoneBefore bytes i = (k : ℕ) → k < i → get_or bytes k 0 ≡ 10 → ⊥

none_in_front : (bytes : List ℕ) (i : ℕ) → NoneBefore bytes i → NoFeed (take i bytes)
none_in_front [] zero none = tt
none_in_front [] (suc i) none = tt
none_in_front (b ∷ bytes) zero none = tt
none_in_front (b ∷ bytes) (suc i) none = ((λ e. none 0 (omega arith) e), none_in_front bytes i (λ k lt e. none (suc k) (omega arith) e))

-- where a line feed stands first: the line before it, and the lines behind it
pub cut_at : (bytes : List ℕ) (i : ℕ) → i < length bytes → get_or bytes i 0 ≡ 10 → NoneBefore bytes i
    → lines_of bytes ≡ take i bytes ∷ lines_of (drop (i + 1) bytes)
cut_at bytes i lt feed none =
    let next : suc i ≡ i + 1 = omega arith in
    let behind : drop i bytes ≡ 10 ∷ drop (i + 1) bytes =
    drop-cons bytes i 0 lt ∙ (ap (λ (b : ℕ). b ∷ drop (suc i) bytes) feed ∙ ap (λ (k : ℕ). 10 ∷ drop k bytes) next) in
    let split : bytes ≡ take i bytes ++ 10 ∷ drop (i + 1) bytes = sym (take-append-drop i bytes) ∙ ap (λ (l : List ℕ). take i bytes ++ l) behind in
    ap lines_of split ∙ lines_of-feed (take i bytes) (drop (i + 1) bytes) (none_in_front bytes i none)

-- where none stands: all is the last line
pub cut_nowhere : (bytes : List ℕ) → 0 < length bytes → NoneBefore bytes (length bytes) → lines_of bytes ≡ bytes ∷ lines_of []
cut_nowhere [] some none = absurd (omega arith)
cut_nowhere (b ∷ bytes) some none =
    lines_of-no_feed (b ∷ bytes) (subst NoFeed (take-length (b ∷ bytes)) (none_in_front (b ∷ bytes) (length (b ∷ bytes)) none))
