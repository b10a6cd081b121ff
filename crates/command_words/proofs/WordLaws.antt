-- Words that are read one after the other.
use Rattle.std.proofs.Common.{◌≡◌, ◌≤◌, ◌-◌, ℕ, true, false, List, [], ◌∷◌, length, get_or, map, take, drop, Some, None, refl, sub-one, arith}
use Rattle.std.proofs.Math.Seq.{take-length}
use Rattle.std.specs.Prelude.{Option}
use Rattle.command_words.specs.Words.{Chosen, and_then, has_value, read, with_option, with_word}

-- what stands behind the first element
abbrev pub behind : {X : Type 0} → List X → List X
behind xs = take (length xs - 1) (drop 1 xs)

all_behind : {X : Type 0} (x : X) (xs : List X) → behind (x ∷ xs) ≡ xs
all_behind x xs = rw sub-one (take-length xs)

-- a list is its first element, and what stands behind it
pub first_and_behind : {X Y : Type 0} (f : X → Y) (xs : List X) (x : X) → 1 ≤ length xs → x ≡ get_or xs 0 x → map f xs ≡ f x ∷ map f (behind xs)
first_and_behind f [] x some is = absurd (omega arith)
first_and_behind f (y ∷ ys) x some is = let rest = all_behind y ys in rw (rest, is) refl

-- an option that has a value takes it from the next word
pub takes_next : (word next : List ℕ) (words : List (List ℕ)) (chosen : Chosen) →
    has_value word ≡ true → read (word ∷ next ∷ words) chosen ≡ and_then (with_option word next chosen) (read words)
takes_next word next words chosen has = rw has refl

and_no_more : (chosen : Option Chosen) → chosen ≡ and_then chosen (read [])
and_no_more None = refl
and_no_more (Some chosen) = refl

-- another word does not
pub takes_none : (word : List ℕ) (words : List (List ℕ)) (chosen : Chosen) →
    has_value word ≡ false → read (word ∷ words) chosen ≡ and_then (with_word word chosen) (read words)
takes_none word [] chosen has = rw has (and_no_more (with_word word chosen))
takes_none word (next ∷ words) chosen has = rw has refl
