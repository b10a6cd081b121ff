-- Counts of lines, where one more byte comes.
use Rattle.std.proofs.Common.{◌≡◌, ◌≤◌, ◌+◌, ℕ, Bool, true, false, ◌==◌, ◌&&◌, cond, zero-add, List, [], ◌∷◌, ◌++◌, length, refl, sym, ap, ◌∙◌, add_assoc}
use Rattle.std.proofs.Common.{arith}
use mir.Val.{bool_byte}
use Rattle.std.specs.Prelude.{codes, count_by, nat_eq}
use Rattle.std.specs.List.{slice_split, onto_first, starts_with}
use Rattle.std.proofs.lemmas.List.Sums.{count_by-le-length, sum_by-append, sum_by-cons}
use Rattle.made_scripts.specs.Figures.{lines_in, is_call, calls_in}
use Rattle.made_scripts.specs.Wanted.{wanted_next, ends_beginning, wanted_from, wanted_after}

-- the line of which this is the rest tells a call, where it had to go on with these bytes
abbrev met : List ℕ → List ℕ → ℕ
met [] line = 0
met (c ∷ more) line = cond (starts_with nat_eq line (c ∷ more)) 1 0

-- of these lines so many tell a call, where the first is the rest of one that had to go on with these bytes
abbrev counted : List ℕ → List (List ℕ) → ℕ
counted wanted [] = 0
counted wanted (line ∷ lines) = met wanted line + count_by is_call lines

abbrev calls_from : List ℕ → List ℕ → ℕ
calls_from wanted bytes = counted wanted (slice_split (λ b. b == 10) bytes)

-- one more tells a call with this byte
abbrev told : List ℕ → ℕ → ℕ
told wanted byte = cond (ends_beginning wanted byte) 1 0

counted_anew : (lines : List (List ℕ)) → count_by is_call lines ≡ counted (codes "call") lines
counted_anew [] = refl
counted_anew (line ∷ lines) = sum_by-cons (λ l. cond (is_call l) 1 0) line lines

met_end : (wanted : List ℕ) → met wanted [] ≡ 0
met_end [] = refl
met_end (c ∷ more) = refl

-- where the byte is no line feed, the line goes on
met_more : (wanted line : List ℕ) (b : ℕ) → (b == 10) ≡ false → met wanted (b ∷ line) ≡ told wanted b + met (wanted_next wanted b) line
met_more [] line b within = rw within refl
met_more (c ∷ []) line b within = rw within (last (c == b))
  where
    last : (t : Bool) → cond (t && true) 1 0 ≡ cond t 1 0 + met (cond t [] []) line
    last true = refl
    last false = refl
met_more (c ∷ d ∷ more) line b within = rw within (inner (c == b))
  where
    inner : (t : Bool) → cond (t && starts_with nat_eq line (d ∷ more)) 1 0 ≡ 0 + met (cond t (d ∷ more) []) line
    inner true = sym (zero-add _)
    inner false = refl

-- a line feed ends the line, and the next one begins
told_ends : (wanted : List ℕ) (b : ℕ) → (b == 10) ≡ true → told wanted b ≡ 0
told_ends [] b ends = refl
told_ends (c ∷ []) b ends = rw ends refl
told_ends (c ∷ d ∷ more) b ends = refl

next_anew : (wanted : List ℕ) (b : ℕ) → (b == 10) ≡ true → wanted_next wanted b ≡ codes "call"
next_anew [] b ends = rw ends refl
next_anew (c ∷ more) b ends = rw ends refl

-- the first byte, and then the others
calls_first : (wanted : List ℕ) (b : ℕ) (bytes : List ℕ) → calls_from wanted (b ∷ bytes) ≡ told wanted b + calls_from (wanted_next wanted b) bytes
calls_first wanted b bytes = go (b == 10) refl
  where
    go_on : (b == 10) ≡ false → (lines : List (List ℕ)) → counted wanted (onto_first b lines) ≡ told wanted b + counted (wanted_next wanted b) lines
    go_on within [] = rw (met_more wanted [] b within, met_end (wanted_next wanted b)) (omega arith)
    go_on within (line ∷ lines) = rw (met_more wanted line b within) (omega arith)

    go : (t : Bool) → (b == 10) ≡ t → calls_from wanted (b ∷ bytes) ≡ told wanted b + calls_from (wanted_next wanted b) bytes
    go true ends = rw (ends, told_ends wanted b ends, next_anew wanted b ends, met_end wanted, counted_anew (slice_split (λ x. x == 10) bytes)) refl
    go false within = rw within (go_on within (slice_split (λ x. x == 10) bytes))

pub lines_more : (bytes : List ℕ) (b : ℕ) → lines_in (bytes ++ b ∷ []) ≡ lines_in bytes + cond (b == 10) 1 0
unfolding lines_in
lines_more bytes b = sum_by-append (λ x. cond (x == 10) 1 0) bytes (b ∷ []) ∙ ap (λ n. lines_in bytes + n) (zero-add (cond (b == 10) 1 0))

pub wanted_more : (bytes : List ℕ) (b : ℕ) → wanted_after (bytes ++ b ∷ []) ≡ wanted_next (wanted_after bytes) b
unfolding wanted_after
wanted_more bytes b = go (codes "call") bytes
  where
    go : (wanted bytes : List ℕ) → wanted_from wanted (bytes ++ b ∷ []) ≡ wanted_next (wanted_from wanted bytes) b
    go wanted [] = refl
    go wanted (x ∷ bytes) = go (wanted_next wanted x) bytes

calls_last : (wanted bytes : List ℕ) (b : ℕ) → calls_from wanted (bytes ++ b ∷ []) ≡ calls_from wanted bytes + told (wanted_from wanted bytes) b
calls_last wanted [] b = rw (calls_first wanted b [], met_end (wanted_next wanted b), met_end wanted) (omega arith)
calls_last wanted (x ∷ bytes) b =
    calls_first wanted x (bytes ++ b ∷ []) ∙ ap (λ n. told wanted x + n) (calls_last (wanted_next wanted x) bytes b)
    ∙ sym (add_assoc (told wanted x) (calls_from (wanted_next wanted x) bytes) (told (wanted_from (wanted_next wanted x) bytes) b))
    ∙ ap (λ n. n + told (wanted_from (wanted_next wanted x) bytes) b) (sym (calls_first wanted x bytes))

pub calls_more : (bytes : List ℕ) (b : ℕ) → calls_in (bytes ++ b ∷ []) ≡ calls_in bytes + cond (ends_beginning (wanted_after bytes) b) 1 0
unfolding calls_in wanted_after
calls_more bytes b = counted_anew _ ∙ calls_last (codes "call") bytes b ∙ ap (λ n. n + told (wanted_from (codes "call") bytes) b) (sym (counted_anew _))

-- a `bool` as a number
pub byte_is : (b : Bool) → bool_byte b ≡ cond b 1 0
byte_is true = refl
byte_is false = refl

pub byte_few : (b : Bool) → bool_byte b ≤ 1
byte_few true = omega arith
byte_few false = omega arith

pub lines_few : (bytes : List ℕ) → lines_in bytes ≤ length bytes
unfolding lines_in
lines_few bytes = count_by-le-length (λ b. b == 10) bytes

told_once : (wanted : List ℕ) (b : ℕ) → told wanted b ≤ 1
told_once wanted b = elim (ends_beginning wanted b) as (λ t. cond t 1 0 ≤ 1) [ true ↦ omega arith | false ↦ omega arith ]

calls_from_few : (wanted bytes : List ℕ) → calls_from wanted bytes ≤ length bytes
calls_from_few wanted [] = rw (met_end wanted) (omega arith)
calls_from_few wanted (b ∷ bytes) = rw (calls_first wanted b bytes) (omega (arith, told_once wanted b, calls_from_few (wanted_next wanted b) bytes))

pub calls_few : (bytes : List ℕ) → calls_in bytes ≤ length bytes
unfolding calls_in
calls_few bytes = rw (counted_anew (slice_split (λ b. b == 10) bytes)) (calls_from_few (codes "call") bytes)
