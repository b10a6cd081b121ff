-- Where the lines of a made script stand.
use Rattle.std.proofs.Common.{◌≡◌, ◌≤◌, ◌<◌, ℕ, zero, suc, ◌+◌, ◌-◌, ◌*◌, ◌/◌, ◌%◌, List, [], ◌∷◌, ◌++◌, length, get_or, drop, Some, None, refl, ap, ◌∙◌}
use Rattle.std.proofs.Common.{add-zero, arith}
use Rattle.std.specs.Prelude.{slice_get}
use Rattle.std.proofs.Math.Seq.{get_or-append_seam}
use Rattle.std.proofs.lemmas.List.{length-append, get_or_append_left, get_or-append-add}
use Rattle.std.proofs.lemmas.Option.{slice_get-get_or, slice_get_past}
use Rattle.made_scripts.specs.Made.{first_lines, element_lines, elements_from, submit_line, made_lines, line_count}

length-first_lines : length first_lines ≡ 12
unfolding first_lines
length-first_lines = refl

length-element_lines : (number : ℕ) → length (element_lines number) ≡ 4
unfolding element_lines
length-element_lines number = refl

length-elements_from : (number count : ℕ) → length (elements_from number count) ≡ 4 * count
length-elements_from number zero = refl
length-elements_from number (suc count) = rw (length-append, length-element_lines number, length-elements_from (number + 1) count) (omega arith)

length-elements : (n : ℕ) → length (first_lines ++ elements_from 1 n) ≡ 12 + 4 * n
length-elements n = rw (length-append, length-first_lines, length-elements_from 1 n)

pub length-made_lines : (n : ℕ) → length (made_lines n) ≡ line_count n
unfolding made_lines
length-made_lines n = rw (length-append, length-elements n) (omega arith)

-- the lines of the elements, four of each
element_at : (number count q r : ℕ) → q < count → r < 4 → get_or (elements_from number count) (4 * q + r) [] ≡ get_or (element_lines (number + q)) r []
element_at number zero q r within small = absurd (omega (arith, within))
element_at number (suc count) zero r within small =
    let at : 4 * 0 + r ≡ r = omega arith in
    let inside : r < length (element_lines number) = omega (arith, small, length-element_lines number) in
    rw (at, add-zero) (get_or_append_left (element_lines number) (elements_from (number + 1) count) [] r inside)
element_at number (suc count) (suc q) r within small =
    let at : 4 * suc q + r ≡ length (element_lines number) + (4 * q + r) = omega (arith, length-element_lines number) in
    let next : number + suc q ≡ number + 1 + q = omega arith in
    rw (at, next) (get_or-append-add (element_lines number) (elements_from (number + 1) count) (4 * q + r) []
    ∙ element_at (number + 1) count q r (omega (arith, within)) small)

pub made_first : (n place : ℕ) → place < 12 → slice_get (made_lines n) place ≡ Some (get_or first_lines place [])
unfolding made_lines
made_first n place within =
    let inside : place < length (made_lines n) = omega (arith, within, length-made_lines n) in
    slice_get-get_or (made_lines n) place [] inside
    ∙ ap Some (get_or_append_left (first_lines ++ elements_from 1 n) (submit_line ∷ []) [] place (omega (arith, within, length-elements n))
    ∙ get_or_append_left first_lines (elements_from 1 n) [] place (omega (arith, within, length-first_lines)))

pub made_element : (n place : ℕ) → 12 ≤ place → place < 12 + 4 * n
    → slice_get (made_lines n) place ≡ Some (get_or (element_lines ((place - 12) / 4 + 1)) ((place - 12) % 4) [])
unfolding made_lines
made_element n place from within =
    let inside : place < length (made_lines n) = omega (arith, within, length-made_lines n) in
    let q = (place - 12) / 4 in
    let r = (place - 12) % 4 in
    let at : place ≡ length first_lines + (4 * q + r) = omega (arith, from, length-first_lines) in
    slice_get-get_or (made_lines n) place [] inside
    ∙ ap Some (get_or_append_left (first_lines ++ elements_from 1 n) (submit_line ∷ []) [] place (omega (arith, within, length-elements n))
    ∙ ap (λ k. get_or (first_lines ++ elements_from 1 n) k []) at
    ∙ get_or-append-add first_lines (elements_from 1 n) (4 * q + r) []
    ∙ element_at 1 n q r (omega (arith, from, within)) (omega arith)
    ∙ ap (λ k. get_or (element_lines k) r []) (let e : 1 + q ≡ q + 1 = omega arith in e))

pub made_submit : (n place : ℕ) → place ≡ 12 + 4 * n → slice_get (made_lines n) place ≡ Some submit_line
unfolding made_lines
made_submit n place at =
    let inside : place < length (made_lines n) = omega (arith, at, length-made_lines n) in
    let is : place ≡ length (first_lines ++ elements_from 1 n) = omega (arith, at, length-elements n) in
    slice_get-get_or (made_lines n) place [] inside
    ∙ ap Some (ap (λ k. get_or (made_lines n) k []) is ∙ get_or-append_seam (first_lines ++ elements_from 1 n) submit_line [] [])

pub made_end : (n place : ℕ) → 12 + 4 * n < place → slice_get (made_lines n) place ≡ None
made_end n place behind = slice_get_past (made_lines n) place (omega (arith, length-made_lines n))

-- what is left from a place on: its member, and what is left behind it
pub left_more : (lines : List (List ℕ)) (place : ℕ) (line : List ℕ) → slice_get lines place ≡ Some line → drop place lines ≡ line ∷ drop (place + 1) lines
left_more [] place line at = absurd (let e : None ≡ Some line = at in cc)
left_more (x ∷ lines) zero line at = let e : Some x ≡ Some line = at in let is : x ≡ line = cc in ap (λ l. l ∷ lines) is
left_more (x ∷ lines) (suc place) line at =
    left_more lines place line at ∙ ap (λ k. line ∷ drop k (x ∷ lines)) (let e : suc (place + 1) ≡ suc place + 1 = omega arith in e)

pub left_end : (lines : List (List ℕ)) (place : ℕ) → slice_get lines place ≡ None → drop place lines ≡ []
left_end [] zero at = refl
left_end [] (suc place) at = refl
left_end (x ∷ lines) zero at = absurd (let e : Some x ≡ None = at in cc)
left_end (x ∷ lines) (suc place) at = left_end lines place at
