-- Lines of bytes that come in pieces.
use Rattle.std.proofs.Common.{◌≡◌, ◌≢◌, ◌<◌, ℕ, true, false, ◌==◌, cond, length, List, [], ◌∷◌, ◌++◌, refl, sym, ap, ◌∙◌, append_assoc, append-nil, arith, All}
use Rattle.std.proofs.lemmas.List.Elements.{recursion_from_All}
use Rattle.ce_algorithms.specs.Lines.{whole_from, part_from, whole_lines, last_part, last_line, lines_of}
use Rattle.ce_algorithms.proofs.NoFeeds.{part_from-no_feed, whole_from-no_feed}

-- what comes later is cut as if the part before stood in front of it
whole_from-append : (p a b : List ℕ) → whole_from p (a ++ b) ≡ whole_from p a ++ whole_from (part_from p a) b
whole_from-append p [] b = refl
whole_from-append p (x ∷ a) b =
    elim (x == 10) as (λ t. cond t (p ∷ whole_from [] (a ++ b)) (whole_from (p ++ x ∷ []) (a ++ b))
    ≡ cond t (p ∷ whole_from [] a) (whole_from (p ++ x ∷ []) a) ++ whole_from (cond t (part_from [] a) (part_from (p ++ x ∷ []) a)) b) [
      | true ↦ ap (λ l. p ∷ l) (whole_from-append [] a b)
      | false ↦ whole_from-append (p ++ x ∷ []) a b
    ]

part_from-append : (p a b : List ℕ) → part_from p (a ++ b) ≡ part_from (part_from p a) b
part_from-append p [] b = refl
part_from-append p (x ∷ a) b =
    elim (x == 10) as (λ t. cond t (part_from [] (a ++ b)) (part_from (p ++ x ∷ []) (a ++ b))
    ≡ part_from (cond t (part_from [] a) (part_from (p ++ x ∷ []) a)) b) [
      | true ↦ part_from-append [] a b
      | false ↦ part_from-append (p ++ x ∷ []) a b
    ]

-- a line, its line feed, and other bytes
pub whole_lines-line : (line rest : List ℕ) → All (λ b. b ≢ 10) line → whole_lines (line ++ 10 ∷ rest) ≡ line ∷ whole_lines rest
whole_lines-line line rest h = whole_from-no_feed [] line (10 ∷ rest) (recursion_from_All _ line h)

pub last_part-line : (line rest : List ℕ) → All (λ b. b ≢ 10) line → last_part (line ++ 10 ∷ rest) ≡ last_part rest
last_part-line line rest h = part_from-no_feed [] line (10 ∷ rest) (recursion_from_All _ line h)

pub whole_lines-no_feed : (bytes : List ℕ) → All (λ b. b ≢ 10) bytes → whole_lines bytes ≡ []
whole_lines-no_feed bytes h = ap whole_lines (sym (append-nil bytes)) ∙ whole_from-no_feed [] bytes [] (recursion_from_All _ bytes h)

pub last_part-no_feed : (bytes : List ℕ) → All (λ b. b ≢ 10) bytes → last_part bytes ≡ bytes
last_part-no_feed bytes h = ap last_part (sym (append-nil bytes)) ∙ part_from-no_feed [] bytes [] (recursion_from_All _ bytes h)

-- the next piece, where the part before has no line feed
pub whole_lines-piece : (taken part piece : List ℕ) → part ≡ last_part taken → All (λ b. b ≢ 10) part
    → whole_lines (taken ++ piece) ≡ whole_lines taken ++ whole_lines (part ++ piece)
whole_lines-piece taken part piece is h =
    whole_from-append [] taken piece
    ∙ ap (λ l. whole_lines taken ++ l) (ap (λ l. whole_from l piece) (sym is) ∙ sym (whole_from-no_feed [] part piece (recursion_from_All _ part h)))

pub last_part-piece : (taken part piece : List ℕ) → part ≡ last_part taken → All (λ b. b ≢ 10) part → last_part (taken ++ piece) ≡ last_part (part ++ piece)
last_part-piece taken part piece is h =
    part_from-append [] taken piece ∙ (ap (λ l. part_from l piece) (sym is) ∙ sym (part_from-no_feed [] part piece (recursion_from_All _ part h)))

-- the whole lines of a front are the first whole lines of all
pub whole_lines-front : (front rest : List ℕ) → (more : List (List ℕ)) × (whole_lines (front ++ rest) ≡ whole_lines front ++ more)
whole_lines-front front rest = (whole_from (last_part front) rest, whole_from-append [] front rest)

-- and the first lines of all
pub lines_of-front : (front rest : List ℕ) → (more : List (List ℕ)) × (lines_of (front ++ rest) ≡ whole_lines front ++ more)
lines_of-front front rest =
    let more = whole_lines-front front rest in
    let last = last_line (last_part (front ++ rest)) in
    (more.0 ++ last, ap (λ l. l ++ last) more.1 ∙ append_assoc (whole_lines front) more.0 last)

-- what is left, if anything, is the last line
pub last_line-some : (feed line : List ℕ) → line ≡ last_part feed → All (λ b. b ≢ 10) feed → 0 < length line → last_line feed ≡ line ∷ []
last_line-some [] line is clean some = absurd (omega (arith, ap length is))
last_line-some (b ∷ feed) line is clean some = ap (λ l. l ∷ []) (sym (is ∙ last_part-no_feed (b ∷ feed) clean))

pub last_line-none : (feed : List ℕ) → last_part feed ≡ [] → All (λ b. b ≢ 10) feed → last_line feed ≡ []
last_line-none [] is clean = refl
last_line-none (b ∷ feed) is clean = absurd (omega (arith, ap length (sym is ∙ last_part-no_feed (b ∷ feed) clean)))
