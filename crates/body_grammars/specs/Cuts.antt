-- Bytes cut in two, at a byte or at a text.
use Rattle.std.specs.Prelude.{ℕ, Bool, ◌==◌, nat_eq, drop, if◌then◌else◌, List, [], ◌∷◌, ◌++◌, Option, Some, None, length, true, false}
use Rattle.std.specs.Borrow.{Bor}
use Rattle.std.specs.List.{starts_with}
use Rattle.std.specs.Str.{is_utf8}

abbrev pub only_utf8 : List ℕ → Option (List ℕ)
only_utf8 bytes = if is_utf8 bytes then Some bytes else None

abbrev pub is_byte : ℕ → ℕ → Bool
is_byte c b = b == c

abbrev pub onto : List ℕ → Option (List ℕ × List ℕ) → Option (List ℕ × List ℕ)
onto front None = None
onto front (Some (before, behind)) = Some (front ++ before, behind)

-- what stands before the first such byte and behind it
unfoldable pub cut_at : ℕ → List ℕ → Option (List ℕ × List ℕ)
cut_at c [] = None
cut_at c (b ∷ bytes) = if b == c then Some ([], bytes) else onto (b ∷ []) (cut_at c bytes)

abbrev pub seen_cut : Option (Bor (List ℕ) × Bor (List ℕ)) → Option (List ℕ × List ℕ)
seen_cut None = None
seen_cut (Some (name, value)) = Some (name.now, value.now)

-- what follows the front
unfoldable pub behind : List ℕ → List ℕ → Option (List ℕ)
behind front bytes = if starts_with nat_eq bytes front then Some (drop (length front) bytes) else None

-- a cut here, or further on
abbrev pub cut_here : Option (List ℕ) → Option (List ℕ × List ℕ) → Option (List ℕ × List ℕ)
cut_here (Some rest) later = Some ([], rest)
cut_here None later = later

-- what stands before the text where it occurs first, and behind it there
unfoldable pub cut_text : List ℕ → List ℕ → Option (List ℕ × List ℕ)
cut_text text [] = None
cut_text text (b ∷ bytes) = cut_here (behind text (b ∷ bytes)) (onto (b ∷ []) (cut_text text bytes))

abbrev pub no_cut : Option (List ℕ × List ℕ) → Bool
no_cut None = true
no_cut (Some x) = false

abbrev pub lacks : ℕ → List ℕ → Bool
lacks c text = no_cut (cut_at c text)
