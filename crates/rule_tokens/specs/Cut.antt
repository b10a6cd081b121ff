-- The tokens of a line as they stand in it. They stand between spaces. One that begins with a quote goes on
-- to the next quote that no backslash protects.
use Rattle.std.specs.Prelude.{◌≡◌, ℕ, Bool, true, false, List, [], ◌∷◌, ◌++◌, Result, Ok, Err, ◌==◌, if◌then◌else◌}
use Rattle.rule_tokens.specs.declared.refused.Bad.{Bad}
use Rattle.rule_tokens.specs.declared.refused.Bad.TheVariants.{Quote}
use Rattle.rule_tokens.specs.declared.refused.LineRefused.{LineRefused}
use Rattle.rule_tokens.specs.declared.cutting.Raw.{Raw}
use Rattle.rule_tokens.specs.declared.cutting.Within.{Within}
use Rattle.rule_tokens.specs.declared.cutting.Within.TheVariants.{Gap, Bare, Quoted, Protected, Closed}
use Rattle.rule_tokens.specs.Gives.{with_front, Fails}

abbrev pub raw : Bool → List ℕ → Raw
raw quoted chars = record { quoted = quoted; chars = chars }

-- the tokens from here on, where the line stands within this (32 is a space, 34 a quote, 92 a backslash)
unfoldable pub cut : List ℕ → Within → Result (List Raw) Bad
cut [] Gap = Ok []
cut [] (Bare w) = Ok (raw false w ∷ [])
cut [] (Quoted w) = Err Quote
cut [] (Protected w) = Err Quote
cut [] Closed = Ok []
cut (c ∷ cs) Gap = if c == 32 then cut cs Gap else (if c == 34 then cut cs (Quoted []) else cut cs (Bare (c ∷ [])))
cut (c ∷ cs) (Bare w) = if c == 32 then with_front (raw false w ∷ []) (cut cs Gap) else (if c == 34 then Err Quote else cut cs (Bare (w ++ c ∷ [])))
cut (c ∷ cs) (Quoted w) = if c == 34 then with_front (raw true w ∷ []) (cut cs Closed)
    else (if c == 92 then cut cs (Protected (w ++ c ∷ [])) else cut cs (Quoted (w ++ c ∷ [])))
cut (c ∷ cs) (Protected w) = cut cs (Quoted (w ++ c ∷ []))
cut (c ∷ cs) Closed = if c == 32 then cut cs Gap else Err Quote

-- after one more character the tokens of the line are the same, whatever follows
abbrev pub CutStep : List Raw → Within → ℕ → List Raw → Result Within LineRefused → Type 0
CutStep old within c new (Ok next) = (cs : List ℕ) → with_front old (cut (c ∷ cs) within) ≡ with_front new (cut cs next)
CutStep old within c new (Err e) = (cs : List ℕ) → Fails e (cut (c ∷ cs) within)
