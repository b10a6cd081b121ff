-- A line of a name that is cut at its first quote, and what is written of it.
use Rattle.std.proofs.Common.{◌≡◌, ◌≢◌, ◌<◌, ℕ, false, List, [], ◌∷◌, ◌++◌, Some, None, Option, length, get_or, refl, sym, ap, ◌∙◌, append_assoc, codes, Bor}
use Rattle.std.proofs.Common.{MatchOption}
use Rattle.std.specs.Prelude.{flat_map, nat_eq}
use Rattle.std.proofs.lemmas.Bool.{ne_eqb, or_parts}
use Rattle.std.proofs.lemmas.Grind.{flat_map-append}
use Rattle.std.proofs.lemmas.List.Elements.{All-from_get_or}
use Rattle.std.proofs.lemmas.List.Folds.{list_any_none, list_any-append}
use Rattle.form_controls.specs.Texts.{is_newline}
use Rattle.form_submission.specs.Encodings.{escaped, escaped_byte}
use Rattle.submit_encoders.specs.Cuts.{CutsQuote, has_line_end, has_quote, is_quote}
use Rattle.submit_encoders.proofs.Lines.{full_one_line}

no_quote_in : (text : List ℕ) → ((i : ℕ) → i < length text → get_or text i 0 ≢ 34) → has_quote text ≡ false
no_quote_in text none = list_any_none is_quote text (All-from_get_or (λ b. is_quote b ≡ false) text 0 (λ i small. ne_eqb (get_or text i 0) 34 (none i small)))

pub cuts_quote : (text : List ℕ) (cut : Option (Bor (List ℕ) × Bor (List ℕ)))
    → MatchOption cut ((i : ℕ) → i < length text → get_or text i 0 ≢ 34)
    (λ parts. (text ≡ parts.0.now ++ (34 ∷ parts.1.now)) × ((i : ℕ) → i < length parts.0.now → get_or parts.0.now i 0 ≢ 34))
    → MatchOption cut (has_quote text ≡ false) (λ parts. CutsQuote text parts.0.now parts.1.now)
cuts_quote text None none = no_quote_in text none
cuts_quote text (Some parts) (is, none) = record { no_quote = no_quote_in parts.0.now none; cut = is }

-- a line without quotes is escaped as it stands
pub escaped_as_it_stands : (line : List ℕ) → has_line_end line ≡ false → has_quote line ≡ false → flat_map escaped_byte line ≡ line
escaped_as_it_stands [] is none = refl
escaped_as_it_stands (b ∷ line) is none =
    let ends = or_parts (is_newline b) (has_line_end line) is in
    let newlines = or_parts (nat_eq b 13) (nat_eq b 10) ends.0 in
    let quotes = or_parts (is_quote b) (has_quote line) none in
    rw (newlines.0, newlines.1, quotes.0) (ap (λ more. b ∷ more) (escaped_as_it_stands line ends.1 quotes.1))

pub escaped_one_line : (name : List ℕ) → has_line_end name ≡ false → escaped name ≡ flat_map escaped_byte name
escaped_one_line name is = ap (flat_map escaped_byte) (full_one_line name is)

-- the line is escaped to its front as it stands, %22, and what the rest is escaped to
pub record EscapesQuote (line front rest : List ℕ) : Type 0 where
  pub escapes : flat_map escaped_byte line ≡ front ++ codes "%22" ++ flat_map escaped_byte rest
  pub is_line : has_line_end rest ≡ false

pub escapes_quote : (line front rest : List ℕ) → has_line_end line ≡ false → CutsQuote line front rest → EscapesQuote line front rest
escapes_quote line front rest is cut =
    let parts = or_parts (has_line_end front) (has_line_end (34 ∷ rest))
    (sym (list_any-append is_newline front (34 ∷ rest)) ∙ (ap has_line_end (sym cut.cut) ∙ is)) in
    record {
      escapes = ap (flat_map escaped_byte) cut.cut
          ∙ (flat_map-append escaped_byte front (34 ∷ rest)
          ∙ (ap (λ first. first ++ flat_map escaped_byte (34 ∷ rest)) (escaped_as_it_stands front parts.0 cut.no_quote)
          ∙ sym (append_assoc front (codes "%22") (flat_map escaped_byte rest))));
      is_line = parts.1;
    }
