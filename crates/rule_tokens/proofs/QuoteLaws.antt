-- A text in quotes is one token, which says the text.
use Rattle.std.proofs.Common.{◌≡◌, ◌≢◌, ◌≤◌, ◌<◌, ℕ, ◌+◌, ◌*◌, ◌/◌, ◌%◌, Bool, true, false, cond, eqb, ◌||◌, List, [], ◌∷◌, ◌++◌, length, Option, Some, None}
use Rattle.std.proofs.Common.{Result, Ok, Err, refl, sym, ap, ◌∙◌, append_assoc, inr, arith, subst}
use Rattle.std.specs.Prelude.{nat_lt, encode_utf8_all, IfOk}
use Rattle.std.specs.Char.{digit_char, is_ascii_control}
use Rattle.std.specs.List.{list_any}
use Rattle.std.specs.Str.{chars, IsUtf8}
use Rattle.std.proofs.lemmas.Bool.{eq-eqb, le-ltb}
use Rattle.std.proofs.lemmas.Bool.Decides.{nat_tests}
use Rattle.std.proofs.lemmas.Str.{digit_value-digit_char, encode_ascii, encodes-append, encodes-chars, encodes_same, is_utf8-from_IsUtf8}
use Rattle.rule_tokens.specs.declared.refused.Bad.{Bad}
use Rattle.rule_tokens.specs.declared.token.Token.{Token}
use Rattle.rule_tokens.specs.Cases.{ReadsTo}
use Rattle.rule_tokens.specs.Cut.{raw}
use Rattle.rule_tokens.specs.Escapes.{hex_from, named, short_escape}
use Rattle.rule_tokens.specs.Layout.{Piece, Plain, Guarded, pieces, ArePieces, LaidOut}
use Rattle.rule_tokens.specs.Quoted.{IsReadBack, escape, escape_by, escaped, hex, in_quotes, short_letter}
use Rattle.rule_tokens.specs.Signs.{Sign, Itself, Letter, Code, signs, SaysOne, Say, IsReadAs}
use Rattle.rule_tokens.specs.Tokens.{tokens_of, tokens_in, tokens_of_chars}
use Rattle.rule_tokens.specs.Laws.{IsAnswer}
use Rattle.rule_tokens.proofs.CaseLaws.{lex_reads}
use Rattle.rule_tokens.proofs.CutLaws.{cut_laid_out, pieces_more, are_more}
use Rattle.rule_tokens.proofs.EscapeLaws.{unescape_read}
use Rattle.rule_tokens.proofs.TextLaws.{control_small}

-- characters with their escapes
abbrev pub escapes : List ℕ → List ℕ
escapes [] = []
escapes (c ∷ cs) = escape c ++ escapes cs

-- ---- facts about characters

letter_escape : (c d : ℕ) → short_letter c ≡ Some d → short_escape d ≡ Some c
letter_escape c d is = grind (arith, nat_tests)

short_plain : (c d : ℕ) → short_letter c ≡ Some d → is_ascii_control d ≡ false
short_plain c d is = grind (arith, nat_tests)

plain_backslash : (c : ℕ) → short_letter c ≡ None → eqb c 92 ≡ false
plain_backslash c is = grind (arith, nat_tests)

plain_quote : (c : ℕ) → short_letter c ≡ None → eqb c 34 ≡ false
plain_quote c is = grind (arith, nat_tests)

digit_plain : (d : ℕ) → d < 16 → ((eqb (digit_char d) 34 ≡ false) × (eqb (digit_char d) 92 ≡ false)) × (is_ascii_control (digit_char d) ≡ false)
digit_plain d small = grind (arith, nat_tests)

pub differs : (c d : ℕ) → eqb c d ≡ false → c ≢ d
differs c d is same = let clash : true ≡ false = sym (eq-eqb c d same) ∙ is in absurd cc

named_one : (d : ℕ) → d < 16 → named (digit_char d ∷ []) ≡ Some d
unfolding named hex_from
named_one d small = grind (arith, nat_tests, digit_value-digit_char)

named_two : (a b : ℕ) → a < 8 → b < 16 → named (digit_char a ∷ digit_char b ∷ []) ≡ Some (a * 16 + b)
unfolding named hex_from
named_two a b one two = grind (arith, nat_tests, digit_value-digit_char)

abbrev hex_by : Bool → ℕ → List ℕ
hex_by b c = cond b (digit_char (c % 16) ∷ []) (digit_char (c / 16) ∷ digit_char (c % 16) ∷ [])

named_hex_by : (b : Bool) (c : ℕ) → nat_lt c 16 ≡ b → c < 128 → named (hex_by b c) ≡ Some c
named_hex_by true c is small =
    let below : c < 16 = grind (arith, nat_tests) in
    let low : c % 16 < 16 = omega arith in
    let whole : c % 16 ≡ c = omega arith in
    named_one (c % 16) low ∙ ap (λ (n : ℕ). Some n) whole
named_hex_by false c is small =
    let low : c % 16 < 16 = omega arith in
    let high : c / 16 < 8 = omega arith in
    let whole : c / 16 * 16 + c % 16 ≡ c = omega arith in
    named_two (c / 16) (c % 16) high low ∙ ap (λ (n : ℕ). Some n) whole

named_hex : (c : ℕ) → c < 128 → named (hex c) ≡ Some c
named_hex c small = named_hex_by (nat_lt c 16) c refl small

-- ---- as signs

abbrev sign_by : Option ℕ → Bool → ℕ → Sign
sign_by (Some d) b c = Letter d
sign_by None true c = Code (hex c)
sign_by None false c = Itself c

abbrev sign : ℕ → Sign
sign c = sign_by (short_letter c) (is_ascii_control c) c

abbrev all_signs : List ℕ → List Sign
all_signs [] = []
all_signs (c ∷ cs) = sign c ∷ all_signs cs

says_by : (o : Option ℕ) (b : Bool) (c : ℕ) → short_letter c ≡ o → is_ascii_control c ≡ b → SaysOne (sign_by o b c) c
says_by (Some d) b c is control = letter_escape c d is
says_by None true c is control = named_hex c (control_small c control)
says_by None false c is control = (differs c 92 (plain_backslash c is), refl)

spelled_by : (o : Option ℕ) (b : Bool) (c : ℕ) (ss : List Sign) → is_ascii_control c ≡ b → signs (sign_by o b c ∷ ss) ≡ escape_by o c ++ signs ss
spelled_by (Some d) b c ss control = refl
spelled_by None true c ss control = rw control (ap (λ (l : List ℕ). 92 ∷ 117 ∷ 123 ∷ l) (sym (append_assoc (hex c) (125 ∷ []) (signs ss))))
spelled_by None false c ss control = rw control refl

all_say : (cs : List ℕ) → Say (all_signs cs) cs
all_say [] = tt
all_say (c ∷ cs) = (says_by (short_letter c) (is_ascii_control c) c refl refl, all_say cs)

all_spelled : (cs : List ℕ) → escapes cs ≡ signs (all_signs cs)
unfolding escape
all_spelled [] = refl
all_spelled (c ∷ cs) = ap (λ (l : List ℕ). escape c ++ l) (all_spelled cs) ∙ sym (spelled_by (short_letter c) (is_ascii_control c) c (all_signs cs) refl)

pub escapes_read : (cs : List ℕ) → IsReadAs (escapes cs) cs
escapes_read cs = (all_signs cs, (all_spelled cs, all_say cs))

-- ---- as pieces

abbrev pub ArePiecesOf : List ℕ → Type 0
ArePiecesOf inside = (ps : List Piece) × ((inside ≡ pieces ps) × ArePieces ps)

pieces_both : (xs ys : List ℕ) → ArePiecesOf xs → ArePiecesOf ys → ArePiecesOf (xs ++ ys)
pieces_both xs ys (ps, one) (qs, two) =
    (ps ++ qs, (ap (λ (l : List ℕ). l ++ ys) one.0 ∙ (ap (λ (l : List ℕ). pieces ps ++ l) two.0 ∙ sym (pieces_more ps qs)), are_more ps qs one.1 two.1))

piece_plain : (c : ℕ) → eqb c 34 ≡ false → eqb c 92 ≡ false → ArePiecesOf (c ∷ [])
piece_plain c quote backslash = (Plain c ∷ [], (refl, ((differs c 34 quote, differs c 92 backslash), tt)))

piece_guarded : (d : ℕ) → ArePiecesOf (92 ∷ d ∷ [])
piece_guarded d = (Guarded d ∷ [], (refl, tt))

piece_digit : (d : ℕ) → d < 16 → ArePiecesOf (digit_char d ∷ [])
piece_digit d small = let plain = digit_plain d small in piece_plain (digit_char d) plain.0.0 plain.0.1

pieces_hex : (b : Bool) (c : ℕ) → c < 128 → ArePiecesOf (hex_by b c)
pieces_hex true c small = piece_digit (c % 16) (omega arith)
pieces_hex false c small = pieces_both (digit_char (c / 16) ∷ []) (digit_char (c % 16) ∷ []) (piece_digit (c / 16) (omega arith))
    (piece_digit (c % 16) (omega arith))

pieces_by : (o : Option ℕ) (b : Bool) (c : ℕ) → short_letter c ≡ o → is_ascii_control c ≡ b → ArePiecesOf (escape_by o c)
pieces_by (Some d) b c is control = piece_guarded d
pieces_by None true c is control = rw control (pieces_both (92 ∷ 117 ∷ []) (123 ∷ (hex c ++ 125 ∷ [])) (piece_guarded 117)
    (pieces_both (123 ∷ []) (hex c ++ 125 ∷ []) (piece_plain 123 refl refl)
    (pieces_both (hex c) (125 ∷ []) (pieces_hex (nat_lt c 16) c (control_small c control)) (piece_plain 125 refl refl))))
pieces_by None false c is control = rw control (piece_plain c (plain_quote c is) (plain_backslash c is))

pub pieces_all : (cs : List ℕ) → ArePiecesOf (escapes cs)
unfolding escape
pieces_all [] = ([], (refl, tt))
pieces_all (c ∷ cs) = pieces_both (escape c) (escapes cs) (pieces_by (short_letter c) (is_ascii_control c) c refl refl) (pieces_all cs)

-- ---- nothing stray

pub any_both : (test : ℕ → Bool) (xs ys : List ℕ) → list_any test xs ≡ false → list_any test ys ≡ false → list_any test (xs ++ ys) ≡ false
any_both test [] ys one two = two
any_both test (x ∷ xs) ys one two = go (test x) one (λ rest. any_both test xs ys rest two)
  where
    go : (b : Bool) → (b || list_any test xs) ≡ false → (list_any test xs ≡ false → list_any test (xs ++ ys) ≡ false) → (b || list_any test (xs ++ ys)) ≡ false
    go true is more = absurd cc
    go false is more = more is

hex_plain : (b : Bool) (c : ℕ) → c < 128 → list_any is_ascii_control (hex_by b c) ≡ false
hex_plain true c small = let low : c % 16 < 16 = omega arith in rw (digit_plain (c % 16) low).1 refl
hex_plain false c small =
    let low : c % 16 < 16 = omega arith in
    let high : c / 16 < 16 = omega arith in
    rw ((digit_plain (c / 16) high).1, (digit_plain (c % 16) low).1) refl

plain_by : (o : Option ℕ) (b : Bool) (c : ℕ) → short_letter c ≡ o → is_ascii_control c ≡ b → list_any is_ascii_control (escape_by o c) ≡ false
plain_by (Some d) b c is control = rw (short_plain c d is) refl
plain_by None true c is control = rw control (any_both is_ascii_control (hex c) (125 ∷ []) (hex_plain (nat_lt c 16) c (control_small c control)) refl)
plain_by None false c is control = rw (control, control) refl

plain_all : (cs : List ℕ) → list_any is_ascii_control (escapes cs) ≡ false
unfolding escape
plain_all [] = refl
plain_all (c ∷ cs) = any_both is_ascii_control (escape c) (escapes cs) (plain_by (short_letter c) (is_ascii_control c) c refl refl) (plain_all cs)

-- ---- the line that is the text in quotes

abbrev pub quoted_line : List ℕ → List ℕ
quoted_line cs = 34 ∷ (escapes cs ++ 34 ∷ [])

quoted_laid_out : (cs : List ℕ) → LaidOut (quoted_line cs) (raw true (escapes cs) ∷ [])
quoted_laid_out cs =
    let ps = pieces_all cs in
    record {
      items = [];
      fit = tt;
      last = quoted_line cs;
      last_tokens = raw true (escapes cs) ∷ [];
      line_is = refl;
      tokens_are = refl;
      is_last = inr (inr (ps.0, (ps.1.1, ap (λ (l : List ℕ). 34 ∷ (l ++ 34 ∷ [])) ps.1.0, ap (λ (l : List ℕ). raw true l ∷ []) ps.1.0)));
    }

quoted_token : (cs : List ℕ) → tokens_in (raw true (escapes cs) ∷ []) ≡ Ok (record { quoted = true; text = encode_utf8_all cs } ∷ [])
quoted_token cs = rw (unescape_read (escapes cs) cs (escapes_read cs)) refl

pub quoted_plain : (cs : List ℕ) → list_any is_ascii_control (quoted_line cs) ≡ false
quoted_plain cs = any_both is_ascii_control (34 ∷ escapes cs) (34 ∷ []) (plain_all cs) refl

quoted_tokens : (cs : List ℕ) → tokens_of_chars (quoted_line cs) ≡ Ok (record { quoted = true; text = encode_utf8_all cs } ∷ [])
unfolding tokens_of_chars
quoted_tokens cs = rw (cut_laid_out (quoted_line cs) (raw true (escapes cs) ∷ []) (quoted_laid_out cs), quoted_token cs, quoted_plain cs) refl

escaped_is : (cs : List ℕ) → escaped cs ≡ encode_utf8_all (escapes cs)
escaped_is [] = refl
escaped_is (c ∷ cs) = ap (λ (l : List ℕ). encode_utf8_all (escape c) ++ l) (escaped_is cs) ∙ sym (encodes-append (escape c) (escapes cs))

pub quotes_are : (text : List ℕ) → in_quotes text ≡ encode_utf8_all (quoted_line (chars text))
quotes_are text =
    let quote : 34 < 128 = omega arith in
    rw (encodes-append (escapes (chars text)) (34 ∷ []), encode_ascii 34 quote, escaped_is (chars text)) refl

-- a text in quotes reads as one token, which says the text
pub quoted_again : (text t : List ℕ) (limit : ℕ) → IsUtf8 text → IsUtf8 t → t ≡ in_quotes text → length t ≤ limit
    → tokens_of limit t ≡ Ok (Some (record { quoted = true; text = text } ∷ []))
quoted_again text t limit utf8 t_utf8 is short =
    let line : chars t ≡ quoted_line (chars text) = encodes_same (chars t) (quoted_line (chars text)) (encodes-chars t t_utf8 ∙ (is ∙ quotes_are text)) in
    rw (le-ltb limit (length t) short, is_utf8-from_IsUtf8 t t_utf8, line, quoted_tokens (chars text), encodes-chars text utf8) refl

as_read : (limit : ℕ) (t : List ℕ) (said : Option (List Token)) → tokens_of limit t ≡ Ok said → ReadsTo limit t said
as_read limit t said is = let P : Result (Option (List Token)) Bad → Type 0 = λ x. IsAnswer limit t x in subst P is (lex_reads limit t)

pub read_back : {E : Type 0} (text : List ℕ) (r : Result (List ℕ) E) → IsUtf8 text → IfOk r (λ t. t ≡ in_quotes text) → IfOk r (λ t. IsUtf8 t)
    → IfOk r (λ t. IsReadBack text t)
read_back text (Ok t) utf8 is t_utf8 =
    λ limit short. as_read limit t (Some (record { quoted = true; text = text } ∷ [])) (quoted_again text t limit utf8 t_utf8 is short)
read_back text (Err e) utf8 is t_utf8 = tt
