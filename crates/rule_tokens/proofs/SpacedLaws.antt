-- Tokens that are written as a line are read again.
use Rattle.std.proofs.Common.{◌≡◌, ◌≢◌, ◌<◌, ℕ, Bool, true, false, eqb, List, [], ◌∷◌, ◌++◌, length, Ok, refl, sym, ap, ◌∙◌, append_assoc, inl, inr, arith}
use Rattle.std.proofs.Common.{subst}
use Rattle.std.proofs.lemmas.List.{append-nil}
use Rattle.std.specs.Prelude.{encode_utf8_all}
use Rattle.std.specs.Char.{is_ascii_control}
use Rattle.std.specs.List.{list_all, list_any}
use Rattle.std.specs.Str.{chars}
use Rattle.std.proofs.lemmas.Bool.{le-ltb, and_parts}
use Rattle.std.proofs.lemmas.Bool.Decides.{nat_tests}
use Rattle.std.proofs.lemmas.Str.{encode_ascii, encodes-append, encodes-chars, encodes_same, is_utf8-from_IsUtf8}
use Rattle.rule_tokens.specs.declared.cutting.Raw.{Raw}
use Rattle.rule_tokens.specs.declared.token.Token.{Token}
use Rattle.rule_tokens.specs.Cut.{raw}
use Rattle.rule_tokens.specs.Layout.{AreBare, IsBare, BareToken, QuotedToken, IsEnd, LaidOut, pieces}
use Rattle.rule_tokens.specs.Spaced.{written_by, written, spaced, as_line, is_bare_byte, IsCleanBy, IsClean, AreClean, is_comment, WrittenIsRead}
use Rattle.rule_tokens.specs.Tokens.{has_bare_backslash, is_backslash, is_blank, token_of, tokens_in, tokens_of_chars}
use Rattle.rule_tokens.proofs.CutLaws.{cut_laid_out}
use Rattle.rule_tokens.proofs.EscapeLaws.{unescape_read}
use Rattle.rule_tokens.proofs.QuoteLaws.{escapes, quoted_line, escapes_read, pieces_all, any_both, quoted_plain, quotes_are, differs}
use Rattle.rule_tokens.proofs.TextLaws.{bare_small}

-- ---- bare bytes

abbrev AllBare : List ℕ → Type 0
AllBare [] = Unit {0}
AllBare (b ∷ bs) = (is_bare_byte b ≡ true) × AllBare bs

all_bare : (bs : List ℕ) → list_all is_bare_byte bs ≡ true → AllBare bs
all_bare [] e = tt
all_bare (b ∷ bs) e = let both = and_parts (is_bare_byte b) (list_all is_bare_byte bs) e in (both.0, all_bare bs both.1)

bare_quote : (b : ℕ) → is_bare_byte b ≡ true → eqb b 34 ≡ false
bare_quote b is = grind (arith, nat_tests)

bare_space : (b : ℕ) → is_bare_byte b ≡ true → eqb b 32 ≡ false
bare_space b is = grind (arith, nat_tests)

bare_backslash : (b : ℕ) → is_bare_byte b ≡ true → eqb b 92 ≡ false
bare_backslash b is = grind (arith, nat_tests)

bare_control : (b : ℕ) → is_bare_byte b ≡ true → is_ascii_control b ≡ false
bare_control b is = grind (arith, nat_tests)

are_bare : (bs : List ℕ) → AllBare bs → AreBare bs
are_bare [] all = tt
are_bare (b ∷ bs) all = ((differs b 32 (bare_space b all.0), differs b 34 (bare_quote b all.0)), are_bare bs all.1)

is_bare : (bs : List ℕ) → bs ≢ [] → AllBare bs → IsBare bs
is_bare [] some all = absurd (some refl)
is_bare (b ∷ bs) some all = are_bare (b ∷ bs) all

none_control : (bs : List ℕ) → AllBare bs → list_any is_ascii_control bs ≡ false
none_control [] all = refl
none_control (b ∷ bs) all = rw (bare_control b all.0) (none_control bs all.1)

none_backslash : (bs : List ℕ) → AllBare bs → list_any is_backslash bs ≡ false
none_backslash [] all = refl
none_backslash (b ∷ bs) all = rw (bare_backslash b all.0) (none_backslash bs all.1)

ascii_same : (bs : List ℕ) → AllBare bs → encode_utf8_all bs ≡ bs
ascii_same [] all = refl
ascii_same (b ∷ bs) all = let small : b < 128 = bare_small b all.0 in rw (encode_ascii b small) (ap (λ (l : List ℕ). b ∷ l) (ascii_same bs all.1))

-- ---- a token by its characters

abbrev raw_by : Bool → List ℕ → Raw
raw_by true text = raw true (escapes (chars text))
raw_by false text = raw false text

abbrev raw_of : Token → Raw
raw_of t = raw_by t.quoted t.text

abbrev raws_of : List Token → List Raw
raws_of [] = []
raws_of (t ∷ ts) = raw_of t ∷ raws_of ts

abbrev stands_by : Bool → List ℕ → List ℕ
stands_by true text = quoted_line (chars text)
stands_by false text = text

-- the characters of a token
abbrev stands : Token → List ℕ
stands t = stands_by t.quoted t.text

abbrev all_spaced : List Token → List ℕ
all_spaced [] = []
all_spaced (t ∷ ts) = 32 ∷ (stands t ++ all_spaced ts)

abbrev all_stand : Token → List Token → List ℕ
all_stand t ts = stands t ++ all_spaced ts

written_is_by : (b : Bool) (text : List ℕ) → IsCleanBy b text → written_by b text ≡ encode_utf8_all (stands_by b text)
written_is_by true text clean = quotes_are text
written_is_by false text clean = sym (ascii_same text (all_bare text clean.1))

written_is : (t : Token) → IsClean t → written t ≡ encode_utf8_all (stands t)
written_is t clean = written_is_by t.quoted t.text clean

spaced_is : (ts : List Token) → AreClean ts → spaced ts ≡ encode_utf8_all (all_spaced ts)
spaced_is [] clean = refl
spaced_is (t ∷ ts) clean =
    let space : 32 < 128 = omega arith in
    rw (encode_ascii 32 space, encodes-append (stands t) (all_spaced ts))
    (ap (λ (l : List ℕ). 32 ∷ (l ++ spaced ts)) (written_is t clean.0) ∙ ap (λ (l : List ℕ). 32 ∷ (encode_utf8_all (stands t) ++ l)) (spaced_is ts clean.1))

line_is : (t : Token) (ts : List Token) → AreClean (t ∷ ts) → as_line (t ∷ ts) ≡ encode_utf8_all (all_stand t ts)
line_is t ts clean = ap (λ (l : List ℕ). l ++ spaced ts) (written_is t clean.0)
    ∙ (ap (λ (l : List ℕ). encode_utf8_all (stands t) ++ l) (spaced_is ts clean.1) ∙ sym (encodes-append (stands t) (all_spaced ts)))

-- ---- laid out

end_by : (b : Bool) (text : List ℕ) → IsCleanBy b text → IsEnd (stands_by b text) (raw_by b text ∷ [])
end_by true text clean =
    let ps = pieces_all (chars text) in
    inr (inr (ps.0, (ps.1.1, ap (λ (l : List ℕ). 34 ∷ (l ++ 34 ∷ [])) ps.1.0, ap (λ (l : List ℕ). raw true l ∷ []) ps.1.0)))
end_by false text clean = inr (inl (is_bare text clean.0 (all_bare text clean.1), refl))

more_quoted : (inside rest : List ℕ) → (34 ∷ (inside ++ 34 ∷ [])) ++ 32 ∷ rest ≡ 34 ∷ (inside ++ 34 ∷ 32 ∷ rest)
more_quoted inside rest = ap (λ (l : List ℕ). 34 ∷ l) (append_assoc inside (34 ∷ []) (32 ∷ rest))

-- a token and the space behind it, and what is laid out behind that
more_laid : (b : Bool) (text rest : List ℕ) (rs : List Raw) → IsCleanBy b text → LaidOut rest rs → LaidOut (stands_by b text ++ 32 ∷ rest) (raw_by b text ∷ rs)
more_laid true text rest rs clean laid =
    let ps = pieces_all (chars text) in
    record {
      items = QuotedToken ps.0 ∷ laid.items;
      fit = (ps.1.1, laid.fit);
      last = laid.last;
      last_tokens = laid.last_tokens;
      line_is = more_quoted (escapes (chars text)) rest
          ∙ (ap (λ (l : List ℕ). 34 ∷ (l ++ 34 ∷ 32 ∷ rest)) ps.1.0
          ∙ (ap (λ (l : List ℕ). 34 ∷ (pieces ps.0 ++ 34 ∷ 32 ∷ l)) laid.line_is ∙ sym (ap (λ (l : List ℕ). 34 ∷ l) (append_assoc (pieces ps.0) _ laid.last))));
      tokens_are = ap (λ (l : List ℕ). raw true l ∷ rs) ps.1.0 ∙ ap (λ (l : List Raw). raw true (pieces ps.0) ∷ l) laid.tokens_are;
      is_last = laid.is_last;
    }
more_laid false text rest rs clean laid = record {
  items = BareToken text ∷ laid.items;
  fit = (is_bare text clean.0 (all_bare text clean.1), laid.fit);
  last = laid.last;
  last_tokens = laid.last_tokens;
  line_is = ap (λ (l : List ℕ). text ++ 32 ∷ l) laid.line_is ∙ sym (append_assoc text _ laid.last);
  tokens_are = ap (λ (l : List Raw). raw false text ∷ l) laid.tokens_are;
  is_last = laid.is_last;
}

laid_out : (t : Token) (ts : List Token) → AreClean (t ∷ ts) → LaidOut (all_stand t ts) (raws_of (t ∷ ts))
laid_out t [] clean = record {
  items = [];
  fit = tt;
  last = stands t ++ [];
  last_tokens = raw_of t ∷ [];
  line_is = refl;
  tokens_are = refl;
  is_last = subst (λ (l : List ℕ). IsEnd l (raw_of t ∷ [])) (sym (append-nil (stands t))) (end_by t.quoted t.text clean.0);
}
laid_out t (u ∷ ts) clean = more_laid t.quoted t.text (all_stand u ts) (raws_of (u ∷ ts)) clean.0 (laid_out u ts clean.1)

-- ---- read

token_read_by : (b : Bool) (text : List ℕ) → IsCleanBy b text → token_of (raw_by b text) ≡ Ok (record { quoted = b; text = text })
token_read_by true text clean = rw (unescape_read (escapes (chars text)) (chars text) (escapes_read (chars text)), encodes-chars text clean) refl
token_read_by false text clean = rw (ascii_same text (all_bare text clean.1)) refl

tokens_read : (ts : List Token) → AreClean ts → tokens_in (raws_of ts) ≡ Ok ts
tokens_read [] clean = refl
tokens_read (t ∷ ts) clean = rw (token_read_by t.quoted t.text clean.0, tokens_read ts clean.1) refl

stands_plain : (b : Bool) (text : List ℕ) → IsCleanBy b text → list_any is_ascii_control (stands_by b text) ≡ false
stands_plain true text clean = quoted_plain (chars text)
stands_plain false text clean = none_control text (all_bare text clean.1)

plain_spaced : (ts : List Token) → AreClean ts → list_any is_ascii_control (all_spaced ts) ≡ false
plain_spaced [] clean = refl
plain_spaced (t ∷ ts) clean = any_both is_ascii_control (stands t) (all_spaced ts) (stands_plain t.quoted t.text clean.0) (plain_spaced ts clean.1)

plain_line : (t : Token) (ts : List Token) → AreClean (t ∷ ts) → list_any is_ascii_control (all_stand t ts) ≡ false
plain_line t ts clean = any_both is_ascii_control (stands t) (all_spaced ts) (stands_plain t.quoted t.text clean.0) (plain_spaced ts clean.1)

no_backslash_by : (b : Bool) (text : List ℕ) → IsCleanBy b text → has_bare_backslash (raw_by b text) ≡ false
no_backslash_by true text clean = refl
no_backslash_by false text clean = none_backslash text (all_bare text clean.1)

no_backslash : (ts : List Token) → AreClean ts → list_any has_bare_backslash (raws_of ts) ≡ false
no_backslash [] clean = refl
no_backslash (t ∷ ts) clean = rw (no_backslash_by t.quoted t.text clean.0) (no_backslash ts clean.1)

line_read : (t : Token) (ts : List Token) → AreClean (t ∷ ts) → tokens_of_chars (all_stand t ts) ≡ Ok (t ∷ ts)
unfolding tokens_of_chars
line_read t ts clean = rw (
  cut_laid_out (all_stand t ts) (raws_of (t ∷ ts)) (laid_out t ts clean),
  tokens_read (t ∷ ts) clean,
  plain_line t ts clean,
  no_backslash (t ∷ ts) clean,
) refl

not_blank_by : (b : Bool) (text rest : List ℕ) → IsCleanBy b text → b ≡ false → is_comment text ≡ false → is_blank (stands_by b text ++ rest) ≡ false
not_blank_by true text rest clean bare plain = absurd cc
not_blank_by false [] rest clean bare plain = absurd (clean.0 refl)
not_blank_by false (c ∷ text) rest clean bare plain = let all = all_bare (c ∷ text) clean.1 in rw (bare_space c all.0) plain

pub written_is_read : WrittenIsRead
written_is_read limit [] clean line utf8 short = absurd line
written_is_read limit (t ∷ ts) clean line utf8 short =
    let same : chars (as_line (t ∷ ts)) ≡ all_stand t ts =
    encodes_same (chars (as_line (t ∷ ts))) (all_stand t ts) (encodes-chars (as_line (t ∷ ts)) utf8 ∙ line_is t ts clean) in
    let some : is_blank (all_stand t ts) ≡ false = not_blank_by t.quoted t.text (all_spaced ts) clean.0 line.0 line.1 in
    rw (le-ltb limit (length (as_line (t ∷ ts))) short, is_utf8-from_IsUtf8 (as_line (t ∷ ts)) utf8, same, some, line_read t ts clean) refl
