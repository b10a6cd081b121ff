-- A line is refused for the first case that holds, and else read to what it says.
use Rattle.std.proofs.Common.{◌≡◌, ◌<◌, ◌≤◌, ℕ, Bool, true, false, cond, not, ◌||◌, List, [], ◌∷◌, length, Option, Some, None, Result, Ok, Err, refl, sym, ap}
use Rattle.std.proofs.Common.{subst, ◌∙◌, inl, inr, arith}
use Rattle.std.specs.Prelude.{nat_lt, encode_utf8_all, IfOk}
use Rattle.std.specs.Char.{is_ascii_control}
use Rattle.std.specs.List.{list_any}
use Rattle.std.specs.Str.{chars, IsUtf8, is_utf8}
use Rattle.std.proofs.lemmas.Bool.{ltb-true, ltb-false}
use Rattle.std.proofs.lemmas.Str.{is_utf8-from_IsUtf8, IsUtf8-from_is_utf8}
use Rattle.rule_tokens.specs.declared.refused.Bad.{Bad}
use Rattle.rule_tokens.specs.declared.refused.Bad.TheVariants.{Long, Utf8, Quote, Escape, Word}
use Rattle.rule_tokens.specs.declared.refused.LineRefused.{LineRefused}
use Rattle.rule_tokens.specs.declared.refused.LineRefused.TheVariants as refused
use Rattle.rule_tokens.specs.declared.cutting.Raw.{Raw}
use Rattle.rule_tokens.specs.declared.cutting.Within.TheVariants.{Gap}
use Rattle.rule_tokens.specs.declared.escapes.InEscape.TheVariants.{Outside}
use Rattle.rule_tokens.specs.declared.token.Token.{Token}
use Rattle.rule_tokens.specs.Cases.{Says, AllSay, SomeWrong, HasWrongEscape, TokenCase, IsNotBlank, LexicalCase, lexical_order, FirstOf, NoneOf, SaysTokens}
use Rattle.rule_tokens.specs.Cases.{SaysLine, RefusedFor, ReadsTo}
use Rattle.rule_tokens.specs.Cut.{cut, raw}
use Rattle.rule_tokens.specs.Escapes.{unescape}
use Rattle.rule_tokens.specs.Gives.{◌>>=◌, with_front, Gives, IfBad}
use Rattle.rule_tokens.specs.Laws.{IsAnswer, LinesAreAnswered, SaidIsRead, SaidOnce}
use Rattle.rule_tokens.specs.Layout.{LaidOut, IsMisquoted}
use Rattle.rule_tokens.specs.Signs.{WrongEscape}
use Rattle.rule_tokens.specs.Tokens.{has_bare_backslash, is_blank, tokens_of, token, token_of, tokens_in, tokens_of_chars, unless_blank}
use Rattle.rule_tokens.proofs.CutLaws.{Cuts, cuts, cut_laid_out, cut_misquoted_by, misquoted_apart}
use Rattle.rule_tokens.proofs.EscapeLaws.{Reads, reads, unescape_read, unescape_wrong}

-- ---- one token

abbrev SaysOrWrong : Raw → Result Token Bad → Type 0
SaysOrWrong r (Ok t) = Says r t
SaysOrWrong r (Err b) = (b ≡ Escape) × ((r.quoted ≡ true) × WrongEscape r.chars)

quoted_says : (cs : List ℕ) (read : Result (List ℕ) Bad) → Reads cs read
    → SaysOrWrong (record { quoted = true; chars = cs }) (read >>= λ text. Ok (token true text))
quoted_says cs (Ok text) h = record { text = text; says = h; bytes = refl; quoted = refl }
quoted_says cs (Err b) h = (h.0, (refl, h.1))

token_says_by : (b : Bool) (cs : List ℕ) → SaysOrWrong (raw b cs) (token_of (raw b cs))
token_says_by true cs = quoted_says cs (unescape cs Outside) (reads cs)
token_says_by false cs = record { text = cs; says = refl; bytes = refl; quoted = refl }

token_says : (r : Raw) → SaysOrWrong r (token_of r)
token_says r = token_says_by r.quoted r.chars

same_token : (q : Bool) (text : List ℕ) (t : Token) → t.quoted ≡ q → t.text ≡ encode_utf8_all text → token q text ≡ t
same_token q text t quoted bytes =
    let first : token q text ≡ record { quoted = t.quoted; text = encode_utf8_all text } = ap (λ (x : Bool). token x text) (sym quoted) in
    let change : List ℕ → Token = λ x. record { quoted = t.quoted; text = x } in
    first ∙ ap change (sym bytes)

said_token_by : (b : Bool) (cs : List ℕ) (t : Token) → Says (raw b cs) t → token_of (raw b cs) ≡ Ok t
said_token_by true cs t says = rw (unescape_read cs says.text says.says) (ap Ok (same_token true says.text t says.quoted says.bytes))
said_token_by false cs t says = ap Ok (same_token false cs t says.quoted (says.bytes ∙ ap encode_utf8_all (sym says.says)))

said_token : (r : Raw) (t : Token) → Says r t → token_of r ≡ Ok t
said_token r t says = said_token_by r.quoted r.chars t says

wrong_token_by : (b : Bool) (cs : List ℕ) → b ≡ true → WrongEscape cs → token_of (raw b cs) ≡ Err Escape
wrong_token_by true cs quoted wrong = rw (unescape_wrong cs wrong) refl
wrong_token_by false cs quoted wrong = absurd cc

-- ---- all tokens

abbrev AllSayOrWrong : List Raw → Result (List Token) Bad → Type 0
AllSayOrWrong rs (Ok ts) = AllSay rs ts
AllSayOrWrong rs (Err b) = (b ≡ Escape) × SomeWrong rs

say_more : (r : Raw) (rs : List Raw) (one : Result Token Bad) (more : Result (List Token) Bad) → SaysOrWrong r one → AllSayOrWrong rs more
    → AllSayOrWrong (r ∷ rs) (one >>= λ t. with_front (t ∷ []) more)
say_more r rs (Ok t) (Ok ts) a b = (a, b)
say_more r rs (Ok t) (Err e) a b = (b.0, inr b.1)
say_more r rs (Err e) more a b = (a.0, inl a.1)

tokens_say : (rs : List Raw) → AllSayOrWrong rs (tokens_in rs)
tokens_say [] = tt
tokens_say (r ∷ rs) = say_more r rs (token_of r) (tokens_in rs) (token_says r) (tokens_say rs)

said_tokens : (rs : List Raw) (ts : List Token) → AllSay rs ts → tokens_in rs ≡ Ok ts
said_tokens [] [] say = refl
said_tokens [] (t ∷ ts) say = absurd say
said_tokens (r ∷ rs) [] say = absurd say
said_tokens (r ∷ rs) (t ∷ ts) say = rw (said_token r t say.0, said_tokens rs ts say.1) refl

behind_wrong : (r : Raw) (one : Result Token Bad) (more : Result (List Token) Bad) → SaysOrWrong r one → more ≡ Err Escape
    → (one >>= λ t. with_front (t ∷ []) more) ≡ Err Escape
behind_wrong r (Ok t) more a is = rw is refl
behind_wrong r (Err e) more a is = ap Err a.0

wrong_tokens : (rs : List Raw) → SomeWrong rs → tokens_in rs ≡ Err Escape
wrong_tokens [] wrong = absurd wrong
wrong_tokens (r ∷ rs) (inl w) = rw (wrong_token_by r.quoted r.chars w.0 w.1) refl
wrong_tokens (r ∷ rs) (inr w) = behind_wrong r (token_of r) (tokens_in rs) (token_says r) (wrong_tokens rs w)

-- ---- a line that isn't blank

abbrev line_order : List Bad
line_order = Quote ∷ Escape ∷ Word ∷ []

abbrev LineReads : List ℕ → Result (List Token) Bad → Type 0
LineReads line (Ok ts) = NoneOf (TokenCase line) line_order × SaysTokens line ts
LineReads line (Err b) = FirstOf (TokenCase line) line_order b

abbrev cut_as : List Raw → Result (List Raw) Bad
cut_as rs = Ok rs

laid_out_once : (line : List ℕ) (rs rs' : List Raw) → cut line Gap ≡ Ok rs → LaidOut line rs' → rs' ≡ rs
laid_out_once line rs rs' is laid = let same : cut_as rs' ≡ cut_as rs = sym (cut_laid_out line rs' laid) ∙ is in cc

not_misquoted : (line : List ℕ) (rs : List Raw) → cut line Gap ≡ Ok rs → IsMisquoted line → ⊥
not_misquoted line rs is by = let same : cut_as rs ≡ Err Quote = sym is ∙ cut_misquoted_by line by in absurd cc

abbrev say_as : List Token → Result (List Token) Bad
say_as ts = Ok ts

not_wrong : (line : List ℕ) (rs : List Raw) (ts : List Token) → cut line Gap ≡ Ok rs → tokens_in rs ≡ Ok ts → HasWrongEscape line → ⊥
not_wrong line rs ts is say (rs', (laid, wrong)) =
    let same : rs' ≡ rs = laid_out_once line rs rs' is laid in
    let clash : say_as ts ≡ Err Escape = sym say ∙ wrong_tokens rs (subst SomeWrong same wrong) in
    absurd cc

not_stray : (line : List ℕ) (rs : List Raw) → cut line Gap ≡ Ok rs → list_any is_ascii_control line ≡ false → list_any has_bare_backslash rs ≡ false
    → TokenCase line Word → ⊥
not_stray line rs is control bare (inl c) = let clash : true ≡ false = sym c ∙ control in absurd cc
not_stray line rs is control bare (inr (rs', (laid, b))) =
    let same : rs' ≡ rs = laid_out_once line rs rs' is laid in
    let clash : true ≡ false = sym b ∙ (ap (list_any has_bare_backslash) same ∙ bare) in
    absurd cc

at_stray : (line : List ℕ) (rs : List Raw) (ts : List Token) (control bare : Bool) → LaidOut line rs → cut line Gap ≡ Ok rs → tokens_in rs ≡ Ok ts
    → AllSay rs ts → list_any is_ascii_control line ≡ control → list_any has_bare_backslash rs ≡ bare
    → LineReads line (cond (control || bare) (Err Word) (Ok ts))
at_stray line rs ts true bare laid is read say c b = inr (not_misquoted line rs is, inr (not_wrong line rs ts is read, inl (refl, inl c)))
at_stray line rs ts false true laid is read say c b = inr (not_misquoted line rs is, inr (not_wrong line rs ts is read, inl (refl, inr (rs, (laid, b)))))
at_stray line rs ts false false laid is read say c b =
    ((not_misquoted line rs is, (not_wrong line rs ts is read, (not_stray line rs is c b, tt))), record { raws = rs; laid_out = laid; say = say })

at_tokens : (line : List ℕ) (rs : List Raw) (read : Result (List Token) Bad) → LaidOut line rs → cut line Gap ≡ Ok rs → tokens_in rs ≡ read
    → AllSayOrWrong rs read
    → LineReads line (read >>= λ ts. cond (list_any is_ascii_control line || list_any has_bare_backslash rs) (Err Word) (Ok ts))
at_tokens line rs (Ok ts) laid is read say = at_stray line rs ts (list_any is_ascii_control line) (list_any has_bare_backslash rs) laid is read say refl refl
at_tokens line rs (Err b) laid is read say = inr (not_misquoted line rs is, inl (say.0, (rs, (laid, say.1))))

at_cut : (line : List ℕ) (read : Result (List Raw) Bad) → cut line Gap ≡ read → Cuts line read
    → LineReads line (read >>= λ rs. tokens_in rs >>= λ ts. cond (list_any is_ascii_control line || list_any has_bare_backslash rs) (Err Word) (Ok ts))
at_cut line (Ok rs) is laid = at_tokens line rs (tokens_in rs) laid is refl (tokens_say rs)
at_cut line (Err b) is cuts = inl (cuts.0, misquoted_apart line cuts.1)

line_reads : (line : List ℕ) → LineReads line (tokens_of_chars line)
unfolding tokens_of_chars
line_reads line = at_cut line (cut line Gap) refl (cuts line)

-- ---- a whole line

not_long : (limit : ℕ) (bytes : List ℕ) → length bytes ≤ limit → limit < length bytes → ⊥
not_long limit bytes short long = absurd (omega (arith, short, long))

said_reads : (limit : ℕ) (bytes : List ℕ) (read : Result (List Token) Bad) → length bytes ≤ limit → IsUtf8 bytes → IsNotBlank (chars bytes)
    → LineReads (chars bytes) read
    → IsAnswer limit bytes (read >>= λ ts. Ok (Some ts))
said_reads limit bytes (Ok ts) short utf8 said (none, says) =
    record {
      short = short;
      utf8 = utf8;
      faultless = (not_long limit bytes short, (λ other. other utf8, ((λ c. none.0 c.1), ((λ c. none.1.0 c.1), ((λ c. none.1.1.0 c.1), tt)))));
      says =
          (said, says);
    }
said_reads limit bytes (Err b) short utf8 said (inl q) = inr (not_long limit bytes short, inr (λ other. other utf8, inl (q.0, (said, q.1))))
said_reads limit bytes (Err b) short utf8 said (inr (nq, inl e)) =
    inr (not_long limit bytes short, inr (λ other. other utf8, inr ((λ c. nq c.1), inl (e.0, (said, e.1)))))
said_reads limit bytes (Err b) short utf8 said (inr (nq, inr (ne, inl w))) =
    inr (not_long limit bytes short, inr (λ other. other utf8, inr ((λ c. nq c.1), inr ((λ c. ne c.1), inl (w.0, (said, w.1))))))
said_reads limit bytes (Err b) short utf8 said (inr (nq, inr (ne, inr more))) = absurd more.1

not_said : (bytes : List ℕ) → is_blank (chars bytes) ≡ true → IsNotBlank (chars bytes) → ⊥
not_said bytes blank said = let clash : true ≡ false = sym blank ∙ said in absurd cc

blank_reads : (limit : ℕ) (bytes : List ℕ) (b : Bool) → length bytes ≤ limit → IsUtf8 bytes → is_blank (chars bytes) ≡ b
    → IsAnswer limit bytes (cond b (Ok None) (tokens_of_chars (chars bytes) >>= λ ts. Ok (Some ts)))
blank_reads limit bytes true short utf8 blank =
    record {
      short = short;
      utf8 = utf8;
      faultless = (
        not_long limit bytes short,
        (λ other. other utf8, ((λ c. not_said bytes blank c.0), ((λ c. not_said bytes blank c.0), ((λ c. not_said bytes blank c.0), tt)))),
      );
      says = blank;
    }
blank_reads limit bytes false short utf8 said = said_reads limit bytes (tokens_of_chars (chars bytes)) short utf8 said (line_reads (chars bytes))

utf8_reads : (limit : ℕ) (bytes : List ℕ) (b : Bool) → length bytes ≤ limit → is_utf8 bytes ≡ b
    → IsAnswer limit bytes (cond (not b) (Err Utf8) (unless_blank (chars bytes)))
utf8_reads limit bytes true short is = blank_reads limit bytes (is_blank (chars bytes)) short (IsUtf8-from_is_utf8 bytes is) refl
utf8_reads limit bytes false short is = inr (not_long limit bytes short, inl (refl, λ utf8. clash utf8))
  where
    clash : IsUtf8 bytes → ⊥
    clash utf8 = let both : true ≡ false = sym (is_utf8-from_IsUtf8 bytes utf8) ∙ is in absurd cc

long_reads : (limit : ℕ) (bytes : List ℕ) (b : Bool) → nat_lt limit (length bytes) ≡ b
    → IsAnswer limit bytes (cond b (Err Long) (cond (not (is_utf8 bytes)) (Err Utf8) (unless_blank (chars bytes))))
long_reads limit bytes true is = inl (refl, ltb-true limit (length bytes) is)
long_reads limit bytes false is = utf8_reads limit bytes (is_utf8 bytes) (ltb-false limit (length bytes) is) refl

pub lex_reads : LinesAreAnswered
lex_reads limit bytes = long_reads limit bytes (nat_lt limit (length bytes)) refl

-- ---- what it says is said once

same_say : (rs : List Raw) (ts us : List Token) → AllSay rs ts → AllSay rs us → ts ≡ us
same_say rs ts us one two = let same : say_as ts ≡ say_as us = sym (said_tokens rs ts one) ∙ said_tokens rs us two in cc

same_tokens : (line : List ℕ) (ts us : List Token) → SaysTokens line ts → SaysTokens line us → ts ≡ us
same_tokens line ts us one two =
    let same : two.raws ≡ one.raws = laid_out_once line one.raws two.raws (cut_laid_out line one.raws one.laid_out) two.laid_out in
    let P : List Raw → Type 0 = λ rs. AllSay rs us in
    same_say one.raws ts us one.say (subst P same two.say)

same_line : (line : List ℕ) (x y : Option (List Token)) → SaysLine line x → SaysLine line y → x ≡ y
same_line line None None one two = refl
same_line line None (Some us) one two = let clash : true ≡ false = sym one ∙ two.0 in absurd cc
same_line line (Some ts) None one two = let clash : true ≡ false = sym two ∙ one.0 in absurd cc
same_line line (Some ts) (Some us) one two = ap Some (same_tokens line ts us one.1 two.1)

none_first : (Holds : Bad → Type 0) (fs : List Bad) (b : Bad) → NoneOf Holds fs → FirstOf Holds fs b → ⊥
none_first Holds [] b none first = first
none_first Holds (f ∷ fs) b none (inl e) = none.0 e.1
none_first Holds (f ∷ fs) b none (inr more) = none_first Holds fs b none.1 more.1

reads_once : (limit : ℕ) (bytes : List ℕ) (said : Option (List Token)) (read : Result (Option (List Token)) Bad) → ReadsTo limit bytes said
    → IsAnswer limit bytes read → read ≡ Ok said
reads_once limit bytes said (Ok other) to reads = ap Ok (same_line (chars bytes) other said reads.says to.says)
reads_once limit bytes said (Err b) to reads = absurd (none_first (LexicalCase limit bytes) lexical_order b to.faultless reads)

pub said_is_read : SaidIsRead
said_is_read limit bytes said to = reads_once limit bytes said (tokens_of limit bytes) to (lex_reads limit bytes)

-- so a line says one thing at most
pub said_once : SaidOnce
said_once limit bytes x y one two = same_line (chars bytes) x y one.says two.says

-- ---- what was returned

pub refused_for : (limit : ℕ) (bytes : List ℕ) (r : Result (Option (List Token)) LineRefused) → Gives r (tokens_of limit bytes)
    → IfBad r (RefusedFor limit bytes)
refused_for limit bytes (Ok said) gives = tt
refused_for limit bytes (Err refused.NoMemory) gives = tt
refused_for limit bytes (Err (refused.Bad b)) gives = let P : Result (Option (List Token)) Bad → Type 0 =
    λ x. IsAnswer limit bytes x in subst P gives (lex_reads limit bytes)

pub read_to : (limit : ℕ) (bytes : List ℕ) (r : Result (Option (List Token)) LineRefused) → Gives r (tokens_of limit bytes) → IfOk r (ReadsTo limit bytes)
read_to limit bytes (Ok said) gives = let P : Result (Option (List Token)) Bad → Type 0 = λ x. IsAnswer limit bytes x in subst P gives (lex_reads limit bytes)
read_to limit bytes (Err e) gives = tt

pub only_read : (limit : ℕ) (bytes : List ℕ) (r : Result (Option (List Token)) LineRefused) → Gives r (tokens_of limit bytes) → (said : Option (List Token))
    → ReadsTo limit bytes said → Gives r (Ok said)
only_read limit bytes r gives said to = let P : Result (Option (List Token)) Bad → Type 0 = λ x. Gives r x in subst P (said_is_read limit bytes said to) gives
