-- What is read between quotes is what its signs say, and a fault is a backslash that begins no escape.
use Rattle.std.proofs.Common.{◌≡◌, ◌≢◌, ℕ, ◌+◌, ◌*◌, Bool, true, false, cond, ◌&&◌, List, [], ◌∷◌, ◌++◌, length, Option, Some, None, Result, Ok, Err, refl, sym}
use Rattle.std.proofs.Common.{ap, subst, ◌∙◌, append_assoc, append-nil, inl, inr}
use Rattle.std.specs.Prelude.{nat_lt, option_and_then}
use Rattle.std.specs.Char.{digit_value}
use Rattle.std.proofs.Math.Utf8.{scalar}
use Rattle.std.proofs.lemmas.Bool.Decides.{eqb_tells}
use Rattle.rule_tokens.specs.declared.refused.Bad.{Bad}
use Rattle.rule_tokens.specs.declared.refused.Bad.TheVariants.{Escape}
use Rattle.rule_tokens.specs.declared.escapes.InEscape.{InEscape}
use Rattle.rule_tokens.specs.declared.escapes.InEscape.TheVariants.{Outside, AfterBackslash, AfterU, Digits}
use Rattle.rule_tokens.specs.Escapes.{hex_from, named, short_escape, then_char, unescape}
use Rattle.rule_tokens.specs.Gives.{with_front}
use Rattle.rule_tokens.specs.Signs.{Sign, Itself, Letter, Code, signs, SaysOne, Say, IsReadAs, BeginsEscape, WrongEscape}
use Rattle.rule_tokens.proofs.CutLaws.{Tells, not_same, with_none, with_more}

-- ---- digits hold no brace

abbrev NoBrace : List ℕ → Type 0
NoBrace [] = Unit {0}
NoBrace (c ∷ cs) = (c ≢ 125) × NoBrace cs

digit_no_brace : (c : ℕ) → nat_lt (digit_value c) 16 ≡ true → c ≢ 125
digit_no_brace c small is = let brace : nat_lt (digit_value 125) 16 ≡ true = subst (λ (x : ℕ). nat_lt (digit_value x) 16 ≡ true) is small in absurd cc

hex_step : (b : Bool) (n c : ℕ) (ds : List ℕ) (d : ℕ) → nat_lt (digit_value c) 16 ≡ b → cond b (hex_from (n * 16 + digit_value c) ds) None ≡ Some d
    → (hex_from (n * 16 + digit_value c) ds ≡ Some d → NoBrace ds) → NoBrace (c ∷ ds)
hex_step true n c ds d small is others = (digit_no_brace c small, others is)
hex_step false n c ds d big is others = absurd cc

hex_no_brace : (n : ℕ) (ds : List ℕ) (d : ℕ) → hex_from n ds ≡ Some d → NoBrace ds
unfolding hex_from
hex_no_brace n [] d is = tt
hex_no_brace n (c ∷ ds) d is = hex_step (nat_lt (digit_value c) 16) n c ds d refl is (λ e. hex_no_brace (n * 16 + digit_value c) ds d e)

then_some : (f : ℕ → Option ℕ) (o : Option ℕ) (d : ℕ) → option_and_then f o ≡ Some d → (n : ℕ) × (o ≡ Some n)
then_some f None d is = absurd cc
then_some f (Some n) d is = (n, refl)

if_some : (b : Bool) (o : Option ℕ) (d : ℕ) → cond b o None ≡ Some d → o ≡ Some d
if_some true o d is = is
if_some false o d is = absurd cc

named_no_brace : (ds : List ℕ) (d : ℕ) → named ds ≡ Some d → NoBrace ds
unfolding named
named_no_brace ds d is =
    let scalar_of : ℕ → Option ℕ = λ n. cond (scalar n) (Some n) None in
    let value = then_some scalar_of (hex_from 0 ds) d (if_some (nat_lt 0 (length ds) && nat_lt (length ds) 7) (option_and_then scalar_of (hex_from 0 ds)) d is)
    in
    hex_no_brace 0 ds value.0 value.1

no_brace_more : (ds : List ℕ) (c : ℕ) → NoBrace ds → c ≢ 125 → NoBrace (ds ++ c ∷ [])
no_brace_more [] c none differ = (differ, tt)
no_brace_more (x ∷ ds) c none differ = (none.0, no_brace_more ds c none.1 differ)

-- a list without a brace is not one with a brace
brace_behind : (ds more : List ℕ) → NoBrace (ds ++ 125 ∷ more) → ⊥
brace_behind [] more none = none.0 refl
brace_behind (c ∷ ds) more none = brace_behind ds more none.1

-- up to the first brace two lists are the same
same_digits : (ds es more rest : List ℕ) → NoBrace ds → NoBrace es → ds ++ 125 ∷ more ≡ es ++ 125 ∷ rest → ds ≡ es
same_digits [] [] more rest one two is = refl
same_digits [] (e ∷ es) more rest one two is = let same : 125 ≡ e = (cc) in absurd (two.0 (sym same))
same_digits (d ∷ ds) [] more rest one two is = let same : d ≡ 125 = (cc) in absurd (one.0 same)
same_digits (d ∷ ds) (e ∷ es) more rest one two is =
    let first : d ≡ e = (cc) in
    let others : ds ++ 125 ∷ more ≡ es ++ 125 ∷ rest = (cc) in
    ap (λ (x : ℕ). x ∷ ds) first ∙ ap (λ (l : List ℕ). e ∷ l) (same_digits ds es more rest one.1 two.1 others)

-- ---- what a reading says of the signs

abbrev pub Reads : List ℕ → Result (List ℕ) Bad → Type 0
Reads inside (Ok text) = IsReadAs inside text
Reads inside (Err b) = (b ≡ Escape) × WrongEscape inside

reads_as : (x x' : List ℕ) (r r' : Result (List ℕ) Bad) → x ≡ x' → r ≡ r' → Reads x r → Reads x' r'
reads_as x x' r r' p q reads = subst (λ (y : List ℕ). Reads y r') p (subst (λ (y : Result (List ℕ) Bad). Reads x y) q reads)

-- one more sign in front
put_sign : (s : Sign) (d : ℕ) (spelled inside : List ℕ) (r : Result (List ℕ) Bad) → SaysOne s d
    → ((ss : List Sign) (more : List ℕ) → signs (s ∷ ss) ++ more ≡ spelled ++ (signs ss ++ more)) → Reads inside r
    → Reads (spelled ++ inside) (with_front (d ∷ []) r)
put_sign s d spelled inside (Ok text) says spells (ss, read) =
    (s ∷ ss, (ap (λ (l : List ℕ). spelled ++ l) (read.0 ∙ sym (append-nil (signs ss))) ∙ (sym (spells ss []) ∙ append-nil (signs (s ∷ ss))), (says, read.1)))
put_sign s d spelled inside (Err b) says spells (is, w) = (
  is,
  record {
    before = s ∷ w.before;
    text = d ∷ w.text;
    said = (says, w.said);
    rest = w.rest;
    inside_is = ap (λ (l : List ℕ). spelled ++ l) w.inside_is ∙ sym (spells w.before (92 ∷ w.rest));
    wrong = w.wrong;
  },
)

-- a backslash that begins no escape
at_wrong : (rest : List ℕ) → (BeginsEscape rest → ⊥) → Reads (92 ∷ rest) (Err Escape)
at_wrong rest wrong = (refl, record { before = []; text = []; said = tt; rest = rest; inside_is = refl; wrong = wrong })

-- ---- what begins no escape

none_some : (d : ℕ) → None ≡ Some d → ⊥
none_some d e = absurd cc

nothing_behind : BeginsEscape [] → ⊥
nothing_behind (inl (l, d, more, e)) = absurd cc
nothing_behind (inr (ds, d, more, e)) = absurd cc

no_letter : (c : ℕ) (rest : List ℕ) → c ≢ 117 → short_escape c ≡ None → BeginsEscape (c ∷ rest) → ⊥
no_letter c rest differ letter (inl (l, d, more, e)) = let same : c ≡ l = (cc) in none_some d (sym letter ∙ (ap short_escape same ∙ e.0))
no_letter c rest differ letter (inr (ds, d, more, e)) = let same : c ≡ 117 = (cc) in differ same

not_u : (l d : ℕ) → short_escape l ≡ Some d → l ≢ 117
not_u l d e is = none_some d (ap short_escape (sym is) ∙ e)

nothing_behind_u : BeginsEscape (117 ∷ []) → ⊥
nothing_behind_u (inl (l, d, more, e)) = let same : l ≡ 117 = (cc) in not_u l d e.0 same
nothing_behind_u (inr (ds, d, more, e)) = absurd cc

no_brace_behind_u : (c : ℕ) (rest : List ℕ) → c ≢ 123 → BeginsEscape (117 ∷ c ∷ rest) → ⊥
no_brace_behind_u c rest differ (inl (l, d, more, e)) = let same : l ≡ 117 = (cc) in not_u l d e.0 same
no_brace_behind_u c rest differ (inr (ds, d, more, e)) = let same : c ≡ 123 = (cc) in differ same

not_closed : (ds : List ℕ) → NoBrace ds → BeginsEscape (117 ∷ 123 ∷ ds) → ⊥
not_closed ds none (inl (l, d, more, e)) = let same : l ≡ 117 = (cc) in not_u l d e.0 same
not_closed ds none (inr (es, d, more, e)) = let same : ds ≡ es ++ 125 ∷ more = (cc) in brace_behind es more (subst NoBrace same none)

no_name : (ds rest : List ℕ) → NoBrace ds → named ds ≡ None → BeginsEscape (117 ∷ 123 ∷ (ds ++ 125 ∷ rest)) → ⊥
no_name ds rest none unnamed (inl (l, d, more, e)) = let same : l ≡ 117 = (cc) in not_u l d e.0 same
no_name ds rest none unnamed (inr (es, d, more, e)) =
    let same : ds ++ 125 ∷ rest ≡ es ++ 125 ∷ more = (cc) in
    let digits : ds ≡ es = same_digits ds es rest more none (named_no_brace es d e.0) same in
    none_some d (sym unnamed ∙ (ap named digits ∙ e.0))

-- ---- where in an escape the rest stands, and what it says then

abbrev ReadsIn : InEscape → List ℕ → Type 0
ReadsIn Outside cs = Reads cs (unescape cs Outside)
ReadsIn AfterBackslash cs = Reads (92 ∷ cs) (unescape cs AfterBackslash)
ReadsIn AfterU cs = Reads (92 ∷ 117 ∷ cs) (unescape cs AfterU)
ReadsIn (Digits ds) cs = NoBrace ds → Reads (92 ∷ 117 ∷ 123 ∷ (ds ++ cs)) (unescape cs (Digits ds))

outside : (c : ℕ) (cs : List ℕ) → ((e : InEscape) → ReadsIn e cs) → Tells c 92 → ReadsIn Outside (c ∷ cs)
unfolding unescape
outside c cs next (inl b) = reads_as (92 ∷ cs) (c ∷ cs) (unescape cs AfterBackslash) (unescape (c ∷ cs) Outside) (ap (λ (x : ℕ). x ∷ cs) (sym b.1))
    (rw b.0 refl) (next AfterBackslash)
outside c cs next (inr b) = reads_as (c ∷ cs) (c ∷ cs) (with_front (c ∷ []) (unescape cs Outside)) (unescape (c ∷ cs) Outside) refl (rw b.0 refl)
    (put_sign (Itself c) c (c ∷ []) cs (unescape cs Outside) (b.1, refl) (λ ss more. refl) (next Outside))

behind_letter : (c : ℕ) (cs : List ℕ) (o : Option ℕ) → short_escape c ≡ o → c ≢ 117 → Reads cs (unescape cs Outside)
    → Reads (92 ∷ c ∷ cs) (then_char o (unescape cs Outside))
behind_letter c cs None is differ reads = at_wrong (c ∷ cs) (no_letter c cs differ is)
behind_letter c cs (Some d) is differ reads = put_sign (Letter c) d (92 ∷ c ∷ []) cs (unescape cs Outside) is (λ ss more. refl) reads

behind_backslash : (c : ℕ) (cs : List ℕ) → ((e : InEscape) → ReadsIn e cs) → Tells c 117 → ReadsIn AfterBackslash (c ∷ cs)
unfolding unescape
behind_backslash c cs next (inl u) =
    reads_as (92 ∷ 117 ∷ cs) (92 ∷ c ∷ cs) (unescape cs AfterU) (unescape (c ∷ cs) AfterBackslash) (ap (λ (x : ℕ). 92 ∷ x ∷ cs) (sym u.1)) (rw u.0 refl)
    (next AfterU)
behind_backslash c cs next (inr u) =
    reads_as (92 ∷ c ∷ cs) (92 ∷ c ∷ cs) (then_char (short_escape c) (unescape cs Outside)) (unescape (c ∷ cs) AfterBackslash) refl (rw u.0 refl)
    (behind_letter c cs (short_escape c) refl u.1 (next Outside))

behind_u : (c : ℕ) (cs : List ℕ) → ((e : InEscape) → ReadsIn e cs) → Tells c 123 → ReadsIn AfterU (c ∷ cs)
unfolding unescape
behind_u c cs next (inl b) = reads_as (92 ∷ 117 ∷ 123 ∷ cs) (92 ∷ 117 ∷ c ∷ cs) (unescape cs (Digits [])) (unescape (c ∷ cs) AfterU)
    (ap (λ (x : ℕ). 92 ∷ 117 ∷ x ∷ cs) (sym b.1)) (rw b.0 refl) (next (Digits []) tt)
behind_u c cs next (inr b) = reads_as (92 ∷ 117 ∷ c ∷ cs) (92 ∷ 117 ∷ c ∷ cs) (Err Escape) (unescape (c ∷ cs) AfterU) refl (rw b.0 refl)
    (at_wrong (117 ∷ c ∷ cs) (no_brace_behind_u c cs b.1))

code_spelled : (ds : List ℕ) (ss : List Sign) (more : List ℕ) → signs (Code ds ∷ ss) ++ more ≡ (92 ∷ 117 ∷ 123 ∷ (ds ++ 125 ∷ [])) ++ (signs ss ++ more)
code_spelled ds ss more = ap (λ (l : List ℕ). 92 ∷ 117 ∷ 123 ∷ l) (append_assoc ds (125 ∷ signs ss) more ∙ sym (append_assoc ds (125 ∷ []) (signs ss ++ more)))

behind_code : (ds cs : List ℕ) (o : Option ℕ) → named ds ≡ o → NoBrace ds → Reads cs (unescape cs Outside)
    → Reads (92 ∷ 117 ∷ 123 ∷ (ds ++ 125 ∷ cs)) (then_char o (unescape cs Outside))
behind_code ds cs None is none reads = at_wrong (117 ∷ 123 ∷ (ds ++ 125 ∷ cs)) (no_name ds cs none is)
behind_code ds cs (Some d) is none reads =
    reads_as ((92 ∷ 117 ∷ 123 ∷ (ds ++ 125 ∷ [])) ++ cs) (92 ∷ 117 ∷ 123 ∷ (ds ++ 125 ∷ cs)) (with_front (d ∷ []) (unescape cs Outside))
    (with_front (d ∷ []) (unescape cs Outside))
    (ap (λ (l : List ℕ). 92 ∷ 117 ∷ 123 ∷ l) (append_assoc ds (125 ∷ []) cs)) refl
    (put_sign (Code ds) d (92 ∷ 117 ∷ 123 ∷ (ds ++ 125 ∷ [])) cs (unescape cs Outside) is (code_spelled ds) reads)

in_digits : (c : ℕ) (cs ds : List ℕ) → ((e : InEscape) → ReadsIn e cs) → Tells c 125 → ReadsIn (Digits ds) (c ∷ cs)
unfolding unescape
in_digits c cs ds next (inl b) none =
    reads_as (92 ∷ 117 ∷ 123 ∷ (ds ++ 125 ∷ cs)) (92 ∷ 117 ∷ 123 ∷ (ds ++ c ∷ cs)) (then_char (named ds) (unescape cs Outside)) (unescape (c ∷ cs) (Digits ds))
    (ap (λ (x : ℕ). 92 ∷ 117 ∷ 123 ∷ (ds ++ x ∷ cs)) (sym b.1)) (rw b.0 refl) (behind_code ds cs (named ds) refl none (next Outside))
in_digits c cs ds next (inr b) none =
    reads_as (92 ∷ 117 ∷ 123 ∷ ((ds ++ c ∷ []) ++ cs)) (92 ∷ 117 ∷ 123 ∷ (ds ++ c ∷ cs)) (unescape cs (Digits (ds ++ c ∷ []))) (unescape (c ∷ cs) (Digits ds))
    (ap (λ (l : List ℕ). 92 ∷ 117 ∷ 123 ∷ l) (append_assoc ds (c ∷ []) cs)) (rw b.0 refl) (next (Digits (ds ++ c ∷ [])) (no_brace_more ds c none b.1))

reads_more : (c : ℕ) (cs : List ℕ) → ((e : InEscape) → ReadsIn e cs) → (e : InEscape) → ReadsIn e (c ∷ cs)
reads_more c cs next Outside = outside c cs next (eqb_tells c 92)
reads_more c cs next AfterBackslash = behind_backslash c cs next (eqb_tells c 117)
reads_more c cs next AfterU = behind_u c cs next (eqb_tells c 123)
reads_more c cs next (Digits ds) = in_digits c cs ds next (eqb_tells c 125)

reads_none : (e : InEscape) → ReadsIn e []
unfolding unescape
reads_none Outside = ([], (refl, tt))
reads_none AfterBackslash = at_wrong [] nothing_behind
reads_none AfterU = at_wrong (117 ∷ []) nothing_behind_u
reads_none (Digits ds) = λ none. reads_as (92 ∷ 117 ∷ 123 ∷ ds) (92 ∷ 117 ∷ 123 ∷ (ds ++ [])) (Err Escape) (Err Escape)
    (ap (λ (l : List ℕ). 92 ∷ 117 ∷ 123 ∷ l) (sym (append-nil ds))) refl (at_wrong (117 ∷ 123 ∷ ds) (not_closed ds none))

reads_in : (cs : List ℕ) (e : InEscape) → ReadsIn e cs
reads_in [] e = reads_none e
reads_in (c ∷ cs) e = reads_more c cs (λ f. reads_in cs f) e

-- what a reading says of the characters between quotes
pub reads : (inside : List ℕ) → Reads inside (unescape inside Outside)
reads inside = reads_in inside Outside

-- ---- what the signs say of the reading

over_digits : (es ds rest : List ℕ) → NoBrace es → unescape (es ++ rest) (Digits ds) ≡ unescape rest (Digits (ds ++ es))
unfolding unescape
over_digits [] ds rest none = ap (λ (l : List ℕ). unescape rest (Digits l)) (sym (append-nil ds))
over_digits (e ∷ es) ds rest none =
    rw (not_same e 125 none.0) (over_digits es (ds ++ e ∷ []) rest none.1 ∙ ap (λ (l : List ℕ). unescape rest (Digits l)) (append_assoc ds (e ∷ []) es))

over_code : (ds : List ℕ) (d : ℕ) (rest : List ℕ) → named ds ≡ Some d
    → unescape (92 ∷ 117 ∷ 123 ∷ (ds ++ 125 ∷ rest)) Outside ≡ with_front (d ∷ []) (unescape rest Outside)
unfolding unescape
over_code ds d rest is = over_digits ds [] (125 ∷ rest) (named_no_brace ds d is) ∙ ap (λ (o : Option ℕ). then_char o (unescape rest Outside)) is

over_letter : (l d : ℕ) (rest : List ℕ) → short_escape l ≡ Some d → unescape (92 ∷ l ∷ rest) Outside ≡ with_front (d ∷ []) (unescape rest Outside)
unfolding unescape
over_letter l d rest is = rw (not_same l 117 (not_u l d is)) (ap (λ (o : Option ℕ). then_char o (unescape rest Outside)) is)

over_itself : (c d : ℕ) (rest : List ℕ) → (c ≢ 92) × (c ≡ d) → unescape (c ∷ rest) Outside ≡ with_front (d ∷ []) (unescape rest Outside)
unfolding unescape
over_itself c d rest is = rw (not_same c 92 is.0) (ap (λ (x : ℕ). with_front (x ∷ []) (unescape rest Outside)) is.1)

then_more : (d : ℕ) (text : List ℕ) (r r' : Result (List ℕ) Bad) → r ≡ with_front text r' → with_front (d ∷ []) r ≡ with_front (d ∷ text) r'
then_more d text r r' is = ap (with_front (d ∷ [])) is ∙ with_more (d ∷ []) text r'

over_signs : (ss : List Sign) (text rest : List ℕ) → Say ss text → unescape (signs ss ++ rest) Outside ≡ with_front text (unescape rest Outside)
over_signs [] [] rest say = sym (with_none (unescape rest Outside))
over_signs [] (d ∷ text) rest say = absurd say
over_signs (s ∷ ss) [] rest say = absurd say
over_signs (Itself c ∷ ss) (d ∷ text) rest say = over_itself c d (signs ss ++ rest) say.0 ∙ then_more d text _ _ (over_signs ss text rest say.1)
over_signs (Letter l ∷ ss) (d ∷ text) rest say = over_letter l d (signs ss ++ rest) say.0 ∙ then_more d text _ _ (over_signs ss text rest say.1)
over_signs (Code ds ∷ ss) (d ∷ text) rest say =
    ap (λ (l : List ℕ). unescape (92 ∷ 117 ∷ 123 ∷ l) Outside) (append_assoc ds (125 ∷ signs ss) rest)
    ∙ (over_code ds d (signs ss ++ rest) say.0 ∙ then_more d text _ _ (over_signs ss text rest say.1))

unescape_none : unescape [] Outside ≡ Ok []
unfolding unescape
unescape_none = refl

pub unescape_read : (inside text : List ℕ) → IsReadAs inside text → unescape inside Outside ≡ Ok text
unescape_read inside text (ss, read) =
    ap (λ (l : List ℕ). unescape l Outside) (read.0 ∙ sym (append-nil (signs ss)))
    ∙ (over_signs ss text [] read.1 ∙ (ap (with_front text) unescape_none ∙ ap Ok (append-nil text)))

-- a backslash at the front of what is read begins an escape
begins : (rest : List ℕ) (ss : List Sign) (text : List ℕ) → 92 ∷ rest ≡ signs ss → Say ss text → BeginsEscape rest
begins rest [] text is say = absurd cc
begins rest (s ∷ ss) [] is say = absurd say
begins rest (Itself c ∷ ss) (d ∷ text) is say = let same : 92 ≡ c = (cc) in absurd (say.0.0 (sym same))
begins rest (Letter l ∷ ss) (d ∷ text) is say = let same : rest ≡ l ∷ signs ss = (cc) in inl (l, d, signs ss, (say.0, same))
begins rest (Code ds ∷ ss) (d ∷ text) is say = let same : rest ≡ 117 ∷ 123 ∷ (ds ++ 125 ∷ signs ss) = (cc) in inr (ds, d, signs ss, (say.0, same))

wrong_at : (rest : List ℕ) (r : Result (List ℕ) Bad) → (BeginsEscape rest → ⊥) → Reads (92 ∷ rest) r → r ≡ Err Escape
wrong_at rest (Ok text) wrong (ss, read) = absurd (wrong (begins rest ss text read.0 read.1))
wrong_at rest (Err b) wrong (is, w) = ap Err is

pub unescape_wrong : (inside : List ℕ) → WrongEscape inside → unescape inside Outside ≡ Err Escape
unescape_wrong inside w =
    ap (λ (l : List ℕ). unescape l Outside) w.inside_is
    ∙ (over_signs w.before w.text (92 ∷ w.rest) w.said
    ∙ ap (with_front w.text) (wrong_at w.rest (unescape (92 ∷ w.rest) Outside) w.wrong (reads (92 ∷ w.rest))))
