-- What is written is the canonical line, and is read again.
use Rattle.std.proofs.Common.{◌≡◌, ◌≤◌, ℕ, zero, List, [], ◌∷◌, ◌++◌, length, Option, Some, None, Result, Ok, Err, IfOk, OnOk, arith, refl, ap, subst, ◌∙◌}
use Rattle.std.specs.Option.{option_map, option_and_then}
use Rattle.std.specs.Str.{IsUtf8, chars}
use Rattle.std.proofs.lemmas.Bool.{le-ltb}
use Rattle.std.proofs.lemmas.Str.{encodes-chars, encodes_same, is_utf8-from_IsUtf8}
use Rattle.rule_tokens.specs.declared.operand.Val.TheVariants as values
use Rattle.rule_tokens.specs.declared.token.Token.{Token}
use Rattle.rule_tokens.specs.Laws.{IsAnswer}
use Rattle.rule_tokens.specs.Spaced.{as_line}
use Rattle.rule_tokens.specs.Tokens.{tokens_of}
use Rattle.rule_lines.specs.Acts.{Act, Said, Blank, Command, Declares}
use Rattle.rule_lines.specs.Acts as acts
use Rattle.rule_lines.specs.declared.line.Cmd.TheVariants as commands
use Rattle.rule_lines.specs.Canon.{canon_tokens}
use Rattle.rule_lines.specs.Clean.{AreTexts}
use Rattle.rule_reader.specs.declared.form.Leaf.{Leaf}
use Rattle.rule_reader.specs.declared.form.Leaf.TheVariants as leaves
use Rattle.rule_reader.specs.declared.form.Wrap.{Wrap}
use Rattle.rule_reader.specs.declared.form.Wrap.TheVariants as wraps
use Rattle.rule_reader.specs.declared.pieces.Form.{Form}
use Rattle.rule_reader.specs.AsRead.{form_as_read}
use Rattle.rule_script.specs.Below.{BelowWriting}
use Rattle.rule_script.specs.Canonical.{CanBeSpelled, IsCanonical, SpellsWithin, ReadsAgain}
use Rattle.rule_script.specs.Place.{declared, nested, said_at_top, said_in_body, said_of, said_of_body, said_within}
use Rattle.rule_script.specs.Spells.{SpellsForm}
use Rattle.rule_script.proofs.SpellLaws.{only}
use Rattle.rule_writer.specs.Canon.{act_tokens, form_tokens, leaf_tokens, said_tokens, wrap_tokens, wraps_tokens}

-- ---- the tokens of what a form says are the form's

same_said : (y x : Said) (ts : List Token) → said_tokens y ≡ ts → Some y ≡ Some x → said_tokens x ≡ ts
same_said y x ts is e = let same : y ≡ x = cc in subst (λ (z : Said). said_tokens z ≡ ts) same is

same_act : (b a : Act) (ts : List Token) → act_tokens b ≡ ts → Some b ≡ Some a → act_tokens a ≡ ts
same_act b a ts is e = let same : b ≡ a = cc in subst (λ (c : Act). act_tokens c ≡ ts) same is

top_tokens : (leaf : Leaf) (x : Said) → said_at_top leaf ≡ Some x → said_tokens x ≡ leaf_tokens leaf
top_tokens (leaves.Both op) x e = same_said (Command (commands.Both op)) x _ refl e
top_tokens (leaves.Log vals) x e = absurd cc
top_tokens leaves.Super x e = absurd cc
top_tokens (leaves.Return place) x e = absurd cc
top_tokens (leaves.Throw val) x e = absurd cc
top_tokens leaves.Bump x e = absurd cc
top_tokens (leaves.Keep val) x e = absurd cc
top_tokens (leaves.Class name) x e = same_said (Declares (acts.Class name)) x _ refl e
top_tokens (leaves.Has class call) x e = same_said (Declares (acts.Has class call)) x _ refl e
top_tokens (leaves.Observe class names) x e = same_said (Declares (acts.Observe class names)) x _ refl e
top_tokens (leaves.Associate class) x e = same_said (Declares (acts.Associate class)) x _ refl e
top_tokens (leaves.DisableShadow class) x e = same_said (Declares (acts.DisableShadow class)) x _ refl e
top_tokens (leaves.DisableInternals class) x e = same_said (Declares (acts.DisableInternals class)) x _ refl e
top_tokens (leaves.Doc var) x e = same_said (Command (commands.Doc var)) x _ refl e
top_tokens (leaves.UserEdit place (values.Fixed text)) x e = same_said (Command (commands.UserEdit place text)) x _ refl e
top_tokens (leaves.UserEdit place val) x e = absurd cc
top_tokens (leaves.UserCheck place on) x e = same_said (Command (commands.UserCheck place on)) x _ refl e
top_tokens (leaves.UserChoose place on) x e = same_said (Command (commands.UserChoose place on)) x _ refl e
top_tokens (leaves.UserReset form) x e = same_said (Command (commands.UserReset form)) x _ refl e
top_tokens (leaves.UserRestore place (values.Fixed text)) x e = same_said (Command (commands.UserRestore place text)) x _ refl e
top_tokens (leaves.UserRestore place val) x e = absurd cc
top_tokens (leaves.UserAutofill place (values.Fixed text)) x e = same_said (Command (commands.UserAutofill place text)) x _ refl e
top_tokens (leaves.UserAutofill place val) x e = absurd cc
top_tokens (leaves.UserPress place) x e = same_said (Command (commands.UserPress place)) x _ refl e

body_tokens : (leaf : Leaf) (a : Act) → said_in_body leaf ≡ Some a → act_tokens a ≡ leaf_tokens leaf
body_tokens (leaves.Both op) a e = same_act (acts.Both op) a _ refl e
body_tokens (leaves.Log vals) a e = same_act (acts.Log vals) a _ refl e
body_tokens leaves.Super a e = same_act acts.Super a _ refl e
body_tokens (leaves.Return place) a e = same_act (acts.Return place) a _ refl e
body_tokens (leaves.Throw val) a e = same_act (acts.Throw val) a _ refl e
body_tokens leaves.Bump a e = same_act acts.Bump a _ refl e
body_tokens (leaves.Keep val) a e = same_act (acts.Keep val) a _ refl e
body_tokens (leaves.Class name) a e = absurd cc
body_tokens (leaves.Has class call) a e = absurd cc
body_tokens (leaves.Observe class names) a e = absurd cc
body_tokens (leaves.Associate class) a e = absurd cc
body_tokens (leaves.DisableShadow class) a e = absurd cc
body_tokens (leaves.DisableInternals class) a e = absurd cc
body_tokens (leaves.Doc var) a e = absurd cc
body_tokens (leaves.UserEdit place val) a e = absurd cc
body_tokens (leaves.UserCheck place on) a e = absurd cc
body_tokens (leaves.UserChoose place on) a e = absurd cc
body_tokens (leaves.UserReset form) a e = absurd cc
body_tokens (leaves.UserRestore place val) a e = absurd cc
body_tokens (leaves.UserAutofill place val) a e = absurd cc
body_tokens (leaves.UserPress place) a e = absurd cc

-- an action that another one is put around
around : (f : Act → Act) (w : Wrap) (o : Option Act) (b : Act) (inside : List Token) → ((a : Act) → act_tokens (f a) ≡ wrap_tokens w ++ act_tokens a)
    → ((a : Act) → o ≡ Some a → act_tokens a ≡ inside) → option_map f o ≡ Some b → act_tokens b ≡ wrap_tokens w ++ inside
around f w None b inside outer inner e = absurd cc
around f w (Some a) b inside outer inner e = same_act (f a) b _ (outer a ∙ ap (λ (ts : List Token). wrap_tokens w ++ ts) (inner a refl)) e

nested_tokens : (ws : List Wrap) (a b : Act) (inside : List Token) → act_tokens a ≡ inside → nested ws a ≡ Some b → act_tokens b ≡ wraps_tokens ws inside
nested_tokens [] a b inside is e = same_act a b inside is e
nested_tokens (wraps.Try ∷ ws) a b inside is e =
    around acts.Try wraps.Try (nested ws a) b (wraps_tokens ws inside) (λ c. refl) (λ c same. nested_tokens ws a c inside is same) e
nested_tokens (wraps.If equal left right ∷ ws) a b inside is e =
    around (acts.If equal left right) (wraps.If equal left right) (nested ws a) b (wraps_tokens ws inside) (λ c. refl)
    (λ c same. nested_tokens ws a c inside is same) e
nested_tokens (wraps.On class call ∷ ws) a b inside is e = absurd cc

declared_tokens : (w : Wrap) (o : Option Act) (x : Said) (inside : List Token) → ((a : Act) → o ≡ Some a → act_tokens a ≡ inside)
    → option_and_then (declared w) o ≡ Some x → said_tokens x ≡ wrap_tokens w ++ inside
declared_tokens w None x inside is e = absurd cc
declared_tokens (wraps.On class call) (Some a) x inside is e =
    same_said (Declares (acts.On class call a)) x _ (ap (λ (ts : List Token). wrap_tokens (wraps.On class call) ++ ts) (is a refl)) e
declared_tokens wraps.Try (Some a) x inside is e = absurd cc
declared_tokens (wraps.If equal left right) (Some a) x inside is e = absurd cc

within_tokens : (w : Wrap) (ws : List Wrap) (leaf : Leaf) (o : Option Act) (x : Said) → ((a : Act) → o ≡ Some a → act_tokens a ≡ leaf_tokens leaf)
    → option_and_then (said_of_body w ws) o ≡ Some x → said_tokens x ≡ wrap_tokens w ++ wraps_tokens ws (leaf_tokens leaf)
within_tokens w ws leaf None x is e = absurd cc
within_tokens w ws leaf (Some a) x is e =
    declared_tokens w (nested ws a) x (wraps_tokens ws (leaf_tokens leaf)) (λ b same. nested_tokens ws a b (leaf_tokens leaf) (is a refl) same) e

tokens_within : (ws : List Wrap) (leaf : Leaf) (x : Said) → said_within ws leaf ≡ Some x → said_tokens x ≡ wraps_tokens ws (leaf_tokens leaf)
tokens_within [] leaf x e = top_tokens leaf x e
tokens_within (w ∷ ws) leaf x e = within_tokens w ws leaf (said_in_body leaf) x (λ a same. body_tokens leaf a same) e

said_as_form : (f : Form) (x : Said) → said_of f ≡ Some x → said_tokens x ≡ form_tokens f
said_as_form f x e = tokens_within f.wraps f.leaf x e

-- ---- the canonical line

canonical : BelowWriting → (f : Form) (x : Said) → said_of f ≡ Some x → said_tokens x ≡ canon_tokens (form_as_read f)
canonical below f x e = said_as_form f x e ∙ below.forms f

pub is_canonical : BelowWriting → (x : Said) (text : List ℕ) → text ≡ as_line (said_tokens x) → IsCanonical x text
is_canonical below Blank text is = is
is_canonical below (Command c) text is = λ f e. is ∙ ap as_line (canonical below f (Command c) e)
is_canonical below (Declares p) text is = λ f e. is ∙ ap as_line (canonical below f (Declares p) e)

-- ---- it is read again

nothing_reads : (limit : ℕ) → IsUtf8 [] → tokens_of limit [] ≡ Ok None
nothing_reads limit utf8 = rw (le-ltb limit zero (omega arith), is_utf8-from_IsUtf8 [] utf8, encodes_same (chars []) [] (encodes-chars [] utf8)) refl

form_spells : BelowWriting → (ts : List Token) (x : Said) → SpellsForm ts x → (text : List ℕ) → text ≡ as_line (said_tokens x) → IsUtf8 text
    → AreTexts (said_tokens x) → SpellsWithin x text
form_spells below ts x s text is utf8 texts limit short =
    let tokens = canon_tokens (form_as_read s.form) in
    let same : said_tokens x ≡ tokens = canonical below s.form x s.says in
    let line : text ≡ as_line tokens = is ∙ ap as_line same in
    let clean = below.clean ts (form_as_read s.form) s.spelled (subst AreTexts same texts) in
    let reads : tokens_of limit text ≡ Ok (Some tokens) =
    ap (tokens_of limit) line ∙ below.written limit tokens clean.0 clean.1 (subst IsUtf8 line utf8) (subst (λ (l : List ℕ). length l ≤ limit) line short) in
    record {
      tokens = Some tokens;
      laid_out = subst (IsAnswer limit text) reads (below.read.answered limit text);
      spelled = record { form = s.form; spelled = below.canonical ts (form_as_read s.form) s.spelled; free = s.free; says = s.says };
    }

blank_spells : BelowWriting → (x : Said) → x ≡ Blank → (text : List ℕ) → text ≡ as_line (said_tokens x) → IsUtf8 text → SpellsWithin x text
blank_spells below x blank text is utf8 limit short =
    let empty : text ≡ [] = is ∙ ap (λ (y : Said). as_line (said_tokens y)) blank in
    record {
      tokens = None;
      laid_out = subst (IsAnswer limit text) (ap (tokens_of limit) empty ∙ nothing_reads limit (subst IsUtf8 empty utf8)) (below.read.answered limit text);
      spelled = blank;
    }

pub written_spells : BelowWriting → (x : Said) → CanBeSpelled x → (text : List ℕ) → text ≡ as_line (said_tokens x) → IsUtf8 text → AreTexts (said_tokens x)
    → SpellsWithin x text
written_spells below x (None, blank) text is utf8 texts = blank_spells below x blank text is utf8
written_spells below x (Some ts, s) text is utf8 texts = form_spells below ts x s text is utf8 texts

pub written_reads : BelowWriting → (x : Said) → CanBeSpelled x → (text : List ℕ) → text ≡ as_line (said_tokens x) → IsUtf8 text → AreTexts (said_tokens x)
    → ReadsAgain x text
written_reads below x spelled text is utf8 texts limit short = only below.read limit text x (written_spells below x spelled text is utf8 texts limit short)

-- ---- what holds of each text that is written so

pub each_text : {E : Type 0} (Q : List ℕ → Type 0) (x : Said) (r : Result (List ℕ) E)
    → ((text : List ℕ) → text ≡ as_line (said_tokens x) → IsUtf8 text → AreTexts (said_tokens x) → Q text)
    → IfOk r (λ t. t ≡ as_line (said_tokens x)) → IfOk r (λ t. IsUtf8 t) → OnOk r (AreTexts (said_tokens x)) → IfOk r Q
each_text Q x (Ok text) holds is utf8 texts = holds text is utf8 texts
each_text Q x (Err e) holds is utf8 texts = tt
