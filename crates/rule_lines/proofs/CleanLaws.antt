-- The canonical tokens of what is spelled can be written as a line and read again.
use Rattle.std.proofs.Common.{◌≡◌, ◌≢◌, ◌==◌, ℕ, zero, suc, length, arith, Bool, true, false, cond, not, ◌&&◌, List, [], ◌∷◌, ◌++◌, Option, Some, None, refl}
use Rattle.std.proofs.Common.{sym, subst}
use Rattle.std.specs.List.{list_all}
use Rattle.std.specs.Prelude.{nat_lt}
use Rattle.std.specs.Char.{is_ascii_lowercase, is_ascii_uppercase}
use Rattle.std.proofs.lemmas.Bool.{and_parts, not-true}
use Rattle.std.proofs.lemmas.Bool.Decides.{nat_tests}
use Rattle.rule_tokens.specs.declared.callback.CallName.{CallName}
use Rattle.rule_tokens.specs.declared.callback.CallName.TheVariants as calls
use Rattle.rule_tokens.specs.declared.operand.Operand.{Operand}
use Rattle.rule_tokens.specs.declared.operand.Operand.TheVariants as operands
use Rattle.rule_tokens.specs.declared.operand.Val.{Val}
use Rattle.rule_tokens.specs.declared.operand.Val.TheVariants as values
use Rattle.rule_tokens.specs.declared.token.Token.{Token}
use Rattle.rule_tokens.specs.Callbacks.{call_word}
use Rattle.rule_tokens.specs.Flags.{flags}
use Rattle.rule_tokens.specs.FlagsText.{flags_text}
use Rattle.rule_tokens.specs.OperandForms.{is_variable_part, is_variable, is_class_part, is_class, is_word, variable, node, class_name, text, value, call_name}
use Rattle.rule_tokens.specs.Spaced.{is_bare_byte, IsCleanBy, AreClean, is_comment, IsLine}
use Rattle.rule_lines.proofs.OwnLaws.{mapped, variable_has, node_has, class_has}
use Rattle.rule_lines.specs.declared.read_as.Kind.{Kind}
use Rattle.rule_lines.specs.declared.read_as.Kind.TheVariants as kinds
use Rattle.rule_lines.specs.declared.read_as.ReadAs.{ReadAs}
use Rattle.rule_lines.specs.declared.read_as.ReadAs.TheVariants as read_as
use Rattle.rule_lines.specs.declared.keyword.Keyword.{Keyword}
use Rattle.rule_lines.specs.declared.keyword.Keyword.TheVariants as keywords
use Rattle.rule_lines.specs.declared.word.Word.{Word}
use Rattle.rule_lines.specs.declared.word.Word.TheVariants as words
use Rattle.rule_lines.specs.Canon.{node_token, value_token, tokens_of, keyed, all_tokens, keys_tokens, is_read_as_word, canon, canon_row, canon_within}
use Rattle.rule_lines.specs.Canon.{canon_tokens}
use Rattle.rule_lines.specs.Clean.{IsBareBy, IsBareClean, AreBareClean, IsTextBy, AreTexts}
use Rattle.rule_lines.specs.Grammar.{said_as, Key, Wants, End, One, Pick, Keys, Maybe, Many, Pairs, Inner, Rows, LastRow, Row}
use Rattle.rule_lines.specs.Rows.{forms}
use Rattle.rule_lines.specs.Whole.{either}
use Rattle.rule_lines.specs.FixedWords.{keyword, spelling}
use Rattle.rule_lines.specs.Spells.{Spelling, SpellNothing, SpellOne, SpellMarked, SpellBehind, SpellKeys, SpellMaybe, SpellMany, SpellPairs, Spell, SpellRow}
use Rattle.rule_lines.specs.Spells.{SpellWithin, Spelled}

-- the canonical text of flags that a token names can stand in a bare token
abbrev pub FlagsClean : Type 0
FlagsClean = (t : Token) (raised : List Bool) → flags t ≡ Some raised → (flags_text raised ≢ []) × (list_all is_bare_byte (flags_text raised) ≡ true)

-- ---- bytes

variable_byte : (b : ℕ) → is_variable_part b ≡ true → is_bare_byte b ≡ true
variable_byte b is = grind (arith, nat_tests)

class_byte : (b : ℕ) → is_class_part b ≡ true → is_bare_byte b ≡ true
class_byte b is = grind (arith, nat_tests)

lower_byte : (b : ℕ) → is_ascii_lowercase b ≡ true → is_bare_byte b ≡ true
lower_byte b is = grind (arith, nat_tests)

upper_byte : (b : ℕ) → is_ascii_uppercase b ≡ true → is_bare_byte b ≡ true
upper_byte b is = grind (arith, nat_tests)

-- what passes one test at each byte passes one that follows from it
all_pass : (one two : ℕ → Bool) → ((b : ℕ) → one b ≡ true → two b ≡ true) → (bs : List ℕ) → list_all one bs ≡ true → list_all two bs ≡ true
all_pass one two follows [] are = refl
all_pass one two follows (b ∷ bs) are = let both = and_parts (one b) (list_all one bs) are in rw (follows b both.0) (all_pass one two follows bs both.1)

variable_bytes : (v : List ℕ) → is_variable v ≡ true → list_all is_bare_byte v ≡ true
variable_bytes [] is = absurd cc
variable_bytes (b ∷ bs) is =
    let both = and_parts (is_ascii_lowercase b && nat_lt (length bs) 32) (list_all is_variable_part bs) is in
    let first = and_parts (is_ascii_lowercase b) (nat_lt (length bs) 32) both.0 in
    rw (lower_byte b first.0) (all_pass is_variable_part is_bare_byte variable_byte bs both.1)

class_bytes : (name : List ℕ) → is_class name ≡ true → IsBareBy false name
class_bytes [] is = absurd cc
class_bytes (b ∷ bs) is =
    let both = and_parts (is_ascii_uppercase b && nat_lt (length bs) 32) (list_all is_class_part bs) is in
    let first = and_parts (is_ascii_uppercase b) (nat_lt (length bs) 32) both.0 in
    ((λ e. cc), rw (upper_byte b first.0) (all_pass is_class_part is_bare_byte class_byte bs both.1))

variable_clean : (v : List ℕ) → is_variable v ≡ true → IsBareBy false (36 ∷ v)
variable_clean v is = ((λ e. cc), variable_bytes v is)

-- ---- words

-- some bytes of a bare token that begin no comment
abbrev is_line_word : List ℕ → Bool
is_line_word [] = false
is_line_word (b ∷ bs) = not (b == 35) && list_all is_bare_byte (b ∷ bs)

line_word_clean : (s : List ℕ) → is_line_word s ≡ true → IsBareBy false s
line_word_clean [] is = absurd cc
line_word_clean (b ∷ bs) is = ((λ e. cc), (and_parts (not (b == 35)) (list_all is_bare_byte (b ∷ bs)) is).1)

line_word_begins : (s : List ℕ) → is_line_word s ≡ true → is_comment s ≡ false
line_word_begins [] is = refl
line_word_begins (b ∷ bs) is = not-true (b == 35) (and_parts (not (b == 35)) (list_all is_bare_byte (b ∷ bs)) is).0

word_line : (word : Word) → is_line_word (spelling word) ≡ true
word_line words.On = refl
word_line words.Off = refl
word_line words.Attr = refl
word_line words.Parent = refl
word_line words.Kids = refl
word_line words.State = refl
word_line words.Owner = refl
word_line words.Controls = refl
word_line words.Disabled = refl
word_line words.Candidate = refl
word_line words.Valid = refl
word_line words.Message = refl
word_line words.Value = refl
word_line words.Saved = refl
word_line words.Checked = refl
word_line words.States = refl
word_line words.Edit = refl
word_line words.Check = refl
word_line words.Choose = refl
word_line words.Reset = refl
word_line words.Restore = refl
word_line words.Autofill = refl
word_line words.Press = refl
word_line words.Add = refl
word_line words.Delete = refl
word_line words.Clear = refl
word_line words.Colon = refl
word_line words.Create = refl
word_line words.New = refl
word_line words.Text = refl
word_line words.Shadow = refl
word_line words.Append = refl
word_line words.Before = refl
word_line words.Remove = refl
word_line words.Detach = refl
word_line words.SetAttr = refl
word_line words.DelAttr = refl
word_line words.Clone = refl
word_line words.Adopt = refl
word_line words.Define = refl
word_line words.Upgrade = refl
word_line words.Internals = refl
word_line words.FormValue = refl
word_line words.FormList = refl
word_line words.FormNull = refl
word_line words.Validity = refl
word_line words.Custom = refl
word_line words.Submit = refl
word_line words.Request = refl
word_line words.Ask = refl
word_line words.Let = refl
word_line words.Log = refl
word_line words.Super = refl
word_line words.Return = refl
word_line words.Throw = refl
word_line words.Bump = refl
word_line words.Keep = refl
word_line words.Try = refl
word_line words.If = refl
word_line words.Eq = refl
word_line words.Ne = refl
word_line words.Class = refl
word_line words.Has = refl
word_line words.Observe = refl
word_line words.Associate = refl
word_line words.Disable = refl
word_line words.Doc = refl
word_line words.User = refl

keyword_line : (word : Keyword) → is_line_word (keyword word) ≡ true
keyword_line keywords.Is = refl
keyword_line keywords.In = refl
keyword_line keywords.Extends = refl
keyword_line keywords.State = refl
keyword_line keywords.Deep = refl

call_line : (call : CallName) → is_line_word (call_word call) ≡ true
call_line calls.Constructor = refl
call_line call = refl

-- ---- operands

-- the tokens of each are clean where they are bare
abbrev AllClean : List ReadAs → Type 0
AllClean [] = Unit {0}
AllClean (g ∷ gs) = AreBareClean (tokens_of g) × AllClean gs

node_clean : (place : Operand) → ((v : List ℕ) → place ≡ operands.Variable v → is_variable v ≡ true) → IsBareClean (node_token place)
node_clean operands.Doc is = ((λ e. cc), refl)
node_clean operands.This is = ((λ e. cc), refl)
node_clean (operands.Variable v) is = variable_clean v (is v refl)

value_clean : (val : Val) → IsBareClean (value_token val)
value_clean (values.Fixed text) = tt
value_clean values.Count = ((λ e. cc), refl)
value_clean values.Kept = ((λ e. cc), refl)
value_clean values.First = ((λ e. cc), refl)
value_clean values.Second = ((λ e. cc), refl)
value_clean values.Third = ((λ e. cc), refl)

operand_clean : FlagsClean → (kind : Kind) (t : Token) (g : ReadAs) → said_as kind t ≡ Some g → AreBareClean (tokens_of g)
operand_clean clean kinds.Variable t g e = let m =
    mapped read_as.Variable (variable t) g e in subst (λ (x : ReadAs). AreBareClean (tokens_of x)) m.1.1 (variable_clean m.0 (variable_has t m.0 m.1.0), tt)
operand_clean clean kinds.Node t g e = let m =
    mapped read_as.Node (node t) g e in subst (λ (x : ReadAs). AreBareClean (tokens_of x)) m.1.1 (node_clean m.0 (node_has t m.0 m.1.0), tt)
operand_clean clean kinds.Class t g e = let m =
    mapped read_as.Class (class_name t) g e in subst (λ (x : ReadAs). AreBareClean (tokens_of x)) m.1.1 (class_bytes m.0 (class_has t m.0 m.1.0), tt)
operand_clean clean kinds.Chars t g e = let m = mapped read_as.Chars (text t) g e in subst (λ (x : ReadAs). AreBareClean (tokens_of x)) m.1.1 (tt, tt)
operand_clean clean kinds.Value t g e = let m =
    mapped read_as.Value (value t) g e in subst (λ (x : ReadAs). AreBareClean (tokens_of x)) m.1.1 (value_clean m.0, tt)
operand_clean clean kinds.Flags t g e = let m =
    mapped (λ (raised : List Bool). read_as.Flags (record { 0 = raised })) (flags t) g e in
    subst (λ (x : ReadAs). AreBareClean (tokens_of x)) m.1.1 (clean t m.0 m.1.0, tt)
operand_clean clean kinds.Callback t g e = let m =
    mapped read_as.Callback (call_name t) g e in subst (λ (x : ReadAs). AreBareClean (tokens_of x)) m.1.1 (line_word_clean (call_word m.0) (call_line m.0), tt)

-- ---- what is spelled

-- what is spelled so is clean
abbrev SpellsClean : Spelling → Type 0
SpellsClean Spelt = (ts : List Token) (gs : List ReadAs) → Spelt ts gs → AllClean gs

nothing_clean : (ts : List Token) (gs : List ReadAs) → SpellNothing ts gs → AllClean gs
nothing_clean [] [] spelled = tt
nothing_clean [] (g ∷ gs) spelled = absurd spelled
nothing_clean (t ∷ ts) gs spelled = absurd spelled

one_clean : FlagsClean → (kind : Kind) (Rest : Spelling) → SpellsClean Rest → (ts : List Token) (gs : List ReadAs) → SpellOne kind Rest ts gs → AllClean gs
one_clean clean kind Rest rest [] gs spelled = absurd spelled
one_clean clean kind Rest rest (t ∷ ts) [] spelled = absurd spelled
one_clean clean kind Rest rest (t ∷ ts) (g ∷ gs) spelled = (operand_clean clean kind t g spelled.0, rest ts gs spelled.1)

marked_clean : (mark : ReadAs) → AreBareClean (tokens_of mark) → (Rest : Spelling) → SpellsClean Rest → (ts : List Token) (gs : List ReadAs)
    → SpellMarked mark Rest ts gs → AllClean gs
marked_clean mark is Rest rest ts [] spelled = absurd spelled
marked_clean mark is Rest rest ts (g ∷ gs) spelled = (subst (λ (x : ReadAs). AreBareClean (tokens_of x)) spelled.0 is, rest ts gs spelled.1)

behind_clean : FlagsClean → (operand : Option Kind) (Rest : Spelling) → SpellsClean Rest → (ts : List Token) (gs : List ReadAs)
    → SpellBehind operand Rest ts gs → AllClean gs
behind_clean clean None Rest rest ts gs spelled = marked_clean read_as.There tt Rest rest ts gs spelled
behind_clean clean (Some kind) Rest rest ts gs spelled = one_clean clean kind Rest rest ts gs spelled

-- what follows from each of two facts follows from the one that holds
from_either : (b : Bool) (X Y Z : Type 0) → (X → Z) → (Y → Z) → either b X Y → Z
from_either true X Y Z one two e = one e
from_either false X Y Z one two e = two e

keys_clean : FlagsClean → (keys : List Key) (ts : List Token) (gs : List ReadAs) → SpellKeys keys ts gs → AllClean gs
keys_clean clean [] ts gs spelled = nothing_clean ts gs spelled
keys_clean clean (key ∷ keys) [] gs spelled = marked_clean read_as.NotThere tt (SpellKeys keys) (λ us hs more. keys_clean clean keys us hs more) [] gs spelled
keys_clean clean (key ∷ keys) (t ∷ ts) gs spelled =
    let rest : SpellsClean (SpellKeys keys) = λ us hs more. keys_clean clean keys us hs more in
    from_either (is_word (keyword key.word) t) _ _ (AllClean gs) (λ x. behind_clean clean key.operand (SpellKeys keys) rest ts gs x)
    (λ x. marked_clean read_as.NotThere tt (SpellKeys keys) rest (t ∷ ts) gs x) spelled

maybe_clean : FlagsClean → (kind : Kind) (ts : List Token) (gs : List ReadAs) → SpellMaybe kind ts gs → AllClean gs
maybe_clean clean kind [] gs spelled = marked_clean read_as.NotThere tt SpellNothing nothing_clean [] gs spelled
maybe_clean clean kind (t ∷ ts) gs spelled = one_clean clean kind SpellNothing nothing_clean (t ∷ ts) gs spelled

many_clean : FlagsClean → (n : ℕ) (kind : Kind) (ts : List Token) (gs : List ReadAs) → SpellMany n kind ts gs → AllClean gs
many_clean clean zero kind [] gs spelled = nothing_clean [] gs spelled
many_clean clean (suc n) kind [] gs spelled = nothing_clean [] gs spelled
many_clean clean zero kind (t ∷ ts) gs spelled = absurd spelled
many_clean clean (suc n) kind (t ∷ ts) gs spelled =
    one_clean clean kind (SpellMany n kind) (λ us hs more. many_clean clean n kind us hs more) (t ∷ ts) gs spelled

pairs_clean : FlagsClean → (n : ℕ) (kind : Kind) (ts : List Token) (gs : List ReadAs) → SpellPairs n kind ts gs → AllClean gs
pairs_clean clean zero kind [] gs spelled = nothing_clean [] gs spelled
pairs_clean clean (suc n) kind [] gs spelled = nothing_clean [] gs spelled
pairs_clean clean zero kind (t ∷ ts) gs spelled = absurd spelled
pairs_clean clean (suc n) kind (t ∷ ts) gs spelled =
    one_clean clean kind (SpellOne kind (SpellPairs n kind))
    (λ us hs more. one_clean clean kind (SpellPairs n kind) (λ vs is last. pairs_clean clean n kind vs is last) us hs more) (t ∷ ts) gs spelled

word_clean : (word : Word) → AreBareClean (tokens_of (read_as.Word word))
word_clean word = (line_word_clean (spelling word) (word_line word), tt)

mutual
  wants_clean : FlagsClean → (Action : Spelling) → SpellsClean Action → (wants : Wants) (ts : List Token) (gs : List ReadAs) → Spell Action wants ts gs
      → AllClean gs
  wants_clean clean Action is End ts gs spelled = nothing_clean ts gs spelled
  wants_clean clean Action is (One kind more) ts gs spelled =
      one_clean clean kind (Spell Action more) (λ us hs rest. wants_clean clean Action is more us hs rest) ts gs spelled
  wants_clean clean Action is (Pick rows) [] gs spelled = absurd spelled
  wants_clean clean Action is (Pick rows) (t ∷ ts) gs spelled = row_clean clean Action is rows t ts gs spelled
  wants_clean clean Action is (Keys keys) ts gs spelled = keys_clean clean keys ts gs spelled
  wants_clean clean Action is (Maybe kind) ts gs spelled = maybe_clean clean kind ts gs spelled
  wants_clean clean Action is (Many n kind) ts gs spelled = many_clean clean n kind ts gs spelled
  wants_clean clean Action is (Pairs n kind) ts gs spelled = pairs_clean clean n kind ts gs spelled
  wants_clean clean Action is Inner ts gs spelled = is ts gs spelled

  row_clean : FlagsClean → (Action : Spelling) → SpellsClean Action → (rows : Rows) (t : Token) (ts : List Token) (gs : List ReadAs)
      → SpellRow Action rows t ts gs → AllClean gs
  row_clean clean Action is (LastRow word wants) t ts gs spelled =
      from_either (is_word (spelling word) t) _ _ (AllClean gs)
      (λ x. marked_clean (read_as.Word word) (word_clean word) (Spell Action wants) (λ us hs rest. wants_clean clean Action is wants us hs rest) ts gs x)
      (λ x. absurd x) spelled
  row_clean clean Action is (Row word wants rows) t ts gs spelled =
      from_either (is_word (spelling word) t) _ _ (AllClean gs)
      (λ x. marked_clean (read_as.Word word) (word_clean word) (Spell Action wants) (λ us hs rest. wants_clean clean Action is wants us hs rest) ts gs x)
      (λ x. row_clean clean Action is rows t ts gs x) spelled

within_clean : FlagsClean → (depth : ℕ) (ts : List Token) (gs : List ReadAs) → SpellWithin depth ts gs → AllClean gs
within_clean clean zero ts gs spelled = absurd spelled
within_clean clean (suc depth) ts gs spelled =
    wants_clean clean (SpellWithin depth) (λ us hs inner. within_clean clean depth us hs inner) (Pick forms) ts gs spelled

-- ---- canonical tokens

both_clean : (ts us : List Token) → AreBareClean ts → AreBareClean us → AreBareClean (ts ++ us)
both_clean [] us one two = two
both_clean (t ∷ ts) us one two = (one.0, both_clean ts us one.1 two)

all_clean : (gs : List ReadAs) → AllClean gs → AreBareClean (all_tokens gs)
all_clean [] are = tt
all_clean (g ∷ gs) are = both_clean (tokens_of g) (all_tokens gs) are.0 (all_clean gs are.1)

keyed_clean : (word : Keyword) (g : ReadAs) → AreBareClean (tokens_of g) → AreBareClean (keyed word g)
keyed_clean word (read_as.Variable v) is = (line_word_clean (keyword word) (keyword_line word), is)
keyed_clean word (read_as.Node place) is = (line_word_clean (keyword word) (keyword_line word), is)
keyed_clean word (read_as.Class name) is = (line_word_clean (keyword word) (keyword_line word), is)
keyed_clean word (read_as.Chars text) is = (line_word_clean (keyword word) (keyword_line word), is)
keyed_clean word (read_as.Value val) is = (line_word_clean (keyword word) (keyword_line word), is)
keyed_clean word (read_as.Flags raised) is = (line_word_clean (keyword word) (keyword_line word), is)
keyed_clean word (read_as.Callback call) is = (line_word_clean (keyword word) (keyword_line word), is)
keyed_clean word (read_as.Word read) is = (line_word_clean (keyword word) (keyword_line word), is)
keyed_clean word read_as.There is = (line_word_clean (keyword word) (keyword_line word), is)
keyed_clean word read_as.NotThere is = tt

all_keys_clean : (keys : List Key) (gs : List ReadAs) → AllClean gs → AreBareClean (keys_tokens keys gs)
all_keys_clean [] gs are = tt
all_keys_clean (key ∷ keys) [] are = tt
all_keys_clean (key ∷ keys) (g ∷ gs) are = both_clean (keyed key.word g) (keys_tokens keys gs) (keyed_clean key.word g are.0) (all_keys_clean keys gs are.1)

cond_clean : (b : Bool) (ts us : List Token) → AreBareClean ts → AreBareClean us → AreBareClean (cond b ts us)
cond_clean true ts us one two = one
cond_clean false ts us one two = two

-- the canonical tokens of what is clean are clean
abbrev CanonClean : (List ReadAs → List Token) → Type 0
CanonClean action = (gs : List ReadAs) → AllClean gs → AreBareClean (action gs)

mutual
  canon_clean : (action : List ReadAs → List Token) → CanonClean action → (wants : Wants) (gs : List ReadAs) → AllClean gs
      → AreBareClean (canon action wants gs)
  canon_clean action is End gs are = all_clean gs are
  canon_clean action is (One kind more) [] are = tt
  canon_clean action is (One kind more) (g ∷ gs) are = both_clean (tokens_of g) (canon action more gs) are.0 (canon_clean action is more gs are.1)
  canon_clean action is (Pick rows) [] are = tt
  canon_clean action is (Pick rows) (g ∷ gs) are = canon_row_clean action is rows g gs are.0 are.1
  canon_clean action is (Keys keys) gs are = all_keys_clean keys gs are
  canon_clean action is (Maybe kind) gs are = all_clean gs are
  canon_clean action is (Many n kind) gs are = all_clean gs are
  canon_clean action is (Pairs n kind) gs are = all_clean gs are
  canon_clean action is Inner gs are = is gs are

  canon_row_clean : (action : List ReadAs → List Token) → CanonClean action → (rows : Rows) (g : ReadAs) (gs : List ReadAs) → AreBareClean (tokens_of g)
      → AllClean gs → AreBareClean (canon_row action rows g gs)
  canon_row_clean action is (LastRow word wants) g gs one are = both_clean (tokens_of g) (canon action wants gs) one (canon_clean action is wants gs are)
  canon_row_clean action is (Row word wants rows) g gs one are =
      cond_clean (is_read_as_word word g) (tokens_of g ++ canon action wants gs) (canon_row action rows g gs)
      (both_clean (tokens_of g) (canon action wants gs) one (canon_clean action is wants gs are)) (canon_row_clean action is rows g gs one are)

canon_within_clean : (n : ℕ) (gs : List ReadAs) → AllClean gs → AreBareClean (canon_within n gs)
canon_within_clean zero gs are = tt
canon_within_clean (suc n) gs are = canon_clean (canon_within n) (λ hs inner. canon_within_clean n hs inner) (Pick forms) gs are

-- ---- the first token

-- what is read begins with a word
abbrev BeginsWord : List ReadAs → Type 0
BeginsWord gs = (word : Word) × (rest : List ReadAs) × (gs ≡ read_as.Word word ∷ rest)

marked_word : (word : Word) (Rest : Spelling) (ts : List Token) (gs : List ReadAs) → SpellMarked (read_as.Word word) Rest ts gs → BeginsWord gs
marked_word word Rest ts [] spelled = absurd spelled
marked_word word Rest ts (g ∷ gs) spelled = (word, gs, rw spelled.0 refl)

row_word : (Action : Spelling) (rows : Rows) (t : Token) (ts : List Token) (gs : List ReadAs) → SpellRow Action rows t ts gs → BeginsWord gs
row_word Action (LastRow word wants) t ts gs spelled =
    from_either (is_word (spelling word) t) _ _ (BeginsWord gs) (λ x. marked_word word (Spell Action wants) ts gs x) (λ x. absurd x) spelled
row_word Action (Row word wants rows) t ts gs spelled =
    from_either (is_word (spelling word) t) _ _ (BeginsWord gs) (λ x. marked_word word (Spell Action wants) ts gs x)
    (λ x. row_word Action rows t ts gs x) spelled

within_word : (depth : ℕ) (ts : List Token) (gs : List ReadAs) → SpellWithin depth ts gs → BeginsWord gs
within_word zero ts gs spelled = absurd spelled
within_word (suc depth) [] gs spelled = absurd spelled
within_word (suc depth) (t ∷ ts) gs spelled = row_word (SpellWithin depth) forms t ts gs spelled

cond_line : (b : Bool) (ts us : List Token) → IsLine ts → IsLine us → IsLine (cond b ts us)
cond_line true ts us one two = one
cond_line false ts us one two = two

row_line : (action : List ReadAs → List Token) (rows : Rows) (word : Word) (gs : List ReadAs) → IsLine (canon_row action rows (read_as.Word word) gs)
row_line action (LastRow other wants) word gs = (refl, line_word_begins (spelling word) (word_line word))
row_line action (Row other wants rows) word gs =
    cond_line (is_read_as_word other (read_as.Word word)) (tokens_of (read_as.Word word) ++ canon action wants gs)
    (canon_row action rows (read_as.Word word) gs) (refl, line_word_begins (spelling word) (word_line word)) (row_line action rows word gs)

canon_line : (gs : List ReadAs) → BeginsWord gs → IsLine (canon_tokens gs)
canon_line gs (word, rest, is) = subst (λ (hs : List ReadAs). IsLine (canon_tokens hs)) (sym is) (row_line (canon_within (length rest)) forms word rest)

-- ---- the law

clean_by : (b : Bool) (text : List ℕ) → IsBareBy b text → IsTextBy b text → IsCleanBy b text
clean_by true text one two = two
clean_by false text one two = one

are_clean : (ts : List Token) → AreBareClean ts → AreTexts ts → AreClean ts
are_clean [] one two = tt
are_clean (t ∷ ts) one two = (clean_by t.quoted t.text one.0 two.0, are_clean ts one.1 two.1)

pub canonical_clean : FlagsClean → (ts : List Token) (gs : List ReadAs) → Spelled ts gs → AreTexts (canon_tokens gs)
    → AreClean (canon_tokens gs) × IsLine (canon_tokens gs)
canonical_clean clean ts gs (depth, spelled) texts = (
  are_clean (canon_tokens gs) (canon_within_clean (length gs) gs (within_clean clean depth ts gs spelled)) texts,
  canon_line gs (within_word depth ts gs spelled),
)
