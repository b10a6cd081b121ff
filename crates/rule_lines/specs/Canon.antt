-- The canonical tokens of what is read: each operand by the token that is its own, behind the keywords that the table
-- wants.
use Rattle.std.specs.Prelude.{ℕ, zero, suc, Bool, true, false, List, [], ◌∷◌, ◌++◌, length, codes, if◌then◌else◌}
use Rattle.std.specs.Str.{bytes_eq}
use Rattle.rule_tokens.specs.declared.operand.Operand.{Operand}
use Rattle.rule_tokens.specs.declared.operand.Operand.TheVariants as operands
use Rattle.rule_tokens.specs.declared.operand.Val.{Val}
use Rattle.rule_tokens.specs.declared.operand.Val.TheVariants as values
use Rattle.rule_tokens.specs.declared.token.Token.{Token}
use Rattle.rule_tokens.specs.Callbacks.{call_word}
use Rattle.rule_tokens.specs.FlagsText.{flags_text}
use Rattle.rule_lines.specs.declared.read_as.ReadAs.{ReadAs}
use Rattle.rule_lines.specs.declared.read_as.ReadAs.TheVariants as read_as
use Rattle.rule_lines.specs.declared.keyword.Keyword.{Keyword}
use Rattle.rule_lines.specs.declared.word.Word.{Word}
use Rattle.rule_lines.specs.Grammar.{Key, Wants, End, One, Pick, Keys, Maybe, Many, Pairs, Inner, Rows, LastRow, Row}
use Rattle.rule_lines.specs.Rows.{forms}
use Rattle.rule_lines.specs.FixedWords.{keyword, spelling}

abbrev pub bare : List ℕ → Token
bare text = record { quoted = false; text = text }

abbrev pub quoted : List ℕ → Token
quoted text = record { quoted = true; text = text }

abbrev pub node_token : Operand → Token
node_token operands.Doc = bare (codes "doc")
node_token operands.This = bare (codes "this")
node_token (operands.Variable v) = bare (36 ∷ v)

abbrev pub value_token : Val → Token
value_token (values.Fixed text) = quoted text
value_token values.Count = bare (codes "@count")
value_token values.Kept = bare (codes "@kept")
value_token values.First = bare (codes "@1")
value_token values.Second = bare (codes "@2")
value_token values.Third = bare (codes "@3")

-- the token of an operand; none where there is no operand
abbrev pub tokens_of : ReadAs → List Token
tokens_of (read_as.Variable v) = bare (36 ∷ v) ∷ []
tokens_of (read_as.Node place) = node_token place ∷ []
tokens_of (read_as.Class name) = bare name ∷ []
tokens_of (read_as.Chars text) = quoted text ∷ []
tokens_of (read_as.Value val) = value_token val ∷ []
tokens_of (read_as.Flags raised) = bare (flags_text raised.0) ∷ []
tokens_of (read_as.Callback call) = bare (call_word call) ∷ []
tokens_of (read_as.Word word) = bare (spelling word) ∷ []
tokens_of read_as.There = []
tokens_of read_as.NotThere = []

-- an optional part behind its keyword
abbrev pub keyed : Keyword → ReadAs → List Token
keyed word read_as.NotThere = []
keyed word got = bare (keyword word) ∷ tokens_of got

-- the operands one after the other
abbrev pub all_tokens : List ReadAs → List Token
all_tokens [] = []
all_tokens (g ∷ gs) = tokens_of g ++ all_tokens gs

abbrev pub keys_tokens : List Key → List ReadAs → List Token
keys_tokens [] gs = []
keys_tokens (key ∷ keys) [] = []
keys_tokens (key ∷ keys) (g ∷ gs) = keyed key.word g ++ keys_tokens keys gs

-- the word that is read is this one
abbrev pub is_read_as_word : Word → ReadAs → Bool
is_read_as_word word (read_as.Word read) = bytes_eq (spelling read) (spelling word)
is_read_as_word word _ = false

-- the tokens of what is wanted, where those of an action are these
abbrev mutual
  pub canon : (List ReadAs → List Token) → Wants → List ReadAs → List Token
  canon action End gs = all_tokens gs
  canon action (One kind more) [] = []
  canon action (One kind more) (g ∷ gs) = tokens_of g ++ canon action more gs
  canon action (Pick rows) [] = []
  canon action (Pick rows) (g ∷ gs) = canon_row action rows g gs
  canon action (Keys keys) gs = keys_tokens keys gs
  canon action (Maybe kind) gs = all_tokens gs
  canon action (Many n kind) gs = all_tokens gs
  canon action (Pairs n kind) gs = all_tokens gs
  canon action Inner gs = action gs

  pub canon_row : (List ReadAs → List Token) → Rows → ReadAs → List ReadAs → List Token
  canon_row action (LastRow word wants) g gs = tokens_of g ++ canon action wants gs
  canon_row action (Row word wants rows) g gs = if is_read_as_word word g then tokens_of g ++ canon action wants gs else canon_row action rows g gs

-- of a form, in which actions stand in actions up to so deep
abbrev pub canon_within : ℕ → List ReadAs → List Token
canon_within zero gs = []
canon_within (suc n) gs = canon (canon_within n) (Pick forms) gs

-- the canonical tokens of a form
abbrev pub canon_tokens : List ReadAs → List Token
canon_tokens gs = canon_within (length gs) gs
