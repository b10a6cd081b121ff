-- The operands of a line, read from the left.
use Rattle.std.specs.Prelude.{ℕ, zero, suc, List, [], ◌∷◌, length, Option, Some, None, Result, Ok, Err, if◌then◌else◌}
use Rattle.rule_tokens.specs.declared.refused.Bad.{Bad}
use Rattle.rule_tokens.specs.declared.refused.Bad.TheVariants.{Word as BadWord, Arity}
use Rattle.rule_tokens.specs.declared.token.Token.{Token}
use Rattle.rule_tokens.specs.Gives.{with_front}
use Rattle.rule_tokens.specs.OperandForms.{is_word}
use Rattle.rule_lines.specs.Rows.{forms}
use Rattle.rule_lines.specs.declared.read_as.Kind.{Kind}
use Rattle.rule_lines.specs.declared.read_as.ReadAs.{ReadAs}
use Rattle.rule_lines.specs.declared.read_as.ReadAs.TheVariants as read_as
use Rattle.rule_lines.specs.FixedWords.{keyword, spelling}
use Rattle.rule_lines.specs.Grammar.{said_as, Key, Wants, End, One, Pick, Keys, Maybe, Many, Pairs, Inner, Rows, LastRow, Row}

abbrev pub Reads : Type 0
Reads = Result (List ReadAs) Bad

-- one operand, and the others
abbrev pub then_read_as : Option ReadAs → Reads → Reads
then_read_as None others = Err BadWord
then_read_as (Some got) others = with_front (got ∷ []) others

-- no optional part is there
abbrev pub no_keys : List Key → List ReadAs
no_keys [] = []
no_keys (key ∷ keys) = read_as.NotThere ∷ no_keys keys

-- what stands behind a keyword
abbrev pub behind_key : Option Kind → (List Token → Reads) → List Token → Reads
behind_key None rest ts = with_front (read_as.There ∷ []) (rest ts)
behind_key (Some kind) rest [] = Err Arity
behind_key (Some kind) rest (t ∷ ts) = then_read_as (said_as kind t) (rest ts)

abbrev pub read_keys : List Key → List Token → Reads
read_keys [] [] = Ok []
read_keys [] (t ∷ ts) = Err Arity
read_keys (key ∷ keys) [] = Ok (no_keys (key ∷ keys))
read_keys (key ∷ keys) (t ∷ ts) =
    if is_word (keyword key.word) t then behind_key key.operand (read_keys keys) ts else with_front (read_as.NotThere ∷ []) (read_keys keys (t ∷ ts))

abbrev pub read_maybe : Kind → List Token → Reads
read_maybe kind [] = Ok (read_as.NotThere ∷ [])
read_maybe kind (t ∷ []) = then_read_as (said_as kind t) (Ok [])
read_maybe kind (t ∷ u ∷ ts) = then_read_as (said_as kind t) (Err Arity)

abbrev pub read_many : ℕ → Kind → List Token → Reads
read_many n kind [] = Ok []
read_many zero kind (t ∷ ts) = Err Arity
read_many (suc n) kind (t ∷ ts) = then_read_as (said_as kind t) (read_many n kind ts)

abbrev pub read_pairs : ℕ → Kind → List Token → Reads
read_pairs n kind [] = Ok []
read_pairs zero kind (t ∷ ts) = Err Arity
read_pairs (suc n) kind (t ∷ []) = then_read_as (said_as kind t) (Err Arity)
read_pairs (suc n) kind (t ∷ u ∷ ts) = then_read_as (said_as kind t) (then_read_as (said_as kind u) (read_pairs n kind ts))

-- the operands of what is wanted, where an action is read so
abbrev mutual
  pub read : (List Token → Reads) → Wants → List Token → Reads
  read action End [] = Ok []
  read action End (t ∷ ts) = Err Arity
  read action (One kind more) [] = Err Arity
  read action (One kind more) (t ∷ ts) = then_read_as (said_as kind t) (read action more ts)
  read action (Pick rows) [] = Err Arity
  read action (Pick rows) (t ∷ ts) = read_row action rows t ts
  read action (Keys keys) ts = read_keys keys ts
  read action (Maybe kind) ts = read_maybe kind ts
  read action (Many n kind) ts = read_many n kind ts
  read action (Pairs n kind) ts = read_pairs n kind ts
  read action Inner ts = action ts

  pub read_row : (List Token → Reads) → Rows → Token → List Token → Reads
  read_row action (LastRow word wants) t ts = if is_word (spelling word) t then with_front (read_as.Word word ∷ []) (read action wants ts) else Err BadWord
  read_row action (Row word wants rows) t ts =
      if is_word (spelling word) t then with_front (read_as.Word word ∷ []) (read action wants ts) else read_row action rows t ts

-- the operands of a line, in which actions stand in actions up to so deep
abbrev pub read_within : ℕ → List Token → Reads
read_within zero ts = Err Arity
read_within (suc n) ts = read (read_within n) (Pick forms) ts

-- the operands of a line
abbrev pub read_tokens : List Token → Reads
read_tokens ts = read_within (suc (length ts)) ts
