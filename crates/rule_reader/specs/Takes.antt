-- Operands from the left. A token that does not have the form of its operand is a wrong word; where one is
-- missing or left over, their number is wrong.
use Rattle.std.specs.Prelude.{ℕ, ◌-◌, ◌==◌, Bool, true, false, List, [], ◌∷◌, Option, Some, None, Result, Ok, Err, if◌then◌else◌}
use Rattle.ce_base.specs.declared.entries.Entry.{Entry}
use Rattle.ce_base.specs.Texts.{entry}
use Rattle.rule_tokens.specs.declared.refused.Bad.{Bad}
use Rattle.rule_tokens.specs.declared.refused.Bad.TheVariants.{Word, Arity}
use Rattle.rule_tokens.specs.declared.token.Token.{Token}
use Rattle.rule_tokens.specs.Gives.{◌>>=◌, with_front, or_word}
use Rattle.rule_tokens.specs.OperandForms.{is_word, text}
use Rattle.rule_lines.specs.declared.keyword.Keyword.{Keyword}
use Rattle.rule_lines.specs.declared.word.Word.TheVariants as words
use Rattle.rule_lines.specs.FixedWords.{keyword, spelling}

-- the first token, and those after it
abbrev pub next : List Token → Result (Token × List Token) Bad
next [] = Err Arity
next (t ∷ ts) = Ok (t, ts)

-- one operand, and the tokens after it
abbrev pub take_one : {A : Type 0} → (Token → Option A) → List Token → Result (A × List Token) Bad
take_one kind [] = Err Arity
take_one kind (t ∷ ts) = or_word (kind t) >>= λ a. Ok (a, ts)

-- this word, and the tokens after it
abbrev pub behind : List ℕ → List Token → Result (List Token) Bad
behind word [] = Err Arity
behind word (t ∷ ts) = if is_word word t then Ok ts else Err Word

-- whether the bare keyword stands next, and the tokens after it
abbrev pub marked : Keyword → List Token → Bool × List Token
marked word [] = (false, [])
marked word (t ∷ ts) = if is_word (keyword word) t then (true, ts) else (false, t ∷ ts)

-- an operand behind a keyword: it is there only if the bare keyword stands next
abbrev pub optional : {A : Type 0} → Keyword → (Token → Option A) → List Token → Result (Option A × List Token) Bad
optional word kind ts = if (marked word ts).0 then (take_one kind (marked word ts).1 >>= λ x. Ok (Some x.0, x.1)) else Ok (None, (marked word ts).1)

-- an operand, if a token is there
abbrev pub maybe : {A : Type 0} → (Token → Option A) → List Token → Result (Option A × List Token) Bad
maybe kind [] = Ok (None, [])
maybe kind (t ∷ ts) = or_word (kind t) >>= λ a. Ok (Some a, ts)

-- all that are left, at most n operands
abbrev pub up_to : {A : Type 0} → ℕ → (Token → Option A) → List Token → Result (List A) Bad
up_to n kind [] = Ok []
up_to n kind (t ∷ ts) = if n == 0 then Err Arity else (or_word (kind t) >>= λ a. with_front (a ∷ []) (up_to (n - 1) kind ts))

-- all that are left as pairs of a name and a value, at most n pairs
abbrev pub entries_up_to : ℕ → List Token → Result (List Entry) Bad
entries_up_to n [] = Ok []
entries_up_to n (t ∷ []) = if n == 0 then Err Arity else (or_word (text t) >>= λ name. Err Arity)
entries_up_to n (t ∷ u ∷ ts) =
    if n == 0 then Err Arity else (or_word (text t) >>= λ name. or_word (text u) >>= λ val. with_front (entry name val ∷ []) (entries_up_to (n - 1) ts))

-- a name and a value, and the tokens after them
abbrev pub entry_at : List Token → Result (Entry × List Token) Bad
entry_at ts = do
  name ← take_one text ts
  val ← take_one text name.1
  Ok (entry name.0 val.0, val.1)

-- no token is left
abbrev pub ended : List Token → Result (Unit {0}) Bad
ended [] = Ok tt
ended (t ∷ ts) = Err Arity

-- bare on or off
abbrev pub on_off : Token → Option Bool
on_off t = if is_word (spelling words.On) t then Some true else (if is_word (spelling words.Off) t then Some false else None)
