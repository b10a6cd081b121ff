-- A grammar of lines: what a token is wanted as, one after the other.
use Rattle.std.specs.Prelude.{ℕ, List, Option}
use Rattle.std.specs.Option.{option_map}
use Rattle.rule_tokens.specs.declared.token.Token.{Token}
use Rattle.rule_tokens.specs.OperandForms.{variable, node, class_name, text, value, call_name}
use Rattle.rule_tokens.specs.Flags.{flags}
use Rattle.rule_lines.specs.declared.read_as.Kind.{Kind}
use Rattle.rule_lines.specs.declared.read_as.Kind.TheVariants as kinds
use Rattle.rule_lines.specs.declared.read_as.ReadAs.{ReadAs}
use Rattle.rule_lines.specs.declared.read_as.ReadAs.TheVariants as read_as
use Rattle.rule_lines.specs.declared.keyword.Keyword.{Keyword}
use Rattle.rule_lines.specs.declared.word.Word.{Word}

-- what the token says as an operand of this form
abbrev pub said_as : Kind → Token → Option ReadAs
said_as kinds.Variable t = option_map read_as.Variable (variable t)
said_as kinds.Node t = option_map read_as.Node (node t)
said_as kinds.Class t = option_map read_as.Class (class_name t)
said_as kinds.Chars t = option_map read_as.Chars (text t)
said_as kinds.Value t = option_map read_as.Value (value t)
said_as kinds.Flags t = option_map (λ raised. read_as.Flags (record { 0 = raised })) (flags t)
said_as kinds.Callback t = option_map read_as.Callback (call_name t)

-- an optional part: its keyword, and the operand behind it, if it has one
pub record Key : Type 0 where
  pub word : Keyword
  pub operand : Option Kind

-- what is wanted from here on
mutual
  pub data Wants : Type 0 where
    End : Wants  -- nothing more
    One : Kind → Wants → Wants  -- an operand, and then more
    Pick : Rows → Wants  -- one of some words, and what its row wants
    Keys : List Key → Wants  -- optional parts, in this order
    Maybe : Kind → Wants  -- an operand or nothing
    Many : ℕ → Kind → Wants  -- so many operands at most
    Pairs : ℕ → Kind → Wants  -- so many pairs of operands at most
    Inner : Wants  -- an action

  pub data Rows : Type 0 where
    LastRow : Word → Wants → Rows
    Row : Word → Wants → Rows → Rows
