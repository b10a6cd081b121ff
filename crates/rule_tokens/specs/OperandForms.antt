-- The forms that an operand can have: what a token says as one of that form.
use Rattle.std.specs.Prelude.{ℕ, Bool, false, ◌&&◌, ◌||◌, not, List, [], ◌∷◌, length, Option, Some, None, ◌==◌, nat_lt, if◌then◌else◌, codes}
use Rattle.std.specs.Char.{is_ascii_lowercase, is_ascii_uppercase, is_ascii_alphanumeric, is_ascii_digit}
use Rattle.std.specs.List.{list_all}
use Rattle.std.specs.Option.{option_map}
use Rattle.std.specs.Str.{bytes_eq}
use Rattle.rule_tokens.specs.declared.callback.CallName.{CallName}
use Rattle.rule_tokens.specs.declared.operand.Operand.{Operand}
use Rattle.rule_tokens.specs.declared.operand.Operand.TheVariants.{Doc, This, Variable}
use Rattle.rule_tokens.specs.declared.operand.Val.{Val}
use Rattle.rule_tokens.specs.declared.operand.Val.TheVariants.{Fixed, Count, Kept, First, Second, Third}
use Rattle.rule_tokens.specs.declared.token.Token.{Token}
use Rattle.rule_tokens.specs.Callbacks.{call_named}

-- a to z, 0 to 9 or _
abbrev pub is_variable_part : ℕ → Bool
is_variable_part b = (is_ascii_lowercase b || is_ascii_digit b) || (b == 95)

-- a variable's text: 1 to 32 of a to z, 0 to 9 and _, the first a letter
abbrev pub is_variable : List ℕ → Bool
is_variable [] = false
is_variable (b ∷ bs) = (is_ascii_lowercase b && nat_lt (length bs) 32) && list_all is_variable_part bs

-- an ASCII letter, a digit or _
abbrev pub is_class_part : ℕ → Bool
is_class_part b = is_ascii_alphanumeric b || (b == 95)

-- a class's name: 1 to 32 ASCII letters, digits and _, the first an upper-case letter
abbrev pub is_class : List ℕ → Bool
is_class [] = false
is_class (b ∷ bs) = (is_ascii_uppercase b && nat_lt (length bs) 32) && list_all is_class_part bs

-- it begins with $ or @
abbrev pub is_marked : List ℕ → Bool
is_marked [] = false
is_marked (b ∷ bs) = (b == 36) || (b == 64)

-- the bare token is this word
abbrev pub is_word : List ℕ → Token → Bool
is_word word t = not t.quoted && bytes_eq t.text word

-- a variable's text behind a $
abbrev pub variable_in : List ℕ → Option (List ℕ)
variable_in [] = None
variable_in (b ∷ bs) = if b == 36 then (if is_variable bs then Some bs else None) else None

-- $v: a bare token, without its $
abbrev pub variable : Token → Option (List ℕ)
variable t = if t.quoted then None else variable_in t.text

-- P: bare doc, this, or a variable
abbrev pub node : Token → Option Operand
node t =
    if is_word (codes "doc") t then Some Doc
    else (if is_word (codes "this") t then Some This
    else option_map Variable (variable t))

-- C: a bare token
abbrev pub class_name : Token → Option (List ℕ)
class_name t = if t.quoted || not (is_class t.text) then None else Some t.text

-- T: a quoted token, or a bare one that does not begin with $ or @
abbrev pub text : Token → Option (List ℕ)
text t = if not t.quoted && is_marked t.text then None else Some t.text

-- V: a text, or one of these bare words
abbrev pub value : Token → Option Val
value t =
    if is_word (codes "@count") t then Some Count
    else (if is_word (codes "@kept") t then Some Kept
    else (if is_word (codes "@1") t then Some First
    else (if is_word (codes "@2") t then Some Second
    else (if is_word (codes "@3") t then Some Third
    else option_map Fixed (text t)))))

-- CB: a bare token
abbrev pub call_name : Token → Option CallName
call_name t = if t.quoted then None else call_named t.text
