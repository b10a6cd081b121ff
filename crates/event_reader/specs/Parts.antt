-- What tokens are read as. Only what tells events apart is looked at here; whether a line is the event's shows
-- when the event is written again.
use Rattle.std.specs.Prelude.{ℕ, ◌+◌, ◌-◌, ◌*◌, ◌^◌, ◌==◌, nat_lt, Bool, false, codes, if◌then◌else◌, List, [], ◌∷◌, Option, Some, None}
use Rattle.std.specs.Char.{is_ascii_digit}
use Rattle.std.specs.Str.{bytes_eq}
use Rattle.ce_base.specs.declared.fault.Fault.{Fault}
use Rattle.ce_base.specs.declared.fault.Fault.TheVariants.{TypeError, ReferenceError, SyntaxError, NotSupportedError}
use Rattle.ce_base.specs.declared.fault.Fault.TheVariants.{HierarchyRequestError, NotFoundError, InvalidCharacterError, UserThrow}
use Rattle.rule_tokens.specs.declared.token.Token.{Token}

-- the number that the digits in front write, behind these digits; 0 where it is no number of the type
unfoldable pub number_from : ℕ → List ℕ → ℕ
number_from n [] = n
number_from n (b ∷ bs) = if is_ascii_digit b then (if nat_lt (n * 10 + (b - 48)) (2 ^ 64) then number_from (n * 10 + (b - 48)) bs else 0) else n

abbrev pub number_in : List ℕ → ℕ
number_in bs = number_from 0 bs

-- a node: the number behind its sign
abbrev pub node_in : List ℕ → ℕ
node_in [] = 0
node_in (b ∷ bs) = number_in bs

-- it begins with the sign of a node
abbrev pub begins_node : List ℕ → Bool
begins_node [] = false
begins_node (b ∷ bs) = b == 35

-- it begins with a digit
abbrev pub begins_number : List ℕ → Bool
begins_number [] = false
begins_number (b ∷ bs) = is_ascii_digit b

-- a node, or another word for none
abbrev pub node_or_none : List ℕ → Option ℕ
node_or_none word = if begins_node word then Some (node_in word) else None

-- a text in quotes, or a word for none
abbrev pub text_or_none : Token → Option (List ℕ)
text_or_none t = if t.quoted then Some t.text else None

abbrev pub texts_of : List Token → List (List ℕ)
texts_of [] = []
texts_of (t ∷ ts) = t.text ∷ texts_of ts

abbrev pub nodes_of : List Token → List ℕ
nodes_of [] = []
nodes_of (t ∷ ts) = node_in t.text ∷ nodes_of ts

abbrev pub fault_named : List ℕ → Option Fault
fault_named word =
    if bytes_eq word (codes "TypeError") then Some TypeError
    else (if bytes_eq word (codes "ReferenceError") then Some ReferenceError
    else (if bytes_eq word (codes "SyntaxError") then Some SyntaxError
    else (if bytes_eq word (codes "NotSupportedError") then Some NotSupportedError
    else (if bytes_eq word (codes "HierarchyRequestError") then Some HierarchyRequestError
    else (if bytes_eq word (codes "NotFoundError") then Some NotFoundError
    else (if bytes_eq word (codes "InvalidCharacterError") then Some InvalidCharacterError
    else None))))))

-- the name of a fault, or a word and what the script threw
abbrev pub fault_of : List Token → Option Fault
fault_of (t ∷ []) = fault_named t.text
fault_of (t ∷ thrown ∷ []) = Some (UserThrow thrown.text)
fault_of ts = None
