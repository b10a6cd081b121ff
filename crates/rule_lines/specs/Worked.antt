-- Lines whose answer the definitions compute.
use Rattle.std.specs.Prelude.{◌≡◌, ℕ, List, [], ◌∷◌, Ok, Err, codes}
use Rattle.rule_tokens.specs.declared.refused.Bad.TheVariants.{Word, Arity}
use Rattle.rule_tokens.specs.declared.token.Token.{Token}
use Rattle.rule_lines.specs.Canon.{bare, quoted}
use Rattle.rule_lines.specs.Read.{Reads, read_tokens}

-- it is a form
abbrev IsRead : Reads → Type 0
IsRead (Ok read_as) = Unit {0}
IsRead (Err b) = ⊥

abbrev create : List Token → List Token
create more = bare (codes "create") ∷ bare (codes "$a") ∷ bare (codes "div") ∷ more

-- create $a div, and what may and may not stand behind it
abbrev pub CreateRows : Type 0
CreateRows =
    IsRead (read_tokens (create (bare (codes "in") ∷ bare (codes "doc") ∷ [])))
    × IsRead (read_tokens (create (bare (codes "is") ∷ quoted (codes "") ∷ bare (codes "in") ∷ bare (codes "$d") ∷ [])))
    × (read_tokens (create (bare (codes "in") ∷ [])) ≡ Err Arity)
    × (read_tokens (create (bare (codes "$B") ∷ [])) ≡ Err Arity)
    × (read_tokens (create (bare (codes "in") ∷ bare (codes "x") ∷ [])) ≡ Err Word)
    × (read_tokens (create (bare (codes "in") ∷ bare (codes "doc") ∷ bare (codes "is") ∷ bare (codes "x-b") ∷ [])) ≡ Err Arity)
    × (read_tokens (create (quoted (codes "in") ∷ bare (codes "doc") ∷ [])) ≡ Err Arity)

abbrev after_on : List Token → List Token
after_on action = bare (codes "on") ∷ bare (codes "A") ∷ bare (codes "connected") ∷ bare (codes ":") ∷ action

-- an `on`, and the action behind it
abbrev pub ActionRows : Type 0
ActionRows =
    IsRead (read_tokens (after_on (bare (codes "try") ∷ bare (codes "if") ∷ bare (codes "eq") ∷ bare (codes "@1")
    ∷ quoted (codes "x") ∷ bare (codes ":") ∷ bare (codes "bump") ∷ [])))
    × (read_tokens (after_on []) ≡ Err Arity)
    × (read_tokens (after_on (bare (codes "append") ∷ bare (codes "this") ∷ [])) ≡ Err Arity)
    × (read_tokens (after_on (bare (codes "log") ∷ [])) ≡ Err Arity)
    × (read_tokens (after_on (bare (codes "frob") ∷ [])) ≡ Err Word)
    × (read_tokens (bare (codes "on") ∷ bare (codes "a") ∷ bare (codes "connected") ∷ bare (codes ":") ∷ bare (codes "super") ∷ []) ≡ Err Word)
    × (read_tokens (bare (codes "on") ∷ bare (codes "A") ∷ bare (codes "attribute") ∷ bare (codes "log") ∷ []) ≡ Err Word)

-- words behind the first, and optional operands without a keyword
abbrev pub OtherRows : Type 0
OtherRows =
    (read_tokens (bare (codes "state") ∷ bare (codes "$e") ∷ quoted (codes "add") ∷ bare (codes "x") ∷ []) ≡ Err Word)
    × (read_tokens (bare (codes "clone") ∷ bare (codes "$a") ∷ bare (codes "$b") ∷ quoted (codes "deep") ∷ []) ≡ Err Arity)
    × (read_tokens (bare (codes "request") ∷ bare (codes "$f") ∷ bare (codes "x") ∷ []) ≡ Err Word)
    × (read_tokens (bare (codes "request") ∷ bare (codes "$f") ∷ bare (codes "$b") ∷ bare (codes "$c") ∷ []) ≡ Err Arity)
    × (read_tokens (bare (codes "formlist") ∷ bare (codes "$e") ∷ bare (codes "n") ∷ []) ≡ Err Arity)
    × IsRead (read_tokens (bare (codes "formlist") ∷ bare (codes "$e") ∷ []))
    × (read_tokens (bare (codes "ask") ∷ bare (codes "attr") ∷ bare (codes "$e") ∷ []) ≡ Err Arity)
    × (read_tokens (bare (codes "check") ∷ bare (codes "$e") ∷ bare (codes "yes") ∷ []) ≡ Err Word)
    × (read_tokens (quoted (codes "bump") ∷ []) ≡ Err Word)

abbrev after_user : List ℕ → Token → List Token
after_user deed val = bare (codes "user") ∷ bare deed ∷ bare (codes "$e") ∷ val ∷ []

-- what a user enters is a value
abbrev pub UserRows : Type 0
UserRows =
    IsRead (read_tokens (after_user (codes "edit") (bare (codes "@1"))))
    × IsRead (read_tokens (after_user (codes "restore") (bare (codes "@kept"))))
    × IsRead (read_tokens (after_user (codes "autofill") (quoted (codes "@"))))
    × (read_tokens (after_user (codes "edit") (bare (codes "@4"))) ≡ Err Word)
    × (read_tokens (after_user (codes "restore") (bare (codes "$e"))) ≡ Err Word)
    × (read_tokens (bare (codes "user") ∷ bare (codes "autofill") ∷ bare (codes "$e") ∷ []) ≡ Err Arity)
