-- What a call that reads a body says of it.
use Rattle.std.specs.Prelude.{Result, Ok, Err}
use Rattle.body_grammars.specs.declared.refused.BodyRefused.{BodyRefused}
use Rattle.body_grammars.specs.declared.refused.BodyRefused.TheVariants.{NotABody, NoMemory}

-- the list for which the relation holds; NotABody exactly where it holds of none
abbrev pub Reads : {X : Type 0} → (X → Type 0) → Result X BodyRefused → Type 0
Reads R (Ok list) = R list
Reads {X} R (Err NotABody) = (list : X) → R list → ⊥
Reads R (Err NoMemory) = Unit {0}
