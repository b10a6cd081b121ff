-- What a function returned is what a definition gives, unless memory was refused.
use Rattle.std.specs.Prelude.{◌≡◌, List, ◌++◌, Option, Some, None, Result, Ok, Err}
use Rattle.rule_tokens.specs.declared.refused.Bad.{Bad}
use Rattle.rule_tokens.specs.declared.refused.Bad.TheVariants.{Word}
use Rattle.rule_tokens.specs.declared.refused.LineRefused.{LineRefused}
use Rattle.rule_tokens.specs.declared.refused.LineRefused.TheVariants as refused

infixl 10 ◌>>=◌
-- the next step, at what the step before gave
abbrev pub ◌>>=◌ : {A B : Type 0} → Result A Bad → (A → Result B Bad) → Result B Bad
(Ok x) >>= next = next x
(Err b) >>= next = Err b

-- what was read before, and what is still read
abbrev pub with_front : {A : Type 0} → List A → Result (List A) Bad → Result (List A) Bad
with_front front read = read >>= λ rest. Ok (front ++ rest)

-- a refusal is the one that the definition gives; want of memory says nothing
abbrev pub Fails : {Y : Type 0} → LineRefused → Result Y Bad → Type 0
Fails refused.NoMemory read = Unit {0}
Fails (refused.Bad b) read = read ≡ Err b

-- what was returned, seen so, is what the definition gives
abbrev pub GivesSeen : {X Y : Type 0} → (X → Y) → Result X LineRefused → Result Y Bad → Type 0
GivesSeen see (Ok x) read = read ≡ Ok (see x)
GivesSeen see (Err e) read = Fails e read

-- what was returned is what the definition gives
abbrev pub Gives : {X : Type 0} → Result X LineRefused → Result X Bad → Type 0
Gives (Ok x) read = read ≡ Ok x
Gives (Err e) read = Fails e read

-- a token that does not have the form is refused
abbrev pub or_word : {A : Type 0} → Option A → Result A Bad
or_word None = Err Word
or_word (Some a) = Ok a

-- so it is where a line was refused for what is wrong with it
abbrev pub IfBad : {X : Type 0} → Result X LineRefused → (Bad → Type 0) → Type 0
IfBad (Ok x) P = Unit {0}
IfBad (Err refused.NoMemory) P = Unit {0}
IfBad (Err (refused.Bad b)) P = P b
