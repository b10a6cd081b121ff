-- What a reading gives: a list of what its parts give, or nothing; and what a call that reads says of it.
use Rattle.std.specs.Prelude.{◌≡◌, ℕ, List, [], ◌∷◌, ◌++◌, Option, Some, None, Result, Ok, Err}
use Rattle.ce_base.specs.declared.entries.Entry.{Entry}
use Rattle.body_grammars.specs.declared.refused.BodyRefused.{BodyRefused}
use Rattle.body_grammars.specs.declared.refused.BodyRefused.TheVariants.{NotABody, NoMemory}

-- what was returned, as it is seen, is what the reading gives, unless memory was refused
abbrev pub GivesSeen : {X Y : Type 0} → (X → Y) → Result X BodyRefused → Option Y → Type 0
GivesSeen see (Ok x) read = read ≡ Some (see x)
GivesSeen see (Err NotABody) read = read ≡ None
GivesSeen see (Err NoMemory) read = Unit {0}

-- the same of what was returned as it is
abbrev pub Gives : {X : Type 0} → Result X BodyRefused → Option X → Type 0
Gives result read = GivesSeen (λ x. x) result read

-- these, and then what is read
abbrev pub with_front : {A : Type 0} → List A → Option (List A) → Option (List A)
with_front front None = None
with_front front (Some rest) = Some (front ++ rest)

-- one, and then what is read
abbrev pub then_one : {A : Type 0} → Option A → Option (List A) → Option (List A)
then_one None read = None
then_one (Some a) read = with_front (a ∷ []) read

-- the entry of a name and a value
abbrev pub paired : Option (List ℕ) → Option (List ℕ) → Option Entry
paired None value = None
paired (Some name) None = None
paired (Some name) (Some value) = Some (record { name = name; value = value })

-- what is read of the part was put behind the old ones: the same is read, whatever follows
abbrev pub IsAdded : (List ℕ → Option Entry) → List Entry → List ℕ → List Entry → Result (Unit {0}) BodyRefused → Type 0
IsAdded read old part new (Ok x) = (rest : Option (List Entry)) → with_front old (then_one (read part) rest) ≡ with_front new rest
IsAdded read old part new (Err NotABody) = read part ≡ None
IsAdded read old part new (Err NoMemory) = Unit {0}
