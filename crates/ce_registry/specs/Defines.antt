-- What a call of `define` does (HTML Standard, section "The CustomElementRegistry interface").
use Rattle.std.specs.Prelude.{◌≡◌, ℕ, List, [], ◌∷◌, ◌++◌, length, Option, Some, None, Result, Ok, Err, ⊤}
use Rattle.ce_base.specs.declared.fault.Refused.{Refused}
use Rattle.ce_base.specs.declared.fault.Refused.TheVariants.{Fault as HasFault, NoMemory}
use Rattle.ce_registry.specs.declared.class_facts.ClassFacts.{ClassFacts}
use Rattle.ce_registry.specs.declared.definition.Definition.{Definition}
use Rattle.ce_registry.specs.Registry.{may_define, local_of}

-- nothing speaks against a definition, and its local name is given; or it is refused with the first fault that holds
abbrev pub Allows : Result (List ℕ) Refused → List Definition → List ℕ → ℕ → Option (List ℕ) → Type 0
Allows (Ok local) ds name class base = (may_define ds name class base ≡ None) × (local ≡ local_of name base)
Allows (Err (HasFault f)) ds name class base = may_define ds name class base ≡ Some f
Allows (Err NoMemory) ds name class base = ⊤

-- a definition was put last, unless memory was refused
abbrev pub Adds : Result ℕ Refused → Definition → List Definition → List Definition → Type 0
Adds (Ok d) definition old new = (d ≡ length old) × (new ≡ old ++ definition ∷ [])
Adds (Err (HasFault f)) definition old new = ⊥
Adds (Err NoMemory) definition old new = ⊤

-- a definition was added as the last one, and nothing spoke against it
pub record Added (d : ℕ) (definition : Definition) (base : Option (List ℕ)) (old new : List Definition) : Type 0 where
  pub may : may_define old definition.name definition.class base ≡ None
  pub number : d ≡ length old
  pub last : new ≡ old ++ definition ∷ []

-- it was added, or refused with the first fault that holds, and then nothing has changed
abbrev pub Defines : Result ℕ Refused → List ℕ → ℕ → ClassFacts → Option (List ℕ) → List Definition → List Definition → Type 0
Defines (Ok d) name class facts base old new = Added d (record { name = name; local = local_of name base; class = class; facts = facts }) base old new
Defines (Err (HasFault f)) name class facts base old new = (may_define old name class base ≡ Some f) × (new ≡ old)
Defines (Err NoMemory) name class facts base old new = ⊤
