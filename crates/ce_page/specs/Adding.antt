-- What adding a definition does to the page.
use Rattle.std.specs.Prelude.{◌≡◌, ℕ, List, length, Option, None, Some, Result, Ok, Err}
use Rattle.ce_base.specs.declared.fault.Refused.{Refused}
use Rattle.ce_base.specs.declared.fault.Refused.TheVariants.{Fault as HasFault, NoMemory}
use Rattle.ce_registry.specs.declared.class_facts.ClassFacts.{ClassFacts}
use Rattle.ce_registry.specs.Registry.{may_define}
use Rattle.ce_algorithms.specs.Define.{new_definition, with_defined}
use Rattle.ce_algorithms.specs.Page.{Page}

-- nothing spoke against it, and it is the last one
pub record IsAdded (d : ℕ) (name : List ℕ) (class : ℕ) (facts : ClassFacts) (base : Option (List ℕ)) (old new : Page) : Type 0 where
  pub may : may_define old.definitions name class base ≡ None
  pub number : d ≡ length old.definitions
  pub page : new ≡ with_defined (new_definition name class facts base) old

-- or it was refused with the first fault that holds, and then nothing has changed
abbrev pub AddsDefinition : Result ℕ Refused → List ℕ → ℕ → ClassFacts → Option (List ℕ) → Page → Page → Type 0
AddsDefinition (Ok d) name class facts base old new = IsAdded d name class facts base old new
AddsDefinition (Err (HasFault f)) name class facts base old new = (may_define old.definitions name class base ≡ Some f) × (new ≡ old)
AddsDefinition (Err NoMemory) name class facts base old new = Unit {0}
