-- What a definition takes over from its class (HTML Standard, section "Core concepts", "custom element definition").
use Rattle.std.specs.Prelude.{ℕ, Bool, true, false, [], ◌∷◌, Option, Some, None, slice_get, slice_set}
use Rattle.rule_tokens.specs.declared.callback.CallName.{CallName}
use Rattle.rule_tokens.specs.declared.callback.CallName.TheVariants.{Constructor, Connected, Disconnected, Adopted, Attribute}
use Rattle.rule_tokens.specs.declared.callback.CallName.TheVariants.{FormAssociated, FormDisabled, FormReset, FormStateRestore}
use Rattle.ce_registry.specs.declared.class_facts.Calls.{Calls}
use Rattle.ce_registry.specs.declared.class_facts.ClassFacts.{ClassFacts}

-- the place of a callback in their order
abbrev pub place_of : CallName → ℕ
place_of Constructor = 0
place_of Connected = 1
place_of Disconnected = 2
place_of Adopted = 3
place_of Attribute = 4
place_of FormAssociated = 5
place_of FormDisabled = 6
place_of FormReset = 7
place_of FormStateRestore = 8

abbrev pub no_calls : Calls
no_calls = record { 0 = false ∷ false ∷ false ∷ false ∷ false ∷ false ∷ false ∷ false ∷ false ∷ [] }

abbrev pub or_false : Option Bool → Bool
or_false None = false
or_false (Some b) = b

-- the class has the callback
abbrev pub has_call : CallName → Calls → Bool
has_call call calls = or_false (slice_get calls.0 (place_of call))

abbrev pub with_call : CallName → Calls → Calls
with_call call calls = record { 0 = slice_set calls.0 (place_of call) true }

-- the facts of a class without callbacks
abbrev pub no_facts : ClassFacts
no_facts = record { calls = no_calls; observed = []; associated = false; no_shadow = false; no_internals = false }
