-- What elements are told of their form owners and disabled states (HTML Standard, section "Custom element reactions":
-- formAssociatedCallback, formDisabledCallback).
use Rattle.std.specs.Prelude.{◌≡◌, ℕ, Bool, true, false, if◌then◌else◌, List, [], ◌∷◌, ◌++◌, map, filter, take, Option, Some, None}
use Rattle.node_trees.specs.Nodes.{IsNode}
use Rattle.reaction_queue.specs.declared.reaction.Reaction.{Reaction}
use Rattle.reaction_queue.specs.declared.reaction.Reaction.TheVariants.{FormAssociated, FormDisabled, FormReset, FormStateRestore}
use Rattle.reaction_queue.specs.Queues.{waiting_at}
use Rattle.form_controls.specs.declared.change.Change.{Change}
use Rattle.form_controls.specs.Changes.{form_change}
use Rattle.ce_algorithms.specs.Page.{Page, definition_of}
use Rattle.ce_algorithms.specs.Forms.{forms_of, is_custom_form_associated}
use Rattle.ce_algorithms.specs.Enqueue.{gives_reaction}

-- the reaction calls one of the four callbacks of form-associated custom elements
abbrev pub is_form_reaction : Reaction → Bool
is_form_reaction (FormAssociated owner) = true
is_form_reaction (FormDisabled disabled) = true
is_form_reaction FormReset = true
is_form_reaction (FormStateRestore state mode) = true
is_form_reaction r = false

-- what waits at a node of these, the oldest first
abbrev pub told_at : Page → ℕ → List Reaction
told_at p n = filter is_form_reaction (map (λ (w : ℕ × Reaction). w.1) (waiting_at p.queues n))

-- what a change says

abbrev pub said_of_owner : Option (Option ℕ) → List Reaction
said_of_owner None = []
said_of_owner (Some owner) = FormAssociated owner ∷ []

abbrev pub said_of_disabled : Option Bool → List Reaction
said_of_disabled None = []
said_of_disabled (Some disabled) = FormDisabled disabled ∷ []

-- the owner comes first
abbrev pub said : Change → List Reaction
said c = said_of_owner c.owner ++ said_of_disabled c.disabled

-- What of a change is due to its node: a custom form-associated element is told each part for which its definition has the
-- callback, and no other node is told anything
abbrev pub due : Page → Change → List Reaction
due p c = if is_custom_form_associated p c.node then filter (gives_reaction (definition_of p c.node)) (said c) else []

-- from one page to another each node was told what of its change is due to it, once and in order, and nothing else
pub record TellsExactly (old new : Page) : Type 0 where
  pub told : (n : ℕ) → IsNode old.forest n → told_at new n ≡ told_at old n ++ due old (form_change (forms_of old) (forms_of new) n)

-- or a first part of that, where the fuel was spent
pub record TellsPart (old new : Page) : Type 0 where
  pub told : (n : ℕ) → IsNode old.forest n → (k : ℕ) × (told_at new n ≡ told_at old n ++ take k (due old (form_change (forms_of old) (forms_of new) n)))
