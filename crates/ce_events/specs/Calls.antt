-- The lines of callbacks: which reaction writes which, and what each says (HTML Standard, section "Custom element reactions").
use Rattle.std.specs.Prelude.{◌≡◌, ℕ, Option, Some, None}
use Rattle.rule_tokens.specs.declared.callback.CallName.{CallName}
use Rattle.rule_tokens.specs.declared.callback.CallName.TheVariants as names
use Rattle.rule_tokens.specs.declared.callback.CallOrUpgrade.TheVariants.{Call}
use Rattle.reaction_queue.specs.Reactions.{what_of}
use Rattle.reaction_queue.specs.declared.reaction.Reaction.{Reaction}
use Rattle.reaction_queue.specs.declared.reaction.Reaction.TheVariants as reactions
use Rattle.ce_events.specs.declared.event.Event.{Event}
use Rattle.ce_events.specs.declared.event.Event.TheVariants.{Connected, Disconnected, Adopted, Attribute, FormAssociated}
use Rattle.ce_events.specs.declared.event.Event.TheVariants.{FormDisabled, FormReset, FormStateRestore}

-- the line of a callback that starts, of an element; an upgrade has none
abbrev pub call_event : Reaction → ℕ → Option Event
call_event (reactions.Upgrade d) n = None
call_event reactions.Connected n = Some (Connected n)
call_event reactions.Disconnected n = Some (Disconnected n)
call_event (reactions.Adopted old new) n = Some (Adopted n old new)
call_event (reactions.Attribute name old new) n = Some (Attribute n name old new)
call_event (reactions.FormAssociated form) n = Some (FormAssociated n form)
call_event (reactions.FormDisabled disabled) n = Some (FormDisabled n disabled)
call_event reactions.FormReset n = Some (FormReset n)
call_event (reactions.FormStateRestore state why) n = Some (FormStateRestore n state why)

-- the element of a callback's line, and which callback starts; of other lines none
abbrev pub call_of : Event → Option (ℕ × CallName)
call_of (Connected n) = Some (n, names.Connected)
call_of (Disconnected n) = Some (n, names.Disconnected)
call_of (Adopted n old new) = Some (n, names.Adopted)
call_of (Attribute n name old new) = Some (n, names.Attribute)
call_of (FormAssociated n form) = Some (n, names.FormAssociated)
call_of (FormDisabled n disabled) = Some (n, names.FormDisabled)
call_of (FormReset n) = Some (n, names.FormReset)
call_of (FormStateRestore n text why) = Some (n, names.FormStateRestore)
call_of e = None

-- a reaction's line says its element, and the callback that the reaction is for
abbrev pub SaysItsCall : Type 0
SaysItsCall = (r : Reaction) (n : ℕ) (e : Event) → call_event r n ≡ Some e → (name : CallName) × (what_of r ≡ Call name) × (call_of e ≡ Some (n, name))
