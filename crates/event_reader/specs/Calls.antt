-- What the line of a callback that starts is read as.
use Rattle.std.specs.Prelude.{ℕ, codes, if◌then◌else◌, List, [], ◌∷◌, Option, Some, None}
use Rattle.std.specs.Str.{bytes_eq}
use Rattle.reaction_queue.specs.declared.reaction.Mode.{Mode}
use Rattle.reaction_queue.specs.declared.reaction.Mode.TheVariants.{Restore, Autocomplete}
use Rattle.rule_tokens.specs.declared.token.Token.{Token}
use Rattle.ce_events.specs.declared.event.Event.{Event}
use Rattle.ce_events.specs.declared.event.Event.TheVariants.{Connected, Disconnected, Adopted, Attribute}
use Rattle.ce_events.specs.declared.event.Event.TheVariants.{FormAssociated, FormDisabled, FormReset, FormStateRestore}
use Rattle.event_reader.specs.Parts.{node_in, node_or_none, text_or_none}

abbrev pub adopted_of : ℕ → List Token → Option Event
adopted_of n (old ∷ new ∷ []) = Some (Adopted n (node_in old.text) (node_in new.text))
adopted_of n ts = None

abbrev pub attribute_of : ℕ → List Token → Option Event
attribute_of n (name ∷ old ∷ new ∷ []) = Some (Attribute n name.text (text_or_none old) (text_or_none new))
attribute_of n ts = None

abbrev pub form_associated_of : ℕ → List Token → Option Event
form_associated_of n (form ∷ []) = Some (FormAssociated n (node_or_none form.text))
form_associated_of n ts = None

abbrev pub form_disabled_of : ℕ → List Token → Option Event
form_disabled_of n (word ∷ []) = Some (FormDisabled n (bytes_eq word.text (codes "true")))
form_disabled_of n ts = None

abbrev pub mode_named : List ℕ → Mode
mode_named word = if bytes_eq word (codes "restore") then Restore else Autocomplete

abbrev pub form_state_restore_of : ℕ → List Token → Option Event
form_state_restore_of n (text ∷ why ∷ []) = Some (FormStateRestore n text.text (mode_named why.text))
form_state_restore_of n ts = None

abbrev pub call_by : ℕ → List ℕ → List Token → Option Event
call_by n word ts =
    if bytes_eq word (codes "connected") then Some (Connected n)
    else (if bytes_eq word (codes "disconnected") then Some (Disconnected n)
    else (if bytes_eq word (codes "adopted") then adopted_of n ts
    else (if bytes_eq word (codes "attribute") then attribute_of n ts
    else (if bytes_eq word (codes "formAssociated") then form_associated_of n ts
    else (if bytes_eq word (codes "formDisabled") then form_disabled_of n ts
    else (if bytes_eq word (codes "formReset") then Some (FormReset n)
    else (if bytes_eq word (codes "formStateRestore") then form_state_restore_of n ts
    else None)))))))

-- the element, the callback's word, and its arguments
abbrev pub call_of : List Token → Option Event
call_of (n ∷ word ∷ ts) = call_by (node_in n.text) word.text ts
call_of ts = None
