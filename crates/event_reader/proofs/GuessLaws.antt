-- What is guessed of bytes that are the text of an event.
use Rattle.std.proofs.Common.{◌≡◌, ℕ, List, Some, None, Result, Ok, Err, refl, sym, ap, ◌∙◌, subst}
use Rattle.std.proofs.lemmas.Option.{same_Some}
use Rattle.ce_events.specs.declared.event.Event.{Event}
use Rattle.ce_events.specs.Text.{event_text}
use Rattle.event_reader.specs.declared.refused.EventRefused.{EventRefused}
use Rattle.event_reader.specs.declared.refused.EventRefused.TheVariants.{NotAnEvent, NoMemory}
use Rattle.event_reader.specs.Guessed.{IsGuessed, TextsAreGuessed}
use Rattle.event_reader.specs.IsEvent.{IsEvent}
use Rattle.event_reader.specs.Read.{Reads}
use Rattle.event_reader.specs.Reading.{guess}

by_result : (bytes : List ℕ) (other : Event) (r : Result Event EventRefused) → Reads r (guess bytes) → event_text other ≡ bytes → guess bytes ≡ Some other
    → IsGuessed bytes r
by_result bytes other (Ok x) found same read = ap event_text (same_Some x other (sym found ∙ read)) ∙ same
by_result bytes other (Err NotAnEvent) found same read = let clash : None ≡ Some other = sym found ∙ read in absurd cc
by_result bytes other (Err NoMemory) found same read = refl

pub guessed : TextsAreGuessed → (bytes : List ℕ) (r : Result Event EventRefused) → Reads r (guess bytes) → (e : Event) → IsEvent e → event_text e ≡ bytes
    → IsGuessed bytes r
guessed are bytes r reads e is text =
    let told = are e is in
    by_result bytes told.other r reads (told.same ∙ text) (subst (λ (bs : List ℕ). guess bs ≡ Some told.other) text told.read)
