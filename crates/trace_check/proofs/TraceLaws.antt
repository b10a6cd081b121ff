-- Lines, and the logs whose lines they are.
use Rattle.std.proofs.Common.{◌≡◌, ℕ, true, false, List, [], ◌∷◌, ◌++◌, Option, Some, None, Result, Ok, Err, refl, sym, ap, ◌∙◌}
use Rattle.std.specs.Prelude.{IfOk}
use Rattle.std.proofs.lemmas.Bool.{and_parts}
use Rattle.ce_base.specs.declared.memory.NoMemory.{NoMemory}
use Rattle.ce_events.specs.declared.event.Event.{Event}
use Rattle.ce_events.specs.Step.{step_of}
use Rattle.ce_events.specs.Text.{event_text}
use Rattle.event_reader.specs.IsEvent.{IsEvent}
use Rattle.event_reader.specs.Steps.{TextsTellSteps}
use Rattle.order_law.specs.After.{after}
use Rattle.order_law.specs.Book.{Book, blank}
use Rattle.order_law.specs.Law.{Lawful, is_lawful, may_come, read}
use Rattle.trace_check.specs.Next.{IsAfterEvent, IsAfterLine, NoneMayCome}
use Rattle.trace_check.specs.Traces.{AreLawful, IsLog}
use Rattle.trace_check.proofs.StepLaws.{after_by_step, may_come_by_step}

-- one line more

pub log-append : (lines : List (List ℕ)) (log : List Event) (line : List ℕ) (e : Event) → IsLog lines log → IsEvent e → event_text e ≡ line
    → IsLog (lines ++ line ∷ []) (log ++ e ∷ [])
log-append [] [] line e are is text = (is, text, tt)
log-append [] (d ∷ log) line e are is text = absurd are
log-append (l ∷ lines) [] line e are is text = absurd are
log-append (l ∷ lines) (d ∷ log) line e are is text = (are.0, are.1, log-append lines log line e are.2 is text)

pub lawful-append : (b : Book) (log : List Event) (e : Event) → is_lawful b log ≡ true → may_come (read b log) e ≡ true → is_lawful b (log ++ e ∷ []) ≡ true
lawful-append b [] e law may = rw may refl
lawful-append b (d ∷ log) e law may =
    let parts = and_parts (may_come b d) (is_lawful (after b d) log) law in
    rw (parts.0, lawful-append (after b d) log e parts.1 may) refl

-- where none may come with a line, no lawful log has it behind the lines of this one
pub none_goes_on : TextsTellSteps → (b : Book) (lines : List (List ℕ)) (line : List ℕ) (log other : List Event) → IsLog lines log
    → IsLog (lines ++ line ∷ []) other → is_lawful b other ≡ true → NoneMayCome (read b log) line → ⊥
none_goes_on tell b [] line [] [] are others law none = absurd others
none_goes_on tell b [] line [] (e ∷ other) are others law none =
    let clash : true ≡ false = sym (and_parts (may_come b e) (is_lawful (after b e) other) law).0 ∙ none e others.0 others.1 in absurd cc
none_goes_on tell b [] line (d ∷ log) other are others law none = absurd are
none_goes_on tell b (l ∷ lines) line [] other are others law none = absurd are
none_goes_on tell b (l ∷ lines) line (d ∷ log) [] are others law none = absurd others
none_goes_on tell b (l ∷ lines) line (d ∷ log) (e ∷ other) are others law none =
    let same : step_of e ≡ step_of d = tell e d others.0 are.0 (others.1 ∙ sym are.1) in
    let rest : is_lawful (after b e) other ≡ true = (and_parts (may_come b e) (is_lawful (after b e) other) law).1 in
    none_goes_on tell (after b d) lines line log other are.2 others.2 (ap (λ (c : Book). is_lawful c other) (sym (after_by_step b e d same)) ∙ rest) none

-- the events of a front of the lines
pub record HasFront (front : List (List ℕ)) (log : List Event) : Type 0 where
  pub events : List Event
  pub behind : List Event
  pub split : log ≡ events ++ behind
  pub is_log : IsLog front events

more_front : (line : List ℕ) (front : List (List ℕ)) (e : Event) (log : List Event) → IsEvent e → event_text e ≡ line → HasFront front log
    → HasFront (line ∷ front) (e ∷ log)
more_front line front e log is text has =
    record { events = e ∷ has.events; behind = has.behind; split = ap (λ (l : List Event). e ∷ l) has.split; is_log = (is, text, has.is_log) }

pub front_of : (front rest : List (List ℕ)) (log : List Event) → IsLog (front ++ rest) log → HasFront front log
front_of [] rest log are = record { events = []; behind = log; split = refl; is_log = tt }
front_of (line ∷ front) rest [] are = absurd are
front_of (line ∷ front) rest (e ∷ log) are = more_front line front e log are.0 are.1 (front_of front rest log are.2)

-- each front of the lines of a lawful log is so
pub front_lawful : ((front rest : List Event) → Lawful (front ++ rest) → Lawful front) → (front rest : List (List ℕ)) → AreLawful (front ++ rest)
    → AreLawful front
front_lawful each front rest are =
    let has = front_of front rest are.0 are.1 in
    (has.events, has.is_log, each has.events has.behind (ap (is_lawful blank) (sym has.split) ∙ are.2))

-- the event that is read tells of each with its text
pub after_text : TextsTellSteps → (b : Book) (line : List ℕ) (e : Event) → IsEvent e → event_text e ≡ line → (r : Result (Option Book) NoMemory)
    → IfOk r (λ next. IsAfterEvent b e next) → IfOk r (λ next. IsAfterLine b line next)
after_text tell b line e is text (Ok None) after = λ f f_is f_text. may_come_by_step b f e (tell f e f_is is (f_text ∙ sym text)) ∙ after
after_text tell b line e is text (Ok (Some next)) after = (e, is, text, after.0, after.1)
after_text tell b line e is text (Err refused) after = tt
