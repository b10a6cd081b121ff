-- What the algorithms still do after each frame's wait, in their own words.
use Rattle.std.specs.Prelude.{ℕ, Bool, true, false, List, Option, Some, Result}
use Rattle.ce_base.specs.declared.fault.Fault.{Fault}
use Rattle.ce_base.specs.declared.fault.Fault.TheVariants.{ReferenceError}
use Rattle.rule_lines.specs.Acts.{Act}
use Rattle.ce_events.specs.declared.event.Event.TheVariants.{Reported, Finished, QueueClosed}
use Rattle.ce_algorithms.specs.declared.given.Given.{Given}
use Rattle.ce_algorithms.specs.Steps.{Step, Outcome, then_do, ◌>>◌, give, settle, found, catch_in, finally_in, attempt_in}
use Rattle.ce_algorithms.specs.Construction.{pop_construction}
use Rattle.ce_algorithms.specs.State.{State, log, on_page}
use Rattle.ce_algorithms.specs.Values.{Args}
use Rattle.ce_algorithms.specs.Body.{Flow, told_next, caught, on_flow, body}
use Rattle.ce_algorithms.specs.Upgrade.{same_node, upgrade_threw, upgrade_ends}
use Rattle.ce_algorithms.specs.Drain.{drain_and_close, drain_popped, drain_taken}
use Rattle.ce_algorithms.specs.Create.{fitting, create_failed, upgrade_failed}
use Rattle.ce_algorithms.specs.Perform.{named}
use Rattle.ce_algorithms.specs.Model.{model}
use Rattle.ce_algorithms.specs.Session.{reply, reply_to}
use Rattle.ce_frames.specs.Frames.{Frame, Replying, Checking, DrainingBackup, Naming, Stepping, Draining}
use Rattle.ce_frames.specs.Frames.{InReaction, CreatingFit, CreatingExtended, Upgrading, Constructing, InBody}
use Rattle.ce_frames.specs.Handing.{nothing, a_node, a_result, dropped, numbered, resulted}

-- drains

-- the backup element queue, from an element that was taken from it on: it is drained, and closed
abbrev pub backup_on : ℕ → Step State (Unit {0})
backup_on n = do
  drain_taken model n
  log (QueueClosed 0)

-- a popped element queue, from these elements on: it is drained and closed, and then comes what the steps gave, or their fault
abbrev pub drain_on : ℕ → List ℕ → Result Given Fault → Step State Given
drain_on queue elements kept = do
  drain_and_close model queue elements
  settle kept

-- a reaction: its fault is reported ("invoke custom element reactions")
abbrev pub settled : ℕ → Outcome State (Unit {0}) → Outcome State (Unit {0})
settled number o = then_do (catch_in o (λ f. log (Reported f))) (λ _. log (Finished number))

-- constructions

-- a constructor has to give a node
abbrev pub constructed : Outcome State (Option ℕ) → Outcome State ℕ
constructed o = then_do o (λ result. found result ReferenceError)

-- a creation by an autonomous definition: the tests of the result; any fault is reported, and a failed element is the answer
abbrev pub created : List ℕ → ℕ → Outcome State ℕ → Outcome State ℕ
created local document o = catch_in (then_do o (fitting local document)) (create_failed local document)

-- a creation by a definition that extends an element: a fault of the upgrade is reported
abbrev pub extended : ℕ → Outcome State (Unit {0}) → Outcome State ℕ
extended n o = then_do (catch_in o (upgrade_failed n)) (λ _. give n)

-- an upgrade: in each case the construction stack loses its last entry
abbrev pub upgraded : ℕ → ℕ → Outcome State (Unit {0}) → Outcome State (Unit {0})
upgraded n d o = then_do (catch_in (finally_in o (on_page (pop_construction d))) (upgrade_threw n)) (λ _. upgrade_ends n)

-- bodies

-- in a `try` the fault of an action is caught
abbrev pub guard : Bool → Option ℕ → Outcome State Flow → Outcome State Flow
guard true this o = catch_in o (caught this)
guard false this o = o

-- after an action the body goes on, or it has ended
abbrev pub acted : ℕ → Args → List Act → Outcome State Flow → Outcome State (Option ℕ)
acted class args actions o = then_do o (on_flow (λ this. body model class args this actions))

-- frames

-- what is still done after a frame was handed an outcome
unfoldable pub after : Frame → Outcome State Given → Outcome State Given
after (Replying line) o = nothing (then_do (attempt_in o) (reply_to model line))
after (Checking line result) o = nothing (then_do o (λ _. log (reply line result)))
after (DrainingBackup element) o = nothing (then_do o (λ _. backup_on element))
after (Naming var) o = then_do o (named (Some var))
after (Stepping queue) o = finally_in o (drain_popped model queue)
after (Draining queue elements kept) o = then_do o (λ _. drain_on queue elements kept)
after (InReaction number) o = nothing (settled number (dropped o))
after (CreatingFit local document) o = a_node (created local document (numbered o))
after (CreatingExtended element) o = a_node (extended element (dropped o))
after (Upgrading element definition) o = nothing (upgraded element definition (then_do (numbered o) (same_node element)))
after Constructing o = a_node (constructed (resulted o))
after (InBody class args this guarded actions) o = a_result (acted class args actions (guard guarded this (then_do o (told_next this))))
