-- A body stops at no action that it does itself.
use Rattle.std.proofs.Common.{ℕ, zero, suc, Bool, true, false, List, [], ◌∷◌, Option, Some, None, sym, subst}
use Rattle.std.specs.Prelude.{if◌then◌else◌}
use Rattle.rule_lines.specs.Acts.{Act, Both, Log, Super, Return, Throw, Bump, Keep, Try, If}
use Rattle.ce_algorithms.specs.Body.{holds}
use Rattle.ce_algorithms.specs.State.{Memory}
use Rattle.ce_algorithms.specs.Values.{Args, text_of}
use Rattle.behaviours.specs.Resume.{BodyStop, acted, spending, goes_on, stop_or, resumed}
use Rattle.class_bodies.specs.declared.next.Next.{Next}
use Rattle.behaviours.specs.Next.{stop_of}
use Rattle.frame_stack.specs.Resumes.{IsForSession, Resumes}
use Rattle.frame_stack.specs.Stacked.{Stacked}

abbrev StopsFor : Option BodyStop → Type 0
StopsFor None = Unit {0}
StopsFor (Some stop) = IsForSession stop

acted_stops : (args : Args) (guarded : Bool) (a : Act) (memory : Memory) (fuel : ℕ) → StopsFor (acted args guarded a memory fuel).stop
acted_stops args guarded (Both op) memory fuel = tt
acted_stops args guarded (Log vals) memory fuel = tt
acted_stops args guarded Super memory fuel = tt
acted_stops args guarded (Return operand) memory fuel = tt
acted_stops args guarded (Throw val) memory fuel = tt
acted_stops args guarded Bump memory fuel = tt
acted_stops args guarded (Keep val) memory fuel = tt
acted_stops args guarded (Try a) memory zero = tt
acted_stops args guarded (Try a) memory (suc n) = acted_stops args true a memory n
acted_stops args guarded (If equal l r a) memory fuel =
    go (holds equal (text_of memory args l) (text_of memory args r)) fuel (acted_stops args guarded a memory)
  where
    go : (b : Bool) (fuel : ℕ) → ((n : ℕ) → StopsFor (acted args guarded a memory n).stop)
        → StopsFor (if b then spending memory fuel (acted args guarded a memory) else goes_on memory fuel).stop
    go true zero on = tt
    go true (suc n) on = on n
    go false fuel on = tt

resumed_stops : (args : Args) (actions : List Act) (memory : Memory) (fuel : ℕ) → IsForSession (resumed args actions memory fuel).stop
resumed_stops args [] memory fuel = tt
resumed_stops args (a ∷ actions) memory zero = tt
resumed_stops args (a ∷ actions) memory (suc n) =
    go (acted args false a memory n).stop (acted args false a memory n).memory (acted args false a memory n).fuel (acted_stops args false a memory n)
    (resumed_stops args actions)
  where
    go : (o : Option BodyStop) (m : Memory) (f : ℕ) → StopsFor o → ((m : Memory) (f : ℕ) → IsForSession (resumed args actions m f).stop)
        → IsForSession (stop_or o m f actions (resumed args actions)).stop
    go None m f here rest = rest m f
    go (Some stop) m f here rest = here

pub resumes_stops : (old new : Stacked) (before after : ℕ) (next : Next) → Resumes old new before after next → IsForSession (stop_of next)
resumes_stops old new before after next r = subst IsForSession (sym r.stop) (resumed_stops r.body.args r.body.actions _ before)
