-- A body that may go on behind its stop has spent fuel.
use Rattle.std.proofs.Common.{◌≡◌, ℕ, zero, suc, ◌<◌, ◌≤◌, Bool, true, false, List, [], ◌∷◌, Option, Some, None, sym, subst, arith, le_refl}
use Rattle.std.specs.Prelude.{if◌then◌else◌}
use Rattle.rule_lines.specs.Acts.{Act, Both, Log, Super, Return, Throw, Bump, Keep, Try, If}
use Rattle.ce_algorithms.specs.Body.{holds}
use Rattle.ce_algorithms.specs.State.{Memory}
use Rattle.ce_algorithms.specs.Values.{Args, text_of}
use Rattle.behaviours.specs.Resume.{BodyStop, acted, spending, goes_on, stop_or, resumed}
use Rattle.class_bodies.specs.declared.next.Next.{Next}
use Rattle.behaviours.specs.Next.{stop_of}
use Rattle.frame_stack.specs.Resumes.{Proceeds, Resumes}
use Rattle.frame_stack.specs.Stacked.{Stacked}

acted_falls : (args : Args) (guarded : Bool) (a : Act) (memory : Memory) (fuel : ℕ) → (acted args guarded a memory fuel).fuel ≤ fuel
acted_falls args guarded (Both op) memory fuel = le_refl fuel
acted_falls args guarded (Log vals) memory fuel = le_refl fuel
acted_falls args guarded Super memory fuel = le_refl fuel
acted_falls args guarded (Return operand) memory fuel = le_refl fuel
acted_falls args guarded (Throw val) memory fuel = le_refl fuel
acted_falls args guarded Bump memory fuel = le_refl fuel
acted_falls args guarded (Keep val) memory fuel = le_refl fuel
acted_falls args guarded (Try a) memory zero = le_refl 0
acted_falls args guarded (Try a) memory (suc n) = let h = acted_falls args true a memory n in omega (arith, h)
acted_falls args guarded (If equal l r a) memory fuel =
    go (holds equal (text_of memory args l) (text_of memory args r)) fuel (acted_falls args guarded a memory)
  where
    go : (b : Bool) (fuel : ℕ) → ((n : ℕ) → (acted args guarded a memory n).fuel ≤ n)
        → (if b then spending memory fuel (acted args guarded a memory) else goes_on memory fuel).fuel ≤ fuel
    go true zero on = le_refl 0
    go true (suc n) on = let h = on n in omega (arith, h)
    go false fuel on = le_refl fuel

spends : (args : Args) (actions : List Act) (memory : Memory) (fuel : ℕ) → Proceeds (resumed args actions memory fuel).stop
    → (resumed args actions memory fuel).fuel < fuel
spends args [] memory fuel h = absurd (let e : false ≡ true = h in cc)
spends args (a ∷ actions) memory zero h = absurd h
spends args (a ∷ actions) memory (suc n) h =
    go (acted args false a memory n).stop (acted args false a memory n).memory (acted args false a memory n).fuel (acted_falls args false a memory n)
    (spends args actions) h
  where
    go : (o : Option BodyStop) (m : Memory) (f : ℕ) → f ≤ n
        → ((m : Memory) (f : ℕ) → Proceeds (resumed args actions m f).stop → (resumed args actions m f).fuel < f)
        → Proceeds (stop_or o m f actions (resumed args actions)).stop → (stop_or o m f actions (resumed args actions)).fuel < suc n
    go None m f le rest h = let r = rest m f h in omega (arith, le, r)
    go (Some stop) m f le rest h = omega (arith, le)

pub resumes_spends : (old new : Stacked) (before after : ℕ) (next : Next) → Resumes old new before after next → Proceeds (stop_of next) → after < before
resumes_spends old new before after next r h =
    subst (λ n. n < before) (sym r.fuel) (spends r.body.args r.body.actions _ before (subst Proceeds r.stop h))
