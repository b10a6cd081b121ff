-- A body goes on up to its next action that needs more than what the class remembers and the fuel.
use Rattle.std.specs.Prelude.{ℕ, zero, suc, Bool, true, false, if◌then◌else◌, List, [], ◌∷◌, map, Option, Some, None}
use Rattle.ce_base.specs.declared.fault.Fault.{Fault}
use Rattle.ce_base.specs.declared.fault.Fault.TheVariants.{UserThrow}
use Rattle.rule_tokens.specs.declared.operand.Operand.{Operand}
use Rattle.rule_lines.specs.Acts.{Act, Both, Log, Super, Return, Throw, Bump, Keep, Try, If}
use Rattle.ce_algorithms.specs.State.{Memory}
use Rattle.ce_algorithms.specs.Values.{Args, text_of, fixed, fixed_value}
use Rattle.ce_algorithms.specs.Body.{bumped, holds}

-- where a body stops; `guarded` says that it is in a `try`
pub data BodyStop : Type 0 where
  -- this action is next, with its texts as they are now
  Doing : (action : Act) → (guarded : Bool) → BodyStop
  -- the body returns this, or what `this` is
  Returning : (value : Option Operand) → (guarded : Bool) → BodyStop
  Throwing : (fault : Fault) → (guarded : Bool) → BodyStop
  -- a unit of fuel is to be spent, and none is left
  OutOfFuel : BodyStop

-- an action of a body: where the body stops, or none where it goes on; and what the class remembers and the fuel then
pub record Acted : Type 0 where
  pub stop : Option BodyStop
  pub memory : Memory
  pub fuel : ℕ

abbrev pub goes_on : Memory → ℕ → Acted
goes_on memory fuel = record { stop = None; memory = memory; fuel = fuel }

abbrev pub stops : BodyStop → Memory → ℕ → Acted
stops stop memory fuel = record { stop = Some stop; memory = memory; fuel = fuel }

-- a unit of fuel is spent, and then comes this; or the body stops
abbrev pub spending : Memory → ℕ → (ℕ → Acted) → Acted
spending memory zero next = stops OutOfFuel memory 0
spending memory (suc n) next = next n

-- an action, in a `try` or not, behind its fuel. The action in a `try` or an `if` spends a fuel of its own
abbrev pub acted : Args → Bool → Act → Memory → ℕ → Acted
acted args guarded (Both op) memory fuel = stops (Doing (Both (fixed memory args op)) guarded) memory fuel
acted args guarded (Log vals) memory fuel = stops (Doing (Log (map (fixed_value memory args) vals)) guarded) memory fuel
acted args guarded Super memory fuel = stops (Doing Super guarded) memory fuel
acted args guarded (Return operand) memory fuel = stops (Returning operand guarded) memory fuel
acted args guarded (Throw val) memory fuel = stops (Throwing (UserThrow (text_of memory args val)) guarded) memory fuel
acted args guarded Bump memory fuel = goes_on (record memory { count = bumped memory.count }) fuel
acted args guarded (Keep val) memory fuel = goes_on (record memory { kept = text_of memory args val }) fuel
acted args guarded (Try action) memory fuel = spending memory fuel (acted args true action memory)
acted args guarded (If equal left right action) memory fuel =
    if holds equal (text_of memory args left) (text_of memory args right) then spending memory fuel (acted args guarded action memory) else goes_on memory fuel

-- where a body has stopped, with what the class remembers, the fuel, and the actions that are left
pub record Resumed : Type 0 where
  pub stop : BodyStop
  pub memory : Memory
  pub fuel : ℕ
  pub left : List Act

-- after an action the body stops, or goes on with what is left of it
abbrev pub stop_or : Option BodyStop → Memory → ℕ → List Act → (Memory → ℕ → Resumed) → Resumed
stop_or None memory fuel left next = next memory fuel
stop_or (Some stop) memory fuel left next = record { stop = stop; memory = memory; fuel = fuel; left = left }

abbrev pub behind : Acted → List Act → (Memory → ℕ → Resumed) → Resumed
behind done left next = stop_or done.stop done.memory done.fuel left next

-- the body from these actions on: one fuel for each action, before it begins
abbrev pub resumed : Args → List Act → Memory → ℕ → Resumed
resumed args [] memory fuel = record { stop = Returning None false; memory = memory; fuel = fuel; left = [] }
resumed args (action ∷ left) memory zero = record { stop = OutOfFuel; memory = memory; fuel = 0; left = action ∷ left }
resumed args (action ∷ left) memory (suc n) = behind (acted args false action memory n) left (resumed args left)
