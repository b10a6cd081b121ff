-- A body goes on, in its frame.
use Rattle.std.specs.Prelude.{◌≡◌, ℕ, Bool, false, drop, Some, None}
use Rattle.ce_algorithms.specs.Body.{actions_of}
use Rattle.ce_algorithms.specs.State.{Memory}
use Rattle.ce_frames.specs.Places.{Behaviour, Held, Place, Wait, Body}
use Rattle.class_bodies.specs.declared.next.Next.{Next}
use Rattle.class_bodies.specs.Next.{resumed_to, stop_of}
use Rattle.class_bodies.specs.Resume.{BodyStop, Doing, Returning, Throwing, OutOfFuel, resumed}

-- it stops in a `try`
abbrev pub is_guarded : BodyStop → Bool
is_guarded (Doing action guarded) = guarded
is_guarded (Returning value guarded) = guarded
is_guarded (Throwing fault guarded) = guarded
is_guarded OutOfFuel = false

-- the frame of a body that has its behaviour, and where it has stopped
pub record Runs (k : ℕ) (p : Place) (b : Behaviour) (new : Held) (before after : ℕ) (next : Next) : Type 0 where
  pub index : ℕ
  pub memory : Memory
  pub frame : new ≡ Body k (record p { index = index; guarded = is_guarded (stop_of next) }) (Some (record b { memory = memory }))
  pub ran : resumed_to next memory after (drop index (actions_of p.call b.bodies)) ≡ resumed p.args (drop p.index (actions_of p.call b.bodies)) b.memory before

-- the frame of a body that has none
pub record Ends (k : ℕ) (p : Place) (new : Held) (before after : ℕ) (next : Next) : Type 0 where
  pub frame : new ≡ Body k (record p { guarded = false }) None
  pub stop : stop_of next ≡ Returning None false
  pub fuel : after ≡ before

abbrev pub FrameResumes : Held → Held → ℕ → ℕ → Next → Type 0
FrameResumes (Wait f) new before after next = ⊥
FrameResumes (Body k p None) new before after next = Ends k p new before after next
FrameResumes (Body k p (Some b)) new before after next = Runs k p b new before after next

-- a body of the same class, that has its behaviour if it had it before, with the same bodies
abbrev pub IsSameBody : Held → Held → Type 0
IsSameBody (Wait f) new = new ≡ Wait f
IsSameBody (Body k p None) new = (q : Place) × (new ≡ Body k q None)
IsSameBody (Body k p (Some b)) new = (q : Place) × (m : Memory) × (new ≡ Body k q (Some (record b { memory = m })))
