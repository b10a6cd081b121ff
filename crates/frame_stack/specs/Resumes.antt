-- A body goes on, in its frame.
use Rattle.std.specs.Prelude.{◌≡◌, ◌≤◌, ℕ, true, List, [], ◌∷◌, ◌++◌, length, Some, slice_set}
use Rattle.rule_lines.specs.Acts.{Both, Log, Super}
use Rattle.ce_frames.specs.Places.{Behaviour}
use Rattle.class_bodies.specs.declared.next.Next.{Next}
use Rattle.behaviours.specs.Next.{stop_of}
use Rattle.behaviours.specs.Resume.{BodyStop, Doing, Returning, Throwing, OutOfFuel, Resumed, resumed}
use Rattle.body_frames.specs.Resumes.{is_guarded}
use Rattle.frame_stack.specs.Stacked.{Stacked, Running, behaviour_at, behaviours_of, below_top, frames_of, in_body, top_of}

-- the body may go on behind it: an action is next, or its `try` catches what is thrown
abbrev pub Proceeds : BodyStop → Type 0
Proceeds (Doing action guarded) = Unit {0}
Proceeds (Returning value guarded) = guarded ≡ true
Proceeds (Throwing fault guarded) = guarded ≡ true
Proceeds OutOfFuel = ⊥

-- where it stops at an action, that is an operation, a log or a base call: each other action the body does itself
abbrev pub IsForSession : BodyStop → Type 0
IsForSession (Doing (Both op) guarded) = Unit {0}
IsForSession (Doing (Log vals) guarded) = Unit {0}
IsForSession (Doing Super guarded) = Unit {0}
IsForSession (Doing action guarded) = ⊥
IsForSession stop = Unit {0}

-- what a body comes to, by what its class does and remembers, and the fuel
abbrev pub resumed_of : Running → List Behaviour → ℕ → Resumed
resumed_of r bs fuel = resumed r.args r.actions (behaviour_at r.class bs).memory fuel

-- the topmost frame is of a body, which has gone on
pub record Resumes (old new : Stacked) (before after : ℕ) (next : Next) : Type 0 where
  pub body : Running
  pub top : top_of (frames_of old) ≡ Some (in_body body)
  pub idle : length (behaviours_of old) ≤ body.class → body.actions ≡ []  -- a class that is not there does nothing
  pub stop : stop_of next ≡ (resumed_of body (behaviours_of old) before).stop
  pub fuel : after ≡ (resumed_of body (behaviours_of old) before).fuel
  pub frames : frames_of new ≡ below_top (frames_of old)
      ++ in_body (record body { guarded = is_guarded (stop_of next); actions = (resumed_of body (behaviours_of old) before).left }) ∷ []
  pub behaviours : behaviours_of new ≡ slice_set (behaviours_of old) body.class
      (record (behaviour_at body.class (behaviours_of old)) { memory = (resumed_of body (behaviours_of old) before).memory })
