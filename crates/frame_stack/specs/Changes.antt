-- What a change of a stack leaves.
use Rattle.std.specs.Prelude.{◌≡◌, ℕ, List, ◌∷◌, [], ◌++◌, Some, slice_set}
use Rattle.rule_tokens.specs.declared.callback.CallName.{CallName}
use Rattle.rule_lines.specs.Acts.{Act}
use Rattle.ce_frames.specs.Places.{Behaviour}
use Rattle.behaviours.specs.Behaviours.{with_action}
use Rattle.frame_stack.specs.Stacked.{Running, Stacked, behaviour_at, behaviours_of, below_top, frames_of, in_body, top_of}

-- the topmost frame is of a body, in which `this` is now this node
pub record SetsThis (old new : Stacked) (n : ℕ) : Type 0 where
  pub body : Running
  pub top : top_of (frames_of old) ≡ Some (in_body body)
  pub frames : frames_of new ≡ below_top (frames_of old) ++ in_body (record body { this = Some n }) ∷ []
  pub behaviours : behaviours_of new ≡ behaviours_of old

-- a class's body gets an action more, the last one
abbrev pub extended : ℕ → CallName → Act → List Behaviour → List Behaviour
extended k call action bs = slice_set bs k (with_action call action (behaviour_at k bs))
