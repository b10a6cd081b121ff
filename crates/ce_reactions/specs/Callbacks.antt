-- What a turn comes to where a callback begins.
use Rattle.std.specs.Prelude.{ℕ, Some}
use Rattle.reaction_queue.specs.declared.reaction.Reaction.{Reaction}
use Rattle.reaction_queue.specs.Reactions.{what_of}
use Rattle.ce_algorithms.specs.Steps.{read}
use Rattle.ce_algorithms.specs.Drain.{actions_for, log_call}
use Rattle.ce_algorithms.specs.State.{class_of}
use Rattle.ce_algorithms.specs.Values.{args_of}
use Rattle.ce_frames.specs.ConstructTurns.{begin_body}
use Rattle.ce_frames.specs.Turned.{Turn, ◌>>=◌, ◌>>◌}

-- a callback of a class begins: its line, and then its body
abbrev pub callback_turn : ℕ → ℕ → Reaction → Turn
callback_turn n class r = do
  log_call n r
  k ← read (λ s. class_of s class)
  begin_body class (args_of r) (Some n) (actions_for (what_of r) k.bodies)
