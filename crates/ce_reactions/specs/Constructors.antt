-- What a turn comes to where a class has a constructor of its own.
use Rattle.std.specs.Prelude.{ℕ, None}
use Rattle.rule_tokens.specs.declared.callback.CallName.TheVariants.{Constructor}
use Rattle.ce_algorithms.specs.Body.{actions_of}
use Rattle.ce_algorithms.specs.State.{class_of}
use Rattle.ce_algorithms.specs.Steps.{read}
use Rattle.ce_algorithms.specs.Values.{no_args}
use Rattle.ce_frames.specs.ConstructTurns.{begin_body}
use Rattle.ce_frames.specs.Frames.{Constructing}
use Rattle.ce_frames.specs.Turned.{Turn, ◌>>=◌, below}

-- its body begins, with no `this`, above the construction's frame
abbrev pub own_turn : ℕ → Turn
own_turn class = do
  k ← read (λ s. class_of s class)
  below Constructing (begin_body class no_args None (actions_of Constructor k.bodies))
