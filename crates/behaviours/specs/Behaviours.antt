-- Behaviours of classes, and what is at their homes.
use Rattle.std.specs.Prelude.{ℕ, List, [], ◌∷◌, ◌++◌, Option, Some, None, slice_set, drop}
use Rattle.rule_tokens.specs.declared.callback.CallName.{CallName}
use Rattle.rule_lines.specs.Acts.{Act}
use Rattle.ce_algorithms.specs.State.{blank_memory}
use Rattle.ce_algorithms.specs.Body.{actions_of}
use Rattle.class_bodies.specs.Places.{Behaviour, Homes, home_of}
use Rattle.class_bodies.specs.declared.next.At.{At}

-- of a class without callbacks, which remembers nothing yet
abbrev pub new_behaviour : Behaviour
new_behaviour = record { bodies = []; memory = blank_memory }

-- an action more, the last one of its callback's body
abbrev pub with_action : CallName → Act → Behaviour → Behaviour
with_action call action b = record b { bodies = b.bodies ++ (call, action) ∷ [] }

-- what is at home gets an action more
abbrev pub extended : CallName → Act → Option Behaviour → Option Behaviour
extended call action None = None
extended call action (Some b) = Some (with_action call action b)

abbrev pub extended_at : ℕ → CallName → Act → Homes → Homes
extended_at class call action homes = slice_set homes class (extended call action (home_of homes class))

-- the actions that are left of a body
abbrev pub left_at : Behaviour → At → List Act
left_at b at = drop at.index (actions_of at.call b.bodies)
