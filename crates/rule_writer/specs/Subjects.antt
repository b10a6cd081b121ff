-- What an operation is on.
use Rattle.std.specs.Prelude.{Bool, true, false}
use Rattle.rule_lines.specs.declared.op.Op.{Op}
use Rattle.rule_lines.specs.declared.op.Op.TheVariants as ops

-- a variable is given a node
abbrev pub sets_variable : Op → Bool
sets_variable (ops.Create _ _ _ _) = true
sets_variable (ops.New _ _) = true
sets_variable (ops.MakeText _ _ _) = true
sets_variable (ops.Shadow _ _) = true
sets_variable (ops.Clone _ _ _) = true
sets_variable (ops.Let _ _) = true
sets_variable _ = false

-- on nodes, their attributes and variables
abbrev pub is_on_tree : Op → Bool
is_on_tree (ops.Create _ _ _ _) = true
is_on_tree (ops.New _ _) = true
is_on_tree (ops.MakeText _ _ _) = true
is_on_tree (ops.Shadow _ _) = true
is_on_tree (ops.Append _ _) = true
is_on_tree (ops.Before _ _ _) = true
is_on_tree (ops.Remove _ _) = true
is_on_tree (ops.Detach _) = true
is_on_tree (ops.SetAttr _ _ _) = true
is_on_tree (ops.DelAttr _ _) = true
is_on_tree (ops.Clone _ _ _) = true
is_on_tree (ops.Adopt _ _) = true
is_on_tree (ops.Let _ _) = true
is_on_tree _ = false

-- on controls and forms, or a question
abbrev pub is_for_control : Op → Bool
is_for_control (ops.Reset _) = true
is_for_control (ops.Value _ _) = true
is_for_control (ops.Check _ _) = true
is_for_control (ops.Choose _ _) = true
is_for_control (ops.Custom _ _) = true
is_for_control (ops.Submit _) = true
is_for_control (ops.Request _ _) = true
is_for_control (ops.Ask _ _ _) = true
is_for_control _ = false

-- on the custom states of an element
abbrev pub is_for_states : Op → Bool
is_for_states (ops.StateAdd _ _) = true
is_for_states (ops.StateDelete _ _) = true
is_for_states (ops.StateClear _) = true
is_for_states _ = false
