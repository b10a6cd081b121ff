-- Frames: what an algorithm still has to do while a body of a class runs, or what the body calls. Each waits for what
-- runs above it, and then goes on.
use Rattle.std.specs.Prelude.{ℕ, Bool, List, Option, Result}
use Rattle.ce_base.specs.declared.fault.Fault.{Fault}
use Rattle.rule_lines.specs.Acts.{Act}
use Rattle.ce_algorithms.specs.declared.given.Given.{Given}
use Rattle.ce_algorithms.specs.Values.{Args}

pub data Frame : Type 0 where
  -- a command of the top level: its operation runs; then come the checkpoint and the reply
  Replying : (line : ℕ) → Frame
  -- its checkpoint: the backup element queue is drained; then comes the reply
  Checking : (line : ℕ) → (result : Result Given Fault) → Frame
  -- in the checkpoint: a reaction runs of an element that was taken from the backup element queue; then that queue is drained on
  DrainingBackup : (element : ℕ) → Frame
  -- an operation with a variable: what gives a node runs; then the variable is set to it
  Naming : (var : List ℕ) → Frame
  -- an operation with [CEReactions]: its steps run; then its element queue is popped and drained
  Stepping : (queue : ℕ) → Frame
  -- its popped element queue: a reaction runs of the first of these elements; then they are drained on, and at the end comes
  -- what the steps gave, or their fault
  Draining : (queue : ℕ) → (elements : List ℕ) → (kept : Result Given Fault) → Frame
  -- a reaction: a callback or an upgrade runs; then its fault is reported
  InReaction : (number : ℕ) → Frame
  -- "create an element", by an autonomous definition: its class is constructed; then the result is tested
  CreatingFit : (local : List ℕ) → (document : ℕ) → Frame
  -- "create an element", by a definition that extends an element: the new element is upgraded; then it is the answer
  CreatingExtended : (element : ℕ) → Frame
  -- "upgrade an element": the class of its definition is constructed; then the upgrade ends
  Upgrading : (element : ℕ) → (definition : ℕ) → Frame
  -- a construction: the constructor's body runs; then it must have given a node
  Constructing : Frame
  -- a body of a class: an operation of it runs, in a `try` or not; then come these actions
  InBody : (class : ℕ) → (args : Args) → (this : Option ℕ) → (guarded : Bool) → (actions : List Act) → Frame
