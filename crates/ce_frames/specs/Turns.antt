-- A turn of the machine: what the topmost frame does with what it waited for.
use Rattle.std.specs.Prelude.{true, Some, Ok, Err}
use Rattle.ce_base.specs.declared.fault.Fault.{Fault}
use Rattle.ce_base.specs.declared.fault.Fault.TheVariants.{ReferenceError}
use Rattle.ce_events.specs.declared.event.Event.TheVariants.{Caught, Reported, Finished}
use Rattle.ce_algorithms.specs.declared.given.Given.{Given}
use Rattle.ce_algorithms.specs.declared.given.Given.TheVariants.{Node}
use Rattle.ce_algorithms.specs.Steps.{Spent, give, throw, found, attempt}
use Rattle.ce_algorithms.specs.State.{log}
use Rattle.ce_algorithms.specs.Body.{told}
use Rattle.ce_algorithms.specs.Create.{upgrade_failed}
use Rattle.ce_algorithms.specs.Perform.{gives_node, named}
use Rattle.ce_algorithms.specs.Session.{reply}
use Rattle.ce_frames.specs.Frames.{Frame, Replying, Checking, DrainingBackup, Naming, Stepping, Draining}
use Rattle.ce_frames.specs.Frames.{InReaction, CreatingFit, CreatingExtended, Upgrading, Constructing, InBody}
use Rattle.ce_frames.specs.Handing.{node_in}
use Rattle.ce_frames.specs.Rest.{WaitEnd, Went, Threw, Over}
use Rattle.ce_frames.specs.Turned.{Turn, ended, ◌>>=◌, ◌>>◌, hand_down, go_on}
use Rattle.ce_frames.specs.ConstructTurns.{fitting_given, created_turn, same_given, upgraded_turn}
use Rattle.ce_frames.specs.OperateTurns.{pop_turn}
use Rattle.ce_frames.specs.BodyTurns.{body_turn}
use Rattle.ce_frames.specs.DrainTurns.{drain_turn, backup_turn, check_turn}

-- with what was given
abbrev pub turn_went : Frame → Given → Turn
turn_went (Replying line) given = check_turn line (Ok given)
turn_went (Checking line result) given = log (reply line result) >> go_on
turn_went (DrainingBackup n) given = backup_turn n
turn_went (Naming var) given = hand_down (named (Some var) given)
turn_went (Stepping queue) given = pop_turn queue (Ok given)
turn_went (Draining queue elements kept) given = drain_turn queue elements kept
turn_went (InReaction number) given = log (Finished number) >> go_on
turn_went (CreatingFit local document) given = attempt (fitting_given local document given) >>= created_turn local document
turn_went (CreatingExtended n) given = hand_down (give (Node n))
turn_went (Upgrading n d) given = attempt (same_given n given) >>= upgraded_turn n d
turn_went Constructing given = hand_down (gives_node (found (node_in given) ReferenceError))
turn_went (InBody class args this guarded actions) given = told given >> body_turn class args this actions

-- with a fault: some frames catch it, and the others hand it down
abbrev pub turn_threw : Frame → Fault → Turn
turn_threw (Replying line) x = check_turn line (Err x)
turn_threw (Stepping queue) x = pop_turn queue (Err x)
turn_threw (InReaction number) x = log (Reported x) >> (log (Finished number) >> go_on)
turn_threw (CreatingFit local document) x = created_turn local document (Err x)
turn_threw (CreatingExtended n) x = upgrade_failed n x >> hand_down (give (Node n))
turn_threw (Upgrading n d) x = upgraded_turn n d (Err x)
turn_threw (InBody class args this true actions) x = log (Caught x) >> body_turn class args this actions
turn_threw f x = hand_down (throw x)

-- where the session has ended, all frames hand that down
unfoldable pub turn : Frame → WaitEnd → Turn
turn f (Went given) = turn_went f given
turn f (Threw x) = turn_threw f x
turn f Over = λ s. ended (Spent s)
