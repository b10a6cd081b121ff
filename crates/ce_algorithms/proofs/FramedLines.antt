-- The lines read no log.
use Rattle.std.proofs.Common.{◌≡◌, ℕ, ◌+◌, List, [], ◌∷◌, None, Some}
use Rattle.std.specs.Prelude.{Result, Ok, Err}
use Rattle.ce_base.specs.declared.fault.Fault.{Fault}
use Rattle.rule_lines.specs.Acts.{Part, On, Has, Observe, Associate, DisableShadow, DisableInternals, Said, Blank, Command, Declares}
use Rattle.rule_lines.specs.Acts.{Class as NewClass}
use Rattle.rule_lines.specs.declared.line.Cmd.{Cmd}
use Rattle.rule_lines.specs.declared.line.Cmd.TheVariants.{Both, Doc}
use Rattle.rule_tokens.specs.declared.refused.Bad.{Bad}
use Rattle.ce_events.specs.declared.event.Event.{Event}
use Rattle.ce_events.specs.declared.event.Event.TheVariants.{Threw}
use Rattle.ce_algorithms.specs.State.{State, Class}
use Rattle.ce_algorithms.specs.Drain.{drain_all_backup, checkpoint}
use Rattle.ce_algorithms.specs.Making.{make_document}
use Rattle.ce_algorithms.specs.Model.{model}
use Rattle.ce_algorithms.specs.Perform.{gives_node}
use Rattle.ce_algorithms.specs.Parts.{add_class, change_open, part}
use Rattle.ce_algorithms.specs.Session.{perform, command, part_reply, class_part, run_line, run_lines}
use Rattle.ce_algorithms.specs.Written.{behind, behind_in}
use Rattle.ce_algorithms.proofs.Framed.{Framed, framed_steps, framed_done, framed_log, framed_seq, framed_on_page}
use Rattle.ce_algorithms.proofs.FramedLevels.{framed_kept}
use Rattle.ce_algorithms.proofs.FramedModel.{framed_drain_backup, framed_operate, framed_act_as_user}

-- the checkpoint

-- the backup element queue is drained, with its lines
pub framed_drain_all_backup : Framed (drain_all_backup model)
framed_drain_all_backup = search (framed_steps, framed_drain_backup) depth 12

-- the checkpoint
pub framed_checkpoint : Framed (checkpoint model)
framed_checkpoint = search (framed_steps, framed_drain_all_backup) depth 12

-- what a command performs
pub framed_perform : (c : Cmd) → Framed (perform model c)
framed_perform (Both op) = framed_operate None op
framed_perform (Doc var) = framed_kept (Some var) (framed_on_page (gives_node make_document))
framed_perform c = framed_act_as_user c

-- a command
pub framed_command : (line : ℕ) (c : Cmd) → Framed (command model line c)
framed_command line c = search (framed_steps, framed_perform, framed_checkpoint) depth 12

-- a class is added
pub framed_add_class : (name : List ℕ) → Framed (add_class name)
framed_add_class name = search (framed_steps) depth 12

-- a class is changed
pub framed_change_open : (name : List ℕ) (f : Class → Class) → Framed (change_open name f)
framed_change_open name f = search (framed_steps) depth 12

-- a part of a class
pub framed_part : (p : Part) → Framed (part p)
framed_part (NewClass name) = framed_add_class name
framed_part (On name call action) = search framed_change_open
framed_part (Has name call) = search framed_change_open
framed_part (Observe name names) = search framed_change_open
framed_part (Associate name) = search framed_change_open
framed_part (DisableShadow name) = search framed_change_open
framed_part (DisableInternals name) = search framed_change_open

-- the reply to a part
pub framed_part_reply : (line : ℕ) (r : Result (Unit {0}) Fault) → Framed (part_reply line r)
framed_part_reply line (Ok x) = framed_done
framed_part_reply line (Err f) = framed_log (Threw line f)

-- a part of a class, with its reply
pub framed_class_part : (line : ℕ) (p : Part) → Framed (class_part line p)
framed_class_part line p = search (framed_steps, framed_part, framed_part_reply) depth 12

-- a line
pub framed_run_line : (line : ℕ) (l : Result Said Bad) → Framed (run_line model line l)
framed_run_line line (Ok Blank) = framed_done
framed_run_line line (Ok (Command c)) = framed_command line c
framed_run_line line (Ok (Declares p)) = framed_class_part line p
framed_run_line line (Err bad) = framed_log _

-- the lines of a script
pub framed_run_lines : (line : ℕ) (ls : List (Result Said Bad)) → Framed (run_lines model line ls)
framed_run_lines line [] = framed_done
framed_run_lines line (l ∷ ls) = framed_seq (framed_run_line line l) (framed_run_lines (line + 1) ls)

-- what a line does behind events
pub run_line_behind : (line : ℕ) (l : Result Said Bad) (events : List Event) (s : State)
    → run_line model line l (behind events s) ≡ behind_in events (run_line model line l s)
run_line_behind line l events s = (framed_run_line line l).at events s
