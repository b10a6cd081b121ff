-- A session: the lines of a script, one after another.
use Rattle.std.specs.Prelude.{ℕ, ◌+◌, List, [], ◌∷◌, Some, None, Result, Ok, Err}
use Rattle.ce_base.specs.declared.fault.Fault.{Fault}
use Rattle.rule_lines.specs.Acts.{Part, Said, Blank, Command, Declares}
use Rattle.rule_lines.specs.declared.line.Cmd.{Cmd}
use Rattle.rule_lines.specs.declared.line.Cmd.TheVariants.{Both, Doc}
use Rattle.rule_tokens.specs.declared.refused.Bad.{Bad}
use Rattle.ce_events.specs.declared.event.Event.{Event}
use Rattle.ce_events.specs.declared.event.Event.TheVariants as events
use Rattle.ce_algorithms.specs.declared.given.Given.{Given}
use Rattle.ce_algorithms.specs.declared.given.Given.TheVariants.{Nothing, Node, Answers, Ignored}
use Rattle.ce_algorithms.specs.declared.settings.Settings.{Settings}
use Rattle.ce_algorithms.specs.Steps.{Step, Outcome, Goes, Throws, Spent, ◌>>◌, ◌>>=◌, done, attempt}
use Rattle.ce_algorithms.specs.Page.{blank_page}
use Rattle.ce_algorithms.specs.Making.{make_document}
use Rattle.ce_algorithms.specs.State.{State, log, on_page, spend}
use Rattle.ce_algorithms.specs.Calls.{Again}
use Rattle.ce_algorithms.specs.Drain.{checkpoint}
use Rattle.ce_algorithms.specs.Perform.{act_as_user, gives_node, kept, operate}
use Rattle.ce_algorithms.specs.Parts.{part}

-- one command; at top level nothing is `this`
abbrev pub perform : Again → Cmd → Step State Given
perform again (Both op) = operate again None op
perform again (Doc var) = kept (Some var) (on_page (gives_node make_document))
perform again c = act_as_user again c

abbrev pub reply : ℕ → Result Given Fault → Event
reply line (Ok Nothing) = events.Fine line
reply line (Ok (Node n)) = events.Gave line n
reply line (Ok (Answers a)) = events.Answered line a
reply line (Ok Ignored) = events.Ignored line
reply line (Err f) = events.Threw line f

-- the checkpoint, and the reply behind it
abbrev pub reply_to : Again → ℕ → Result Given Fault → Step State (Unit {0})
reply_to again line result = do
  checkpoint again
  log (reply line result)

-- one fuel, what the command performs, its fault as an answer, the checkpoint, the reply
abbrev pub command : Again → ℕ → Cmd → Step State (Unit {0})
command again line c = do
  spend
  result ← attempt (perform again c)
  reply_to again line result

abbrev pub part_reply : ℕ → Result (Unit {0}) Fault → Step State (Unit {0})
part_reply line (Ok x) = done
part_reply line (Err f) = log (events.Threw line f)

-- a part of a class; only a refused one has a reply
abbrev pub class_part : ℕ → Part → Step State (Unit {0})
class_part line p = do
  result ← attempt (part p)
  part_reply line result

abbrev pub run_line : Again → ℕ → Result Said Bad → Step State (Unit {0})
run_line again line (Ok Blank) = done
run_line again line (Ok (Command c)) = command again line c
run_line again line (Ok (Declares p)) = class_part line p
run_line again line (Err bad) = log (events.WasBad line bad)

-- the lines from this number on, as they were read
abbrev pub run_lines : Again → ℕ → List (Result Said Bad) → Step State (Unit {0})
run_lines again line [] = done
run_lines again line (l ∷ ls) = do
  run_line again line l
  run_lines again (line + 1) ls

-- the state before the first line
abbrev pub start : Settings → State
start settings = record { site = settings.site; page = blank_page; fuel = settings.fuel; classes = []; variables = []; log = [] }

abbrev pub log_of : {A : Type 0} → Outcome State A → List Event
log_of (Goes a s) = s.log
log_of (Throws f s) = s.log
log_of (Spent s) = s.log
