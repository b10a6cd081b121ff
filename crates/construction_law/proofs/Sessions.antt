-- The model's algorithms, commands, lines and sessions leave each construction stack as deep as it was.
use Rattle.std.proofs.Common.{◌≡◌, ℕ, ◌+◌, List, [], ◌∷◌, length, Option, refl, arith}
use Rattle.std.specs.Prelude.{Result, Ok, Err}
use Rattle.ce_base.specs.declared.fault.Fault.{Fault}
use Rattle.rule_tokens.specs.declared.refused.Bad.{Bad}
use Rattle.rule_lines.specs.Acts.{Part, Said, Blank, Command, Declares}
use Rattle.rule_lines.specs.Acts.{Class as NewClass}
use Rattle.rule_lines.specs.declared.line.Cmd.{Cmd}
use Rattle.rule_lines.specs.declared.op.Op.{Op}
use Rattle.ce_algorithms.specs.declared.settings.Settings.{Settings}
use Rattle.ce_algorithms.specs.Steps.{Step, Outcome, Goes, Throws, Spent}
use Rattle.ce_algorithms.specs.State.{State, Class}
use Rattle.ce_algorithms.specs.Calls.{Call}
use Rattle.ce_algorithms.specs.Construct.{construct}
use Rattle.ce_algorithms.specs.Upgrade.{upgrade}
use Rattle.ce_algorithms.specs.Create.{create}
use Rattle.ce_algorithms.specs.Perform.{operate}
use Rattle.ce_algorithms.specs.Parts.{change_open, part}
use Rattle.ce_algorithms.specs.Model.{model}
use Rattle.ce_algorithms.specs.Session.{command, part_reply, run_line, run_lines, start}
use Rattle.construction_law.specs.Depths.{entries_of, depth, StaysDeep, LeavesStacks, StacksAreEmpty}
use Rattle.construction_law.proofs.Steps.{Stays, Leaves, of_session, leaves_steps, leaves_done, leaves_seq}
use Rattle.construction_law.proofs.Algorithms as algorithms

-- lines

leaves_change_open : (name : List ℕ) (f : Class → Class) → Leaves of_session (change_open name f)
leaves_change_open name f = search leaves_steps depth 14

leaves_part : (p : Part) → Leaves of_session (part p)
leaves_part (NewClass name) = search leaves_steps depth 12
leaves_part p = search leaves_change_open

leaves_part_reply : (line : ℕ) (r : Result (Unit {0}) Fault) → Leaves of_session (part_reply line r)
leaves_part_reply line (Ok x) = leaves_done
leaves_part_reply line (Err f) = search leaves_steps depth 6

leaves_line : (line : ℕ) (l : Result Said Bad) → Leaves of_session (run_line model line l)
leaves_line line (Ok Blank) = leaves_done
leaves_line line (Ok (Command c)) = algorithms.command_leaves model algorithms.model_leaves line c
leaves_line line (Ok (Declares p)) = search (leaves_steps, leaves_part, leaves_part_reply) depth 12
leaves_line line (Err bad) = search leaves_steps depth 6

leaves_lines : (line : ℕ) (ls : List (Result Said Bad)) → Leaves of_session (run_lines model line ls)
leaves_lines line [] = leaves_done
leaves_lines line (l ∷ ls) = leaves_seq (leaves_line line l) (leaves_lines (line + 1) ls)

-- as statements

stays_deep : {A : Type 0} (s : State) (o : Outcome State A) → Stays of_session (λ d. depth d s) o → StaysDeep s o
stays_deep s (Goes a t) h = h
stays_deep s (Throws f t) h = h
stays_deep s (Spent t) h = h

leaves_stacks : {A : Type 0} {f : Step State A} → Leaves of_session f → LeavesStacks f
leaves_stacks {f} h = record { from = λ s. stays_deep s (f s) (h.at (λ d. depth d s) s (λ d. refl)) }

pub construct_leaves_stacks : (class : ℕ) → LeavesStacks (construct model class)
construct_leaves_stacks class = leaves_stacks (algorithms.construct_leaves model algorithms.model_leaves class)

pub create_leaves_stacks : (local : List ℕ) (is : Option (List ℕ)) (document : ℕ) → LeavesStacks (create model local is document)
create_leaves_stacks local is document = leaves_stacks (algorithms.create_leaves model algorithms.model_leaves local is document)

pub upgrade_leaves_stacks : (n d : ℕ) → LeavesStacks (upgrade model n d)
upgrade_leaves_stacks n d = leaves_stacks (algorithms.upgrade_leaves model algorithms.model_leaves n d)

pub operate_leaves_stacks : (this : Option ℕ) (op : Op) → LeavesStacks (operate model this op)
operate_leaves_stacks this op = leaves_stacks (algorithms.operate_leaves model algorithms.model_leaves this op)

pub call_leaves_stacks : (call : Call) → LeavesStacks (model call)
call_leaves_stacks call = leaves_stacks (algorithms.model_leaves call)

pub command_leaves_stacks : (line : ℕ) (c : Cmd) → LeavesStacks (command model line c)
command_leaves_stacks line c = leaves_stacks (algorithms.command_leaves model algorithms.model_leaves line c)

pub line_leaves_stacks : (line : ℕ) (l : Result Said Bad) → LeavesStacks (run_line model line l)
line_leaves_stacks line l = leaves_stacks (leaves_line line l)

pub lines_leave_stacks : (line : ℕ) (ls : List (Result Said Bad)) → LeavesStacks (run_lines model line ls)
lines_leave_stacks line ls = leaves_stacks (leaves_lines line ls)

-- a session begins with no construction stack, and leaves each empty, unless the fuel is spent

no_entries : (entries : List (Option ℕ)) → length entries ≡ 0 → entries ≡ []
no_entries [] e = refl
no_entries (entry ∷ entries) e = absurd (omega arith)

stays_empty : {A : Type 0} (o : Outcome State A) → Stays of_session (λ d. 0) o → StacksAreEmpty o
stays_empty (Goes a s) h = λ d. no_entries (entries_of d s) (h d)
stays_empty (Throws f s) h = λ d. no_entries (entries_of d s) (h d)
stays_empty (Spent s) h = h

pub session_leaves_none : (settings : Settings) (lines : List (Result Said Bad)) → StacksAreEmpty (run_lines model 1 lines (start settings))
session_leaves_none settings lines = stays_empty (run_lines model 1 lines (start settings)) ((leaves_lines 1 lines).at (λ d. 0) (start settings) (λ d. refl))
