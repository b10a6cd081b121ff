use Rattle.control_state.proofs.Empty.{is_empty-normalized, is_empty-normalized-append}
use Rattle.control_state.proofs.laws.normalized_newlines_leave_something.Goals as goal

pub returns : goal.returns
returns c = record { alone = is_empty-normalized; pieces = is_empty-normalized-append }
