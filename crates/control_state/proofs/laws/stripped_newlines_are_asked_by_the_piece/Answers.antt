use Rattle.control_state.proofs.Empty.{is_empty-without_newlines-append}
use Rattle.control_state.proofs.laws.stripped_newlines_are_asked_by_the_piece.Goals as goal

pub returns : goal.returns
returns c = is_empty-without_newlines-append
