use Rattle.control_state.proofs.Empty.{is_empty-collapsed-append}
use Rattle.control_state.proofs.laws.white_space_is_asked_by_the_piece.Goals as goal

pub returns : goal.returns
returns c = is_empty-collapsed-append
