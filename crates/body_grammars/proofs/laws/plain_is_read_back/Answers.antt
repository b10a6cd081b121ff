use Rattle.body_grammars.proofs.WrittenPlain.{plain_back}
use Rattle.body_grammars.proofs.laws.plain_is_read_back.Goals as goal

pub returns : goal.returns
returns c = plain_back
