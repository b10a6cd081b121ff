use Rattle.body_grammars.proofs.WrittenUrl.{urlencoded_back}
use Rattle.body_grammars.proofs.laws.urlencoded_is_read_back.Goals as goal

pub returns : goal.returns
returns c = urlencoded_back
