use Rattle.body_grammars.proofs.WrittenMultipart.{multipart_back}
use Rattle.body_grammars.proofs.laws.multipart_is_read_back.Goals as goal

pub returns : goal.returns
returns c = multipart_back
