use Rattle.body_grammars.proofs.MultipartLaws.{multipart_one}
use Rattle.body_grammars.proofs.PlainLaws.{plain_one}
use Rattle.body_grammars.proofs.UrlLaws.{url_one}
use Rattle.body_grammars.proofs.laws.one_list.Goals as goal

pub returns-clause-urlencoded : goal.returns-clause-urlencoded
returns-clause-urlencoded c = url_one

pub returns-clause-plain : goal.returns-clause-plain
returns-clause-plain c = plain_one

pub returns-clause-multipart : goal.returns-clause-multipart
returns-clause-multipart c = multipart_one
