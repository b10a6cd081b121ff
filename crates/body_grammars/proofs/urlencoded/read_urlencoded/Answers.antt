use Rattle.body_grammars.proofs.UrlLaws.{url_reads}
use Rattle.body_grammars.proofs.urlencoded.read_urlencoded.Goals as goal

pub returns : goal.returns
returns c = url_reads c.urlencoded_entries.result c.args.bytes.now c.urlencoded_entries.ensures
