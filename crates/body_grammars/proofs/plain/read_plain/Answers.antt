use Rattle.body_grammars.proofs.PlainLaws.{plain_reads}
use Rattle.body_grammars.proofs.plain.read_plain.Goals as goal

pub returns : goal.returns
returns c = plain_reads c.read_lines.result c.args.bytes.now c.read_lines.ensures
