use Rattle.rule_reader.proofs.Table.{table}
use Rattle.rule_reader.proofs.laws.lines_are_read_by_the_table.Goals as goal

pub returns : goal.returns
returns c = table
