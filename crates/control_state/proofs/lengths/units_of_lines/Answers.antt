use Rattle.std.proofs.Common.{[]}
use Rattle.control_state.proofs.lengths.units_of_lines.Goals as goal

pub returns : goal.returns
returns c = c.count.ensures c.args.text.now (c.take.ensures [] c.make-counter.ensures)
