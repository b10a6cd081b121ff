use Rattle.std.proofs.Common.{sym}
use Rattle.above_reading.proofs.Steps.{above-top}
use Rattle.above_reading.proofs.above.above_root.Goals as goal

pub returns : goal.returns
returns c = sym (above-top c.args.tree.now c.args.n c.requires.tidy c.requires.node c.requires.root)
