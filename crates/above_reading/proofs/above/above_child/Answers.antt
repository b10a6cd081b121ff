use Rattle.std.proofs.Common.{◌∙◌, sym, arith}
use Rattle.above_reading.proofs.Steps.{above-up}
use Rattle.above_reading.proofs.above.above_child.Goals as goal

pub returns : goal.returns
returns c =
    let up = above-up c.args.tree.now c.args.n c.args.parent c.requires.tidy c.requires.node c.requires.parent_node c.requires.parent c.args.above.now
    c.requires.above in
    sym (up ∙ grind (arith, c.form_from.ensures, c.inside_under.ensures, c.below_under.ensures))
