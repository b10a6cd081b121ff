use Rattle.std.proofs.Common.{◌<◌, arith}
use Rattle.std.proofs.lemmas.Bool.Decides.{nat_tests}
use Rattle.node_trees.specs.Nodes.{size}
use Rattle.node_arena.proofs.Calls.{not_made}
use Rattle.node_arena.proofs.tree.Tree.is_made.Goals as goal

pub returns-then-n-ge1-clause-not : goal.returns-then-n-ge1-clause-not
returns-then-n-ge1-clause-not c = λ test.
    let beyond : size c.args.self.now < c.n.inside.0 = grind (arith, nat_tests, test, c.count-count.ensures.count) in
    rw (← c.n.view_is) (not_made c.args.self.now c.n.inside.0 c.count-count.ensures.tidy (λ at. omega (arith, beyond, at.high)))

pub returns-else-n-ge1-clause-not : goal.returns-else-n-ge1-clause-not
returns-else-n-ge1-clause-not c =
    λ test. rw (← c.n.view_is) (not_made c.args.self.now c.n.inside.0 c.count-count.ensures.tidy (λ at. omega (arith, c.if-n-ge1.false, at.low)))
