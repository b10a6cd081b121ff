use Rattle.std.proofs.Common.{sym, subst, Some}
use Rattle.node_arena.specs.Marks.{Allows}
use Rattle.node_arena.specs.Seen.{seen_fact, seen_is}
use Rattle.node_arena.proofs.MarkLemmas.{hold_one, hold_same}
use Rattle.node_arena.proofs.tree.Tree.note.Goals as goal

pub returns : goal.returns
returns c = seen_is _ _ _ (seen_fact _ _ _ c.self.view_is)

pub invariant_of-self : goal.invariant_of-self
invariant_of-self c = (
  c.self.invariant.0,
  hold_same _ c.args.self.now _ (returns c)
      (hold_one c.args.self.now c.args.n c.of-mark.result _ _ c.set_mark.ensures.here c.set_mark.ensures.others
      (subst (Allows (Some c.of-mark.result)) c.is_connected.ensures c.of-mark.ensures) (hold_same _ _ _ (sym c.self.view_is) c.self.invariant.1)),
)
