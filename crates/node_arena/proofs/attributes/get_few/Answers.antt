use Rattle.std.proofs.Common.{ℕ, List, Some, ap, sym, ◌∙◌, arith}
use Rattle.node_arena.proofs.AttributeLemmas.{value_there, value_in-absent}
use Rattle.node_arena.proofs.attributes.get_few.Goals as goal

pub returns-then-at-items : goal.returns-then-at-items
returns-then-at-items c =
    ap Some (c.as_str.ensures ∙ sym (ap (λ (a : List ℕ × List ℕ). a.1) c.index-items-at.is))
    ∙ value_there c.args.name.now c.args.items.now c.place_of-at.result c.place_of-at.ensures.place c.index-items-at.result (omega arith) c.index-items-at.is

pub returns : goal.returns
returns c = sym (value_in-absent c.args.name.now c.args.items.now (omega (arith, c.place_of-at.ensures.place)))
