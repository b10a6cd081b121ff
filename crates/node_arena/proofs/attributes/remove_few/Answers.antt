use Rattle.std.proofs.Common.{◌≡◌, ap, sym, ◌∙◌, arith}
use Rattle.node_trees.specs.Facts.{value_in}
use Rattle.node_arena.specs.Attributes.{is_once, name_place}
use Rattle.node_arena.proofs.AttributeLemmas.{value_there, value_in-absent, value_in-gone, without_there, without_value-absent, once_without}
use Rattle.node_arena.proofs.attributes.remove_few.Goals as goal

pub returns-then-at-len-clause-left : goal.returns-then-at-len-clause-left
returns-then-at-len-clause-left c =
    let at : c.place_of-at.result ≡ name_place c.args.name.now c.args.items.now.items = rw c.as_slice.ensures.value at c.place_of-at.ensures.place in
    c.remove-value.ensures.items ∙ without_there c.args.name.now c.args.items.now.items c.place_of-at.result at
    (omega (arith, c.if-at-len.true, c.len.ensures, c.args.items.now.ok.0))

pub returns-then-at-len-clause-once : goal.returns-then-at-len-clause-once
returns-then-at-len-clause-once c = ap is_once (returns-then-at-len-clause-left c) ∙ once_without c.args.name.now c.args.items.now.items c.requires

pub returns-then-at-len-clause-was : goal.returns-then-at-len-clause-was
returns-then-at-len-clause-was c =
    let at : c.place_of-at.result ≡ name_place c.args.name.now c.args.items.now.items = rw c.as_slice.ensures.value at c.place_of-at.ensures.place in
    value_there c.args.name.now c.args.items.now.items c.place_of-at.result at c.remove-value.result
    (omega (arith, c.if-at-len.true, c.len.ensures, c.args.items.now.ok.0)) c.remove-value.ensures.value

pub returns-then-at-len-clause-gone : goal.returns-then-at-len-clause-gone
returns-then-at-len-clause-gone c =
    ap (λ xs. value_in xs c.args.name.now) (returns-then-at-len-clause-left c) ∙ value_in-gone c.args.name.now c.args.items.now.items c.requires

pub returns-clause-left : goal.returns-clause-left
returns-clause-left c =
    let at : c.place_of-at.result ≡ name_place c.args.name.now c.args.items.now.items = rw c.as_slice.ensures.value at c.place_of-at.ensures.place in
    without_value-absent c.args.name.now c.args.items.now.items (omega (arith, at, c.if-at-len.false, c.len.ensures, c.args.items.now.ok.0))

pub returns-clause-was : goal.returns-clause-was
returns-clause-was c =
    let at : c.place_of-at.result ≡ name_place c.args.name.now c.args.items.now.items = rw c.as_slice.ensures.value at c.place_of-at.ensures.place in
    sym (value_in-absent c.args.name.now c.args.items.now.items (omega (arith, at, c.if-at-len.false, c.len.ensures, c.args.items.now.ok.0)))

pub returns-clause-gone : goal.returns-clause-gone
returns-clause-gone c =
    let at : c.place_of-at.result ≡ name_place c.args.name.now c.args.items.now.items = rw c.as_slice.ensures.value at c.place_of-at.ensures.place in
    value_in-absent c.args.name.now c.args.items.now.items (omega (arith, at, c.if-at-len.false, c.len.ensures, c.args.items.now.ok.0))
