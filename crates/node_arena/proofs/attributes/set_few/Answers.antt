use Rattle.std.proofs.Common.{◌≡◌, Some, ap, sym, ◌∙◌, arith}
use Rattle.node_arena.specs.Attributes.{name_place}
use Rattle.node_arena.proofs.AttributeLemmas.{value_there, value_in-absent, set_there, with_value-absent}
use Rattle.node_arena.proofs.attributes.set_few.Goals as goal

pub returns-then-at-len-clause-ok : goal.returns-then-at-len-clause-ok
returns-then-at-len-clause-ok c =
    let at : c.place_of-at.result ≡ name_place c.args.name c.args.items.now.items =
    rw (c.as_slice.ensures.value, c.as_str.ensures) at c.place_of-at.ensures.place in
    set_there c.args.name c.args.items.now.items c.place_of-at.result at c.args.value c.replace.new.dest c.index_mut.result.now
    (omega (arith, c.if-at-len.true, c.len.ensures, c.args.items.now.ok.0)) c.index_mut.ensures.value c.replace.ensures.after

pub returns-then-at-len-clause-was : goal.returns-then-at-len-clause-was
returns-then-at-len-clause-was c =
    let at : c.place_of-at.result ≡ name_place c.args.name c.args.items.now.items =
    rw (c.as_slice.ensures.value, c.as_str.ensures) at c.place_of-at.ensures.place in
    ap Some c.replace.ensures.value
    ∙ value_there c.args.name c.args.items.now.items c.place_of-at.result at c.index_mut.result.now
    (omega (arith, c.if-at-len.true, c.len.ensures, c.args.items.now.ok.0)) c.index_mut.ensures.value

pub returns-clause-ok : goal.returns-clause-ok
returns-clause-ok c =
    let at : c.place_of-at.result ≡ name_place c.args.name c.args.items.now.items =
    rw (c.as_slice.ensures.value, c.as_str.ensures) at c.place_of-at.ensures.place in
    c.in_ok-push.ensures.items ∙ with_value-absent c.args.name c.args.value c.args.items.now.items
    (omega (arith, at, c.if-at-len.false, c.len.ensures, c.args.items.now.ok.0))

pub returns-clause-was : goal.returns-clause-was
returns-clause-was c =
    let at : c.place_of-at.result ≡ name_place c.args.name c.args.items.now.items =
    rw (c.as_slice.ensures.value, c.as_str.ensures) at c.place_of-at.ensures.place in
    sym (value_in-absent c.args.name c.args.items.now.items (omega (arith, at, c.if-at-len.false, c.len.ensures, c.args.items.now.ok.0)))
