use Rattle.std.proofs.Common.{◌≡◌, ◌+◌, ◌-◌, ap, arith, drop, sym, ◌∙◌}
use Rattle.node_trees.specs.Paths.{is_among}
use Rattle.owner_rows.proofs.BothEnds.{from-back, from-front, nowhere}
use Rattle.owner_rows.proofs.control_list.place_in.Goals as goal

pub loop-low-preserved : goal.loop-low-preserved
loop-low-preserved c =
    let more : (c.loop-low.high - 1) + 1 ≡ c.loop-low.high = omega (arith, c.loop-low-test.true) in
    record {
      low = omega (arith, c.loop-low-test.true, c.loop-low.invariant.high);
      high = omega (arith, c.loop-low.invariant.high);
      front = from-front c.args.n c.loop-low.low c.index-list-low.result c.args.list.now
          (omega (arith, c.loop-low-test.true, c.loop-low.invariant.high)) c.index-list-low.is
          (sym c.eq-in-loop-low.ensures ∙ c.if-eq-2.false) c.loop-low.invariant.front;
      back = from-back c.args.n (c.loop-low.high - 1) c.index-list-high.result c.args.list.now
          (omega (arith, c.loop-low-test.true, c.loop-low.invariant.high)) c.index-list-high.is (sym c.eq.ensures ∙ c.if-eq.false)
          (ap (λ k. is_among c.args.n (drop k c.args.list.now)) more ∙ c.loop-low.invariant.back);
    }

pub returns-clause-none : goal.returns-clause-none
returns-clause-none c = λ none.
    nowhere c.args.n c.loop-low.low c.loop-low.high c.args.list.now c.loop-low-test.false c.loop-low.invariant.front c.loop-low.invariant.back
