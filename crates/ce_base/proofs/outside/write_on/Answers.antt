use Rattle.std.proofs.Common.{◌<◌, ◌≤◌, ◌-◌, length, arith, ◌∙◌}
use Rattle.std.proofs.lemmas.List.{take_rest, length-drop}
use Rattle.ce_base.proofs.Written.{wrote_more, wrote_no_more}
use Rattle.ce_base.proofs.outside.write_on.Goals as goal

pub loop-count-preserved : goal.loop-count-preserved
loop-count-preserved g c =
    let more : c.in-Took.more ≤ length c.args.bytes.now - c.loop-count.count = rw (take_rest, length-drop) at c.in-Took.ensures.took.0 in
    record {
      count = omega (arith, more);
      written = wrote_more (g.K.Sink.held c.args.sink.now) (g.K.Sink.held c.loop-count.sink)
          (g.K.Sink.held c.write.new.self) c.args.bytes.now c.loop-count.count c.in-Took.more c.loop-count.invariant.written
          (rw take_rest at c.in-Took.ensures.bytes);
      later = omega arith;
      told =
          let none : g.K.Sink.failed c.loop-count.sink < g.K.Sink.failed c.write.new.self → ⊥ =
          λ h. let failed = c.write.ensures.told h in let took = c.in-Took.is in cc in
          let kept = c.loop-count.invariant.told in omega (arith, none, kept);
      home = c.write.ensures.home ∙ c.loop-count.invariant.home;
      below = omega arith;
    }

pub returns-in-Failed-clause-written : goal.returns-in-Failed-clause-written
returns-in-Failed-clause-written g c = wrote_no_more _ (g.K.Sink.held c.loop-count.sink) _ _ c.loop-count.invariant.written c.in-Failed.ensures.bytes

pub returns-in-NoMemory-clause-written : goal.returns-in-NoMemory-clause-written
returns-in-NoMemory-clause-written g c = wrote_no_more _ (g.K.Sink.held c.loop-count.sink) _ _ c.loop-count.invariant.written c.in-NoMemory.ensures.bytes

pub returns-in-NoMemory-clause-told : goal.returns-in-NoMemory-clause-told
returns-in-NoMemory-clause-told g c = λ rose. let failed = c.in-NoMemory.ensures.told (omega arith) in cc

pub returns-clause-told : goal.returns-clause-told
returns-clause-told g c = λ rose. absurd (omega arith)
