use Rattle.std.proofs.Common.{rules, arith}
use Rattle.std.proofs.lemmas.Grind.{common_steps}
use Rattle.ce_page.proofs.CopyLemmas.{from_member, turned}
use Rattle.session_state.proofs.upgrade.tell_each.Goals as goal

pub returns-in_err-tell_attribute-clause-step : goal.returns-in_err-tell_attribute-clause-step
returns-in_err-tell_attribute-clause-step c =
    let here = from_member c.args.attributes.now c.loop-attribute.attribute-index c.attribute-item.result c.loop-attribute-test.true c.attribute-item.is in
    let all = rw here at c.loop-attribute.invariant.step in
    grind (arith, common_steps, c.in_err-tell_attribute.ensures.step, all)

pub loop-attribute-preserved : goal.loop-attribute-preserved
loop-attribute-preserved c =
    let here = from_member c.args.attributes.now c.loop-attribute.attribute-index c.attribute-item.result c.loop-attribute-test.true c.attribute-item.is in
    record {
      step = turned _ _ c.loop-attribute.attribute-index c.attribute-item.result _ _ _ here c.in_ok-tell_attribute.ensures.step
          c.loop-attribute.invariant.step;
      within = search rules;
      forest = search rules;
    }
