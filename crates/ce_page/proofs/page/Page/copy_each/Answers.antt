use Rattle.std.proofs.Common.{rules, arith}
use Rattle.std.proofs.lemmas.Grind.{common_steps}
use Rattle.ce_page.proofs.CopyLemmas.{all_turned, changes_next, from_member, turned}
use Rattle.ce_page.proofs.ElementLemmas.{element_kept}
use Rattle.ce_page.proofs.page.Page.copy_each.Goals as goal

pub returns-in_err-copy_attribute-clause-step : goal.returns-in_err-copy_attribute-clause-step
returns-in_err-copy_attribute-clause-step c =
    let here = from_member c.args.attributes.now c.loop-attribute.attribute-index c.attribute-item.result c.loop-attribute-test.true c.attribute-item.is in
    let stopped = c.in_err-copy_attribute.ensures.step in
    let all = rw here at c.loop-attribute.invariant.step in
    grind (arith, common_steps, stopped, all)

pub loop-attribute-preserved : goal.loop-attribute-preserved
loop-attribute-preserved c =
    let here = from_member c.args.attributes.now c.loop-attribute.attribute-index c.attribute-item.result c.loop-attribute-test.true c.attribute-item.is in
    let changes = c.copy_attribute.ensures.changes in
    record {
      step = turned _ _ c.loop-attribute.attribute-index c.attribute-item.result _ _ _ here c.in_ok-copy_attribute.ensures.step c.loop-attribute.invariant.step;
      within = search rules;
      changes = changes_next c.loop-attribute.invariant.changes changes;
      copy = element_kept _ _ changes.kinds c.loop-attribute.invariant.copy;
    }

pub returns-in_err-copy_attribute-clause-changes : goal.returns-in_err-copy_attribute-clause-changes
returns-in_err-copy_attribute-clause-changes c = changes_next c.loop-attribute.invariant.changes c.copy_attribute.ensures.changes

pub returns-clause-step : goal.returns-clause-step
returns-clause-step c = all_turned _ _ _ _ _ c.loop-attribute-test.false c.loop-attribute.invariant.step
