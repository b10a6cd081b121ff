use Rattle.std.proofs.Common.{◌∙◌, arith, sym}
use Rattle.form_owner.proofs.Gained.{enters-apart, enters-form, enters-inside, enters-last, enters-none, enters-some}
use Rattle.form_owner.proofs.moving.enter_all.Goals as goal

pub enter-requires-clause-form : goal.enter-requires-clause-form
enter-requires-clause-form c =
    enters-form c.args.tree.now c.requires.tidy c.args.rows.now c.loop-left.rows c.args.changes.now c.loop-left.left (omega arith) c.unwrap-change.result
    (sym c.get.ensures ∙ c.unwrap-change.ensures) c.requires.told c.loop-left.invariant.entered c.in-Some.form (sym c.unwrap_or.ensures ∙ c.in-Some.is)

pub enter-requires-clause-within : goal.enter-requires-clause-within
enter-requires-clause-within c =
    let node = enters-form c.args.tree.now c.requires.tidy c.args.rows.now c.loop-left.rows c.args.changes.now c.loop-left.left
    (omega arith) c.unwrap-change.result (sym c.get.ensures ∙ c.unwrap-change.ensures) c.requires.told c.loop-left.invariant.entered c.in-Some.form
    (sym c.unwrap_or.ensures ∙ c.in-Some.is) in
    let low = node.low in
    let high = node.high in
    omega (arith, c.requires.rows)

pub enter-requires-clause-inside : goal.enter-requires-clause-inside
enter-requires-clause-inside c =
    enters-inside c.args.tree.now c.requires.tidy c.args.rows.now c.loop-left.rows c.args.changes.now c.loop-left.left (omega arith) c.unwrap-change.result
    (sym c.get.ensures ∙ c.unwrap-change.ensures) c.requires.told c.loop-left.invariant.entered c.in-Some.form (sym c.unwrap_or.ensures ∙ c.in-Some.is)

pub enter-requires-clause-apart : goal.enter-requires-clause-apart
enter-requires-clause-apart c =
    enters-apart c.args.tree.now c.requires.tidy c.args.rows.now c.loop-left.rows c.args.changes.now c.loop-left.left (omega arith) c.unwrap-change.result
    (sym c.get.ensures ∙ c.unwrap-change.ensures) c.requires.told c.loop-left.invariant.entered c.in-Some.form (sym c.unwrap_or.ensures ∙ c.in-Some.is)

pub enter-requires-clause-last : goal.enter-requires-clause-last
enter-requires-clause-last c =
    enters-last c.args.tree.now c.requires.tidy c.args.rows.now c.loop-left.rows c.args.changes.now c.loop-left.left (omega arith) c.unwrap-change.result
    (sym c.get.ensures ∙ c.unwrap-change.ensures) c.requires.told c.loop-left.invariant.entered c.in-Some.form (sym c.unwrap_or.ensures ∙ c.in-Some.is)

pub loop-left-preserved : goal.loop-left-preserved
loop-left-preserved c = record {
  within = omega (arith, c.loop-left.invariant.within);
  entered = enters-some c.args.tree.now c.requires.tidy c.args.rows.now c.loop-left.rows c.args.changes.now c.loop-left.left
      (omega arith) c.unwrap-change.result (sym c.get.ensures ∙ c.unwrap-change.ensures) c.requires.told c.loop-left.invariant.entered c.in-Some.form
      (sym c.unwrap_or.ensures ∙ c.in-Some.is) c.requires.rising c.enter.new.rows c.in_ok-enter-in-Some.ensures;
}

pub loop-left-preserved-in-None : goal.loop-left-preserved-in-None
loop-left-preserved-in-None c = record {
  within = omega (arith, c.loop-left.invariant.within);
  entered = enters-none c.args.tree.now c.requires.tidy c.args.rows.now c.loop-left.rows c.args.changes.now c.loop-left.left
      (omega arith) c.unwrap-change.result (sym c.get.ensures ∙ c.unwrap-change.ensures) c.requires.told c.loop-left.invariant.entered
      (sym c.unwrap_or.ensures ∙ c.in-None.is);
}
