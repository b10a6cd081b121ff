use Rattle.std.proofs.Common.{ap, sym, ◌∙◌, arith}
use Rattle.std.proofs.lemmas.Bool.Decides.{nat_tests}
use Rattle.form_controls.specs.Owners.{where_form}
use Rattle.above_reading.specs.declared.above.Above.{Above}
use Rattle.above_reading.proofs.Named.{named-here, named-nowhere}
use Rattle.above_reading.proofs.readings.Readings.named.Goals as goal

pub returns-then-ne-clause-is : goal.returns-then-ne-clause-is
returns-then-ne-clause-is c =
    ap (where_form c.args.tree.now)
    (named-nowhere c.args.tree.now c.args.root c.in-Some.holder c.args.id.now c.requires.tidy c.in-Some.ensures c.requires.top
    (λ is. let it = ap (λ (a : Above). a.root) c.in_ok-above.ensures.is ∙ is in absurd (grind (arith, nat_tests, it, c.ne.ensures, c.if-ne.true))))

pub returns-clause-is : goal.returns-clause-is
returns-clause-is c =
    c.where_form.ensures
    ∙ ap (where_form c.args.tree.now)
    (named-here c.args.tree.now c.args.root c.in-Some.holder c.args.id.now c.requires.tidy c.in-Some.ensures c.requires.top
    (sym (ap (λ (a : Above). a.root) c.in_ok-above.ensures.is) ∙ grind (arith, nat_tests, c.ne.ensures, c.if-ne.false)))
