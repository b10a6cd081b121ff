use Rattle.std.proofs.Common.{arith}
use Rattle.form_owner.proofs.Considering.{one}
use Rattle.form_owner.proofs.involved.involve.Goals as goal

pub returns-in_ok-add : goal.returns-in_ok-add
returns-in_ok-add c =
    rw c.in-Some.is (one c.in-Some.form c.args.forms.now c.add.new.self
    (record { low = omega (arith, c.if-form-ge1.true, c.form.view_is); high = omega (arith, c.if-form-count.true, c.count.ensures.count, c.form.view_is) })
    c.in_ok-add.ensures)
