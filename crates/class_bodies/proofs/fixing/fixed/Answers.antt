use Rattle.class_bodies.proofs.FixedLaws.{fixed_whole}
use Rattle.class_bodies.proofs.fixing.fixed.Goals as goal

pub returns-in_default : goal.returns-in_default
returns-in_default c =
    let other = c.in_default in
    rw (fixed_whole c.args.memory.now c.args.args.now c.args.op.now other.not-SetAttr other.not-FormValue other.not-Validity other.not-Custom other.not-Value)
    c.copy.ensures
