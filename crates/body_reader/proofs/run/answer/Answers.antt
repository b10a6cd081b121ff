use Rattle.body_reader.proofs.RunLaws.{listed_after, refused_after}
use Rattle.body_reader.proofs.run.answer.Goals as goal

pub returns-in-Ok-clause-meets : goal.returns-in-Ok-clause-meets
returns-in-Ok-clause-meets g c =
    rw c.after.ensures (listed_after c.args.body_type.now c.args.bytes.now c.as_slice.result.now c.write_listing.result _ _ _ _
    (rw c.as_slice.ensures.same c.in-Ok.ensures) c.write_listing.ensures.all c.write_listing.ensures.part c.write_listing.ensures.cause)

pub returns-in-Err-NotABody-clause-meets : goal.returns-in-Err-NotABody-clause-meets
returns-in-Err-NotABody-clause-meets g c =
    rw c.after-in-Err-NotABody.ensures
    (refused_after c.args.body_type.now c.args.bytes.now c.write_refused.result _ _ _ _
    (rw c.in-Err-NotABody.field-0-is at c.in-Err-NotABody.ensures) c.write_refused.ensures.all c.write_refused.ensures.part c.write_refused.ensures.cause)
