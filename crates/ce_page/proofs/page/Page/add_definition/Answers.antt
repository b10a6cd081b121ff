use Rattle.std.proofs.lemmas.Bool.{false≢true}
use Rattle.ce_page.proofs.WholeLemmas.{whole_defined}
use Rattle.ce_page.proofs.page.Page.add_definition.Goals as goal

-- memory was refused, and the table is not settled any more
pub invariant_of-self : goal.invariant_of-self
invariant_of-self c = record { sound = c.self.invariant.sound; given = λ e. absurd (false≢true e); owners = λ e. absurd (false≢true e) }

pub invariant_of-self-in-Err-Fault : goal.invariant_of-self-in-Err-Fault
invariant_of-self-in-Err-Fault c =
    let refused = rw c.in-Err-Fault.field-0-is at c.in-Err-Fault.ensures in
    rw refused.1 c.self.invariant

pub invariant_of-self-in-Ok : goal.invariant_of-self-in-Ok
invariant_of-self-in-Ok c = rw c.in-Ok.ensures.last (whole_defined c.self.inside.tree _ c.self.invariant)
