use Rattle.std.proofs.Common.{ap, ◌∙◌}
use Rattle.std.specs.Prelude.{is_some}
use Rattle.order_law.specs.Reads.{entry_of}
use Rattle.order_checker.proofs.SlotLemmas.{waits_some}
use Rattle.order_checker.proofs.waits.Waits.waits.Goals as goal

pub returns : goal.returns
returns c = c.waits_at.ensures ∙ waits_some c.self.inside.slots.items c.args.number ∙ ap (λ w. is_some (entry_of c.args.number w.entries)) c.self.view_is
