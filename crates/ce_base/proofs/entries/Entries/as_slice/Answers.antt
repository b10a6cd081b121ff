-- What is borrowed is what the list holds.
use Rattle.std.proofs.Common.{subst}
use Rattle.std.specs.List.{All}
use Rattle.ce_base.specs.Texts.{HasTexts}
use Rattle.ce_base.proofs.entries.Entries.as_slice.Goals as goal

pub returns-clause-texts : goal.returns-clause-texts
returns-clause-texts c = subst (All HasTexts) c.self.view_is c.self.invariant
