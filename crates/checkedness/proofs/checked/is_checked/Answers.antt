use Rattle.std.proofs.Common.{◌∙◌, ap, sym}
use Rattle.form_controls.specs.Checkedness.{is_flagged}
use Rattle.checkedness.proofs.Flagged.{unflagged-unchecked}
use Rattle.checkedness.proofs.checked.is_checked.Goals as goal

pub returns-then-not-is_flagged : goal.returns-then-not-is_flagged
returns-then-not-is_flagged c = λ f forest stands.
    sym (unflagged-unchecked f c.args.controls.now c.args.n (ap (λ t. is_flagged c.args.controls.now t c.args.n) forest ∙ sym c.is_flagged.ensures
    ∙ c.if-not-is_flagged.true))
