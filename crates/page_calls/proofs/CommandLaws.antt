-- Commands on controls.
use Rattle.std.proofs.Common.{◌≡◌, ℕ, Bool, true, ap, sym}
use Rattle.std.specs.Prelude.{not}
use Rattle.ce_base.specs.declared.fault.Fault.TheVariants.{TypeError}
use Rattle.ce_algorithms.specs.declared.deed.ControlDeed.{ControlDeed}
use Rattle.ce_algorithms.specs.declared.fit.Fit.{Fit}
use Rattle.ce_algorithms.specs.Controls.{control_steps}
use Rattle.ce_algorithms.specs.Fits.{fits}
use Rattle.ce_algorithms.specs.Page.{Page}
use Rattle.ce_algorithms.specs.Steps.{then_do, throw_if}
use Rattle.ce_page.specs.Ends.{work}
use Rattle.page_calls.specs.Commands.{commanded}

-- of a node that is what it has to be, a command is its deed
pub commanded-fits : (kind : Fit) (n : ℕ) (what : ControlDeed) (p : Page) (fuel : ℕ) → fits kind p n ≡ true
    → control_steps what (work p fuel) ≡ commanded kind n what (work p fuel)
commanded-fits kind n what p fuel fit = ap (λ (b : Bool). then_do (throw_if (not b) TypeError (work p fuel)) (λ _. control_steps what)) (sym fit)
