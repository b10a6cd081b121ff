-- Commands on controls, and what came of one.
use Rattle.std.specs.Prelude.{◌≡◌, ℕ, not, Result, Ok, Err}
use Rattle.ce_base.specs.declared.fault.Refused.{Refused}
use Rattle.ce_base.specs.declared.fault.Refused.TheVariants.{Fault as IsFault, NoMemory}
use Rattle.ce_base.specs.declared.fault.Fault.TheVariants.{TypeError}
use Rattle.node_trees.specs.Nodes.{IsNode}
use Rattle.node_trees.specs.Trees.{Trees}
use Rattle.ce_algorithms.specs.declared.deed.ControlDeed.{ControlDeed}
use Rattle.ce_algorithms.specs.declared.deed.ControlDeed.TheVariants.{Edit, Tick, Choose, SetMessage}
use Rattle.ce_algorithms.specs.declared.fit.Fit.{Fit}
use Rattle.ce_algorithms.specs.declared.given.Given.{Given}
use Rattle.ce_algorithms.specs.declared.given.Given.TheVariants.{Nothing, Ignored as WasIgnored}
use Rattle.ce_algorithms.specs.Controls.{control_steps}
use Rattle.ce_algorithms.specs.Fits.{fits}
use Rattle.ce_algorithms.specs.Page.{Page, Work}
use Rattle.ce_algorithms.specs.Steps.{Step, Outcome as StepOutcome, Goes, Throws, ◌>>◌, throw_where}
use Rattle.ce_page.specs.Ends.{work}
use Rattle.page_calls.specs.declared.outcome.Outcome.{Outcome}
use Rattle.page_calls.specs.declared.outcome.Outcome.TheVariants.{Done, Ignored}

-- the node that a deed on controls speaks of is there
abbrev pub IsReadyOnControls : Trees → ControlDeed → Type 0
IsReadyOnControls f (Edit n text by_user) = IsNode f n
IsReadyOnControls f (Tick n on by_user) = IsNode f n
IsReadyOnControls f (Choose option on by_user) = IsNode f option
IsReadyOnControls f (SetMessage n message) = IsNode f n

-- what a command gives
abbrev pub given_by : Outcome → Given
given_by Done = Nothing
given_by Ignored = WasIgnored

-- the outcome is that of the deed's steps, whatever fuel there is
abbrev pub Comes : Outcome → Page → Page → ControlDeed → Type 0
Comes outcome old new what = (fuel : ℕ) → Goes (given_by outcome) (work new fuel) ≡ control_steps what (work old fuel)

-- a deed on a node that has to be this; another throws
abbrev pub commanded : Fit → ℕ → ControlDeed → Step Work Given
commanded kind n what = throw_where (λ (w : Work). not (fits kind w.page n)) TypeError >> control_steps what

-- the end is that of the step, unless memory was refused
abbrev pub EndsBy : Result Outcome Refused → Work → StepOutcome Work Given → Type 0
EndsBy (Ok outcome) w o = Goes (given_by outcome) w ≡ o
EndsBy (Err (IsFault f)) w o = Throws f w ≡ o
EndsBy (Err NoMemory) w o = Unit {0}
