-- Whom a primitive tells, once the page has changed.
use Rattle.std.specs.Prelude.{ℕ, List, [], Result, Ok, Err}
use Rattle.reaction_queue.specs.declared.reaction.Reaction.{Reaction}
use Rattle.form_controls.specs.declared.change.Change.{Change}
use Rattle.ce_algorithms.specs.Enqueue.{enqueue_callback}
use Rattle.ce_algorithms.specs.FormChanges.{tell_others}
use Rattle.ce_algorithms.specs.Page.{Page, Work, is_custom}
use Rattle.ce_algorithms.specs.Steps.{Step, for_each, where_is, ◌>>◌}
use Rattle.ce_page.specs.declared.stop.PageStop.{PageStop}
use Rattle.ce_page.specs.declared.stop.PageStop.TheVariants.{Refused, FuelSpent, NoMemory}
use Rattle.telling_law.specs.Told.{TellsExactly, TellsPart}

-- each node of a walk has its turn, and then the others come; the walk is this order
abbrev pub told : (ℕ → Step Work (Unit {0})) → List Change → List ℕ → List ℕ → Step Work (Unit {0})
told turn changes walk order = for_each walk turn >> tell_others changes order

-- a custom element is told of its attribute, and then all come of whom something is said
abbrev pub handled : ℕ → Reaction → List Change → Step Work (Unit {0})
handled n r changes = where_is (λ w. is_custom w.page n) (enqueue_callback n r) >> tell_others changes []

-- each is told exactly what of the change is due to it; where the fuel was spent, a first part of that
abbrev pub Tells : Result (Unit {0}) PageStop → Page → Page → Type 0
Tells (Ok x) old new = TellsExactly old new
Tells (Err (Refused f)) old new = Unit {0}
Tells (Err FuelSpent) old new = TellsPart old new
Tells (Err NoMemory) old new = Unit {0}
