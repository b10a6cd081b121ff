-- What is kept of form owners and disabled states stands for the page.
use Rattle.std.specs.Prelude.{◌≡◌, ◌<◌, ℕ, Bool, true, nat_lt, List, Option, Some, None, length}
use Rattle.node_trees.specs.Trees.{Trees}
use Rattle.reaction_queue.specs.declared.reaction.Reaction.{Reaction}
use Rattle.ce_registry.specs.declared.definition.Definition.{Definition}
use Rattle.form_owner.specs.OwnerRows.{OwnerRows}
use Rattle.form_owner.specs.Stands.{Stands}
use Rattle.ce_algorithms.specs.Forms.{forms_in, forms_of}
use Rattle.ce_algorithms.specs.Page.{Element, Page}
use Rattle.ce_page.specs.Rows.{definition_in}
use Rattle.ce_page.specs.Sound.{IsSound}

-- what is kept of form owners and disabled states is known to stand for the trees and the definitions
abbrev pub IsSettled : Page → Type 0
IsSettled p = p.settled ≡ true

-- the page is settled after the call where it was before, and else it is not
abbrev pub KeepsSettled : Page → Page → Type 0
KeepsSettled old new = new.settled ≡ old.settled

-- the form owners, the disabled states and the controls of a settled page equal what its trees and its definitions say
abbrev pub OwnersStand : OwnerRows → Page → Type 0
OwnersStand table p = IsSettled p → Stands table (forms_of p)

-- each row's definition is one of the registry's
abbrev pub AreGiven : List Element → List Definition → Type 0
AreGiven elements definitions = (i d : ℕ) → definition_in elements i ≡ Some d → d < length definitions

-- the registry, which gave so many numbers, gave this one, or there is none
abbrev pub is_given : ℕ → Option ℕ → Bool
is_given count None = true
is_given count (Some d) = nat_lt d count

-- what holds of each page: it is sound, and where it is settled, its definitions are there and its form owners stand
pub record IsWhole (elements : List Element) (definitions : List Definition) (waiting : List (List (ℕ × Reaction))) (stacks : List (List (Option ℕ)))
    (forest : Trees) (table : OwnerRows) (settled : Bool) : Type 0 where
  pub sound : IsSound elements waiting stacks forest
  pub given : settled ≡ true → AreGiven elements definitions
  pub owners : settled ≡ true → Stands table (forms_in elements definitions forest)
