-- What form-associated custom elements are told while a page changes.
use Rattle.std.specs.Prelude.{ℕ, Bool, List, [], ◌∷◌, filter, Option, Some, None}
use Rattle.node_trees.specs.Trees.{Trees}
use Rattle.node_trees.specs.Paths.{is_among}
use Rattle.form_controls.specs.declared.change.Change.{Change}
use Rattle.form_controls.specs.Owners.{Forms}
use Rattle.form_controls.specs.Changes.{form_changes}

module _ (associated : List ℕ) where
  abbrev pub with_forest : Trees → Forms
  with_forest forest = record { forest = forest; associated = associated }

  -- the changes of these elements from one page to the next
  abbrev pub told_between : Trees → Trees → List Change
  told_between old new = filter (λ (c : Change). is_among c.node associated) (form_changes (with_forest old) (with_forest new))

  abbrev pub told_from : Trees → List Trees → List (List Change)
  told_from now [] = []
  told_from now (next ∷ later) = told_between now next ∷ told_from next later

  -- one list for each step from one page to the next
  abbrev pub told_along : List Trees → List (List Change)
  told_along [] = []
  told_along (first ∷ later) = told_from first later

-- a change of one kind alone

abbrev pub owner_is : ℕ → Option ℕ → List Change
owner_is n owner = record { node = n; owner = Some owner; disabled = None } ∷ []

abbrev pub disabled_is : ℕ → Bool → List Change
disabled_is n disabled = record { node = n; owner = None; disabled = Some disabled } ∷ []
