-- Whom the primitives of a page tell, by the laws of telling.
use Rattle.std.proofs.Common.{◌≡◌, ℕ, false, List, Option, None, Some, Result, Ok, Err, refl, subst, sym}
use Rattle.std.specs.Prelude.{is_some}
use Rattle.node_trees.specs.Insertion.{may_insert}
use Rattle.node_trees.specs.Nodes.{IsNode, IsTidy}
use Rattle.node_trees.specs.Spots.{attribute_at}
use Rattle.ce_algorithms.specs.Attributes.{set_attribute, remove_attribute, remove_there}
use Rattle.ce_algorithms.specs.Mutation.{put_in, remove}
use Rattle.ce_algorithms.specs.Page.{Page, Work}
use Rattle.ce_algorithms.specs.Steps.{Outcome, Goes, Spent}
use Rattle.telling_law.specs.Told.{TellsExactly, TellsPart}
use Rattle.telling_law.proofs.Attributes.{setting-exactly, setting-partly, taking-exactly, taking-partly}
use Rattle.telling_law.proofs.Mutations.{insertion-exactly, insertion-partly, removal-exactly, removal-partly}
use Rattle.node_trees.proofs.Allowed.{not_inside}
use Rattle.ce_page.specs.declared.stop.PageStop.{PageStop}
use Rattle.ce_page.specs.declared.stop.PageStop.TheVariants.{Refused, FuelSpent, NoMemory}
use Rattle.ce_page.specs.Ends.{Does}
use Rattle.ce_page.specs.Telling.{Tells}

-- a call that does a step tells whom the step tells: all that is due where it goes, and a part where the fuel was spent
pub tells_by : (result : Result (Unit {0}) PageStop) (last : Work) (old : Page) (o : Outcome Work (Unit {0}))
    → ((v : Work) → o ≡ Goes tt v → TellsExactly old v.page) → ((v : Work) → o ≡ Spent v → TellsPart old v.page)
    → Does result last o → Tells result old last.page
tells_by (Ok x) last old o all part does = all last (sym does)
tells_by (Err (Refused f)) last old o all part does = tt
tells_by (Err FuelSpent) last old o all part does = part last (sym does)
tells_by (Err NoMemory) last old o all part does = tt

module _ (result : Result (Unit {0}) PageStop) (last w : Work) where
  pub removal_tells : (node : ℕ) → IsTidy w.page.forest → Does result last (remove node w) → Tells result w.page last.page
  removal_tells node tidy = tells_by result last w.page (remove node w) (removal-exactly node w tidy) (removal-partly node w tidy)

  pub insertion_tells : (parent node : ℕ) (before : Option ℕ) → IsTidy w.page.forest → IsNode w.page.forest parent
      → may_insert w.page.forest parent node before ≡ None
      → Does result last (put_in parent node before w) → Tells result w.page last.page
  insertion_tells parent node before tidy is may =
      let off = not_inside w.page.forest parent node before may in
      tells_by result last w.page (put_in parent node before w) (insertion-exactly parent node before w tidy is off)
      (insertion-partly parent node before w tidy is off)

  pub setting_tells : (n : ℕ) (name value : List ℕ) → Does result last (set_attribute n name value w) → Tells result w.page last.page
  setting_tells n name value = tells_by result last w.page (set_attribute n name value w) (setting-exactly n name value w) (setting-partly n name value w)

  pub taking_tells : (n : ℕ) (name : List ℕ) → Does result last (remove_attribute n name w) → Tells result w.page last.page
  taking_tells n name = tells_by result last w.page (remove_attribute n name w) (taking-exactly n name w) (taking-partly n name w)

-- the state to which a step has gone is one
pub tells_from : (result : Result (Unit {0}) PageStop) (mid gone : Work) (new : Page) (o : Outcome Work (Unit {0})) → Goes tt gone ≡ o → Goes tt mid ≡ o
    → Tells result gone.page new → Tells result mid.page new
tells_from result mid gone new o went goes = let same : gone ≡ mid = cc in subst (λ (w : Work). Tells result w.page new) same

-- a step that was stopped has not gone
pub tells_not : (result : Result (Unit {0}) PageStop) (stop : PageStop) (mid last : Work) (new : Page) (o : Outcome Work (Unit {0})) → result ≡ Err stop
    → Does {A = Unit {0}} (Err stop) last o → Goes tt mid ≡ o → Tells result mid.page new
tells_not result stop mid last new o is does goes = subst (λ r. Tells r mid.page new) (sym is) (by_stop stop does)
  where
    by_stop : (s : PageStop) → Does {A = Unit {0}} (Err s) last o → Tells (Err s) mid.page new
    by_stop (Refused f) d = tt
    by_stop FuelSpent d = absurd cc
    by_stop NoMemory d = tt

-- taking an attribute away that is absent tells nobody
pub nothing_taken : (n : ℕ) (name : List ℕ) (w : Work) → is_some (attribute_at w.page.forest n name) ≡ false → TellsExactly w.page w.page
nothing_taken n name w absent = taking-exactly n name w w (by_value (attribute_at w.page.forest n name) absent)
  where
    by_value : (o : Option (List ℕ)) → is_some o ≡ false → remove_there n name o w ≡ Goes tt w
    by_value None none = refl
    by_value (Some value) none = absurd cc
