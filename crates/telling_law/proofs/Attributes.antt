-- An attribute that is set or taken away tells each node what is due to it.
use Rattle.std.proofs.Common.{◌≡◌, ℕ, List, [], ◌++◌, Option, Some, None, refl, sym, ap, ◌∙◌, subst, arith, append-nil}
use Rattle.node_trees.specs.Facts.{Facts, with_value, without_value}
use Rattle.node_trees.specs.Trees.{Trees, with_facts}
use Rattle.node_trees.specs.Spots.{attribute_at}
use Rattle.tree_laws.proofs.Changed.{size-with}
use Rattle.reaction_queue.specs.declared.reaction.Reaction.TheVariants.{Attribute}
use Rattle.form_controls.specs.Changes.{form_change}
use Rattle.ce_algorithms.specs.Steps.{Step, Goes, Spent, ◌>>◌, where_is}
use Rattle.ce_algorithms.specs.Page.{Page, Work, is_custom}
use Rattle.ce_algorithms.specs.Forms.{forms_of}
use Rattle.ce_algorithms.specs.Enqueue.{enqueue_callback}
use Rattle.ce_algorithms.specs.FormChanges.{form_changes, tell_others}
use Rattle.ce_algorithms.specs.Attributes.{set_attribute, remove_there, remove_attribute}
use Rattle.telling_law.specs.Told.{told_at, due, TellsExactly, TellsPart}
use Rattle.telling_law.proofs.Differences.{due-nothing, unchanged}
use Rattle.telling_law.proofs.Shares.{shares}
use Rattle.telling_law.proofs.Steps.{tells_same, tells_seq, quiet_where, quiet_callback}
use Rattle.telling_law.proofs.Telling.{tells_others}
use Rattle.telling_law.proofs.Pages.{now, TellAll, exactly, partly, told-all, all-positive}

-- an attribute of n changed in this way, and told with these values
module _ (n : ℕ) (name : List ℕ) (was is : Option (List ℕ)) (change : Facts → Facts) (w : Work) where
  abbrev changed : Trees
  changed = with_facts n change w.page.forest

  abbrev telling : Step Work (Unit {0})
  telling =
      let changes = form_changes w.page (now w.page changed) in
      where_is (λ v. is_custom v.page n) (enqueue_callback n (Attribute name was is)) >> tell_others changes []

  telling-tells : TellAll w.page changed telling
  telling-tells =
      told-all w.page changed telling (size-with n change w.page.forest)
      (λ m low. tells_same (shares (due (now w.page changed)) m (form_changes w.page (now w.page changed)) [] (λ i. omega arith))
      (tells_seq (quiet_where (λ v. is_custom v.page n) (quiet_callback n (Attribute name was is) refl))
      (tells_others low (form_changes w.page (now w.page changed)) (all-positive w.page changed) [])))

  attribute-exactly : (v : Work) → telling (record { page = now w.page changed; fuel = w.fuel }) ≡ Goes tt v → TellsExactly w.page v.page
  attribute-exactly v e = exactly w.page changed telling w.fuel v telling-tells e

  attribute-partly : (v : Work) → telling (record { page = now w.page changed; fuel = w.fuel }) ≡ Spent v → TellsPart w.page v.page
  attribute-partly v e = partly w.page changed telling w.fuel v telling-tells e

abbrev set_to : List ℕ → List ℕ → Facts → Facts
set_to name value x = record x { attributes = with_value name value x.attributes }

abbrev rid_of : List ℕ → Facts → Facts
rid_of name x = record x { attributes = without_value name x.attributes }

module _ (n : ℕ) (name value : List ℕ) (w v : Work) where
  pub setting-exactly : set_attribute n name value w ≡ Goes tt v → TellsExactly w.page v.page
  setting-exactly e = attribute-exactly n name (attribute_at w.page.forest n name) (Some value) (set_to name value) w v e

  pub setting-partly : set_attribute n name value w ≡ Spent v → TellsPart w.page v.page
  setting-partly e = attribute-partly n name (attribute_at w.page.forest n name) (Some value) (set_to name value) w v e

-- where nothing changes, nothing is told
unchanged-exactly : (p : Page) → TellsExactly p p
unchanged-exactly p = record {
  told = λ n is. sym (ap (λ rs. told_at p n ++ rs) (due-nothing p (form_change (forms_of p) (forms_of p) n) (unchanged (forms_of p) n))
      ∙ append-nil (told_at p n));
}

module _ (n : ℕ) (name : List ℕ) (w v : Work) where
  pub taking-exactly : remove_attribute n name w ≡ Goes tt v → TellsExactly w.page v.page
  taking-exactly = go (attribute_at w.page.forest n name)
    where
      go : (value : Option (List ℕ)) → remove_there n name value w ≡ Goes tt v → TellsExactly w.page v.page
      go None e = let same : w ≡ v = cc in subst (λ (u : Work). TellsExactly w.page u.page) same (unchanged-exactly w.page)
      go (Some value) e = attribute-exactly n name (Some value) None (rid_of name) w v e

  pub taking-partly : remove_attribute n name w ≡ Spent v → TellsPart w.page v.page
  taking-partly = go (attribute_at w.page.forest n name)
    where
      go : (value : Option (List ℕ)) → remove_there n name value w ≡ Spent v → TellsPart w.page v.page
      go None e = absurd (cc)
      go (Some value) e = attribute-partly n name (Some value) None (rid_of name) w v e
