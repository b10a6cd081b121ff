-- What holds of each page holds after each change.
use Rattle.std.proofs.Common.{◌≡◌, ℕ, ◌+◌, ◌<◌, Bool, true, false, List, [], ◌∷◌, ◌++◌, length, Option, Some, None, IfSome, sym, ap, ◌∙◌, subst, inl, inr}
use Rattle.std.proofs.Common.{arith, length-append}
use Rattle.std.specs.Prelude.{◌-◌, slice_get, slice_set}
use Rattle.std.proofs.lemmas.Bool.{cases_eq, false≢true}
use Rattle.std.proofs.lemmas.Bool.Decides.{nat_tests}
use Rattle.std.proofs.lemmas.List.{length-set}
use Rattle.node_trees.specs.Facts.{Facts}
use Rattle.node_trees.specs.Trees.{Trees, single, with_document, with_node, with_shadow}
use Rattle.node_trees.specs.Nodes.{size, IsTidy}
use Rattle.node_trees.specs.Kinds.{IsElement, KeepsKinds}
use Rattle.reaction_queue.specs.declared.reaction.Reaction.{Reaction}
use Rattle.ce_registry.specs.declared.definition.Definition.{Definition}
use Rattle.form_owner.specs.OwnerRows.{OwnerRows}
use Rattle.form_owner.specs.Stands.{Stands}
use Rattle.form_owner.proofs.Making.{stands_made, stands_hung, stands_adopted}
use Rattle.form_owner.proofs.Staying.{stands_renamed}
use Rattle.form_owner.specs.Touches.{with_associated}
use Rattle.ce_algorithms.specs.Forms.{associated_in, forms_in, is_associated_in}
use Rattle.ce_algorithms.specs.Page.{Element, or_uncustomized, uncustomized}
use Rattle.ce_page.specs.Rows.{definition_in, redefined}
use Rattle.ce_page.specs.Settled.{AreGiven, IsWhole, is_given}
use Rattle.ce_page.specs.Sound.{IsSound}
use Rattle.ce_page.proofs.AssociatedLemmas.{same_rows, row_behind, definition_behind, redefined_members}
use Rattle.ce_page.proofs.ElementLemmas.{sound_kept}
use Rattle.ce_page.proofs.RowLemmas.{above, if_any, definition_in-here, definition_in-new, definition_in-other, definition_in-set, sound_new, sound_set}

-- the table stands where the trees are these, if it stood where they were those
abbrev pub Lasting : OwnerRows → List Element → List Definition → Trees → Trees → Type 0
Lasting table elements definitions f g = Stands table (forms_in elements definitions f) → Stands table (forms_in elements definitions g)

module _ {elements : List Element} {definitions : List Definition} {waiting : List (List (ℕ × Reaction))} {stacks : List (List (Option ℕ))} {table : OwnerRows}
    {settled : Bool} where
  -- other trees
  pub whole_kept : (f g : Trees) → KeepsKinds f g → Lasting table elements definitions f g
      → IsWhole elements definitions waiting stacks f table settled → IsWhole elements definitions waiting stacks g table settled
  whole_kept f g k lasts h = record { sound = sound_kept f g k h.sound; given = h.given; owners = λ e. lasts (h.owners e) }

  -- other trees, for which the table is not settled yet
  pub whole_begun : (f g : Trees) (new : OwnerRows) (now : Bool) → KeepsKinds f g → now ≡ false
      → IsWhole elements definitions waiting stacks f table settled → IsWhole elements definitions waiting stacks g new now
  whole_begun f g new now k begun h = record {
    sound = sound_kept f g k h.sound;
    given = λ e. absurd (false≢true (sym begun ∙ e));
    owners = λ e. absurd (false≢true (sym begun ∙ e));
  }

  -- a row put behind the others
  pub whole_new : (f g : Trees) → KeepsKinds f g → size g ≡ size f + 1 → Lasting table elements definitions f g
      → IsWhole elements definitions waiting stacks f table settled → IsWhole (elements ++ uncustomized ∷ []) definitions waiting stacks g table settled
  whole_new f g k more lasts h = record {
    sound = sound_new f g k more h.sound;
    given = λ e i d is. h.given e i d (sym (definition_in-new elements i) ∙ is);
    owners = λ e. subst (λ ns. Stands table (record { forest = g; associated = ns })) (sym (row_behind definitions elements)) (lasts (h.owners e));
  }

  -- a row given anew, with the definition that it had
  pub whole_state : (f : Trees) (i : ℕ) (e : Element) → definition_in elements i ≡ e.definition → IfSome e.definition (λ d. IsElement f (i + 1))
      → IsWhole elements definitions waiting stacks f table settled → IsWhole (slice_set elements i e) definitions waiting stacks f table settled
  whole_state f i e same element h = record {
    sound = sound_set i e element h.sound;
    given = λ s j d is. h.given s j d (sym (definition_in-set elements i e same j) ∙ is);
    owners = λ s. subst (λ ns. Stands table (record { forest = f; associated = ns }))
        (sym (same_rows definitions elements (slice_set elements i e) (length-set elements i e) (definition_in-set elements i e same))) (h.owners s);
  }

  -- a definition put behind the others
  pub whole_defined : (f : Trees) (x : Definition)
      → IsWhole elements definitions waiting stacks f table settled → IsWhole elements (definitions ++ x ∷ []) waiting stacks f table settled
  whole_defined f x h = record {
    sound = h.sound;
    given = λ e i d is. let lt = h.given e i d is in let long = length-append definitions (x ∷ []) in omega (arith, lt, long);
    owners = λ e. subst (λ ns. Stands table (record { forest = f; associated = ns })) (sym (definition_behind definitions x elements (h.given e))) (h.owners e);
  }

-- trees in which a node was made, or a node document set, change no form owner

pub lasting_made : (table : OwnerRows) (elements : List Element) (definitions : List Definition) (f g : Trees) (x : Facts) → IsTidy f → x.attributes ≡ []
    → g ≡ with_node (size f + 1) x f → Lasting table elements definitions f g
lasting_made table elements definitions f g x tidy bare is stands =
    subst (λ t. Stands table (forms_in elements definitions t)) (sym is) (stands_made table (forms_in elements definitions f) x tidy bare stands)

pub lasting_hung : (table : OwnerRows) (elements : List Element) (definitions : List Definition) (f g : Trees) (host : ℕ) (x : Facts) → IsTidy f
    → x.attributes ≡ [] → g ≡ with_shadow host (single (size f + 1) x) f
    → Lasting table elements definitions f g
lasting_hung table elements definitions f g host x tidy bare is stands =
    subst (λ t. Stands table (forms_in elements definitions t)) (sym is) (stands_hung table (forms_in elements definitions f) host x tidy bare stands)

pub lasting_adopted : (table : OwnerRows) (elements : List Element) (definitions : List Definition) (f g : Trees) (n document : ℕ) → IsTidy f
    → g ≡ with_document n document f → Lasting table elements definitions f g
lasting_adopted table elements definitions f g n document tidy is stands =
    subst (λ t. Stands table (forms_in elements definitions t)) (sym is) (stands_adopted table (forms_in elements definitions f) n document tidy stands)

-- an element's row given another definition, or none, that is one of the registry's

sound_redefined : (elements : List Element) (waiting : List (List (ℕ × Reaction))) (stacks : List (List (Option ℕ))) (f : Trees) (n : ℕ) (d : Option ℕ)
    → IsElement f n → IsSound elements waiting stacks f → IsSound (redefined elements n d) waiting stacks f
sound_redefined elements waiting stacks f n d element h = sound_set (n - 1) _ (if_any d (above n h.rows element)) h

given_redefined : (elements : List Element) (definitions : List Definition) (n : ℕ) (d : Option ℕ) → is_given (length definitions) d ≡ true
    → AreGiven elements definitions → AreGiven (redefined elements n d) definitions
given_redefined elements definitions n d known given i x is = elim (cases_eq (n - 1) i) [
  | inl same ↦ here d known (definition_in-here elements i x _
      (subst (λ k. definition_in (slice_set elements k (record (or_uncustomized (slice_get elements (n - 1))) { definition = d })) i ≡ Some x) same is))
  | inr other ↦ given i x (sym (definition_in-other elements (n - 1) i _ other) ∙ is)
]
  where
    here : (o : Option ℕ) → is_given (length definitions) o ≡ true → o ≡ Some x → x < length definitions
    here None within e = absurd (differ e)
      where
        differ : None ≡ Some x → ⊥
        differ e = cc
    here (Some y) within e = let same : y ≡ x = cc in grind (arith, nat_tests, same, within)

-- the table is not settled for it yet
pub whole_unsettled : (elements elements' : List Element) (definitions : List Definition) (waiting : List (List (ℕ × Reaction)))
    (stacks : List (List (Option ℕ))) (f : Trees) (old new : OwnerRows) (settled : Bool) (n : ℕ) (d : Option ℕ)
    → IsElement f n → elements' ≡ redefined elements n d → IsWhole elements definitions waiting stacks f old settled
    → IsWhole elements' definitions waiting stacks f new false
whole_unsettled elements elements' definitions waiting stacks f old new settled n d element is h =
    subst (λ es. IsWhole es definitions waiting stacks f new false) (sym is) (record {
      sound = sound_redefined elements waiting stacks f n d element h.sound;
      given = λ e. cc;
      owners = λ e. cc;
    })

-- and it is settled
pub whole_redefined : (elements elements' : List Element) (definitions : List Definition) (waiting : List (List (ℕ × Reaction)))
    (stacks : List (List (Option ℕ))) (f : Trees) (old new : OwnerRows) (settled : Bool) (n : ℕ) (d : Option ℕ) (on : Bool)
    → settled ≡ true → IsElement f n → is_given (length definitions) d ≡ true → elements' ≡ redefined elements n d
    → on ≡ is_associated_in elements' definitions n
    → IsWhole elements definitions waiting stacks f old settled
    → Stands new (record { forest = f; associated = with_associated n on (associated_in elements definitions) })
    → IsWhole elements' definitions waiting stacks f new true
whole_redefined elements elements' definitions waiting stacks f old new settled n d on was element known is on_is h stands =
    let marked : on ≡ is_associated_in (redefined elements n d) definitions n = on_is ∙ ap (λ es. is_associated_in es definitions n) is in
    subst (λ es. IsWhole es definitions waiting stacks f new true) (sym is) (record {
      sound = sound_redefined elements waiting stacks f n d element h.sound;
      given = λ e. given_redefined elements definitions n d known (h.given was);
      owners = λ e.
          stands_renamed new (record { forest = f; associated = with_associated n on (associated_in elements definitions) })
          (associated_in (redefined elements n d) definitions)
          (redefined_members definitions elements n d element.node.low on marked) stands;
    })
