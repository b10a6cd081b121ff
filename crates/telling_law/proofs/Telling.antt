-- What the steps of a change tell a node: at a turn of the walk, and after it.
use Rattle.std.proofs.Common.{◌≡◌, ℕ, ◌-◌, ◌<◌, ◌==◌, Bool, true, false, not, ◌&&◌, if◌then◌else◌, List, [], ◌∷◌, ◌++◌, filter, Option, Some, None, refl, sym}
use Rattle.std.proofs.Common.{ap, ◌∙◌, append-nil}
use Rattle.std.specs.List.{AllByRecursion}
use Rattle.std.proofs.lemmas.List.Elements.{filter-append}
use Rattle.node_trees.specs.Facts.{is_element}
use Rattle.node_trees.specs.Spots.{kind_at}
use Rattle.node_trees.specs.Paths.{is_among}
use Rattle.tree_laws.proofs.Counts.{AreApart}
use Rattle.reaction_queue.specs.declared.reaction.Reaction.{Reaction}
use Rattle.reaction_queue.specs.declared.reaction.Reaction.TheVariants.{Upgrade, Connected, Disconnected, FormAssociated, FormDisabled}
use Rattle.form_controls.specs.declared.change.Change.{Change}
use Rattle.ce_algorithms.specs.Steps.{Step, ◌>>=◌, ◌>>◌, when, for_each}
use Rattle.ce_algorithms.specs.Page.{Page, Work, read_page, definition_of, is_custom}
use Rattle.ce_algorithms.specs.Forms.{is_custom_form_associated}
use Rattle.ce_algorithms.specs.Enqueue.{gives_reaction, enqueue_found, lookup_for}
use Rattle.ce_algorithms.specs.FormChanges.{tell_owner, tell_disabled, tell, tell_form_change, tell_at_turn, tell_others}
use Rattle.ce_algorithms.specs.Mutation.{is_connected, removed, connected_now, inserted}
use Rattle.telling_law.specs.Told.{said_of_owner, said_of_disabled, said, due}
use Rattle.telling_law.proofs.Waiting.{same_place}
use Rattle.telling_law.proofs.Shares.{all-filter, to_node, all_to, at_turn, to_others, shares}
use Rattle.telling_law.proofs.Steps.{Tells, tells_same, tells_done, tells_seq, tells_each, tells_where, tells_callback, custom_stays, quiet_enqueue, quiet_when}
use Rattle.telling_law.proofs.Steps.{quiet_where, quiet_read, quiet_callback}

-- what else a turn does

quiet_found : {q : Page} {j : ℕ} (n : ℕ) (d : Option ℕ) → Tells q j [] (enqueue_found n d)
quiet_found n None = tells_done
quiet_found n (Some d) = quiet_enqueue n (Upgrade d) refl

quiet_connected : {q : Page} {j : ℕ} (n : ℕ) (custom : Bool) → Tells q j [] (connected_now n custom)
quiet_connected n true = quiet_callback n Connected refl
quiet_connected n false = quiet_where (λ w. is_element (kind_at w.page.forest n)) (quiet_read (λ p. lookup_for p n) (enqueue_found n) (quiet_found n))

-- one change

-- a reaction at n is given to j where j is n
given-there : (g : Bool) (n j : ℕ) (r : Reaction) → 0 < n → 0 < j
    → (if g then (if n - 1 == j - 1 then r ∷ [] else []) else []) ≡ (if n == j then (if g then r ∷ [] else []) else [])
given-there g n j r low low_j = ap (λ b. if g then (if b then r ∷ [] else []) else []) (same_place n j low low_j) ∙ swapped g (n == j)
  where
    swapped : (g b : Bool) → (if g then (if b then r ∷ [] else []) else []) ≡ (if b then (if g then r ∷ [] else []) else [])
    swapped true b = refl
    swapped false true = refl
    swapped false false = refl

nothing : (b : Bool) → ◌≡◌ {A = List Reaction} [] (if b then [] else [])
nothing true = refl
nothing false = refl

module _ {q : Page} {j : ℕ} (low_j : 0 < j) where
  tells_owner : (n : ℕ) (owner : Option (Option ℕ)) → 0 < n
      → Tells q j (if n == j then filter (gives_reaction (definition_of q n)) (said_of_owner owner) else []) (tell_owner n owner)
  tells_owner n None low = tells_same (nothing (n == j)) tells_done
  tells_owner n (Some owner) low =
      tells_same (given-there (gives_reaction (definition_of q n) (FormAssociated owner)) n j (FormAssociated owner) low low_j)
      (tells_callback n (FormAssociated owner))

  tells_disabled : (n : ℕ) (disabled : Option Bool) → 0 < n
      → Tells q j (if n == j then filter (gives_reaction (definition_of q n)) (said_of_disabled disabled) else []) (tell_disabled n disabled)
  tells_disabled n None low = tells_same (nothing (n == j)) tells_done
  tells_disabled n (Some disabled) low =
      tells_same (given-there (gives_reaction (definition_of q n) (FormDisabled disabled)) n j (FormDisabled disabled) low low_j)
      (tells_callback n (FormDisabled disabled))

  tells_said : (c : Change) → 0 < c.node → Tells q j (if c.node == j then filter (gives_reaction (definition_of q c.node)) (said c) else []) (tell c)
  tells_said c low = tells_same (by_test (c.node == j)) (tells_seq (tells_owner c.node c.owner low) (tells_disabled c.node c.disabled low))
    where
      kept : List Reaction → List Reaction
      kept rs = filter (gives_reaction (definition_of q c.node)) rs

      by_test : (b : Bool) → (if b then kept (said_of_owner c.owner) else []) ++ (if b then kept (said_of_disabled c.disabled) else [])
          ≡ (if b then kept (said c) else [])
      by_test true = sym (filter-append (gives_reaction (definition_of q c.node)) (said_of_owner c.owner) (said_of_disabled c.disabled))
      by_test false = refl

  tells_change : (c : Change) → 0 < c.node → Tells q j (to_node (due q) j c) (tell_form_change c)
  tells_change c low =
      tells_same (swapped (is_custom_form_associated q c.node) (c.node == j))
      (tells_where (λ w. is_custom_form_associated w.page c.node) (is_custom_form_associated q c.node) (λ w s. custom_stays q w.page c.node s)
      (tells_said c low))
    where
      kept : List Reaction
      kept = filter (gives_reaction (definition_of q c.node)) (said c)

      swapped : (g b : Bool) → (if g then (if b then kept else []) else []) ≡ (if b then (if g then kept else []) else [])
      swapped true b = refl
      swapped false true = refl
      swapped false false = refl

  -- a list of changes

  module _ (changes : List Change) (low : AllByRecursion (λ (c : Change). 0 < c.node) changes) where
    tells_turn : (n : ℕ) → Tells q j (at_turn (due q) j changes n) (tell_at_turn changes n)
    tells_turn n = tells_each (λ (c : Change). 0 < c.node) (to_node (due q) j) tells_change (filter (λ (c : Change). c.node == n) changes)
        (all-filter (λ (c : Change). 0 < c.node) (λ (c : Change). c.node == n) changes low)

    pub tells_others : (walk : List ℕ) → Tells q j (to_others (due q) j changes walk) (tell_others changes walk)
    tells_others walk = tells_each (λ (c : Change). 0 < c.node) (to_node (due q) j) tells_change (filter (λ (c : Change). not (is_among c.node walk)) changes)
        (all-filter (λ (c : Change). 0 < c.node) (λ (c : Change). not (is_among c.node walk)) changes low)

    -- a walk with a turn for each of its nodes, and then the others
    tells_walk : (walk : List ℕ) (turn : ℕ → Step Work (Unit {0})) → AreApart walk → ((n : ℕ) → Tells q j (at_turn (due q) j changes n) (turn n)) →
        Tells q j (all_to (due q) j changes) (for_each walk turn >> tell_others changes walk)
    tells_walk walk turn apart t =
        tells_same (shares (due q) j changes walk apart)
        (tells_seq (tells_each (λ n. Unit {0}) (at_turn (due q) j changes) (λ n _. t n) walk (any walk)) (tells_others walk))
      where
        any : (ns : List ℕ) → AllByRecursion (λ n. Unit {0}) ns
        any [] = tt
        any (n ∷ ns) = (tt, any ns)

    -- a turn with a step that tells of nothing
    tells_then : (n : ℕ) {f : Step Work (Unit {0})} → Tells q j [] f → Tells q j (at_turn (due q) j changes n) (tell_at_turn changes n >> f)
    tells_then n quiet = tells_same (append-nil (at_turn (due q) j changes n)) (tells_seq (tells_turn n) quiet)

    pub tells_removed : (walk : List ℕ) (was_connected : Bool) → AreApart walk
        → Tells q j (all_to (due q) j changes) (for_each walk (removed changes was_connected) >> tell_others changes walk)
    tells_removed walk was_connected apart =
        tells_walk walk (removed changes was_connected) apart
        (λ n. tells_then n (quiet_where (λ w. was_connected && is_custom w.page n) (quiet_callback n Disconnected refl)))

    pub tells_inserted : (walk : List ℕ) → AreApart walk → Tells q j (all_to (due q) j changes) (for_each walk (inserted changes) >> tell_others changes walk)
    tells_inserted walk apart =
        tells_walk walk (inserted changes) apart
        (λ n. tells_then n
        (quiet_read (λ p. is_connected p n) (λ now. read_page (λ p. is_custom p n) >>= (λ custom. when now (connected_now n custom)))
        (λ now. quiet_read (λ p. is_custom p n) (λ custom. when now (connected_now n custom)) (λ custom. quiet_when now (quiet_connected n custom)))))
