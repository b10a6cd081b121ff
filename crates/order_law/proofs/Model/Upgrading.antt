-- An upgrade as a whole.
use Rattle.std.proofs.Common.{◌≡◌, ℕ, Bool, true, false, List, ◌∷◌, ◌++◌, length, map, Option, Some, None, refl, sym, ap, ◌∙◌, subst, append-nil, inl}
use Rattle.std.specs.Prelude.{◌-◌}
use Rattle.std.proofs.lemmas.List.{length-set}
use Rattle.std.specs.List.{AllByRecursion as Each}
use Rattle.ce_base.specs.declared.custom_state.CustomState.TheVariants.{Failed, Custom}
use Rattle.reaction_queue.specs.declared.reaction.Reaction.TheVariants.{Attribute, Connected, FormAssociated, FormDisabled}
use Rattle.ce_events.specs.declared.event.Event.{Event}
use Rattle.ce_events.specs.declared.event.Event.TheVariants.{UpgradeBegun, UpgradeDone}
use Rattle.ce_algorithms.specs.Steps.{Outcome, Goes, Throws, Spent, then_do, ◌>>◌, when, catch_in, finally, for_each, where_is}
use Rattle.ce_algorithms.specs.Page.{Work, Element, element_of, state_of, with_element, with_state, with_definition, definition_of}
use Rattle.ce_algorithms.specs.Forms.{form_owner, is_disabled, is_form_associated}
use Rattle.ce_algorithms.specs.FormChanges.{tell_form, tell_first_owner}
use Rattle.ce_algorithms.specs.Mutation.{is_connected}
use Rattle.ce_algorithms.specs.Enqueue.{enqueue_callback}
use Rattle.construction.specs.Stacks.{pushed, popped}
use Rattle.ce_algorithms.specs.Construction.{push_construction, pop_construction}
use Rattle.ce_algorithms.specs.State.{State, log, logged, on_page, change_page, event_of, work_of}
use Rattle.ce_algorithms.specs.Calls.{Again}
use Rattle.ce_algorithms.specs.Upgrade.{is_upgradable, enqueue_attribute, begin_upgrade, construct_for, upgrade_threw, upgrade_now, upgrade}
use Rattle.node_trees.specs.Spots.{facts_at}
use Rattle.order_law.proofs.Model.Sound.{IsRow, sound_rows, pushed_entries, popped_entries}
use Rattle.order_law.proofs.Model.Invariant.{Hold, InUpgrade, Known, nodes_of, Holds, HoldsIn, After}
use Rattle.order_law.proofs.Model.Hands.{IsHeld, held_row, held_under, take_hands}
use Rattle.order_law.proofs.Model.Upgrades.{MayUpgrade, up_holds, done_holds, rest_row, threw_then}
use Rattle.order_law.proofs.Model.Steps.{KeepsAt, Any, AfterCalm, back, at_work, at_seq, at_each, at_done, at_where, at_stacks, callback_at, Keeps, keeps_page}
use Rattle.order_law.proofs.Model.Steps.{keeps_finally}

-- what an upgrade enqueues, and the construction stack
fill_at : {h : List Hold} {l : List Event} (n d : ℕ) (attributes : List (List ℕ × List ℕ)) → IsHeld n h →
    KeepsAt Any h l (for_each attributes (enqueue_attribute n) >>
    (where_is (λ (w : Work). is_connected w.page n) (enqueue_callback n Connected) >> push_construction d n))
fill_at {h} {l} n d attributes held =
    at_seq (at_each attributes (λ a. callback_at n (Attribute a.0 None (Some a.1))))
    (at_seq (at_where (λ w. is_connected w.page n) (callback_at n Connected)) (at_stacks (pushed d n)
    (λ w o. pushed_entries (length w.page.elements) d n w.page.stacks (held_row n h (l ++ map event_of w.page.notes) w.page held o.holds) o.sound.stacked)))

owner_at : {h : List Hold} {l : List Event} (n : ℕ) (o : Option ℕ) → KeepsAt Any h l (tell_first_owner n o)
owner_at n None = at_done
owner_at n (Some form) = callback_at n (FormAssociated (Some form))

tell_at : {h : List Hold} {l : List Event} (n : ℕ) → KeepsAt Any h l (tell_form n)
tell_at n = at_where (λ w. is_form_associated (definition_of w.page n))
    (record { at = λ w k. (at_seq (owner_at n (form_owner w.page n)) (at_where (λ w. is_disabled w.page n) (callback_at n (FormDisabled true)))).at w k })

pop_at : {h : List Hold} {l : List Event} (d : ℕ) → KeepsAt Any h l (pop_construction d)
pop_at d = at_stacks (popped d) (λ w o. popped_entries (length w.page.elements) d w.page.stacks o.sound.stacked)

-- it is done, or it threw; in both cases it is over. What the constructor does is a premise
pub upgrade_now_after : (again : Again) (n d : ℕ) (h : List Hold) (s : State) → Known s.page.elements n → MayUpgrade n h →
    is_upgradable (state_of s.page n) ≡ true → Keeps (InUpgrade n ∷ h) (construct_for again n d) → HoldsIn h s → After h (upgrade_now again n d s)
upgrade_now_after again n d h s known may upgradable constructs k = go (on_page (begin_upgrade n d) t) begun
  where
    g : List Hold
    g = InUpgrade n ∷ h

    t : State
    t = logged (UpgradeBegun n) s

    w : Work
    w = record { page = with_state n Failed (with_definition n (Some d) s.page); fuel = s.fuel }

    first : Element
    first = record (element_of s.page n) { definition = Some d }

    rows : length s.page.elements ≡ length w.page.elements
    rows = sym (length-set (with_element n first s.page).elements (n - 1) (record (element_of (with_element n first s.page) n) { state = Failed })
        ∙ length-set s.page.elements (n - 1) first)

    begun : AfterCalm g (on_page (begin_upgrade n d) t)
    begun = back g t (begin_upgrade n d (work_of t))
        ((fill_at n d (facts_at s.page.forest n).attributes (held_under (nodes_of s.variables) n g (inl refl))).at w (record {
          holds = take_hands (nodes_of s.variables) g (t.log ++ map event_of s.page.notes) w.page
              (subst (λ m. Each (IsRow m) (nodes_of s.variables)) rows k.rest.named)
              (subst (λ m. Holds g m w.page) (sym (ap (λ ns. t.log ++ map event_of ns) k.notes ∙ append-nil t.log))
              (up_holds n d h s.log s.page known may upgradable k.holds));
          sound = sound_rows s.page.forest (length s.page.elements) (length w.page.elements) s.page.stacks rows k.rest.sound;
          known = tt;
        }))

    ends : (o : Outcome State (Unit {0})) → AfterCalm g o → After {A = Unit {0}} h (then_do o (λ _. change_page (with_state n Custom) >> log (UpgradeDone n)))
    ends (Goes a u) c = record {
      holds = done_holds n h u.log u.page c.holds;
      notes = c.notes;
      rest = rest_row n (record (element_of u.page n) { state = Custom }) u c.rest;
    }
    ends (Throws f u) c = absurd c
    ends (Spent u) c = c

    rest : (o : Outcome State (Unit {0})) → After g o →
        After {A = Unit {0}} h (then_do (catch_in o (upgrade_threw n))
        (λ _. on_page (tell_form n) >> (change_page (with_state n Custom) >> log (UpgradeDone n))))
    rest (Goes a u) c = ends (on_page (tell_form n) u) (back g u (tell_form n (work_of u)) ((tell_at n).at (work_of u) (at_work g u c)))
    rest (Throws f u) c = threw_then n f h u (λ _. on_page (tell_form n) >> (change_page (with_state n Custom) >> log (UpgradeDone n))) c
    rest (Spent u) c = c

    go : (o : Outcome State (Unit {0})) → AfterCalm g o →
        After {A = Unit {0}} h (then_do o
        (λ _. (λ (u : State). catch_in (finally (construct_for again n d) (on_page (pop_construction d)) u) (upgrade_threw n)) >>
        (on_page (tell_form n) >> (change_page (with_state n Custom) >> log (UpgradeDone n)))))
    go (Goes a u) c = rest (finally (construct_for again n d) (on_page (pop_construction d)) u)
        ((keeps_finally constructs (keeps_page (λ vs l. pop_at d))).at u c)
    go (Throws f u) c = absurd c
    go (Spent u) c = c

pub upgrade_after : (again : Again) (n d : ℕ) (h : List Hold) (s : State) → Known s.page.elements n → MayUpgrade n h →
    Keeps (InUpgrade n ∷ h) (construct_for again n d) → HoldsIn h s → After h (upgrade again n d s)
upgrade_after again n d h s known may constructs k = go (is_upgradable (state_of s.page n)) refl
  where
    go : (t : Bool) → is_upgradable (state_of s.page n) ≡ t → After {A = Unit {0}} h (when t (upgrade_now again n d) s)
    go true e = upgrade_now_after again n d h s known may e constructs k
    go false e = k
