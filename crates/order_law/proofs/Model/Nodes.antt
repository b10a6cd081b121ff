-- New nodes keep the law, and are nodes.
use Rattle.std.proofs.Common.{◌≡◌, ℕ, zero, suc, ◌+◌, ◌-◌, ◌≤◌, Bool, true, false, List, [], ◌∷◌, ◌++◌, length, length-append, map, Option, Some, None, refl}
use Rattle.std.proofs.Common.{sym, ap, ◌∙◌, subst, arith, inl}
use Rattle.std.specs.Prelude.{not, is_some, slice_get}
use Rattle.std.proofs.lemmas.List.{length-set}
use Rattle.std.specs.List.{AllByRecursion as Each}
use Rattle.ce_base.specs.declared.custom_state.CustomState.{CustomState}
use Rattle.ce_base.specs.declared.custom_state.CustomState.TheVariants.{Custom, Undefined}
use Rattle.ce_base.specs.declared.fault.Fault.TheVariants.{TypeError, NotSupportedError}
use Rattle.element_names.specs.Hosts.{shadow_host}
use Rattle.node_trees.specs.declared.kind.NodeKind.TheVariants.{Document, ShadowRoot}
use Rattle.node_trees.specs.Facts.{Facts, blank, new_element, new_text}
use Rattle.node_trees.specs.Trees.{Trees, single, with_node, with_shadow}
use Rattle.node_trees.specs.Nodes.{times}
use Rattle.node_trees.specs.Spots.{facts_at, document_at, shadow_at}
use Rattle.reaction_queue.specs.declared.reaction.Reaction.TheVariants.{Upgrade}
use Rattle.ce_registry.specs.declared.definition.Definition.{Definition}
use Rattle.ce_registry.specs.Registry.{by_class, is_value_of}
use Rattle.construction.specs.Stacks.{stack_of, with_stack}
use Rattle.ce_events.specs.declared.event.Event.{Event}
use Rattle.ce_algorithms.specs.Steps.{Outcome, Goes, Throws, Spent, then_do, ◌>>=◌, ◌>>◌, give, throw_if, throw_where, found}
use Rattle.ce_algorithms.specs.Page.{Page, Work, Element, element_of, or_uncustomized, uncustomized, with_element, with_state, with_definition, definition_at}
use Rattle.ce_algorithms.specs.Page as page
use Rattle.ce_algorithms.specs.State.{event_of}
use Rattle.ce_algorithms.specs.Making.{next_number, with_new, make_node, make_element, make_text, make_document, make_shadow_root}
use Rattle.ce_algorithms.specs.Enqueue.{enqueue_upgrade, lookup_in}
use Rattle.ce_algorithms.specs.CreateLater.{make_in_state, make_later, create_later, first_state}
use Rattle.ce_algorithms.specs.Construction.{base_entry, base_call}
use Rattle.ce_algorithms.specs.Upgrade.{is_upgradable}
use Rattle.ce_algorithms.specs.Perform.{attach_shadow, is_shadow_disabled}
use Rattle.order_law.proofs.Model.Forests.{host_there, more_node, more_shadow}
use Rattle.order_law.proofs.Model.Sound.{IsEntry, Sound, sound_more, sound_rows, stack_entries, set_entries}
use Rattle.order_law.proofs.Model.Invariant.{Hold, InHand, Known}
use Rattle.order_law.proofs.Model.Rows.{row_same, row_twice}
use Rattle.order_law.proofs.Model.Making.{new_same, new_holds, fresh_holds}
use Rattle.order_law.proofs.Model.Steps.{HoldsAt, Any, at_read, stacks_hold, enqueue_at}
use Rattle.order_law.proofs.Model.Giving.{none, one, AfterGivesAt, GivesAt, take_at, let_go_at, give_then_at, give_bind_at, give_at, keeps_at, given_at}

-- a node that was just made

pub record IsNew (h : List Hold) (l : List Event) (n : ℕ) (w : Work) : Type 0 where
  pub holds : HoldsAt Any h l w
  pub known : Known w.page.elements n
  pub blank : element_of w.page n ≡ uncustomized

abbrev AfterNew : List Hold → List Event → Outcome Work ℕ → Type 0
AfterNew h l (Goes n w) = IsNew h l n w
AfterNew h l (Throws f w) = ⊥
AfterNew h l (Spent w) = HoldsAt Any h l w

no_row : (rows : List Element) (i : ℕ) → length rows ≤ i → or_uncustomized (slice_get rows i) ≡ uncustomized
no_row [] i le = refl
no_row (x ∷ rows) zero le = absurd (omega arith)
no_row (x ∷ rows) (suc i) le = no_row rows i (omega (arith, le))

-- a forest with one node more
more_at : (forest : Trees) (h : List Hold) (l : List Event) (w : Work) → Sound forest (length w.page.elements + 1) w.page.stacks → (fuel : ℕ) →
    HoldsAt Any h l w → IsNew h l (next_number w.page) (record w { page = with_new forest w.page; fuel = fuel })
more_at forest h l w sound fuel k = record {
  holds = record {
    holds = new_holds forest h (l ++ map event_of w.page.notes) w.page k.holds;
    sound = sound_rows forest (length w.page.elements + 1) (length (w.page.elements ++ uncustomized ∷ [])) w.page.stacks (sym rows) sound;
    known = tt;
  };
  known = let some = k.sound.some in let s = k.sound.size in record { low = omega (arith, some, s); high = omega (arith, rows, s) };
  blank = new_same forest w.page (next_number w.page) ∙ no_row w.page.elements (next_number w.page - 1) (let s = k.sound.size in omega (arith, s));
}
  where
    rows : length (w.page.elements ++ uncustomized ∷ []) ≡ length w.page.elements + 1
    rows = length-append w.page.elements (uncustomized ∷ [])

new_at : (facts : ℕ → Facts) (h : List Hold) (l : List Event) (w : Work) → HoldsAt Any h l w → AfterNew h l (make_node facts w)
new_at facts h l w k = go w.fuel
  where
    go : (fuel : ℕ) →
        AfterNew h l (then_do (page.spend_from fuel w)
        (λ _. page.read_page next_number >>= (λ n. page.change_page (λ p. with_new (with_node n (facts n) p.forest) p) >> give n)))
    go zero = k
    go (suc fuel) = more_at (with_node (next_number w.page) (facts (next_number w.page)) w.page.forest) h l w
        (sound_more w.page.forest (with_node (next_number w.page) (facts (next_number w.page)) w.page.forest) (length w.page.elements) w.page.stacks
        (facts (next_number w.page)).kind (more_node (next_number w.page) (facts (next_number w.page)) w.page.forest) k.sound)
        fuel k

-- it is a node
new_gives : (h : List Hold) (l : List Event) (o : Outcome Work ℕ) → AfterNew h l o → AfterGivesAt one h l o
new_gives h l (Goes n w) k = let x = k.known in (k.holds, (record { low = omega (arith, x.low); high = x.high }, tt))
new_gives h l (Throws f w) k = absurd k
new_gives h l (Spent w) k = k

node_gives : {h : List Hold} {l : List Event} (facts : ℕ → Facts) → GivesAt one h l (make_node facts)
node_gives {h} {l} facts = record { at = λ w k. new_gives h l (make_node facts w) (new_at facts h l w k) }

-- an element that was just made, in any state
pub record IsMade (h : List Hold) (l : List Event) (n : ℕ) (w : Work) : Type 0 where
  pub holds : HoldsAt Any h l w
  pub known : Known w.page.elements n

abbrev pub AfterMade : List Hold → List Event → Outcome Work ℕ → Type 0
AfterMade h l (Goes n w) = IsMade h l n w
AfterMade h l (Throws f w) = ⊥
AfterMade h l (Spent w) = HoldsAt Any h l w

-- its row is set
set_row : (n : ℕ) (e : Element) (h : List Hold) (l : List Event) (w : Work) → (is_upgradable e.state ≡ true → e.definition ≡ None) → IsNew h l n w →
    IsMade h l n (record w { page = with_element n e w.page })
set_row n e h l w unset k = record {
  holds = record {
    holds = fresh_holds n e h (l ++ map event_of w.page.notes) w.page k.known (ap (λ (r : Element). is_upgradable r.state) k.blank) unset k.holds.holds;
    sound = sound_rows w.page.forest (length w.page.elements) (length (with_element n e w.page).elements) w.page.stacks (sym rows) k.holds.sound;
    known = tt;
  };
  known = let x = k.known in record { low = x.low; high = omega (arith, x.high, rows) };
}
  where
    rows : length (with_element n e w.page).elements ≡ length w.page.elements
    rows = length-set w.page.elements (n - 1) e

state_then : (state : CustomState) (h : List Hold) (l : List Event) (o : Outcome Work ℕ) → AfterNew h l o →
    AfterMade h l (then_do o (λ n. page.change_page (with_state n state) >> give n))
state_then state h l (Goes n w) k = set_row n (record (element_of w.page n) { state = state }) h l w (λ _. ap (λ (r : Element). r.definition) k.blank) k
state_then state h l (Throws f w) k = k
state_then state h l (Spent w) k = k

pub made_at : (local : List ℕ) (is : Option (List ℕ)) (document : ℕ) (state : CustomState) (h : List Hold) (l : List Event) (w : Work) →
    HoldsAt Any h l w → AfterMade h l (make_in_state local is document state w)
made_at local is document state h l w k = state_then state h l (make_element local is document w) (new_at (λ n. new_element local is document) h l w k)

made_gives : (h : List Hold) (l : List Event) (o : Outcome Work ℕ) → AfterMade h l o → AfterGivesAt one h l o
made_gives h l (Goes n w) k = let x = k.known in (k.holds, (record { low = omega (arith, x.low); high = x.high }, tt))
made_gives h l (Throws f w) k = absurd k
made_gives h l (Spent w) k = k

pub state_gives : {h : List Hold} {l : List Event} (local : List ℕ) (is : Option (List ℕ)) (document : ℕ) (state : CustomState) →
    GivesAt one h l (make_in_state local is document state)
state_gives {h} {l} local is document state =
    record { at = λ w k. made_gives h l (make_in_state local is document state w) (made_at local is document state h l w k) }

-- a new element, custom at once
custom_then : (d : ℕ) (h : List Hold) (l : List Event) (o : Outcome Work ℕ) → AfterNew h l o →
    AfterGivesAt one h l (then_do o (λ n. page.change_page (with_definition n (Some d)) >> (page.change_page (with_state n Custom) >> give n)))
custom_then d h l (Goes n w) k =
    let e : Element = record { state = Custom; definition = Some d } in
    let first : Element = record (element_of w.page n) { definition = Some d } in
    let row : with_state n Custom (with_definition n (Some d) w.page) ≡ with_element n e w.page =
    ap (λ (x : Element). with_element n (record x { state = Custom }) (with_definition n (Some d) w.page)) (row_same w.page n first k.known)
    ∙ row_twice w.page n first e in
    let made = set_row n e h l w (λ x. absurd (let y : false ≡ true = x in cc)) k in
    made_gives h l (Goes n (record w { page = with_state n Custom (with_definition n (Some d) w.page) }))
    (subst (λ (p : Page). IsMade h l n (record w { page = p })) (sym row) made)
custom_then d h l (Throws f w) k = absurd k
custom_then d h l (Spent w) k = k

-- the base call

entry_after : (d : ℕ) (x : Definition) (entries : List (Option ℕ)) (h : List Hold) (l : List Event) (w : Work) →
    Each (IsEntry (length w.page.elements)) entries → HoldsAt Any h l w → AfterGivesAt one h l (base_entry d x entries w)
entry_after d x [] h l w all k = custom_then d h l (make_element x.local (is_value_of x) 1 w) (new_at (λ n. new_element x.local (is_value_of x) 1) h l w k)
entry_after d x (None ∷ entries) h l w all k = k
entry_after d x (Some n ∷ entries) h l w all k = (
  stacks_hold Any h l (with_stack d (None ∷ entries)) w
      (set_entries (length w.page.elements) d (None ∷ entries) w.page.stacks (tt, all.1) k.sound.stacked) k,
  (all.0, tt),
)

pub base_gives : {h : List Hold} {l : List Event} (class : ℕ) → GivesAt one h l (base_call class)
base_gives {h} {l} class = record { at = λ w k. go w k (by_class w.page.definitions class) }
  where
    go : (w : Work) → HoldsAt Any h l w → (o : Option ℕ) →
        AfterGivesAt one h l (then_do (found o TypeError w)
        (λ d. page.read_page (λ p. definition_at p d) >>= (λ x. page.read_page (λ p. stack_of d p.stacks) >>= base_entry d x)))
    go w k None = k
    go w k (Some d) = entry_after d (definition_at w.page d) (stack_of d w.page.stacks) h l w
        (stack_entries (length w.page.elements) w.page.stacks d k.sound.stacked) k

-- creating that is not synchronous

later_then : (d : ℕ) (h : List Hold) (l : List Event) (o : Outcome Work ℕ) → AfterMade h l o →
    AfterGivesAt one h l (then_do o (λ n. enqueue_upgrade d n >> give n))
later_then d h l (Goes n w) k =
    let x = k.known in
    let taken : HoldsAt Any (InHand n ∷ h) l w = take_at (n ∷ []) h l w (record { low = omega (arith, x.low); high = x.high }, tt) k.holds in
    let enqueued : AfterGivesAt none (InHand n ∷ h) l (enqueue_upgrade d n w) =
    given_at (InHand n ∷ h) l (enqueue_upgrade d n w) (enqueue_at Any (InHand n ∷ h) l n (Upgrade d) w k.known refl taken) in
    let_go_at one (n ∷ []) h l (then_do (enqueue_upgrade d n w) (λ _. give n))
    (give_then_at none one (InHand n ∷ h) l (enqueue_upgrade d n w) (λ _. give n) enqueued (λ _. give_at n (inl refl, tt)))
later_then d h l (Throws f w) k = absurd k
later_then d h l (Spent w) k = k

later_gives : {h : List Hold} {l : List Event} (local : List ℕ) (is : Option (List ℕ)) (document : ℕ) (d : Option ℕ) →
    GivesAt one h l (make_later local is document d)
later_gives local is document None = state_gives local is document (first_state local is)
later_gives {h} {l} local is document (Some d) =
    record { at = λ w k. later_then d h l (make_in_state local is document Undefined w) (made_at local is document Undefined h l w k) }

pub create_later_gives : {h : List Hold} {l : List Event} (local : List ℕ) (is : Option (List ℕ)) (document : ℕ) →
    GivesAt one h l (create_later local is document)
create_later_gives local is document =
    give_bind_at {nodes = none} (keeps_at (at_read (λ p. lookup_in p document local is))) (λ d. later_gives local is document d)

-- a shadow root, at a host that is there

shadow_after : (host : ℕ) (h : List Hold) (l : List Event) (w : Work) → times host w.page.forest ≡ 1 → HoldsAt Any h l w →
    AfterGivesAt one h l (make_shadow_root host w)
shadow_after host h l w there k = go w.fuel
  where
    root : Facts
    root = blank ShadowRoot (document_at w.page.forest host)

    forest : Trees
    forest = with_shadow host (single (next_number w.page) root) w.page.forest

    go : (fuel : ℕ) →
        AfterGivesAt one h l (then_do (page.spend_from fuel w)
        (λ _. page.read_page next_number
        >>= (λ n. page.change_page (λ p. with_new (with_shadow host (single n (blank ShadowRoot (document_at p.forest host))) p.forest) p) >> give n)))
    go zero = k
    go (suc fuel) = new_gives h l (Goes (next_number w.page) (record w { page = with_new forest w.page; fuel = fuel }))
        (more_at forest h l w (sound_more w.page.forest forest (length w.page.elements) w.page.stacks ShadowRoot
        (more_shadow host (next_number w.page) root w.page.forest there) k.sound) fuel k)

pub attach_gives : {h : List Hold} {l : List Event} (n : ℕ) → GivesAt one h l (attach_shadow n)
attach_gives {h} {l} n = record { at = λ w k. first w k (shadow_host (facts_at w.page.forest n).local) refl }
  where
    third : (w : Work) → HoldsAt Any h l w → times n w.page.forest ≡ 1 → (t : Bool) →
        AfterGivesAt one h l (then_do (throw_if t NotSupportedError w) (λ _. make_shadow_root n))
    third w k there true = k
    third w k there false = shadow_after n h l w there k

    second : (w : Work) → HoldsAt Any h l w → times n w.page.forest ≡ 1 → (t : Bool) →
        AfterGivesAt one h l (then_do (throw_if t NotSupportedError w)
        (λ _. throw_where (λ (w : Work). is_some (shadow_at w.page.forest n)) NotSupportedError >> make_shadow_root n))
    second w k there true = k
    second w k there false = third w k there (is_some (shadow_at w.page.forest n))

    first : (w : Work) → HoldsAt Any h l w → (t : Bool) → shadow_host (facts_at w.page.forest n).local ≡ t
        → AfterGivesAt one h l (then_do (throw_if (not t) NotSupportedError w)
        (λ _. throw_where (λ (w : Work). is_shadow_disabled w.page n) NotSupportedError >>
        (throw_where (λ (w : Work). is_some (shadow_at w.page.forest n)) NotSupportedError >> make_shadow_root n)))
    first w k false is = k
    first w k true is = second w k (let s = k.sound in s.once n (s.only n (host_there w.page.forest n is))) (is_shadow_disabled w.page n)

pub text_gives : {h : List Hold} {l : List Event} (chars : List ℕ) (document : ℕ) → GivesAt one h l (make_text chars document)
text_gives chars document = node_gives (λ n. new_text chars document)

pub document_gives : {h : List Hold} {l : List Event} → GivesAt one h l make_document
document_gives = node_gives (λ n. blank Document n)
