-- The turns of creations.
use Rattle.std.proofs.Common.{◌≡◌, ℕ, true, Bool, List, [], ◌∷◌, ◌++◌, Some, None, Option, ◌≤◌, refl, ap, sym, ◌∙◌, subst, arith}
use Rattle.std.specs.Prelude.{if◌then◌else◌}
use Rattle.ce_base.specs.declared.custom_state.CustomState.TheVariants.{Undefined}
use Rattle.node_trees.specs.Nodes.{IsNode, size}
use Rattle.node_trees.specs.Trees.{Trees}
use Rattle.ce_registry.specs.declared.definition.Definition.{Definition}
use Rattle.ce_registry.specs.Registry.{is_autonomous}
use Rattle.ce_algorithms.specs.CreateLater.{make_in_state, make_undefined}
use Rattle.ce_algorithms.specs.Enqueue.{lookup_in}
use Rattle.ce_algorithms.specs.Page.{definition_at}
use Rattle.ce_algorithms.specs.Perform as algorithms
use Rattle.ce_algorithms.specs.State.{State, on_page}
use Rattle.ce_algorithms.specs.Steps.{Outcome, Goes}
use Rattle.ce_frames.specs.ConstructTurns.{construct_turn, create_extended_turn, create_found_turn, create_turn, upgrade_turn}
use Rattle.ce_frames.specs.Frames as waiting
use Rattle.ce_frames.specs.Frames.{Frame}
use Rattle.ce_frames.specs.Turned.{Turn, Turned, below, turn_after}
use Rattle.ce_frames.specs.Whole.{whole}
use Rattle.ce_frames.proofs.BlindTurns.{blind_node}
use Rattle.ce_outcomes.specs.declared.came.Came.{Came}
use Rattle.ce_reactions.specs.Blind.{BlindAt}
use Rattle.ce_outcomes.specs.Placed.{IsEndThere, Lasts}
use Rattle.ce_outcomes.specs.Turns.{Turns, came_in}
use Rattle.ce_reactions.proofs.ConstructLaws.{down_lasts}
use Rattle.ce_reactions.proofs.SessionLaws.{as_at, blind_at}
use Rattle.ce_reactions.proofs.SettleLaws.{upgrade_settles}
use Rattle.ce_outcomes.proofs.TurnLaws.{turns_as, turns_below, turns_same}

-- by what was looked up

create_is : (local : List ℕ) (is : Option (List ℕ)) (document : ℕ) (d : Option ℕ) (s : State) → d ≡ lookup_in s.page document local is
    → create_found_turn local is document d s ≡ create_turn local is document s
unfolding create_turn
create_is local is document d s found = ap (λ o. create_found_turn local is document o s) found

found_at : (local : List ℕ) (is : Option (List ℕ)) (document : ℕ) (d : Option ℕ) (s : State) → d ≡ lookup_in s.page document local is
    → BlindAt (create_found_turn local is document d) s → BlindAt (create_turn local is document) s
found_at local is document d s found h =
    as_at (create_found_turn local is document d) (create_turn local is document) s (λ bs. create_is local is document d (whole bs s) found)
    (create_is local is document d s found) h

-- there is no definition
pub none_turns : (frames : List Frame) (now : Came) (local : List ℕ) (is : Option (List ℕ)) (document : ℕ) (s s1 : State)
    → None ≡ lookup_in s.page document local is → came_in now s1 ≡ algorithms.gives_node (on_page (make_undefined local is document)) s
    → Turns frames frames now s1 (create_turn local is document s)
none_turns frames now local is document s s1 none made =
    turns_as frames frames now s1 _ _ (create_is local is document None s none) (turns_same frames now s1 _ made)

pub none_lasts : (F : Trees) (now : Came) (local : List ℕ) (is : Option (List ℕ)) (document : ℕ) (s s1 : State) → None ≡ lookup_in s.page document local is
    → came_in now s1 ≡ algorithms.gives_node (on_page (make_undefined local is document)) s → size F ≤ size s1.page.forest → IsEndThere s1.page.forest now
    → Lasts F (create_turn local is document s)
none_lasts F now local is document s s1 none made le there = subst (Lasts F) (create_is local is document None s none) (down_lasts F now s1 _ made le there)

pub none_at : (local : List ℕ) (is : Option (List ℕ)) (document : ℕ) (s : State) → None ≡ lookup_in s.page document local is
    → BlindAt (create_turn local is document) s
none_at local is document s none =
    found_at local is document None s none (blind_at (create_found_turn local is document None) (blind_node (make_undefined local is document)) s)

-- there is one
pub some_turns : (frames new : List Frame) (now : Came) (local : List ℕ) (is : Option (List ℕ)) (document d : ℕ) (s s1 : State)
    → Some d ≡ lookup_in s.page document local is → Turns frames new now s1 (create_found_turn local is document (Some d) s)
    → Turns frames new now s1 (create_turn local is document s)
some_turns frames new now local is document d s s1 some h = turns_as frames new now s1 _ _ (create_is local is document (Some d) s some) h

pub some_lasts : (F : Trees) (local : List ℕ) (is : Option (List ℕ)) (document d : ℕ) (s : State) → Some d ≡ lookup_in s.page document local is
    → Lasts F (create_found_turn local is document (Some d) s) → Lasts F (create_turn local is document s)
some_lasts F local is document d s some h = subst (Lasts F) (create_is local is document (Some d) s some) h

-- by its kind

by_kind : List ℕ → Option (List ℕ) → ℕ → ℕ → Definition → Bool → Turn
by_kind local is document d x autonomous =
    if autonomous then below (waiting.CreatingFit local document) (construct_turn x.class) else create_extended_turn local is document d

-- it is autonomous: its class is constructed, above the creation's frame

fit_is : (local : List ℕ) (is : Option (List ℕ)) (document d class : ℕ) (s : State) → is_autonomous (definition_at s.page d) ≡ true
    → class ≡ (definition_at s.page d).class
    → below (waiting.CreatingFit local document) (construct_turn class) s ≡ create_found_turn local is document (Some d) s
unfolding by_kind
fit_is local is document d class s on same =
    ap (λ c. below (waiting.CreatingFit local document) (construct_turn c) s) same
    ∙ ap (λ b. by_kind local is document d (definition_at s.page d) b s) (sym on)

pub fit_turns : (frames frames' new : List Frame) (now : Came) (local : List ℕ) (is : Option (List ℕ)) (document d class : ℕ) (s s1 : State)
    → is_autonomous (definition_at s.page d) ≡ true → class ≡ (definition_at s.page d).class
    → frames' ≡ frames ++ waiting.CreatingFit local document ∷ [] → Turns frames' new now s1 (construct_turn class s)
    → Turns frames new now s1 (create_found_turn local is document (Some d) s)
fit_turns frames frames' new now local is document d class s s1 on same pushed h =
    turns_as frames new now s1 _ _ (fit_is local is document d class s on same)
    (turns_below frames frames' new (waiting.CreatingFit local document) now (construct_turn class) s s s1 pushed refl h)

pub fit_lasts : (F : Trees) (local : List ℕ) (is : Option (List ℕ)) (document d class : ℕ) (s : State) → is_autonomous (definition_at s.page d) ≡ true
    → class ≡ (definition_at s.page d).class → Lasts F (construct_turn class s) → Lasts F (create_found_turn local is document (Some d) s)
fit_lasts F local is document d class s on same h =
    subst (Lasts F) (fit_is local is document d class s on same) (record { grows = h.grows; gives = h.gives; placed = (h.gives, h.placed) })

-- it extends an element: a new element is made, and upgraded above the creation's frame

module _ (local : List ℕ) (is : Option (List ℕ)) (document d : ℕ) (s : State) where
  abbrev made : Outcome State ℕ
  made = on_page (make_in_state local is document Undefined) s

  abbrev upgrading : ℕ → Turn
  upgrading n = below (waiting.CreatingExtended n) (upgrade_turn n d)

  pub extended_turns : (frames frames' new : List Frame) (now : Came) (n : ℕ) (s1 s2 : State) → Goes n s1 ≡ made
      → frames' ≡ frames ++ waiting.CreatingExtended n ∷ [] → Turns frames' new now s2 (upgrade_turn n d s1)
      → Turns frames new now s2 (create_extended_turn local is document d s)
  extended_turns frames frames' new now n s1 s2 went pushed h =
      turns_as frames new now s2 (upgrading n s1) _ (ap (λ (o : Outcome State ℕ). turn_after o upgrading) went)
      (turns_below frames frames' new (waiting.CreatingExtended n) now (upgrade_turn n d) s1 s1 s2 pushed refl h)

  pub extended_lasts : (F : Trees) (frames new : List Frame) (now : Came) (n : ℕ) (s1 s2 : State) → Goes n s1 ≡ made → IsNode s1.page.forest n
      → size F ≤ size s1.page.forest → size s1.page.forest ≤ size s2.page.forest → Turns frames new now s2 (upgrade_turn n d s1)
      → Lasts F (create_extended_turn local is document d s)
  extended_lasts F frames new now n s1 s2 went there le more h =
      let t : Turned = upgrade_turn n d s1 in
      let same = ap (λ (x : State). size x.page.forest) h.state in
      let node : IsNode t.state.page.forest n = record { low = there.low; high = let x = there.high in omega (arith, x, more, same) } in
      subst (λ (o : Outcome State ℕ). Lasts F (turn_after o upgrading)) went
      (record { grows = omega (arith, le, more, same); gives = node; placed = (tt, upgrade_settles n d s1 t.state.page.forest) })
