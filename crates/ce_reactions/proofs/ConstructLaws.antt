-- The turns of constructions.
use Rattle.std.proofs.Common.{◌≡◌, ℕ, true, false, Bool, List, [], ◌∷◌, ◌++◌, None, ◌≤◌, refl, ap, sym, ◌∙◌, subst, arith}
use Rattle.std.specs.Prelude.{if◌then◌else◌}
use Rattle.rule_tokens.specs.declared.callback.CallName.TheVariants.{Constructor}
use Rattle.ce_registry.specs.ClassFacts.{has_call}
use Rattle.node_trees.specs.Nodes.{size}
use Rattle.node_trees.specs.Trees.{Trees}
use Rattle.ce_events.specs.declared.event.Event.TheVariants.{Construct}
use Rattle.ce_algorithms.specs.declared.given.Given.{Given}
use Rattle.ce_algorithms.specs.declared.given.Given.TheVariants.{Nothing}
use Rattle.ce_algorithms.specs.Body.{actions_of}
use Rattle.ce_algorithms.specs.Construction.{base_call}
use Rattle.ce_algorithms.specs.Perform as algorithms
use Rattle.ce_algorithms.specs.State.{State, class_of, logged, on_page}
use Rattle.ce_algorithms.specs.Steps.{Outcome}
use Rattle.ce_algorithms.specs.Values.{Args, no_args}
use Rattle.ce_frames.specs.ConstructTurns.{begin_body, construct_turn}
use Rattle.ce_frames.specs.Frames as waiting
use Rattle.ce_frames.specs.Frames.{Frame, InBody}
use Rattle.ce_frames.specs.Places.{Behaviour}
use Rattle.ce_frames.specs.Turned.{Turn, ended, below, hand_down}
use Rattle.ce_frames.proofs.BlindTurns.{construct_blind, construct_classes}
use Rattle.ce_frames.proofs.Wholes.{class_bodies_joined, class_facts_joined, class_name_joined}
use Rattle.frame_stack.specs.Sessions.{ArePaired, session}
use Rattle.frame_stack.specs.Stacked.{Stacked, actions_at, behaviours_of, frames_of}
use Rattle.ce_outcomes.specs.declared.came.Came.{Came}
use Rattle.ce_outcomes.specs.declared.came.Came.TheVariants.{Went, Threw, Over}
use Rattle.ce_reactions.specs.Blind.{BlindAt}
use Rattle.ce_reactions.specs.Constructors.{own_turn}
use Rattle.ce_outcomes.specs.Placed.{IsEndThere, Lasts}
use Rattle.ce_outcomes.specs.Turns.{Turns, came_in}
use Rattle.ce_reactions.proofs.SessionLaws.{lifted, lifted_lasts, lifted_paired, session_is}
use Rattle.ce_outcomes.proofs.TurnLaws.{turns_as, turns_pushed, turns_same}

-- what a step has come to, which waits for nothing

pub came_lasts_in : (F : Trees) (now : Came) (s : State) → size F ≤ size s.page.forest → IsEndThere s.page.forest now → Lasts F (ended (came_in now s))
came_lasts_in F (Went given) s le h = record { grows = le; gives = h; placed = tt }
came_lasts_in F (Threw f) s le h = record { grows = le; gives = tt; placed = tt }
came_lasts_in F Over s le h = record { grows = le; gives = tt; placed = tt }

pub down_lasts : (F : Trees) (now : Came) (s : State) (o : Outcome State Given) → came_in now s ≡ o → size F ≤ size s.page.forest
    → IsEndThere s.page.forest now → Lasts F (ended o)
down_lasts F now s o is le h = subst (λ x. Lasts F (ended x)) is (came_lasts_in F now s le h)

-- a class is constructed

constructor_after : Bool → ℕ → Turn
constructor_after has class s =
    (if has then below waiting.Constructing (begin_body class no_args None (actions_of Constructor (class_of s class).bodies)) else hand_down
    (algorithms.gives_node (on_page (base_call class)))) (logged (Construct (class_of s class).name) s)

-- by a constructor of its own

own_is : (class : ℕ) (s : State) → has_call Constructor (class_of s class).facts.calls ≡ true
    → own_turn class (logged (Construct (class_of s class).name) s) ≡ construct_turn class s
unfolding construct_turn constructor_after
own_is class s on = ap (λ has. constructor_after has class s) (sym on)

-- what a class has is the same behind the line
calls_told : (class : ℕ) (s s1 : State) (has : Bool) → s1 ≡ logged (Construct (class_of s class).name) s
    → has ≡ has_call Constructor (class_of s1 class).facts.calls → has_call Constructor (class_of s class).facts.calls ≡ has
calls_told class s s1 has told h = sym (h ∙ ap (λ (t : State). has_call Constructor (class_of t class).facts.calls) told)

module _ (old : Stacked) (class : ℕ) (s s1 : State) (has : true ≡ has_call Constructor (class_of s1 class).facts.calls)
    (told : s1 ≡ logged (Construct (class_of s class).name) s) where
  on : has_call Constructor (class_of s class).facts.calls ≡ true
  on = calls_told class s s1 true told has

  own_whole : own_turn class (session old s1) ≡ construct_turn class (session old s)
  own_whole =
      ap (λ (t : State). own_turn class (session old t)) told
      ∙ ap (λ name. own_turn class (logged (Construct name) (session old s))) (sym (class_name_joined s (behaviours_of old) class))
      ∙ own_is class (session old s) (ap (λ facts. has_call Constructor facts.calls) (class_facts_joined s (behaviours_of old) class) ∙ on)

  pub own_constructs : (frames new : List Frame) (now : Came) (t : State) → Turns frames new now t (own_turn class (session old s1))
      → Turns frames new now t (construct_turn class (session old s))
  own_constructs frames new now t h = turns_as frames new now t _ _ own_whole h

  pub own_lasts : Lasts s.page.forest (construct_turn class (session old s))
  own_lasts = subst (Lasts s.page.forest) own_whole
      (let same = ap (λ (t : State). size t.page.forest) told in record { grows = omega (arith, same); gives = tt; placed = (tt, (tt, tt)) })

-- its body begins, above the construction's frame
module _ (old mid new : Stacked) (class : ℕ) (s : State) (paired : ArePaired old s) (put : frames_of mid ≡ frames_of old ++ waiting.Constructing ∷ [])
    (kept : behaviours_of mid ≡ behaviours_of old) (same : behaviours_of new ≡ behaviours_of mid) where
  actions_are : actions_of Constructor (class_of (session old s) class).bodies ≡ actions_at Constructor class (behaviours_of old)
  actions_are = ap (actions_of Constructor) (class_bodies_joined s (behaviours_of old) class paired)

  pub own_turns : (args : Args) → args ≡ no_args
      → frames_of new ≡ frames_of mid ++ InBody class args None false (actions_at Constructor class (behaviours_of mid)) ∷ []
      → Turns (frames_of old) (frames_of new) (Went Nothing) (session new s) (own_turn class (session old s))
  own_turns args is begun =
      turns_pushed (frames_of old) (frames_of mid) (frames_of new) waiting.Constructing (Went Nothing) (session new s)
      (begin_body class no_args None (actions_of Constructor (class_of (session old s) class).bodies) (session old s)) put
      (record {
        frames = begun
            ∙ ap (λ (a : Args). frames_of mid ++ InBody class a None false (actions_at Constructor class (behaviours_of mid)) ∷ []) is
            ∙ ap (λ (bs : List Behaviour). frames_of mid ++ InBody class no_args None false (actions_at Constructor class bs) ∷ []) kept
            ∙ ap (λ l. frames_of mid ++ InBody class no_args None false l ∷ []) (sym actions_are);
        end = refl;
        state = session_is old new s s (same ∙ kept) refl;
      })

-- by the base call alone

base_is : (class : ℕ) (s : State) → has_call Constructor (class_of s class).facts.calls ≡ false
    → ended (algorithms.gives_node (on_page (base_call class)) (logged (Construct (class_of s class).name) s)) ≡ construct_turn class s
unfolding construct_turn constructor_after
base_is class s off = ap (λ has. constructor_after has class s) (sym off)

base_at : (class : ℕ) (s : State) → has_call Constructor (class_of s class).facts.calls ≡ false → BlindAt (construct_turn class) s
base_at class s off = record { same = λ bs. construct_blind class bs s off; classes = construct_classes class s off }

module _ (old : Stacked) (class : ℕ) (s s1 s2 : State) (now : Came) (has : false ≡ has_call Constructor (class_of s1 class).facts.calls)
    (told : s1 ≡ logged (Construct (class_of s class).name) s) (came : came_in now s2 ≡ algorithms.gives_node (on_page (base_call class)) s1) where
  off : has_call Constructor (class_of s class).facts.calls ≡ false
  off = calls_told class s s1 false told has

  base_comes : came_in now s2 ≡ algorithms.gives_node (on_page (base_call class)) (logged (Construct (class_of s class).name) s)
  base_comes = came ∙ ap (algorithms.gives_node (on_page (base_call class))) told

  base_plain : Turns (frames_of old) (frames_of old) now s2 (construct_turn class s)
  base_plain = turns_as (frames_of old) (frames_of old) now s2 _ _ (base_is class s off) (turns_same (frames_of old) now s2 _ base_comes)

  pub base_turns : Turns (frames_of old) (frames_of old) now (session old s2) (construct_turn class (session old s))
  base_turns = lifted (construct_turn class) old old (frames_of old) (frames_of old) now s s2 (base_at class s off) base_plain refl

  pub base_paired : ArePaired old s → ArePaired old s2
  base_paired paired = lifted_paired (construct_turn class) old old (frames_of old) (frames_of old) now s s2 (base_at class s off) base_plain refl paired

  pub base_lasts : size s1.page.forest ≤ size s2.page.forest → IsEndThere s2.page.forest now → Lasts s.page.forest (construct_turn class (session old s))
  base_lasts le there =
      lifted_lasts (construct_turn class) old s.page.forest s (base_at class s off)
      (subst (Lasts s.page.forest) (base_is class s off)
      (let same = ap (λ (t : State). size t.page.forest) told in down_lasts s.page.forest now s2 _ base_comes (omega (arith, same, le)) there))
