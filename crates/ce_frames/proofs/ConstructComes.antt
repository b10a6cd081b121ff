-- The turns of constructions, upgrades and creations come to what the algorithms come to.
use Rattle.std.proofs.Common.{◌≡◌, ℕ, List, Option, Some, None, refl, ap, sym, ◌∙◌}
use Rattle.ce_base.specs.declared.custom_state.CustomState.TheVariants.{Precustomized}
use Rattle.ce_base.specs.declared.fault.Fault.{Fault}
use Rattle.ce_base.specs.declared.fault.Fault.TheVariants.{TypeError}
use Rattle.rule_tokens.specs.declared.callback.CallName.TheVariants.{Constructor}
use Rattle.rule_lines.specs.Acts.{Act}
use Rattle.ce_registry.specs.declared.definition.Definition.{Definition}
use Rattle.ce_registry.specs.ClassFacts.{has_call}
use Rattle.ce_registry.specs.Registry.{is_autonomous}
use Rattle.ce_events.specs.declared.event.Event.TheVariants.{Construct, UpgradeBegun, UpgradeThrew}
use Rattle.ce_algorithms.specs.declared.given.Given.{Given}
use Rattle.ce_algorithms.specs.declared.given.Given.TheVariants.{Nothing, Node, Answers, Ignored}
use Rattle.ce_algorithms.specs.Steps.{Step, Outcome, Goes, Throws, Spent, then_do, give, catch_in, attempt_in}
use Rattle.ce_algorithms.specs.Page.{with_state, state_of, definition_at, with_definition}
use Rattle.ce_algorithms.specs.Enqueue.{lookup_in}
use Rattle.construction.specs.Stacks.{popped as popped_stacks}
use Rattle.ce_algorithms.specs.Construction.{base_call, with_stacks}
use Rattle.ce_algorithms.specs.State.{State, Class, class_of, logged, on_page, with_work}
use Rattle.ce_algorithms.specs.Values.{Args, no_args}
use Rattle.ce_algorithms.specs.Body.{actions_of, body}
use Rattle.ce_algorithms.specs.Construct.{base_alone, constructor_body, construct}
use Rattle.ce_algorithms.specs.Upgrade.{is_upgradable, begin_upgrade, same_node, construct_class, construct_for, upgrade_now, upgrade, upgrade_threw}
use Rattle.ce_algorithms.specs.Upgrade.{upgrade_ends, drop_reactions}
use Rattle.ce_algorithms.specs.Create.{create_extended, create_found, create, fitting, create_failed}
use Rattle.ce_algorithms.specs.Perform.{gives_node}
use Rattle.ce_algorithms.specs.Model.{model}
use Rattle.ce_frames.specs.Frames.{CreatingFit, CreatingExtended, Upgrading, Constructing}
use Rattle.ce_frames.specs.Handing.{nothing, a_node, a_result}
use Rattle.ce_frames.specs.After.{after, constructed, created, extended, upgraded}
use Rattle.ce_frames.specs.Rest.{rest}
use Rattle.ce_frames.specs.Turned.{turn_after, hand_down, below}
use Rattle.ce_frames.specs.ConstructTurns.{begin_body, constructor_turn, construct_turn, construct_for_turn, upgrade_now_turn, upgrade_turn}
use Rattle.ce_frames.specs.ConstructTurns.{create_extended_turn, create_found_turn, create_turn, fitting_given, created_turn, same_given, upgraded_turn}
use Rattle.ce_frames.proofs.Joins.{then_assoc, dropped_nothing, numbered_node, resulted_result}
use Rattle.ce_frames.proofs.Comes.{comes, Comes, comes_ended, comes_down, comes_below, comes_after, comes_then, comes_if, comes_when}

-- a body begins
pub begin_comes : (class : ℕ) (args : Args) (this : Option ℕ) (actions : List Act)
    → Comes (begin_body class args this actions) (λ s. a_result (body model class args this actions s))
unfolding comes rest after
begin_comes class args this actions = record { at = λ s. refl }

-- constructions

-- the base call alone gives the node that a construction has to give
found_some : (o : Outcome State ℕ) → a_node (constructed (then_do o (λ n. give (Some n)))) ≡ a_node o
found_some (Goes n s) = refl
found_some (Throws f s) = refl
found_some (Spent s) = refl

lines_come : (class : ℕ) (actions : List Act)
    → Comes (below Constructing (begin_body class no_args None actions)) (λ s. a_node (constructed (body model class no_args None actions s)))
unfolding after
lines_come class actions =
    comes_below Constructing (begin_comes class no_args None actions)
    (λ s. ap (λ o. a_node (constructed o)) (resulted_result (body model class no_args None actions s)))

alone_comes : (class : ℕ) → Comes (hand_down (gives_node (on_page (base_call class)))) (λ s. a_node (constructed (base_alone class s)))
alone_comes class = record { at = λ s. comes_ended (a_node (on_page (base_call class) s)) ∙ sym (found_some (on_page (base_call class) s)) }

constructor_comes : (class : ℕ) (k : Class) → Comes (constructor_turn class k) (λ s. a_node (constructed (constructor_body model class k s)))
constructor_comes class k =
    comes_if (has_call Constructor k.facts.calls) (λ o. a_node (constructed o)) (lines_come class (actions_of Constructor k.bodies)) (alone_comes class)

pub construct_comes : (class : ℕ) → Comes (construct_turn class) (λ s. a_node (construct model class s))
unfolding construct_turn
construct_comes class = record { at = λ s. (constructor_comes class (class_of s class)).at (logged (Construct (class_of s class).name) s) }

-- upgrades

construct_for_comes : (n d : ℕ) → Comes (construct_for_turn n d) (λ s. a_node (construct_class model n d s))
construct_for_comes n d =
    comes_then _ _ _ (λ _. record { at = λ s. (construct_comes (definition_at s.page d).class).at (record s { page = with_state n Precustomized s.page }) })

upgrading_comes : (n d : ℕ) → Comes (below (Upgrading n d) (construct_for_turn n d)) (λ s. nothing (upgraded n d (construct_for model n d s)))
unfolding after
upgrading_comes n d = comes_below (Upgrading n d) (construct_for_comes n d)
    (λ s. ap (λ o. nothing (upgraded n d (then_do o (same_node n)))) (numbered_node (construct_class model n d s)))

upgrade_now_comes : (n d : ℕ) → Comes (upgrade_now_turn n d) (λ s. nothing (upgrade_now model n d s))
upgrade_now_comes n d = record { at = λ s. go (on_page (begin_upgrade n d) (logged (UpgradeBegun n) s)) }
  where
    go : (o : Outcome State (Unit {0}))
        → comes (turn_after o (λ _. below (Upgrading n d) (construct_for_turn n d))) ≡ nothing (then_do o (λ _ t. upgraded n d (construct_for model n d t)))
    go o = comes_after o (λ _. upgrading_comes n d) ∙ sym (then_assoc o (λ _ t. upgraded n d (construct_for model n d t)) (λ _. give Nothing))

pub upgrade_comes : (n d : ℕ) → Comes (upgrade_turn n d) (λ s. nothing (upgrade model n d s))
unfolding upgrade_turn
upgrade_comes n d = record { at = λ s. (comes_when (upgrade_now model n d) (is_upgradable (state_of s.page n)) (upgrade_now_comes n d)).at s }

-- creations

extends_comes : (n d : ℕ) → Comes (below (CreatingExtended n) (upgrade_turn n d)) (λ s. a_node (extended n (upgrade model n d s)))
unfolding after
extends_comes n d = comes_below (CreatingExtended n) (upgrade_comes n d) (λ s. ap (λ o. a_node (extended n o)) (dropped_nothing (upgrade model n d s)))

create_extended_comes : (local : List ℕ) (is : Option (List ℕ)) (document d : ℕ)
    → Comes (create_extended_turn local is document d) (λ s. a_node (create_extended model local is document d s))
create_extended_comes local is document d = comes_then _ _ _ (λ n. extends_comes n d)

fits_comes : (local : List ℕ) (document class : ℕ)
    → Comes (below (CreatingFit local document) (construct_turn class)) (λ s. a_node (created local document (construct model class s)))
unfolding after
fits_comes local document class =
    comes_below (CreatingFit local document) (construct_comes class)
    (λ s. ap (λ o. a_node (created local document o)) (numbered_node (construct model class s)))

create_found_comes : (local : List ℕ) (is : Option (List ℕ)) (document : ℕ) (d : Option ℕ)
    → Comes (create_found_turn local is document d) (λ s. a_node (create_found model local is document d s))
create_found_comes local is document None = comes_down _
create_found_comes local is document (Some d) =
    record {
      at = λ s. let x : Definition = definition_at s.page d in
          (comes_if (is_autonomous x) (λ o. a_node o) (fits_comes local document x.class) (create_extended_comes local is document d)).at s;
    }

pub create_comes : (local : List ℕ) (is : Option (List ℕ)) (document : ℕ)
    → Comes (create_turn local is document) (λ s. a_node (create model local is document s))
unfolding create_turn
create_comes local is document = record { at = λ s. (create_found_comes local is document (lookup_in s.page document local is)).at s }

-- a construction has ended

created_comes : (local : List ℕ) (document : ℕ) (o : Outcome State ℕ)
    → comes (turn_after (attempt_in o) (created_turn local document)) ≡ a_node (catch_in o (create_failed local document))
created_comes local document (Goes n s) = comes_ended (Goes (Node n) s)
created_comes local document (Throws x s) = comes_ended (a_node (create_failed local document x s))
created_comes local document (Spent s) = comes_ended (Spent s)

pub fit_went : (local : List ℕ) (document : ℕ) (given : Given) (s : State)
    → comes (turn_after (attempt_in (fitting_given local document given s)) (created_turn local document)) ≡ after (CreatingFit local document) (Goes given s)
unfolding after
fit_went local document Nothing s = created_comes local document (Throws TypeError s)
fit_went local document (Node n) s = created_comes local document (fitting local document n s)
fit_went local document (Answers a) s = created_comes local document (Throws TypeError s)
fit_went local document Ignored s = created_comes local document (Throws TypeError s)

-- nothing comes after the fault that is thrown on
threw_then : (n : ℕ) (x : Fault) (next : Unit {0} → Step State (Unit {0})) (s : State) → then_do (upgrade_threw n x s) next ≡ upgrade_threw n x s
threw_then n x next s = then_assoc (drop_reactions n (record s { page = with_definition n None s.page })) (λ _ t. Throws x (logged (UpgradeThrew n) t)) next

-- the state after the construction stack has lost its entry
abbrev popped : ℕ → State → State
popped d s = with_work (record { page = with_stacks (popped_stacks d) s.page; fuel = s.fuel }) s

pub upgraded_comes : (n d : ℕ) (o : Outcome State (Unit {0})) → comes (turn_after (attempt_in o) (upgraded_turn n d)) ≡ nothing (upgraded n d o)
upgraded_comes n d (Goes x s) = comes_after (upgrade_ends n (popped d s)) (λ _. comes_down (give Nothing))
upgraded_comes n d (Throws x s) =
    let t : State = popped d s in
    comes_ended (nothing (upgrade_threw n x t)) ∙ ap (λ o. nothing o) (sym (threw_then n x (λ _. upgrade_ends n) t))
upgraded_comes n d (Spent s) = comes_ended (Spent s)

pub upgrade_went : (n d : ℕ) (given : Given) (s : State)
    → comes (turn_after (attempt_in (same_given n given s)) (upgraded_turn n d)) ≡ after (Upgrading n d) (Goes given s)
unfolding after
upgrade_went n d Nothing s = upgraded_comes n d (Throws TypeError s)
upgrade_went n d (Node m) s = upgraded_comes n d (same_node n m s)
upgrade_went n d (Answers a) s = upgraded_comes n d (Throws TypeError s)
upgrade_went n d Ignored s = upgraded_comes n d (Throws TypeError s)
