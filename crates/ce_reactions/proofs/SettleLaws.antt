-- The frames that constructions and upgrades push are placed in any trees, since in their bodies nothing is `this`.
use Rattle.std.proofs.Common.{ℕ, Bool, true, false, None}
use Rattle.std.specs.Prelude.{Result, Ok, Err, if◌then◌else◌}
use Rattle.ce_base.specs.declared.custom_state.CustomState.TheVariants.{Precustomized}
use Rattle.ce_base.specs.declared.fault.Fault.{Fault}
use Rattle.ce_base.specs.declared.fault.Fault.TheVariants.{NotSupportedError}
use Rattle.node_trees.specs.Trees.{Trees}
use Rattle.rule_tokens.specs.declared.callback.CallName.TheVariants.{Constructor}
use Rattle.ce_registry.specs.ClassFacts.{has_call}
use Rattle.ce_events.specs.declared.event.Event.TheVariants.{Construct, UpgradeBegun}
use Rattle.ce_algorithms.specs.declared.given.Given.{Given}
use Rattle.ce_algorithms.specs.Body.{actions_of}
use Rattle.ce_algorithms.specs.Construction.{base_call, pop_construction}
use Rattle.ce_algorithms.specs.Page.{definition_at, state_of, with_state}
use Rattle.ce_algorithms.specs.Perform.{gives_node, gives_nothing}
use Rattle.ce_algorithms.specs.State.{State, change_page, class_of, logged, on_page, read_page}
use Rattle.ce_algorithms.specs.Steps.{Outcome, Goes, Throws, Spent, attempt_in, throw_if}
use Rattle.ce_algorithms.specs.Upgrade.{begin_upgrade, is_shadow_refused, is_upgradable, upgrade_ends, upgrade_threw}
use Rattle.ce_algorithms.specs.Values.{no_args}
use Rattle.ce_frames.specs.ConstructTurns.{begin_body, construct_for_turn, construct_turn, same_given, upgrade_now_turn, upgrade_result_turn, upgrade_turn}
use Rattle.ce_frames.specs.ConstructTurns.{upgraded_turn}
use Rattle.ce_frames.specs.Frames.{Constructing, Upgrading}
use Rattle.ce_frames.specs.Turned.{Turn, Turned, ◌>>=◌, ◌>>◌, below, ended, go_on, hand_down, turn_after, when_turn}
use Rattle.ce_frames.specs.Turns.{turn_threw, turn_went}
use Rattle.ce_outcomes.specs.Placed.{ArePlaced}

abbrev pub Settled : Turned → Type 0
Settled t = (F : Trees) → ArePlaced F t.pushed t.end

settled_ended : (o : Outcome State Given) → Settled (ended o)
settled_ended (Goes given s) F = tt
settled_ended (Throws f s) F = tt
settled_ended (Spent s) F = tt

settled_after : {A : Type 0} (o : Outcome State A) (k : A → Turn) → ((a : A) (s : State) → Settled (k a s)) → Settled (turn_after o k)
settled_after (Goes a s) k h = h a s
settled_after (Throws f s) k h = λ F. tt
settled_after (Spent s) k h = λ F. tt

settled_if : (b : Bool) (t u : Turn) (s : State) → Settled (t s) → Settled (u s) → Settled ((if b then t else u) s)
settled_if true t u s h k = h
settled_if false t u s h k = k

-- constructions

construct_settles : (class : ℕ) (s : State) → Settled (construct_turn class s)
unfolding construct_turn
construct_settles class s =
    settled_if (has_call Constructor (class_of s class).facts.calls)
    (below Constructing (begin_body class no_args None (actions_of Constructor (class_of s class).bodies)))
    (hand_down (gives_node (on_page (base_call class)))) (logged (Construct (class_of s class).name) s)
    (λ F. (tt, (tt, tt))) (settled_ended (gives_node (on_page (base_call class)) (logged (Construct (class_of s class).name) s)))

-- upgrades

for_settles : (n d : ℕ) (s : State) → Settled (construct_for_turn n d s)
for_settles n d s =
    settled_after (throw_if (is_shadow_refused s.page n d) NotSupportedError s)
    (λ _. change_page (with_state n Precustomized) >> (read_page (λ p. (definition_at p d).class) >>= construct_turn))
    (λ _ t. construct_settles (definition_at (with_state n Precustomized t.page) d).class (record t { page = with_state n Precustomized t.page }))

pub upgrade_settles : (n d : ℕ) (s : State) → Settled (upgrade_turn n d s)
unfolding upgrade_turn
upgrade_settles n d s = go (is_upgradable (state_of s.page n))
  where
    go : (b : Bool) → Settled (when_turn b (upgrade_now_turn n d) s)
    go true = settled_after (on_page (begin_upgrade n d) (logged (UpgradeBegun n) s)) (λ _. below (Upgrading n d) (construct_for_turn n d))
        (λ _ t F. (tt, for_settles n d t F))
    go false = λ F. tt

-- their ends

result_settles : (n : ℕ) (r : Result (Unit {0}) Fault) (s : State) → Settled (upgrade_result_turn n r s)
result_settles n (Ok x) s = settled_after (upgrade_ends n s) (λ _. go_on) (λ _ t F. tt)
result_settles n (Err f) s = settled_ended (gives_nothing (upgrade_threw n f) s)

upgraded_settles : (n d : ℕ) (r : Result (Unit {0}) Fault) (s : State) → Settled (upgraded_turn n d r s)
upgraded_settles n d r s = settled_after (on_page (pop_construction d) s) (λ _. upgrade_result_turn n r) (λ _ t. result_settles n r t)

pub went_settles : (n d : ℕ) (given : Given) (s : State) → Settled (turn_went (Upgrading n d) given s)
went_settles n d given s = settled_after (attempt_in (same_given n given s)) (upgraded_turn n d) (λ r t. upgraded_settles n d r t)

pub threw_settles : (n d : ℕ) (f : Fault) (s : State) → Settled (turn_threw (Upgrading n d) f s)
threw_settles n d f s = upgraded_settles n d (Err f) s
