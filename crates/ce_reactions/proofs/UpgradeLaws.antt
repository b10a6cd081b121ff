-- The turns of upgrades.
use Rattle.std.proofs.Common.{◌≡◌, ℕ, true, false, List, [], ◌∷◌, ◌++◌, refl, ap, sym, ◌∙◌}
use Rattle.ce_base.specs.declared.custom_state.CustomState.TheVariants.{Precustomized}
use Rattle.ce_base.specs.declared.fault.Fault.TheVariants.{NotSupportedError}
use Rattle.ce_events.specs.declared.event.Event.TheVariants.{UpgradeBegun}
use Rattle.ce_algorithms.specs.declared.given.Given.TheVariants.{Nothing}
use Rattle.ce_algorithms.specs.Page.{definition_at, state_of, with_state}
use Rattle.ce_algorithms.specs.State.{State, change_page, logged, on_page, read_page}
use Rattle.ce_algorithms.specs.Steps.{Outcome, Goes, Throws, throw_if}
use Rattle.ce_algorithms.specs.Upgrade.{begin_upgrade, is_shadow_refused, is_upgradable}
use Rattle.ce_frames.specs.ConstructTurns.{construct_for_turn, construct_turn, upgrade_now_turn, upgrade_turn}
use Rattle.ce_frames.specs.Frames as waiting
use Rattle.ce_frames.specs.Frames.{Frame}
use Rattle.ce_frames.specs.Turned.{Turn, ◌>>=◌, ◌>>◌, below, ended, go_on, turn_after, when_turn}
use Rattle.ce_outcomes.specs.declared.came.Came.{Came}
use Rattle.ce_outcomes.specs.declared.came.Came.TheVariants.{Went, Threw}
use Rattle.ce_outcomes.specs.Turns.{Turns}
use Rattle.ce_outcomes.proofs.TurnLaws.{turns_as, turns_below, turns_same}

-- by the element's state

now_is : (n d : ℕ) (s : State) → is_upgradable (state_of s.page n) ≡ true → upgrade_now_turn n d s ≡ upgrade_turn n d s
unfolding upgrade_turn
now_is n d s on = ap (λ b. when_turn b (upgrade_now_turn n d) s) (sym on)

idle_is : (n d : ℕ) (s : State) → is_upgradable (state_of s.page n) ≡ false → go_on s ≡ upgrade_turn n d s
unfolding upgrade_turn
idle_is n d s off = ap (λ b. when_turn b (upgrade_now_turn n d) s) (sym off)

-- it is upgraded

pub now_turns : (frames new : List Frame) (now : Came) (n d : ℕ) (s s1 : State) → is_upgradable (state_of s.page n) ≡ true
    → Turns frames new now s1 (upgrade_now_turn n d s) → Turns frames new now s1 (upgrade_turn n d s)
now_turns frames new now n d s s1 on h = turns_as frames new now s1 _ _ (now_is n d s on) h

-- it is left as it is

pub idle_turns : (frames : List Frame) (n d : ℕ) (s : State) → is_upgradable (state_of s.page n) ≡ false
    → Turns frames frames (Went Nothing) s (upgrade_turn n d s)
idle_turns frames n d s off = turns_as frames frames (Went Nothing) s _ _ (idle_is n d s off) (turns_same frames (Went Nothing) s (Goes Nothing s) refl)

-- the steps before the construction

module _ (n d : ℕ) (s s0 : State) (told : s0 ≡ logged (UpgradeBegun n) s) where
  abbrev constructing : Unit {0} → Turn
  constructing x = below (waiting.Upgrading n d) (construct_for_turn n d)

  begins : (o : Outcome State (Unit {0})) → o ≡ on_page (begin_upgrade n d) s0 → o ≡ on_page (begin_upgrade n d) (logged (UpgradeBegun n) s)
  begins o h = h ∙ ap (on_page (begin_upgrade n d)) told

  begun_is : (o : Outcome State (Unit {0})) → o ≡ on_page (begin_upgrade n d) s0 → turn_after o constructing ≡ upgrade_now_turn n d s
  begun_is o h = ap (λ (x : Outcome State (Unit {0})). turn_after x constructing) (begins o h)

  pub begun_turns : (frames frames' new : List Frame) (now : Came) (s1 s2 : State) → Goes tt s1 ≡ on_page (begin_upgrade n d) s0
      → frames' ≡ frames ++ waiting.Upgrading n d ∷ [] → Turns frames' new now s2 (construct_for_turn n d s1) → Turns frames new now s2 (upgrade_now_turn n d s)
  begun_turns frames frames' new now s1 s2 went pushed h =
      turns_as frames new now s2 (constructing tt s1) _ (begun_is (Goes tt s1) went)
      (turns_below frames frames' new (waiting.Upgrading n d) now (construct_for_turn n d) s1 s1 s2 pushed refl h)

-- the construction

abbrev rest_for : ℕ → ℕ → Turn
rest_for n d = change_page (with_state n Precustomized) >> (read_page (λ p. (definition_at p d).class) >>= construct_turn)

for_is : (n d : ℕ) (s : State) → is_shadow_refused s.page n d ≡ false → rest_for n d s ≡ construct_for_turn n d s
for_is n d s off = ap (λ b. turn_after (throw_if b NotSupportedError s) (λ _. rest_for n d)) (sym off)

-- it is refused
pub refused_turns : (frames : List Frame) (n d : ℕ) (s : State) → is_shadow_refused s.page n d ≡ true
    → Turns frames frames (Threw NotSupportedError) s (construct_for_turn n d s)
refused_turns frames n d s on =
    turns_as frames frames (Threw NotSupportedError) s (ended (Throws NotSupportedError s)) _
    (ap (λ b. turn_after (throw_if b NotSupportedError s) (λ _. rest_for n d)) (sym on))
    (turns_same frames (Threw NotSupportedError) s (Throws NotSupportedError s) refl)

module _ (n d class : ℕ) (s s1 : State) (off : is_shadow_refused s.page n d ≡ false) (set : Goes tt s1 ≡ change_page (with_state n Precustomized) s)
    (is : class ≡ (definition_at s1.page d).class) where
  pub constructs_turns : (frames new : List Frame) (now : Came) (s2 : State) → Turns frames new now s2 (construct_turn class s1)
      → Turns frames new now s2 (construct_for_turn n d s)
  constructs_turns frames new now s2 h =
      turns_as frames new now s2 _ _
      (ap (λ c. construct_turn c s1) is
      ∙ ap (λ (o : Outcome State (Unit {0})). turn_after o (λ _. read_page (λ p. (definition_at p d).class) >>= construct_turn)) set
      ∙ for_is n d s off)
      h
