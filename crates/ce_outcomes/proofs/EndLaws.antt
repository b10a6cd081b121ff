-- What comes of upgrades and creations.
use Rattle.std.proofs.Common.{◌≡◌, ℕ, refl, ap, sym, ◌∙◌, List}
use Rattle.std.specs.Prelude.{Result, Ok, Err}
use Rattle.ce_base.specs.declared.fault.Fault.{Fault}
use Rattle.ce_algorithms.specs.declared.given.Given.TheVariants.{Node, Nothing}
use Rattle.ce_algorithms.specs.Construction.{pop_construction}
use Rattle.ce_algorithms.specs.Create.{fitting}
use Rattle.ce_algorithms.specs.State.{State, on_page}
use Rattle.ce_algorithms.specs.Steps.{Outcome, Goes, Throws, Spent, attempt_in, give, then_do}
use Rattle.ce_algorithms.specs.Upgrade.{upgrade_ends, upgrade_threw}
use Rattle.ce_frames.specs.ConstructTurns.{upgrade_result_turn, upgraded_turn, created_turn}
use Rattle.ce_frames.specs.Frames as waiting
use Rattle.ce_frames.specs.Turned.{ended, go_on, turn_after}
use Rattle.ce_frames.specs.Turns.{turn_threw, turn_went}
use Rattle.ce_outcomes.specs.declared.came.Came.{Came}
use Rattle.ce_outcomes.specs.Turns.{came_in}

-- the construction for an upgrade has ended

-- the stack has lost its entry
result_is : (n d : ℕ) (r : Result (Unit {0}) Fault) (s s0 : State) → Goes tt s0 ≡ on_page (pop_construction d) s
    → upgrade_result_turn n r s0 ≡ upgraded_turn n d r s
result_is n d r s s0 popped = ap (λ (o : Outcome State (Unit {0})). turn_after o (λ _. upgrade_result_turn n r)) popped

down_is : (o : Outcome State (Unit {0})) → ended (then_do o (λ _. give Nothing)) ≡ turn_after o (λ _. go_on)
down_is (Goes x s) = refl
down_is (Throws f s) = refl
down_is (Spent s) = refl

-- it ends
pub ends_is : (n d : ℕ) (r : Result (Unit {0}) Fault) (s s0 s1 : State) (now : Came) → r ≡ Ok tt → Goes tt s0 ≡ on_page (pop_construction d) s
    → came_in now s1 ≡ then_do (upgrade_ends n s0) (λ _. give Nothing) → ended (came_in now s1) ≡ upgraded_turn n d r s
ends_is n d r s s0 s1 now is popped came =
    ap ended came ∙ down_is (upgrade_ends n s0) ∙ ap (λ (x : Result (Unit {0}) Fault). upgrade_result_turn n x s0) (sym is) ∙ result_is n d r s s0 popped

-- it threw
pub threw_is : (n d : ℕ) (r : Result (Unit {0}) Fault) (f : Fault) (s s0 s1 : State) → r ≡ Err f → Goes tt s0 ≡ on_page (pop_construction d) s
    → Throws f s1 ≡ upgrade_threw n f s0 → ended (Throws f s1) ≡ upgraded_turn n d r s
threw_is n d r f s s0 s1 is popped threw =
    ap (λ (o : Outcome State (Unit {0})). ended (then_do o (λ _. give Nothing))) threw
    ∙ ap (λ (x : Result (Unit {0}) Fault). upgrade_result_turn n x s0) (sym is)
    ∙ result_is n d r s s0 popped

-- what was constructed for a creation does not fit
pub misfit_is : (local : List ℕ) (document n : ℕ) (f : Fault) (s : State) → Throws f s ≡ fitting local document n s
    → turn_threw (waiting.CreatingFit local document) f s ≡ turn_went (waiting.CreatingFit local document) (Node n) s
misfit_is local document n f s is = ap (λ (o : Outcome State ℕ). turn_after (attempt_in o) (created_turn local document)) is
