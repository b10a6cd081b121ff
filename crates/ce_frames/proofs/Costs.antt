-- What is left to do where a turn has ended. One lemma for each way to make a turn.
use Rattle.std.proofs.Common.{◌≡◌, ℕ, zero, suc, ◌+◌, ◌≤◌, Bool, true, false, List, [], ◌∷◌, length, refl, ap, ◌∙◌, arith}
use Rattle.std.specs.Prelude.{if◌then◌else◌, sum_by}
use Rattle.std.proofs.lemmas.List.Sums.{sum_by-cons}
use Rattle.reaction_queue.specs.declared.reaction.Reaction.{Reaction}
use Rattle.reaction_queue.specs.Queues.{Open, waiting_at, with_waiting, popped_queue, elements_of, others_of, current_elements}
use Rattle.ce_events.specs.declared.event.Event.TheVariants.{FuelLine}
use Rattle.ce_algorithms.specs.declared.given.Given.{Given}
use Rattle.ce_algorithms.specs.declared.given.Given.TheVariants.{Nothing}
use Rattle.ce_algorithms.specs.Steps.{Step, Outcome, Goes, Throws, Spent}
use Rattle.ce_algorithms.specs.Page.{with_queues}
use Rattle.ce_algorithms.specs.State.{State, logged, spend, spend_from}
use Rattle.ce_algorithms.specs.Drain.{open_queue, with_backup}
use Rattle.ce_algorithms.proofs.Low.{with_waiting_load}
use Rattle.ce_frames.specs.Frames.{Frame}
use Rattle.ce_frames.specs.Work.{weight, elements_in, potential}
use Rattle.ce_frames.specs.Whole.{state_in}
use Rattle.ce_frames.specs.Turned.{Turned, Turn, turn_after, ◌>>=◌, ◌>>◌, hand_down, go_on, with_below, below, when_turn}
use Rattle.ce_frames.specs.Turned as turned
use Rattle.ce_frames.proofs.Falls.{Falls, falls_give, logged_potential}

unfoldable pub cost : Turned → ℕ
cost t = potential t.state + sum_by weight t.pushed

-- a turn leaves at most so much to do, beside what there was
pub record Costs (most : ℕ) (turn : Turn) : Type 0 where
  pub at : (s : State) → cost (turn s) ≤ potential s + most

pub cost_ended : (o : Outcome State Given) → cost (turned.ended o) ≡ potential (state_in o)
unfolding cost
cost_ended (Goes given s) = omega arith
cost_ended (Throws f s) = omega arith
cost_ended (Spent s) = omega arith

pub cost_with_below : (f : Frame) (t : Turned) → cost (with_below f t) ≡ cost t + weight f
unfolding cost
cost_with_below f t = let h = sum_by-cons weight f t.pushed in omega (arith, h)

pub costs_more : {turn : Turn} (less most : ℕ) → less ≤ most → Costs less turn → Costs most turn
costs_more less most le h = record { at = λ s. let a = h.at s in omega (arith, a, le) }

pub costs_down : {step : Step State Given} → Falls step → Costs 0 (hand_down step)
costs_down {step} h = record { at = λ s. let a = cost_ended (step s) in let b = h.at s in omega (arith, a, b) }

pub costs_go_on : Costs 0 go_on
costs_go_on = costs_down (falls_give Nothing)

pub costs_below : {turn : Turn} (most : ℕ) (f : Frame) → Costs most turn → Costs (most + weight f) (below f turn)
costs_below {turn} most f h = record { at = λ s. let a = cost_with_below f (turn s) in let b = h.at s in omega (arith, a, b) }

-- behind an outcome
pub cost_after : {A : Type 0} {k : A → Turn} (most : ℕ) (o : Outcome State A) → ((a : A) → Costs most (k a))
    → cost (turn_after o k) ≤ potential (state_in o) + most
cost_after most (Goes a s) h = (h a).at s
cost_after most (Throws f s) h = let a = cost_ended (Throws f s) in omega (arith, a)
cost_after most (Spent s) h = let a = cost_ended (Spent s) in omega (arith, a)

-- behind a step
pub costs_bind : {A : Type 0} {f : Step State A} {k : A → Turn} (most : ℕ) → Falls f → ((a : A) → Costs most (k a)) → Costs most (f >>= k)
costs_bind {f} most h next = record { at = λ s. let a = cost_after most (f s) next in let b = h.at s in omega (arith, a, b) }

pub costs_seq : {A : Type 0} {f : Step State A} {turn : Turn} (most : ℕ) → Falls f → Costs most turn → Costs most (f >> turn)
costs_seq {f} most h next = record { at = λ s. let a = cost_after most (f s) (λ _. next) in let b = h.at s in omega (arith, a, b) }

pub costs_if : {f g : Turn} (most : ℕ) (test : Bool) → Costs most f → Costs most g → Costs most (if test then f else g)
costs_if most true h k = h
costs_if most false h k = k

pub costs_when : {turn : Turn} (most : ℕ) (test : Bool) → Costs most turn → Costs most (when_turn test turn)
costs_when most true h = h
costs_when most false h = costs_more 0 most (omega arith) costs_go_on

-- what is taken pays for what comes after it

spent_potential : (n : ℕ) (s : State) → s.fuel ≡ suc n → potential (record s { fuel = n }) + 25 ≡ potential s
unfolding potential
spent_potential n s is = omega (arith, is)

-- a unit of fuel
pub costs_spend : {turn : Turn} → Costs 25 turn → Costs 0 (spend >> turn)
costs_spend {turn} h = record { at = λ s. go s s.fuel refl }
  where
    go : (s : State) (n : ℕ) → s.fuel ≡ n → cost (turn_after (spend_from n s) (λ _. turn)) ≤ potential s + 0
    go s zero is = let a = cost_ended (Spent (logged FuelLine s)) in let b = logged_potential FuelLine s in omega (arith, a, b)
    go s (suc n) is = let a = h.at (record s { fuel = n }) in let b = spent_potential n s is in omega (arith, a, b)

-- a reaction
pub taken_potential : (n : ℕ) (w : ℕ × Reaction) (ws : List (ℕ × Reaction)) (s : State) → waiting_at s.page.queues n ≡ w ∷ ws
    → potential (record s { page = with_queues (with_waiting n ws) s.page }) + 8 ≡ potential s
unfolding potential
taken_potential n w ws s is =
    let h = with_waiting_load n ws s.page.queues in
    let k : length (waiting_at s.page.queues n) ≡ length ws + 1 = ap length is ∙ omega arith in
    omega (arith, h, k)

-- an element of the backup element queue
pub backup_potential : (n : ℕ) (ns : List ℕ) (s : State) → s.page.queues.backup ≡ n ∷ ns
    → potential (record s { page = with_queues (with_backup ns) s.page }) + 8 ≡ potential s
unfolding potential
backup_potential n ns s is =
    let k : length s.page.queues.backup ≡ length ns + 1 = ap length is ∙ omega arith in
    omega (arith, k)

-- the elements of a popped queue

popped_places : (os : List Open) → sum_by elements_in (others_of os) + length (elements_of os) ≡ sum_by elements_in os
popped_places [] = omega arith
popped_places (o ∷ os) = let h = sum_by-cons elements_in o os in omega (arith, h)

pub popped_potential : (s : State) → potential (record s { page = with_queues popped_queue s.page }) + length (current_elements s.page.queues) ≡ potential s
unfolding potential
popped_potential s = let h = popped_places s.page.queues.stack in omega (arith, h)

-- a queue that is pushed has none
pub falls_open_queue : Falls open_queue
unfolding potential
falls_open_queue = record {
  at = λ s.
      let fresh : Open = record { number = s.page.queues.pushed + 1; elements = [] } in
      let h = sum_by-cons elements_in fresh s.page.queues.stack in
      omega (arith, h);
}
