-- No primitive raises the clock.
use Rattle.std.proofs.Common.{◌≡◌, ℕ, zero, suc, ◌+◌, ◌≤◌, List, [], ◌∷◌, ◌++◌, length, Option, refl, arith, length-append}
use Rattle.std.specs.Prelude.{◌-◌, sum_by}
use Rattle.std.proofs.lemmas.List.Sums.{sum_by-cons}
use Rattle.ce_base.specs.declared.custom_state.CustomState.{CustomState}
use Rattle.reaction_queue.specs.declared.reaction.Reaction.{Reaction}
use Rattle.reaction_queue.specs.Queues.{Queues, Open, list_at, ahead, with_list, waiting_at, with_waiting, counted, appended_to, enqueued, pushed_queue}
use Rattle.reaction_queue.specs.Queues.{popped_queue}
use Rattle.ce_algorithms.specs.Steps.{Step}
use Rattle.ce_algorithms.specs.Page.{Page, Work, with_queues, with_state, with_definition}
use Rattle.ce_algorithms.specs.Enqueue.{noted}
use Rattle.ce_algorithms.specs.Model.{waits, load, clock_of}
use Rattle.ce_algorithms.proofs.PageSteps.{Keeps, Closed, on}

-- what waits

-- a list before others
ahead_waits : (xs : List (ℕ × Reaction)) (lists : List (List (ℕ × Reaction))) → sum_by waits (ahead xs lists) ≡ length xs + sum_by waits lists
ahead_waits [] [] = omega arith
ahead_waits [] (l ∷ ls) = let h = sum_by-cons waits [] (l ∷ ls) in omega (arith, h)
ahead_waits (x ∷ xs) ls = sum_by-cons waits (x ∷ xs) ls

-- the list at a place given anew
with_list_waits : (i : ℕ) (xs : List (ℕ × Reaction)) (lists : List (List (ℕ × Reaction)))
    → sum_by waits (with_list i xs lists) + length (list_at i lists) ≡ sum_by waits lists + length xs
with_list_waits zero xs [] = let h = ahead_waits xs [] in omega (arith, h)
with_list_waits zero xs (l ∷ ls) = let h = ahead_waits xs ls in let k = sum_by-cons waits l ls in omega (arith, h, k)
with_list_waits (suc i) xs [] = let h = ahead_waits [] (with_list i xs []) in let k = with_list_waits i xs [] in omega (arith, h, k)
with_list_waits (suc i) xs (l ∷ ls) =
    let h = ahead_waits l (with_list i xs ls) in
    let k = with_list_waits i xs ls in
    let m = sum_by-cons waits l ls in
    omega (arith, h, k, m)

-- a node's reaction queue given anew
pub with_waiting_load : (n : ℕ) (reactions : List (ℕ × Reaction)) (q : Queues)
    → load (with_waiting n reactions q) + length (waiting_at q n) ≡ load q + length reactions
with_waiting_load n reactions q = let h = with_list_waits (n - 1) reactions q.waiting in omega (arith, h)

-- an element appended to the current queue, or to the backup queue
appended_to_load : (os : List Open) (n : ℕ) (q : Queues) → load (appended_to os n q) ≤ load q + 1
appended_to_load [] n q = let h = length-append q.backup (n ∷ []) in omega (arith, h)
appended_to_load (o ∷ os) n q = omega arith

-- a reaction enqueued
enqueued_load : (n : ℕ) (r : Reaction) (q : Queues) → load (enqueued n r q) ≤ load q + 2
enqueued_load n r q =
    let counts = counted q in
    let more : List (ℕ × Reaction) = waiting_at counts n ++ (counts.reactions, r) ∷ [] in
    let h : load (with_waiting n more counts) + length (waiting_at counts n) ≡ load counts + length more = with_waiting_load n more counts in
    let k : length more ≡ length (waiting_at counts n) + 1 = length-append (waiting_at counts n) ((counts.reactions, r) ∷ []) in
    let m : load (enqueued n r q) ≤ load (with_waiting n more counts) + 1 = appended_to_load q.stack n (with_waiting n more counts) in
    let s : load counts ≡ load q = refl in
    omega (arith, h, k, m, s)

-- primitives

abbrev pub Lower : Work → Work → Type 0
Lower v w = clock_of w ≤ clock_of v

-- a primitive that does not raise the clock
abbrev pub Low : {A : Type 0} → Step Work A → Type 0
Low f = Keeps Lower f

enqueued_lower : (n : ℕ) (r : Reaction) (k : ℕ) (w : Work) → w.fuel ≡ suc k
    → Lower w (record { page = noted n r (with_queues (enqueued n r) w.page); fuel = k })
enqueued_lower n r k w e = let h = enqueued_load n r w.page.queues in omega (arith, h, e)

pub lower : Closed Lower
lower = record {
  same = λ w. omega arith;
  next = λ u v w h k. omega (arith, h, k);
  forest = λ f w. omega arith;
  element = λ n e w. omega arith;
  defined = λ d w. omega arith;
  node = λ f w. omega arith;
  stacks = λ f w. omega arith;
  controls = λ cs w. omega arith;
  internals = λ is w. omega arith;
  spent = λ k w e. omega (arith, e);
  enqueued = enqueued_lower;
}

-- changes of the page that the session's steps make themselves

-- a change of the page that does not raise the clock
pub record Light (f : Page → Page) : Type 0 where
  pub at : (w : Work) → clock_of (on f w) ≤ clock_of w

pub light_state : (n : ℕ) (s : CustomState) → Light (with_state n s)
light_state n s = record { at = λ w. omega arith }

pub light_definition : (n : ℕ) (d : Option ℕ) → Light (with_definition n d)
light_definition n d = record { at = λ w. omega arith }

pub light_begun : Light (with_queues pushed_queue)
light_begun = record { at = λ w. omega arith }

pub light_ended : Light (with_queues popped_queue)
light_ended = record { at = λ w. omega arith }

pub light_dropped : (n : ℕ) → Light (with_queues (with_waiting n []))
light_dropped n = record { at = λ w. let h = with_waiting_load n [] w.page.queues in omega (arith, h) }
