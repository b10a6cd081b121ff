-- What waits, waits at elements after each change of what waits.
use Rattle.std.proofs.Common.{◌≡◌, ℕ, ◌+◌, ◌-◌, List, [], ◌∷◌, Option, Some, None, MatchOption, IfSome, sym, ◌∙◌, subst, inl, inr}
use Rattle.std.proofs.lemmas.Bool.{cases_eq}
use Rattle.node_trees.specs.Trees.{Trees}
use Rattle.node_trees.specs.Kinds.{IsElement}
use Rattle.reaction_queue.specs.declared.reaction.Reaction.{Reaction}
use Rattle.reaction_queue.specs.Queues.{Queues, with_list, waiting_at, with_waiting, counted, with_reaction, enqueued}
use Rattle.reaction_queue.specs.Changes.{DropsFirst}
use Rattle.reaction_queue.proofs.PlaceLemmas.{list_other}
use Rattle.telling_law.proofs.Waiting.{waiting-appended}
use Rattle.ce_page.specs.Elements.{WaitAtElements}

-- a list given anew where there is an element
given_waits : (forest : Trees) (i : ℕ) (xs : List (ℕ × Reaction)) (waiting : List (List (ℕ × Reaction)))
    → IsElement forest (i + 1) → WaitAtElements waiting forest → WaitAtElements (with_list i xs waiting) forest
given_waits forest i xs waiting here h j some = elim (cases_eq i j) [
  | inl same ↦ subst (λ k. IsElement forest (k + 1)) same here
  | inr other ↦ h j (λ none. some (list_other i j xs waiting other ∙ none))
]

-- a reaction enqueued

pub enqueued_waits : (forest : Trees) (n : ℕ) (r : Reaction) (q : Queues) → IsElement forest (n - 1 + 1) → WaitAtElements q.waiting forest
    → WaitAtElements (enqueued n r q).waiting forest
enqueued_waits forest n r q here h =
    subst (λ waiting. WaitAtElements waiting forest) (sym (waiting-appended q.stack n (with_reaction n r (counted q))))
    (given_waits forest (n - 1) _ q.waiting here h)

-- the first reaction of a node taken

waits_there : (forest : Trees) (old new : Queues) (n : ℕ) (w : ℕ × Reaction) → WaitAtElements old.waiting forest → waiting_at old n ≡ w ∷ waiting_at new n
    → IsElement forest (n - 1 + 1)
waits_there forest old new n w h first = h (n - 1) (λ none. absurd (differ (sym none ∙ first)))
  where
    differ : [] ≡ w ∷ waiting_at new n → ⊥
    differ e = cc

taken_waits : (forest : Trees) (old new : Queues) (n : ℕ) (w : ℕ × Reaction) → WaitAtElements old.waiting forest → waiting_at old n ≡ w ∷ waiting_at new n
    → new ≡ with_waiting n (waiting_at new n) old → WaitAtElements new.waiting forest
taken_waits forest old new n w h first others =
    subst (λ (q : Queues). WaitAtElements q.waiting forest) (sym others)
    (given_waits forest (n - 1) (waiting_at new n) old.waiting (waits_there forest old new n w h first) h)

pub next_waits : (forest : Trees) (old new : Queues) (n : ℕ) (r : Option (ℕ × Reaction)) → WaitAtElements old.waiting forest
    → MatchOption r (waiting_at old n ≡ []) (λ w. waiting_at old n ≡ w ∷ waiting_at new n)
    → MatchOption r (new ≡ old) (λ w. new ≡ with_waiting n (waiting_at new n) old) → WaitAtElements new.waiting forest
next_waits forest old new n None h first others = subst (λ (q : Queues). WaitAtElements q.waiting forest) (sym others) h
next_waits forest old new n (Some w) h first others = taken_waits forest old new n w h first others

pub next_element : (forest : Trees) (old new : Queues) (n : ℕ) (r : Option (ℕ × Reaction)) → (IsElement forest (n - 1 + 1) → IsElement forest n)
    → WaitAtElements old.waiting forest
    → MatchOption r (waiting_at old n ≡ []) (λ w. waiting_at old n ≡ w ∷ waiting_at new n) → IfSome r (λ w. IsElement forest n)
next_element forest old new n None at h first = tt
next_element forest old new n (Some w) at h first = at (waits_there forest old new n w h first)

pub drop_waits : (forest : Trees) (old new : Queues) (n : ℕ) (r : Option ℕ) → WaitAtElements old.waiting forest
    → MatchOption r (waiting_at old n ≡ []) (λ number. DropsFirst old new n number)
    → MatchOption r (new ≡ old) (λ number. new ≡ with_waiting n (waiting_at new n) old) → WaitAtElements new.waiting forest
drop_waits forest old new n None h first others = subst (λ (q : Queues). WaitAtElements q.waiting forest) (sym others) h
drop_waits forest old new n (Some number) h first others = taken_waits forest old new n (number, first.reaction) h first.first others
