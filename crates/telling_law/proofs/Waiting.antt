-- What a node is told by an enqueue.
use Rattle.std.proofs.Common.{◌≡◌, ℕ, ◌+◌, ◌-◌, ◌<◌, ◌==◌, Bool, true, false, if◌then◌else◌, List, [], ◌∷◌, ◌++◌, map, filter, refl, sym, ap, ◌∙◌, arith, inl}
use Rattle.std.proofs.Common.{inr, append-nil}
use Rattle.std.proofs.lemmas.Bool.Decides.{nat_tests}
use Rattle.std.proofs.lemmas.Bool.{cases_eq}
use Rattle.std.proofs.lemmas.List.{map-append}
use Rattle.std.proofs.lemmas.List.Elements.{filter-append}
use Rattle.reaction_queue.specs.declared.reaction.Reaction.{Reaction}
use Rattle.reaction_queue.specs.Queues.{Queues, Open, list_at, with_list, waiting_at, counted, with_reaction, appended_to, enqueued}
use Rattle.reaction_queue.proofs.PlaceLemmas.{list_same, list_other}
use Rattle.telling_law.specs.Told.{is_form_reaction}

abbrev pub told_in : List (ℕ × Reaction) → List Reaction
told_in ws = filter is_form_reaction (map (λ (w : ℕ × Reaction). w.1) ws)

told_in-append : (vs ws : List (ℕ × Reaction)) → told_in (vs ++ ws) ≡ told_in vs ++ told_in ws
told_in-append vs ws =
    ap (filter is_form_reaction) (map-append (λ (w : ℕ × Reaction). w.1) vs ws)
    ∙ filter-append is_form_reaction (map (λ (w : ℕ × Reaction). w.1) vs) (map (λ (w : ℕ × Reaction). w.1) ws)

pub waiting-appended : (os : List Open) (n : ℕ) (q : Queues) → (appended_to os n q).waiting ≡ q.waiting
waiting-appended [] n q = refl
waiting-appended (o ∷ os) n q = refl

-- what a reaction at n tells j
abbrev pub news : ℕ → Reaction → ℕ → List Reaction
news n r j = if n - 1 == j - 1 then filter is_form_reaction (r ∷ []) else []

pub enqueued_tells : (n : ℕ) (r : Reaction) (j : ℕ) (q : Queues) → told_in (waiting_at (enqueued n r q) j) ≡ told_in (waiting_at q j) ++ news n r j
enqueued_tells n r j q =
    ap (λ lists. told_in (list_at (j - 1) lists)) (waiting-appended q.stack n (with_reaction n r (counted q)))
    ∙ (elim (cases_eq (n - 1) (j - 1)) [
      | inl e ↦
          let yes : (n - 1 == j - 1) ≡ true = grind (arith, nat_tests) in
          ap (λ i. told_in (list_at i (with_list (n - 1) there q.waiting))) (sym e)
          ∙ ap told_in (list_same (n - 1) there q.waiting)
          ∙ told_in-append (waiting_at q n) ((q.reactions + 1, r) ∷ [])
          ∙ ap (λ i. told_in (list_at i q.waiting) ++ filter is_form_reaction (r ∷ [])) e
          ∙ ap (λ b. told_in (waiting_at q j) ++ (if b then filter is_form_reaction (r ∷ []) else [])) (sym yes)
      | inr ne ↦
          let no : (n - 1 == j - 1) ≡ false = grind (arith, nat_tests) in
          ap told_in (list_other (n - 1) (j - 1) there q.waiting ne)
          ∙ sym (append-nil (told_in (waiting_at q j)))
          ∙ ap (λ b. told_in (waiting_at q j) ++ (if b then filter is_form_reaction (r ∷ []) else [])) (sym no)
    ])
  where
    there : List (ℕ × Reaction)
    there = waiting_at q n ++ (q.reactions + 1, r) ∷ []

-- a reaction that is no form reaction tells nothing
pub no_news : (n : ℕ) (r : Reaction) (j : ℕ) → is_form_reaction r ≡ false → news n r j ≡ []
no_news n r j other = by_test (n - 1 == j - 1)
  where
    by_test : (b : Bool) → (if b then filter is_form_reaction (r ∷ []) else []) ≡ []
    by_test true = ap (λ t. if t then r ∷ [] else []) other
    by_test false = refl

-- a node has a place of its own
pub same_place : (n j : ℕ) → 0 < n → 0 < j → (n - 1 == j - 1) ≡ (n == j)
same_place n j low low_j = grind (arith, nat_tests)
