-- Dropping the reactions that wait at an element one after another, each with its line, is dropping them all.
use Rattle.std.proofs.Common.{◌≡◌, ℕ, zero, suc, ◌-◌, List, [], ◌∷◌, Option, Some, None, refl, sym, ap, ◌∙◌}
use Rattle.std.specs.Prelude.{MatchOption, IfNone}
use Rattle.reaction_queue.specs.declared.reaction.Reaction.{Reaction}
use Rattle.reaction_queue.specs.Changes.{DropsFirst}
use Rattle.reaction_queue.specs.Queues.{ahead, waiting_at, with_list, with_waiting}
use Rattle.ce_events.specs.declared.event.Event.TheVariants.{Dropped}
use Rattle.ce_algorithms.specs.Page.{Page, with_queues}
use Rattle.ce_algorithms.specs.State.{State, log, logged}
use Rattle.ce_algorithms.specs.Steps.{Outcome, Goes, for_each}
use Rattle.ce_algorithms.specs.Upgrade.{drop_reactions}
use Rattle.session_state.specs.Steps.{DropsReaction}
use Rattle.reaction_queue.proofs.TrimmedLemmas.{with_list_head, with_list_ahead}

-- a list given anew twice at one place

list_twice : {A : Type 0} (i : ℕ) (xs ys : List A) (ls : List (List A)) → with_list i ys (with_list i xs ls) ≡ with_list i ys ls
list_twice zero xs ys [] = with_list_head ys xs []
list_twice zero xs ys (l ∷ ls) = with_list_head ys xs ls
list_twice (suc i) xs ys [] = with_list_ahead i ys [] (with_list i xs []) ∙ ap (ahead []) (list_twice i xs ys [])
list_twice (suc i) xs ys (l ∷ ls) = with_list_ahead i ys l (with_list i xs ls) ∙ ap (ahead l) (list_twice i xs ys ls)

-- all these reactions of an element dropped

emptied : ℕ → State → State
emptied n s = record s { page = with_queues (with_waiting n []) s.page }

all_dropped : List (ℕ × Reaction) → State → Outcome State (Unit {0})
all_dropped ws = for_each ws (λ (w : ℕ × Reaction). log (Dropped w.0))

drops : (n : ℕ) (s : State) → drop_reactions n s ≡ all_dropped (waiting_at s.page.queues n) (emptied n s)
unfolding emptied all_dropped
drops n s = refl

-- emptied after a reaction was dropped, an element's queue is as it is emptied at once
emptied_twice : (n number : ℕ) (ws : List (ℕ × Reaction)) (s s1 : State) → s1 ≡ record s { page = with_queues (with_waiting n ws) s.page }
    → emptied n (logged (Dropped number) s1) ≡ logged (Dropped number) (emptied n s)
unfolding emptied
emptied_twice n number ws s s1 is =
    ap (λ (x : State). emptied n (logged (Dropped number) x)) is
    ∙ ap (λ waiting. logged (Dropped number) (record s { page = with_queues (λ q. record q { waiting = waiting }) s.page }))
    (list_twice (n - 1) ws [] s.page.queues.waiting)

pub dropped_one : (n number : ℕ) (s s1 : State) → DropsReaction s s1 n number → drop_reactions n (logged (Dropped number) s1) ≡ drop_reactions n s
unfolding all_dropped
dropped_one n number s s1 d =
    drops n (logged (Dropped number) s1)
    ∙ (ap (all_dropped (waiting_at s1.page.queues n)) (emptied_twice n number (waiting_at s1.page.queues n) s s1 d.takes.taken)
    ∙ sym (drops n s ∙ ap (λ ws. all_dropped ws (emptied n s)) d.takes.first))

-- where none waits, nothing is dropped
pub dropped_none : (n : ℕ) (s : State) → waiting_at s.page.queues n ≡ [] → with_queues (with_waiting n []) s.page ≡ s.page → Goes tt s ≡ drop_reactions n s
unfolding emptied all_dropped
dropped_none n s none same = sym (drops n s ∙ (ap (λ ws. all_dropped ws (emptied n s)) none ∙ ap (λ (p : Page). Goes tt (record s { page = p })) same))

-- what the page says where none waits, said of the state
pub drop_first-none : (r : Option ℕ) (n : ℕ) (v s0 : State) (q : Page) → v ≡ s0
    → MatchOption r (waiting_at v.page.queues n ≡ []) (λ number. DropsFirst v.page.queues q.queues n number)
    → MatchOption r (q ≡ v.page) (λ number. q ≡ with_queues (with_waiting n (waiting_at q.queues n)) v.page)
    → IfNone r (with_queues (with_waiting n []) v.page ≡ v.page) → IfNone r (Goes tt (record v { page = q }) ≡ drop_reactions n s0)
drop_first-none None n v s0 q is none same empty =
    ap (λ (p : Page). Goes tt (record v { page = p })) same ∙ dropped_none n v none empty ∙ ap (drop_reactions n) is
drop_first-none (Some number) n v s0 q is none same empty = tt
