-- What is taken from the queues of the page, said of the state.
use Rattle.std.proofs.Common.{◌≡◌, ℕ, [], ◌∷◌, Option, Some, None, sym, ap, ◌∙◌}
use Rattle.std.specs.Prelude.{MatchOption, IfSome}
use Rattle.reaction_queue.specs.declared.reaction.Reaction.{Reaction}
use Rattle.reaction_queue.specs.Changes.{DropsFirst}
use Rattle.reaction_queue.specs.Queues.{waiting_at, with_waiting}
use Rattle.ce_algorithms.specs.Drain.{with_backup}
use Rattle.ce_algorithms.specs.Page.{Page, with_queues}
use Rattle.ce_algorithms.specs.State.{State}
use Rattle.session_state.specs.Steps.{DropsReaction, TakesBackup, TakesReaction}

-- the first element of the backup element queue, in the state
pub backup_taken : (e : ℕ) (v s0 : State) (q : Page) → v ≡ s0 → v.page.queues.backup ≡ e ∷ q.queues.backup
    → q ≡ with_queues (with_backup q.queues.backup) v.page → TakesBackup s0 (record v { page = q }) e
backup_taken e v s0 q is first taken = record {
  first = ap (λ (x : State). x.page.queues.backup) (sym is) ∙ first;
  taken = ap (λ (p : Page). record v { page = p }) taken ∙ ap (λ (x : State). record x { page = with_queues (with_backup q.queues.backup) x.page }) is;
}

-- what the page says of the first element of its backup element queue, said of the state
pub next_backup-first : (r : Option ℕ) (v s0 : State) (q : Page) → v ≡ s0
    → MatchOption r ((v.page.queues.backup ≡ []) × (q ≡ v.page)) (λ n. v.page.queues.backup ≡ n ∷ q.queues.backup)
    → q ≡ with_queues (with_backup q.queues.backup) v.page → IfSome r (λ e. TakesBackup s0 (record v { page = q }) e)
next_backup-first None v s0 q is m taken = tt
next_backup-first (Some e) v s0 q is m taken = backup_taken e v s0 q is m taken

-- the first reaction that waits at an element, in the state
pub reaction_taken : (e : ℕ) (w : ℕ × Reaction) (v s0 : State) (q : Page) → v ≡ s0 → waiting_at v.page.queues e ≡ w ∷ waiting_at q.queues e
    → q ≡ with_queues (with_waiting e (waiting_at q.queues e)) v.page → TakesReaction s0 (record v { page = q }) e w
reaction_taken e w v s0 q is first taken = record {
  first = ap (λ (x : State). waiting_at x.page.queues e) (sym is) ∙ first;
  taken = ap (λ (p : Page). record v { page = p }) taken
      ∙ ap (λ (x : State). record x { page = with_queues (with_waiting e (waiting_at q.queues e)) x.page }) is;
}

-- what the page says of it, said of the state
pub next_reaction-first : (r : Option (ℕ × Reaction)) (e : ℕ) (v s0 : State) (q : Page) → v ≡ s0
    → MatchOption r (waiting_at v.page.queues e ≡ []) (λ w. waiting_at v.page.queues e ≡ w ∷ waiting_at q.queues e)
    → MatchOption r (q ≡ v.page) (λ w. q ≡ with_queues (with_waiting e (waiting_at q.queues e)) v.page)
    → IfSome r (λ w. TakesReaction s0 (record v { page = q }) e w)
next_reaction-first None e v s0 q is first taken = tt
next_reaction-first (Some w) e v s0 q is first taken = reaction_taken e w v s0 q is first taken

-- where it is dropped
pub drop_first-first : (r : Option ℕ) (e : ℕ) (v s0 : State) (q : Page) → v ≡ s0
    → MatchOption r (waiting_at v.page.queues e ≡ []) (λ number. DropsFirst v.page.queues q.queues e number)
    → MatchOption r (q ≡ v.page) (λ number. q ≡ with_queues (with_waiting e (waiting_at q.queues e)) v.page)
    → IfSome r (λ number. DropsReaction s0 (record v { page = q }) e number)
drop_first-first None e v s0 q is first taken = tt
drop_first-first (Some number) e v s0 q is first taken =
    record { reaction = first.reaction; takes = reaction_taken e (number, first.reaction) v s0 q is first.first taken }
