-- Walking over a lawful log from its first event on.
use Rattle.std.proofs.Common.{◌≡◌, true, List, [], ◌∷◌, ◌++◌, ⊎_elim, inl, inr}
use Rattle.std.specs.Prelude.{◌⊎◌}
use Rattle.ce_events.specs.declared.event.Event.{Event}
use Rattle.order_law.specs.Book.{Book, blank}
use Rattle.order_law.specs.Clauses.{counts_up, runs_once, runs_in_order, drops_by_throw, closes_empty, nests, upgrades_once, replies_at_rest, fuel_is_last}
use Rattle.order_law.specs.After.{after}
use Rattle.order_law.specs.Law.{may_come, read, is_lawful, Lawful}
use Rattle.order_law.specs.Words.{Says}
use Rattle.order_law.proofs.Fronts.{left_true, right_true, front_lawful}

-- what an event keeps that may come
pub record Keeps (b : Book) (e : Event) : Type 0 where
  pub counts : counts_up b e ≡ true
  pub runs : runs_once b e ≡ true
  pub order : runs_in_order b e ≡ true
  pub drops : drops_by_throw b e ≡ true
  pub closes : closes_empty b e ≡ true
  pub nested : nests b e ≡ true
  pub upgrades : upgrades_once b e ≡ true
  pub replies : replies_at_rest b e ≡ true
  pub last : fuel_is_last b e ≡ true

pub keeps : (b : Book) (e : Event) → may_come b e ≡ true → Keeps b e
keeps b e h =
    let h2 = right_true (counts_up b e) _ h in
    let h3 = right_true (runs_once b e) _ h2 in
    let h4 = right_true (runs_in_order b e) _ h3 in
    let h5 = right_true (drops_by_throw b e) _ h4 in
    let h6 = right_true (closes_empty b e) _ h5 in
    let h7 = right_true (nests b e) _ h6 in
    let h8 = right_true (upgrades_once b e) _ h7 in
    record {
      counts = left_true (counts_up b e) _ h;
      runs = left_true (runs_once b e) _ h2;
      order = left_true (runs_in_order b e) _ h3;
      drops = left_true (drops_by_throw b e) _ h4;
      closes = left_true (closes_empty b e) _ h5;
      nested = left_true (nests b e) _ h6;
      upgrades = left_true (upgrades_once b e) _ h7;
      replies = left_true (replies_at_rest b e) _ h8;
      last = right_true (replies_at_rest b e) _ h8;
    }

-- what was read, the last event first
abbrev pub past_of : List Event → List Event → List Event
past_of [] past = past
past_of (e ∷ log) past = past_of log (e ∷ past)

-- what holds at the beginning, and is kept by each event that may come, holds behind a lawful log
pub walk_from : (P : List Event → Book → Type 0) → ((past : List Event) (b : Book) (e : Event) → P past b → Keeps b e → P (e ∷ past) (after b e)) →
    (past : List Event) (b : Book) → P past b → (log : List Event) → is_lawful b log ≡ true → P (past_of log past) (read b log)
walk_from P step past b p [] h = p
walk_from P step past b p (e ∷ log) h =
    walk_from P step (e ∷ past) (after b e) (step past b e p (keeps b e (left_true (may_come b e) _ h))) log (right_true (may_come b e) _ h)

-- the rest of a lawful log, behind its front
pub rest_from : (b : Book) (front rest : List Event) → is_lawful b (front ++ rest) ≡ true → is_lawful (read b front) rest ≡ true
rest_from b [] rest h = h
rest_from b (e ∷ front) rest h = rest_from (after b e) front rest (right_true (may_come b e) _ h)

-- at an event of a lawful log
pub record At (P : List Event → Book → Type 0) (before : List Event) (e : Event) (behind : List Event) : Type 0 where
  pub past : P (past_of before []) (read blank before)
  pub keeps : Keeps (read blank before) e
  pub goes_on : is_lawful (after (read blank before) e) behind ≡ true

pub at : (P : List Event → Book → Type 0) → P [] blank →
    ((past : List Event) (b : Book) (e : Event) → P past b → Keeps b e → P (e ∷ past) (after b e)) →
    (before : List Event) (e : Event) (behind : List Event) → Lawful (before ++ e ∷ behind) → At P before e behind
at P first step before e behind h =
    let rest = rest_from blank before (e ∷ behind) h in
    record {
      past = walk_from P step [] blank first before (front_lawful before (e ∷ behind) h);
      keeps = keeps (read blank before) e (left_true (may_come (read blank before) e) _ rest);
      goes_on = right_true (may_come (read blank before) e) _ rest;
    }

-- what was read says what the log says

says_past : (log past : List Event) (e : Event) → Says past e → Says (past_of log past) e
says_past [] past e s = s
says_past (x ∷ log) past e s = says_past log (x ∷ past) e (inr s)

says_log : (log past : List Event) (e : Event) → Says log e → Says (past_of log past) e
says_log (x ∷ log) past e (inl s) = says_past log (x ∷ past) e (inl s)
says_log (x ∷ log) past e (inr s) = says_log log (x ∷ past) e s
says_log [] past e s = absurd s

says_either : (log past : List Event) (e : Event) → Says (past_of log past) e → Says log e ⊎ Says past e
says_either [] past e s = inr s
says_either (x ∷ log) past e s = ⊎_elim (λ t. inl (inr t)) (λ t. ⊎_elim (λ u. inl (inl u)) (λ u. inr u) t) (says_either log (x ∷ past) e s)

pub says_turned : (log : List Event) (e : Event) → Says log e → Says (past_of log []) e
says_turned log e s = says_log log [] e s

pub says_back : (log : List Event) (e : Event) → Says (past_of log []) e → Says log e
says_back log e s = ⊎_elim (λ t. t) (λ t. absurd t) (says_either log [] e s)
