-- Brackets, in the words of the log.
use Rattle.std.proofs.Common.{◌≡◌, ℕ, ◌<◌, Bool, true, false, List, [], ◌∷◌, ◌++◌, Some, None, refl, sym, ap, ◌∙◌, subst, arith, inl, inr, append-nil}
use Rattle.std.specs.Prelude.{◌&&◌, ◌||◌, ◌==◌, not, is_some}
use Rattle.std.proofs.lemmas.Bool.{eqb-true}
use Rattle.std.proofs.lemmas.List.{append_assoc}
use Rattle.rule_tokens.specs.declared.callback.CallName.{CallName}
use Rattle.rule_tokens.specs.declared.callback.CallOrUpgrade.{CallOrUpgrade}
use Rattle.rule_tokens.specs.declared.callback.CallOrUpgrade.TheVariants.{Call, Upgrade}
use Rattle.ce_events.specs.Calls.{call_of}
use Rattle.ce_events.specs.declared.event.Event.{Event}
use Rattle.ce_events.specs.declared.event.Event.TheVariants.{QueueOpened, DrainBegun, Started, Finished, Dropped, QueueClosed, UpgradeBegun, UpgradeDone}
use Rattle.ce_events.specs.declared.event.Event.TheVariants.{UpgradeThrew}
use Rattle.reaction_queue.specs.ElementQueues.{is_empty}
use Rattle.order_law.specs.Book.{Book, Entry, Bracket, Filling, Draining, Reacting, Upgrading, blank}
use Rattle.order_law.specs.Lines.{is_reply}
use Rattle.order_law.specs.Reads.{is_callback, is_for, entry_of}
use Rattle.order_law.specs.Clauses.{is_in_drain, starts_once, may_call, has_called, is_in_upgrade, begins_drain, ends_drain, ends_reaction, ends_upgrade}
use Rattle.order_law.specs.Clauses.{may_upgrade}
use Rattle.order_law.specs.After.{after}
use Rattle.order_law.specs.Law.{may_come, read, is_lawful, Lawful}
use Rattle.order_law.specs.Words.{Says, Waits, enqueue_line}
use Rattle.order_law.specs.Brackets.{Whole, Empty, Innermost, Runs, MayUpgrade, HasRun, AreLines}
use Rattle.order_law.proofs.Fronts.{left_true, right_true, front_lawful, false_true}
use Rattle.order_law.proofs.Walk.{Keeps, keeps, past_of, rest_from}
use Rattle.order_law.proofs.Entries.{among_found}
use Rattle.order_law.proofs.Waiting.{Kept, kept_first, kept_step}
use Rattle.order_law.proofs.Runs.{among_of, at_rest}
use Rattle.order_law.proofs.Opens.{Around, Called, Opens, opens_step, for_is}

-- the book and the log
pub record Stands (log : List Event) (b : Book) : Type 0 where
  pub kept : Kept (past_of log []) b
  pub opens : Opens log b.brackets

past_append : (log past : List Event) (e : Event) → past_of (log ++ e ∷ []) past ≡ e ∷ past_of log past
past_append [] past e = refl
past_append (x ∷ log) past e = past_append log (x ∷ past) e

stands_step : (log : List Event) (b : Book) (e : Event) → Stands log b → Keeps b e → Stands (log ++ e ∷ []) (after b e)
stands_step log b e s h =
    record {
      kept = subst (λ p. Kept p (after b e)) (sym (past_append log [] e)) (kept_step (past_of log []) b e s.kept h);
      opens = opens_step log b e s.kept s.opens h;
    }

stands_from : (front : List Event) (b : Book) → Stands front b → (log : List Event) → is_lawful b log ≡ true → Stands (front ++ log) (read b log)
stands_from front b s [] h = subst (λ l. Stands l b) (sym (append-nil front)) s
stands_from front b s (e ∷ log) h =
    let next = stands_step front b e s (keeps b e (left_true (may_come b e) _ h)) in
    subst (λ l. Stands l (read (after b e) log)) (append_assoc front (e ∷ []) log)
    (stands_from (front ++ e ∷ []) (after b e) next log (right_true (may_come b e) _ h))

pub stands : (log : List Event) → Lawful log → Stands log (read blank log)
stands log h = stands_from [] blank (record { kept = kept_first; opens = Empty }) log h

-- at an event
record Here (before : List Event) (e : Event) : Type 0 where
  stands : Stands before (read blank before)
  keeps : Keeps (read blank before) e

here : (before behind : List Event) (e : Event) → Lawful (before ++ e ∷ behind) → Here before e
here before behind e h =
    record {
      stands = stands before (front_lawful before (e ∷ behind) h);
      keeps = keeps (read blank before) e (left_true (may_come (read blank before) e) _ (rest_from blank before (e ∷ behind) h));
    }

innermost : (calls : List Event) (opening : Event) (P : List Event → Type 0) (log : List Event) → Around calls opening P log → Innermost calls opening log
innermost calls opening P log a = record { outside = a.0; inside = a.1; cut = a.2; whole = a.3 }

says_more : (front more : List Event) (e : Event) → Says front e → Says (front ++ more) e
says_more (x ∷ front) more e (inl i) = inl i
says_more (x ∷ front) more e (inr i) = inr (says_more front more e i)
says_more [] more e i = absurd i

said : (log outside more : List Event) (e : Event) → log ≡ outside ++ more → Says outside e → Says log e
said log outside more e cut s = subst (λ l. Says l e) (sym cut) (says_more outside more e s)

-- draining

drains_top : (q : ℕ) (bs : List Bracket) (log : List Event) → 0 < q → begins_drain q bs ≡ true → Opens log bs → Innermost [] (QueueOpened q) log
drains_top q (Filling m ∷ bs) log lt h o =
    subst (λ x. Innermost [] (QueueOpened x) log) (eqb-true m q h) (innermost [] (QueueOpened m) (λ l. Opens l bs) log o.1)
drains_top q [] log lt h o = let e = eqb-true q 0 h in absurd (omega (arith, e, lt))
drains_top q (Draining m ∷ bs) log lt h o = false_true h
drains_top q (Reacting w called ∷ bs) log lt h o = false_true h
drains_top q (Upgrading n ∷ bs) log lt h o = false_true h

pub drain_is_innermost : (before behind : List Event) (q : ℕ) → 0 < q → Lawful (before ++ DrainBegun q ∷ behind) → Innermost [] (QueueOpened q) before
drain_is_innermost before behind q lt h =
    let s = here before behind (DrainBegun q) h in
    let b = read blank before in
    drains_top q b.brackets before lt (left_true (begins_drain q b.brackets) _ s.keeps.nested) s.stands.opens

checks_top : (bs : List Bracket) (log : List Event) → begins_drain 0 bs ≡ true → Opens log bs → Whole [] log
checks_top [] log h o = o
checks_top (Filling m ∷ bs) log h o = let e = eqb-true m 0 h in let lt = o.0 in absurd (omega (arith, e, lt))
checks_top (Draining m ∷ bs) log h o = false_true h
checks_top (Reacting w called ∷ bs) log h o = false_true h
checks_top (Upgrading n ∷ bs) log h o = false_true h

pub checkpoint_is_outside : (before behind : List Event) → Lawful (before ++ DrainBegun 0 ∷ behind) → Whole [] before
checkpoint_is_outside before behind h =
    let s = here before behind (DrainBegun 0) h in
    let b = read blank before in
    checks_top b.brackets before (left_true (begins_drain 0 b.brackets) _ s.keeps.nested) s.stands.opens

closes_top : (q : ℕ) (bs : List Bracket) (log : List Event) → ends_drain q bs ≡ true → Opens log bs → Innermost [] (DrainBegun q) log
closes_top q (Draining m ∷ bs) log h o =
    subst (λ x. Innermost [] (DrainBegun x) log) (eqb-true m q h) (record { outside = o.0; inside = o.1; cut = o.2; whole = o.3 })
closes_top q [] log h o = false_true h
closes_top q (Filling m ∷ bs) log h o = false_true h
closes_top q (Reacting w called ∷ bs) log h o = false_true h
closes_top q (Upgrading n ∷ bs) log h o = false_true h

pub close_is_innermost : (before behind : List Event) (q : ℕ) → Lawful (before ++ QueueClosed q ∷ behind) → Innermost [] (DrainBegun q) before
close_is_innermost before behind q h =
    let s = here before behind (QueueClosed q) h in
    let b = read blank before in
    closes_top q b.brackets before (left_true (ends_drain q b.brackets) _ s.keeps.nested) s.stands.opens

starts_top : (bs : List Bracket) (log : List Event) → is_in_drain bs ≡ true → Opens log bs → (q : ℕ) × Innermost [] (DrainBegun q) log
starts_top (Draining m ∷ bs) log h o = (m, record { outside = o.0; inside = o.1; cut = o.2; whole = o.3 })
starts_top [] log h o = false_true h
starts_top (Filling m ∷ bs) log h o = false_true h
starts_top (Reacting w called ∷ bs) log h o = false_true h
starts_top (Upgrading n ∷ bs) log h o = false_true h

pub start_is_in_drain : (before behind : List Event) (r : ℕ) → Lawful (before ++ Started r ∷ behind) → (q : ℕ) × Innermost [] (DrainBegun q) before
start_is_in_drain before behind r h =
    let s = here before behind (Started r) h in
    let b = read blank before in
    starts_top b.brackets before (right_true (is_some (entry_of r b.waiting)) (is_in_drain b.brackets)
    (left_true (is_some (entry_of r b.waiting) && is_in_drain b.brackets) _ s.keeps.runs)) s.stands.opens

-- upgrades

upgrade_top : (n : ℕ) (bs : List Bracket) (log : List Event) → ends_upgrade n bs ≡ true → Opens log bs → Innermost [] (UpgradeBegun n) log
upgrade_top n (Upgrading m ∷ bs) log h o =
    subst (λ x. Innermost [] (UpgradeBegun x) log) (eqb-true m n h) (innermost [] (UpgradeBegun m) (λ l. Opens l bs) log o)
upgrade_top n [] log h o = false_true h
upgrade_top n (Filling m ∷ bs) log h o = false_true h
upgrade_top n (Draining m ∷ bs) log h o = false_true h
upgrade_top n (Reacting w called ∷ bs) log h o = false_true h

pub done_is_innermost : (before behind : List Event) (n : ℕ) → Lawful (before ++ UpgradeDone n ∷ behind) → Innermost [] (UpgradeBegun n) before
done_is_innermost before behind n h =
    let s = here before behind (UpgradeDone n) h in
    let b = read blank before in
    upgrade_top n b.brackets before (left_true (ends_upgrade n b.brackets) _ s.keeps.nested) s.stands.opens

pub throw_is_innermost : (before behind : List Event) (n : ℕ) → Lawful (before ++ UpgradeThrew n ∷ behind) → Innermost [] (UpgradeBegun n) before
throw_is_innermost before behind n h =
    let s = here before behind (UpgradeThrew n) h in
    let b = read blank before in
    upgrade_top n b.brackets before (left_true (ends_upgrade n b.brackets) _ s.keeps.nested) s.stands.opens

pub ruleset ends_innermost = (drain_is_innermost, checkpoint_is_outside, close_is_innermost, done_is_innermost, throw_is_innermost)

drop_top : (w : Entry) (bs : List Bracket) (log : List Event) → is_in_upgrade (Some w) bs ≡ true → Opens log bs → Innermost [] (UpgradeBegun w.element) log
drop_top w (Upgrading n ∷ bs) log h o =
    subst (λ x. Innermost [] (UpgradeBegun x) log) (sym (eqb-true w.element n h)) (innermost [] (UpgradeBegun n) (λ l. Opens l bs) log o)
drop_top w [] log h o = false_true h
drop_top w (Filling m ∷ bs) log h o = false_true h
drop_top w (Draining m ∷ bs) log h o = false_true h
drop_top w (Reacting v called ∷ bs) log h o = false_true h

pub drop_is_in_upgrade : (before behind : List Event) (w : Entry) → Lawful (before ++ Dropped w.number ∷ behind) → Waits before w →
    Innermost [] (UpgradeBegun w.element) before
drop_is_in_upgrade before behind w h i =
    let s = here before behind (Dropped w.number) h in
    let b = read blank before in
    let found = among_found 0 b.waiting w s.stands.kept.rising (among_of before b w s.stands.kept i) in
    drop_top w b.brackets before (sym (ap (λ o. is_in_upgrade o b.brackets) found)
    ∙ left_true (is_in_upgrade (entry_of w.number b.waiting) b.brackets) _ s.keeps.drops) s.stands.opens

-- reactions

-- an upgrade has no lines
no_lines : (w : Entry) (called : Bool) (lines : List Event) → Called w called lines → w.what ≡ Upgrade → lines ≡ []
no_lines w false lines c is = c
no_lines w true lines c is = absurd (let e : Call c.2 ≡ Upgrade = sym c.4 ∙ is in cc)

is_upgrade : (what : CallOrUpgrade) → not (is_callback what) ≡ true → what ≡ Upgrade
is_upgrade Upgrade h = refl
is_upgrade (Call name) h = false_true h

up_top : (n : ℕ) (bs : List Bracket) (log : List Event) → may_upgrade n bs ≡ true → Opens log bs → MayUpgrade n log
up_top n (Filling q ∷ bs) log h o = inr (q, innermost [] (QueueOpened q) (λ l. Opens l bs) log o.1)
up_top n (Reacting w called ∷ bs) log h (lines, are, a) =
    let what = is_upgrade w.what (right_true (w.element == n) (not (is_callback w.what)) h) in
    let element = eqb-true w.element n (left_true (w.element == n) (not (is_callback w.what)) h) in
    let none = no_lines w called lines are what in
    inl (
      w,
      element,
      what,
      record {
        enqueued = said log a.0 (Started w.number ∷ a.1) (enqueue_line w) a.2 (a.4).0;
        innermost = subst (λ l. Innermost l (Started w.number) log) none (record { outside = a.0; inside = a.1; cut = a.2; whole = a.3 });
      },
    )
up_top n [] log h o = false_true h
up_top n (Draining m ∷ bs) log h o = false_true h
up_top n (Upgrading m ∷ bs) log h o = false_true h

pub up_is_where_it_may : (before behind : List Event) (n : ℕ) → Lawful (before ++ UpgradeBegun n ∷ behind) → MayUpgrade n before
up_is_where_it_may before behind n h =
    let s = here before behind (UpgradeBegun n) h in
    let b = read blank before in
    up_top n b.brackets before (left_true (may_upgrade n b.brackets) _ (left_true _ _ s.keeps.upgrades)) s.stands.opens

call_top : (n : ℕ) (name : CallName) (bs : List Bracket) (log : List Event) → may_call (Some (n, name)) bs ≡ true → Opens log bs →
    (w : Entry) × (w.element ≡ n) × (w.what ≡ Call name) × Runs w log
call_top n name (Reacting w false ∷ bs) log h (lines, none, a) =
    let element = eqb-true w.element n (left_true (w.element == n) (is_for w.what name) h) in
    let what = for_is w.what name (right_true (w.element == n) (is_for w.what name) h) in (
      w,
      element,
      what,
      record {
        enqueued = said log a.0 (Started w.number ∷ a.1) (enqueue_line w) a.2 (a.4).0;
        innermost = subst (λ l. Innermost l (Started w.number) log) none (record { outside = a.0; inside = a.1; cut = a.2; whole = a.3 });
      },
    )
call_top n name (Reacting w true ∷ bs) log h o = false_true h
call_top n name [] log h o = false_true h
call_top n name (Filling m ∷ bs) log h o = false_true h
call_top n name (Draining m ∷ bs) log h o = false_true h
call_top n name (Upgrading m ∷ bs) log h o = false_true h

calls_say : (b : Book) (e : Event) (n : ℕ) (name : CallName) → call_of e ≡ Some (n, name) → Keeps b e → may_call (call_of e) b.brackets ≡ true
calls_say b (Finished r) n name is h = absurd (let e : None ≡ Some (n, name) = is in cc)
calls_say b e n name is h = right_true (starts_once b e) _ h.runs

pub call_is_in_its_reaction : (before behind : List Event) (e : Event) (n : ℕ) (name : CallName) → call_of e ≡ Some (n, name) →
    Lawful (before ++ e ∷ behind) → (w : Entry) × (w.element ≡ n) × (w.what ≡ Call name) × Runs w before
call_is_in_its_reaction before behind e n name is h =
    let s = here before behind e h in
    let b = read blank before in
    call_top n name b.brackets before (sym (ap (λ c. may_call c b.brackets) is) ∙ calls_say b e n name is s.keeps) s.stands.opens

all_lines : (w : Entry) (called : Bool) (lines : List Event) → Called w called lines → (what : CallOrUpgrade) → w.what ≡ what →
    called || not (is_callback what) ≡ true → AreLines what w.element lines
all_lines w true lines c (Call name) is h = let e : Call c.2 ≡ Call name = sym c.4 ∙ is in let f : c.2 ≡ name =
    cc in (c.0, c.1, c.3 ∙ ap (λ x. Some (w.element, x)) f)
all_lines w false lines c (Call name) is h = false_true h
all_lines w called lines c Upgrade is h = no_lines w called lines c is

finish_top : (r : ℕ) (bs : List Bracket) (log : List Event) → ends_reaction r bs ≡ true → has_called bs ≡ true → Opens log bs → HasRun r log
finish_top r (Reacting w called ∷ bs) log h k (lines, are, a) =
    let number = eqb-true w.number r h in
    record {
      entry = w;
      number = number;
      enqueued = said log a.0 (Started w.number ∷ a.1) (enqueue_line w) a.2 (a.4).0;
      lines = lines;
      are = all_lines w called lines are w.what refl k;
      innermost = subst (λ x. Innermost lines (Started x) log) number (record { outside = a.0; inside = a.1; cut = a.2; whole = a.3 });
    }
finish_top r [] log h k o = false_true h
finish_top r (Filling m ∷ bs) log h k o = false_true h
finish_top r (Draining m ∷ bs) log h k o = false_true h
finish_top r (Upgrading m ∷ bs) log h k o = false_true h

pub finish_has_run : (before behind : List Event) (r : ℕ) → Lawful (before ++ Finished r ∷ behind) → HasRun r before
finish_has_run before behind r h =
    let s = here before behind (Finished r) h in
    let b = read blank before in
    finish_top r b.brackets before (left_true (ends_reaction r b.brackets) _ s.keeps.nested) (right_true true _ s.keeps.runs) s.stands.opens

-- replies

rest_top : (bs : List Bracket) (log : List Event) → is_empty bs ≡ true → Opens log bs → Whole [] log
rest_top [] log h o = o
rest_top (x ∷ bs) log h o = false_true h

pub reply_is_outside : (before behind : List Event) (e : Event) → is_reply e ≡ true → Lawful (before ++ e ∷ behind) → Whole [] before
reply_is_outside before behind e is h =
    let s = here before behind e h in
    let b = read blank before in
    rest_top b.brackets before (left_true (is_empty b.brackets) (is_empty b.waiting)
    (at_rest (is_reply e) (is_empty b.brackets && is_empty b.waiting) s.keeps.replies is)) s.stands.opens
