-- How many wait.
use Rattle.std.proofs.Common.{◌≡◌, ◌≤◌, ◌+◌, ◌-◌, ℕ, suc, Bool, true, false, List, [], ◌∷◌, ◌++◌, length, refl, ap, sym, ◌∙◌, arith, Some, inl, inr}
use Rattle.std.specs.Prelude.{not, ◌&&◌, ◌==◌, if◌then◌else◌}
use Rattle.std.specs.Ordering.{nat_cmp}
use Rattle.std.specs.Map.{count_at}
use Rattle.std.specs.Option.{unwrap_or}
use Rattle.std.specs.BTreeMap.{BTreeMap, get, is_at}
use Rattle.std.proofs.lemmas.Bool.{cases_eq, ne_eqb}
use Rattle.std.proofs.lemmas.List.{length-append}
use Rattle.std.proofs.lemmas.Option.{same_Some}
use Rattle.order_law.specs.Book.{Entry}
use Rattle.order_law.specs.Reads.{entry_of, without, none_of_queue}
use Rattle.order_checker.specs.Slots.{one, of_queue, kept, entry_of_slot, waiting_from, AreCounted}
use Rattle.order_checker.specs.declared.waits.Slot.{Slot}
use Rattle.order_checker.proofs.SlotLemmas.{eq_same, apart}

none_by_count_step : (b : Bool) (rest : Bool) (n : ℕ) → rest ≡ (n == 0) → (not b && rest) ≡ ((one b + n) == 0)
none_by_count_step true rest n same = sym (ne_eqb (1 + n) 0 (λ e. omega (arith, e)))
none_by_count_step false rest n same = same ∙ ap (λ k. k == 0) (omega arith)

pub none_by_count : (q : ℕ) (ws : List Entry) → none_of_queue q ws ≡ (of_queue q ws == 0)
none_by_count q [] = sym (eq_same 0)
none_by_count q (w ∷ ws) = none_by_count_step (w.queue == q) (none_of_queue q ws) (of_queue q ws) (none_by_count q ws)

pub of_queue_push : (q : ℕ) (ws : List Entry) (w : Entry) → of_queue q (ws ++ w ∷ []) ≡ of_queue q ws + one (w.queue == q)
of_queue_push q [] w = omega arith
of_queue_push q (v ∷ ws) w = omega (arith, of_queue_push q ws w)

-- without one that is found

pub of_queue_without : (k q : ℕ) (ws : List Entry) (w : Entry) → entry_of k ws ≡ Some w → of_queue q ws ≡ one (w.queue == q) + of_queue q (without k ws)
of_queue_without k q [] w found = absurd (cc found)
of_queue_without k q (v ∷ ws) w found = by_test (of_queue_without k q ws w) (v.number == k) refl
  where
    by_test : (entry_of k ws ≡ Some w → of_queue q ws ≡ one (w.queue == q) + of_queue q (without k ws)) → (b : Bool) → (v.number == k) ≡ b
        → of_queue q (v ∷ ws) ≡ one (w.queue == q) + of_queue q (without k (v ∷ ws))
    by_test again true is =
        let e : v ≡ w = same_Some v w (ap (λ t. if t then Some v else entry_of k ws) (sym is) ∙ found) in
        ap (λ u. (one (u.queue == q)) + of_queue q ws) e ∙ ap (λ t. one (w.queue == q) + of_queue q (if t then ws else v ∷ without k ws)) (sym is)
    by_test again false is =
        let e : entry_of k ws ≡ Some w = ap (λ t. if t then Some v else entry_of k ws) (sym is) ∙ found in
        let rest : of_queue q ws ≡ one (w.queue == q) + of_queue q (without k ws) = again e in
        let here : of_queue q (v ∷ ws) ≡ one (w.queue == q) + of_queue q (v ∷ without k ws) = omega (arith, rest) in
        here ∙ ap (λ t. one (w.queue == q) + of_queue q (if t then ws else v ∷ without k ws)) (sym is)

pub length_without : (k : ℕ) (ws : List Entry) (w : Entry) → entry_of k ws ≡ Some w → length ws ≡ suc (length (without k ws))
length_without k [] w found = absurd (cc found)
length_without k (v ∷ ws) w found = by_test (length_without k ws w) (v.number == k) refl
  where
    by_test : (entry_of k ws ≡ Some w → length ws ≡ suc (length (without k ws))) → (b : Bool) → (v.number == k) ≡ b
        → length (v ∷ ws) ≡ suc (length (without k (v ∷ ws)))
    by_test again true is = ap (λ t. suc (length (if t then ws else v ∷ without k ws))) (sym is)
    by_test again false is =
        let e : entry_of k ws ≡ Some w = ap (λ t. if t then Some v else entry_of k ws) (sym is) ∙ found in
        ap suc (again e) ∙ ap (λ t. suc (length (if t then ws else v ∷ without k ws))) (sym is)

test_le : (b : Bool) → one b ≤ 1
test_le true = omega arith
test_le false = omega arith

of_queue_le : (q : ℕ) (ws : List Entry) → of_queue q ws ≤ length ws
of_queue_le q [] = omega arith
of_queue_le q (w ∷ ws) = omega (arith, of_queue_le q ws, test_le (w.queue == q))

pub told_le : (q : ℕ) (ws : List Entry) (told : BTreeMap ℕ ℕ) (count : ℕ) → AreCounted ws told count → count_at (get nat_cmp told) q ≤ count
told_le q ws told count are = omega (arith, are.all, are.queues q, of_queue_le q ws)

-- the counts after an enqueue, and after a take

pub counted_push : (ws : List Entry) (old new : BTreeMap ℕ ℕ) (count k m : ℕ) (w : Entry) → AreCounted ws old count → k ≡ w.queue
    → m ≡ count_at (get nat_cmp old) w.queue + 1
    → get nat_cmp new k ≡ Some m → ((q : ℕ) → is_at (nat_cmp k) q ≡ false → get nat_cmp new q ≡ get nat_cmp old q) → AreCounted (ws ++ w ∷ []) new (count + 1)
counted_push ws old new count k m w are key more here others =
    record {
      all = omega (arith, are.all, length-append ws (w ∷ []));
      queues = λ q. elim (cases_eq k q) [
        | inl same ↦
            let mine : w.queue ≡ q = sym key ∙ same in
            let now : count_at (get nat_cmp new) q ≡ m = ap (λ o. unwrap_or o 0) (ap (get nat_cmp new) (sym same) ∙ here) in
            let was : count_at (get nat_cmp old) w.queue ≡ of_queue q ws = ap (count_at (get nat_cmp old)) mine ∙ are.queues q in
            let test : one (w.queue == q) ≡ 1 = ap one (ap (λ n. n == q) mine ∙ eq_same q) in
            omega (arith, now, more, was, test, of_queue_push q ws w)
        | inr ne ↦
            let now : count_at (get nat_cmp new) q ≡ count_at (get nat_cmp old) q = ap (λ o. unwrap_or o 0) (others q (apart k q ne)) in
            let test : one (w.queue == q) ≡ 0 = ap one (ne_eqb w.queue q (λ e. ne (key ∙ e))) in
            omega (arith, now, are.queues q, test, of_queue_push q ws w)
      ];
    }

pub counted_take : (ws : List Entry) (old new : BTreeMap ℕ ℕ) (count number k m : ℕ) (w : Entry) → AreCounted ws old count → entry_of number ws ≡ Some w
    → k ≡ w.queue → m + 1 ≡ count_at (get nat_cmp old) w.queue
    → get nat_cmp new k ≡ Some m → ((q : ℕ) → is_at (nat_cmp k) q ≡ false → get nat_cmp new q ≡ get nat_cmp old q)
    → AreCounted (without number ws) new (count - 1)
counted_take ws old new count number k m w are found key less here others =
    record {
      all = omega (arith, are.all, length_without number ws w found);
      queues = λ q. elim (cases_eq k q) [
        | inl same ↦
            let mine : w.queue ≡ q = sym key ∙ same in
            let now : count_at (get nat_cmp new) q ≡ m = ap (λ o. unwrap_or o 0) (ap (get nat_cmp new) (sym same) ∙ here) in
            let was : count_at (get nat_cmp old) w.queue ≡ of_queue q ws = ap (count_at (get nat_cmp old)) mine ∙ are.queues q in
            let test : one (w.queue == q) ≡ 1 = ap one (ap (λ n. n == q) mine ∙ eq_same q) in
            omega (arith, now, less, was, test, of_queue_without number q ws w found)
        | inr ne ↦
            let now : count_at (get nat_cmp new) q ≡ count_at (get nat_cmp old) q = ap (λ o. unwrap_or o 0) (others q (apart k q ne)) in
            let test : one (w.queue == q) ≡ 0 = ap one (ne_eqb w.queue q (λ e. ne (key ∙ e))) in
            omega (arith, now, are.queues q, test, of_queue_without number q ws w found)
      ];
    }

-- a queue with which one that waits was told has a count
pub told_one : (ws : List Entry) (told : BTreeMap ℕ ℕ) (count number : ℕ) (w : Entry) → AreCounted ws told count → entry_of number ws ≡ Some w
    → 1 ≤ count_at (get nat_cmp told) w.queue
told_one ws told count number w are found =
    let test : one (w.queue == w.queue) ≡ 1 = ap one (eq_same w.queue) in
    omega (arith, are.queues w.queue, of_queue_without number w.queue ws w found, test)

kept_le : (b : Bool) (w : Entry) (ws : List Entry) (n : ℕ) → length ws ≤ n → length (kept b w ws) ≤ suc n
kept_le true w ws n le = omega (arith, le)
kept_le false w ws n le = omega (arith, le)

pub waiting_le : (r : ℕ) (ss : List Slot) → length (waiting_from r ss) ≤ length ss
waiting_le r [] = omega arith
waiting_le r (s ∷ ss) = kept_le s.waits (entry_of_slot r s) (waiting_from (suc r) ss) (length ss) (waiting_le (suc r) ss)
