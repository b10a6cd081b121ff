-- Lists at places: reaction queues, and rows of elements.
use Rattle.std.proofs.Common.{◌≡◌, ◌≢◌, ℕ, zero, suc, ◌-◌, ◌≤◌, false, List, [], ◌∷◌, refl, ap, arith}
use Rattle.std.specs.Prelude.{slice_set, ◌==◌}
use Rattle.std.proofs.lemmas.Bool.{eqb-false}
use Rattle.std.proofs.lemmas.List.{length-set}
use Rattle.reaction_queue.specs.declared.reaction.Reaction.{Reaction}
use Rattle.reaction_queue.specs.Queues.{Queues, waiting_at, with_waiting}
use Rattle.reaction_queue.proofs.PlaceLemmas.{list_same, list_other}
use Rattle.ce_algorithms.specs.Page.{Page, Element, element_of, or_uncustomized, with_element}
use Rattle.order_law.proofs.Model.Invariant.{Known}
use Rattle.ce_base.proofs.Places.{set_within, set_other}

-- places of elements differ
apart : (n m : ℕ) → 2 ≤ n → n == m ≡ false → n - 1 ≢ m - 1
apart n m le h k = let d = eqb-false n m h in d (omega (arith, le, k))

pub waits_same : (n : ℕ) (xs : List (ℕ × Reaction)) (q : Queues) → waiting_at (with_waiting n xs q) n ≡ xs
waits_same n xs q = list_same (n - 1) xs q.waiting

pub waits_other : (n m : ℕ) (xs : List (ℕ × Reaction)) (q : Queues) → 2 ≤ n → n == m ≡ false → waiting_at (with_waiting n xs q) m ≡ waiting_at q m
waits_other n m xs q le h = list_other (n - 1) (m - 1) xs q.waiting (apart n m le h)

slice_twice : {A : Type 0} (xs : List A) (i : ℕ) (x y : A) → slice_set (slice_set xs i x) i y ≡ slice_set xs i y
slice_twice [] i x y = refl
slice_twice (z ∷ xs) zero x y = refl
slice_twice (z ∷ xs) (suc i) x y = ap (λ l. z ∷ l) (slice_twice xs i x y)

pub row_same : (p : Page) (n : ℕ) (e : Element) → Known p.elements n → element_of (with_element n e p) n ≡ e
row_same p n e k = ap or_uncustomized (set_within p.elements (n - 1) e (omega (arith, k.low, k.high)))

pub row_other : (p : Page) (n m : ℕ) (e : Element) → Known p.elements n → n == m ≡ false → element_of (with_element n e p) m ≡ element_of p m
row_other p n m e k h = ap or_uncustomized (set_other p.elements (n - 1) (m - 1) e (apart n m k.low h))

pub row_twice : (p : Page) (n : ℕ) (d e : Element) → with_element n e (with_element n d p) ≡ with_element n e p
row_twice p n d e = ap (λ l. record p { elements = l }) (slice_twice p.elements (n - 1) d e)

pub known_row : (p : Page) (n m : ℕ) (e : Element) → Known p.elements m → Known (with_element n e p).elements m
known_row p n m e k = let l = length-set p.elements (n - 1) e in record { low = k.low; high = omega (arith, k.high, l) }
