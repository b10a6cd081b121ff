-- All reactions of a log in the order of their numbers, and which of them wait.
use Rattle.std.specs.Prelude.{◌≡◌, ◌≢◌, ◌<◌, ◌≤◌, ℕ, zero, suc, ◌+◌, ◌==◌, Bool, true, false, List, [], ◌∷◌, length, Option, Some, None}
use Rattle.std.specs.List.{slice_get}
use Rattle.std.specs.Ordering.{nat_cmp}
use Rattle.std.specs.Map.{count_at}
use Rattle.std.specs.BTreeMap.{BTreeMap, get}
use Rattle.order_checker.specs.declared.waits.Slot.{Slot}
use Rattle.order_law.specs.Book.{Entry}

-- how many were enqueued, and which of them wait
pub record Waiting : Type 0 where
  pub numbers : ℕ
  pub entries : List Entry

abbrev pub entry_of_slot : ℕ → Slot → Entry
entry_of_slot r s = record { number = r; element = s.element; what = s.what; queue = s.queue }

-- an entry that waits, or does not, before others
abbrev pub kept : Bool → Entry → List Entry → List Entry
kept true w ws = w ∷ ws
kept false w ws = ws

-- those that wait, where the first has this number
abbrev pub waiting_from : ℕ → List Slot → List Entry
waiting_from r [] = []
waiting_from r (s ∷ ss) = kept s.waits (entry_of_slot r s) (waiting_from (suc r) ss)

-- the number that the element got last among the first m; 0 where it got none
pub record LastOf (n m : ℕ) (slots : List Slot) (p : ℕ) : Type 0 where
  pub later : (i : ℕ) (s : Slot) → slice_get slots i ≡ Some s → p ≤ i → i < m → s.element ≢ n
  pub here : (q : ℕ) → p ≡ suc q → (q < m) × ((s : Slot) × (slice_get slots q ≡ Some s) × (s.element ≡ n))

-- each slot knows the number before it of its element, and what waits of an element is what it got last
pub record AreLinked (slots : List Slot) : Type 0 where
  pub linked : (i : ℕ) (s : Slot) → slice_get slots i ≡ Some s → LastOf s.element i slots s.previous
  pub in_order : (i j : ℕ) (s t : Slot) → slice_get slots i ≡ Some s → slice_get slots j ≡ Some t → i < j → s.element ≡ t.element
      → s.waits ≡ true → t.waits ≡ true

abbrev pub one : Bool → ℕ
one true = 1
one false = 0

-- how many were told with a queue
abbrev pub of_queue : ℕ → List Entry → ℕ
of_queue q [] = 0
of_queue q (w ∷ ws) = one (w.queue == q) + of_queue q ws

-- the number that each element got last is at hand
pub record AreKnown (slots : List Slot) (last : BTreeMap ℕ ℕ) : Type 0 where
  pub links : AreLinked slots
  pub lasts : (n : ℕ) → LastOf n (length slots) slots (count_at (get nat_cmp last) n)

-- how many wait is at hand, and how many of each queue
pub record AreCounted (entries : List Entry) (told : BTreeMap ℕ ℕ) (count : ℕ) : Type 0 where
  pub all : count ≡ length entries
  pub queues : (q : ℕ) → count_at (get nat_cmp told) q ≡ of_queue q entries

abbrev pub waits_in : Option Slot → Bool
waits_in None = false
waits_in (Some s) = s.waits

-- the reaction of this number waits
abbrev pub waits_at : List Slot → ℕ → Bool
waits_at slots zero = false
waits_at slots (suc i) = waits_in (slice_get slots i)
