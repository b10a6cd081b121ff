-- Nodes in hand: they stay nodes, whatever is done. So steps know of them that they are, and forget them in the end.
use Rattle.std.proofs.Common.{◌≡◌, ℕ, List, [], ◌∷◌, length, inl, inr, subst, arith, refl}
use Rattle.std.specs.Prelude.{◌⊎◌}
use Rattle.std.specs.List.{AllByRecursion as Each}
use Rattle.ce_events.specs.declared.event.Event.{Event}
use Rattle.ce_algorithms.specs.Page.{Page, Element}
use Rattle.ce_algorithms.specs.State.{State}
use Rattle.order_law.proofs.Model.Sound.{IsRow}
use Rattle.order_law.proofs.Model.Invariant.{Hold, InSteps, InDrain, InReaction, InUpgrade, InHand, Known, Ongoing, Holds, HoldsIn}

abbrev pub with_hands : List ℕ → List Hold → List Hold
with_hands [] h = h
with_hands (n ∷ ns) h = InHand n ∷ with_hands ns h

-- at hand somewhere: of a reaction or an upgrade, or in hand
abbrev pub IsHeld : ℕ → List Hold → Type 0
IsHeld n [] = ⊥
IsHeld n (InSteps q ∷ h) = IsHeld n h
IsHeld n (InDrain q ns ∷ h) = IsHeld n h
IsHeld n (InReaction w called ∷ h) = (w.element ≡ n) ⊎ IsHeld n h
IsHeld n (InUpgrade m ∷ h) = (m ≡ n) ⊎ IsHeld n h
IsHeld n (InHand m ∷ h) = (m ≡ n) ⊎ IsHeld n h

known_is_row : (rows : List Element) (n : ℕ) → Known rows n → IsRow (length rows) n
known_is_row rows n k = record { low = omega (arith, k.low); high = k.high }

held_going : (n : ℕ) (ups : List ℕ) (rows : List Element) (h : List Hold) → IsHeld n h → Ongoing ups rows h → IsRow (length rows) n
held_going n ups rows [] held o = absurd held
held_going n ups rows (InSteps q ∷ h) held o = held_going n ups rows h held o
held_going n ups rows (InDrain q ns ∷ h) held o = held_going n ups rows h held o
held_going n ups rows (InReaction w called ∷ h) (inl same) o = subst (IsRow (length rows)) same (known_is_row rows w.element o.0)
held_going n ups rows (InReaction w called ∷ h) (inr held) o = held_going n ups rows h held o.1
held_going n ups rows (InUpgrade m ∷ h) (inl same) o = subst (IsRow (length rows)) same (known_is_row rows m o.0)
held_going n ups rows (InUpgrade m ∷ h) (inr held) o = held_going n ups rows h held o.2
held_going n ups rows (InHand m ∷ h) (inl same) o = subst (IsRow (length rows)) same o.0
held_going n ups rows (InHand m ∷ h) (inr held) o = held_going n ups rows h held o.1

pub held_row : (n : ℕ) (h : List Hold) (l : List Event) (p : Page) → IsHeld n h → Holds h l p → IsRow (length p.elements) n
held_row n h l p held k = held_going n k.book.upgraded p.elements h held k.elements.ongoing

pub held_under : (ns : List ℕ) (n : ℕ) (h : List Hold) → IsHeld n h → IsHeld n (with_hands ns h)
held_under [] n h held = held
held_under (m ∷ ns) n h held = inr (held_under ns n h held)

pub all_under : (ms ns : List ℕ) (h : List Hold) → Each (λ n. IsHeld n h) ns → Each (λ n. IsHeld n (with_hands ms h)) ns
all_under ms [] h held = tt
all_under ms (n ∷ ns) h held = (held_under ms n h held.0, all_under ms ns h held.1)

-- the nodes that were taken
pub all_taken : (ns : List ℕ) (h : List Hold) → Each (λ n. IsHeld n (with_hands ns h)) ns
all_taken [] h = tt
all_taken (n ∷ ns) h = (inl refl, all_under (n ∷ []) ns (with_hands ns h) (all_taken ns h))

-- all of them
pub all_rows : (ns : List ℕ) (h : List Hold) (l : List Event) (p : Page) → Each (λ n. IsHeld n h) ns → Holds h l p → Each (IsRow (length p.elements)) ns
all_rows [] h l p held k = tt
all_rows (n ∷ ns) h l p held k = (held_row n h l p held.0 k, all_rows ns h l p held.1 k)

take_one : (n : ℕ) (h : List Hold) (l : List Event) (p : Page) → IsRow (length p.elements) n → Holds h l p → Holds (InHand n ∷ h) l p
take_one n h l p row k = record {
  book = k.book;
  reads = k.reads;
  over = k.over;
  dropping = k.dropping;
  queues = let q = k.queues in record {
    numbers = q.numbers;
    queues = q.queues;
    rising = q.rising;
    below = q.below;
    waits = q.waits;
    brackets = q.brackets;
    opens = q.opens;
    falls = q.falls;
    placed = q.placed;
    owed = q.owed;
  };
  elements = let e = k.elements in
      record {
        known = e.known;
        defined = e.defined;
        unset = e.unset;
        upgraded = e.upgraded;
        thrown = e.thrown;
        document = e.document;
        ongoing = (row, e.ongoing);
      };
}

drop_one : (n : ℕ) (h : List Hold) (l : List Event) (p : Page) → Holds (InHand n ∷ h) l p → Holds h l p
drop_one n h l p k = record {
  book = k.book;
  reads = k.reads;
  over = k.over;
  dropping = k.dropping;
  queues = let q = k.queues in record {
    numbers = q.numbers;
    queues = q.queues;
    rising = q.rising;
    below = q.below;
    waits = q.waits;
    brackets = q.brackets;
    opens = q.opens;
    falls = q.falls;
    placed = q.placed;
    owed = q.owed;
  };
  elements = let e = k.elements in
      record { known = e.known; defined = e.defined; unset = e.unset; upgraded = e.upgraded; thrown = e.thrown; document = e.document; ongoing = e.ongoing.1 };
}

-- below the steps of an operation
take_below : (n m : ℕ) (h : List Hold) (l : List Event) (p : Page) → IsRow (length p.elements) n → Holds (InSteps m ∷ h) l p →
    Holds (InSteps m ∷ InHand n ∷ h) l p
take_below n m h l p row k = record {
  book = k.book;
  reads = k.reads;
  over = k.over;
  dropping = k.dropping;
  queues = let q = k.queues in record {
    numbers = q.numbers;
    queues = q.queues;
    rising = q.rising;
    below = q.below;
    waits = q.waits;
    brackets = q.brackets;
    opens = q.opens;
    falls = q.falls;
    placed = q.placed;
    owed = q.owed;
  };
  elements = let e = k.elements in
      record {
        known = e.known;
        defined = e.defined;
        unset = e.unset;
        upgraded = e.upgraded;
        thrown = e.thrown;
        document = e.document;
        ongoing = (row, e.ongoing);
      };
}

-- nodes taken into the hand
pub take_hands : (ns : List ℕ) (h : List Hold) (l : List Event) (p : Page) → Each (IsRow (length p.elements)) ns → Holds h l p → Holds (with_hands ns h) l p
take_hands [] h l p rows k = k
take_hands (n ∷ ns) h l p rows k = take_one n (with_hands ns h) l p rows.0 (take_hands ns h l p rows.1 k)

pub take_hands_below : (ns : List ℕ) (m : ℕ) (h : List Hold) (l : List Event) (p : Page) → Each (IsRow (length p.elements)) ns →
    Holds (InSteps m ∷ h) l p → Holds (InSteps m ∷ with_hands ns h) l p
take_hands_below [] m h l p rows k = k
take_hands_below (n ∷ ns) m h l p rows k = take_below n m (with_hands ns h) l p rows.0 (take_hands_below ns m h l p rows.1 k)

-- and let go
pub drop_hands : (ns : List ℕ) (h : List Hold) (l : List Event) (p : Page) → Holds (with_hands ns h) l p → Holds h l p
drop_hands [] h l p k = k
drop_hands (n ∷ ns) h l p k = drop_hands ns h l p (drop_one n (with_hands ns h) l p k)

-- what is in hand is a node
pub hand_rows : (ns : List ℕ) (h : List Hold) (l : List Event) (p : Page) → Holds (with_hands ns h) l p → Each (IsRow (length p.elements)) ns
hand_rows [] h l p k = tt
hand_rows (n ∷ ns) h l p k = (k.elements.ongoing.0, hand_rows ns h l p (drop_one n (with_hands ns h) l p k))

-- in a state
pub take_in : (ns : List ℕ) (h : List Hold) (s : State) → Each (IsRow (length s.page.elements)) ns → HoldsIn h s → HoldsIn (with_hands ns h) s
take_in ns h s rows k = record { holds = take_hands ns h s.log s.page rows k.holds; notes = k.notes; rest = k.rest }

pub take_in_below : (ns : List ℕ) (m : ℕ) (h : List Hold) (s : State) → Each (IsRow (length s.page.elements)) ns → HoldsIn (InSteps m ∷ h) s →
    HoldsIn (InSteps m ∷ with_hands ns h) s
take_in_below ns m h s rows k = record { holds = take_hands_below ns m h s.log s.page rows k.holds; notes = k.notes; rest = k.rest }

pub drop_in : (ns : List ℕ) (h : List Hold) (s : State) → HoldsIn (with_hands ns h) s → HoldsIn h s
drop_in ns h s k = record { holds = drop_hands ns h s.log s.page k.holds; notes = k.notes; rest = k.rest }
