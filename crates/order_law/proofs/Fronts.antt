-- Fronts of lawful logs.
use Rattle.std.specs.Prelude.{◌≡◌, Bool, true, false, ◌&&◌, List, [], ◌∷◌, ◌++◌, refl}
use Rattle.ce_events.specs.declared.event.Event.{Event}
use Rattle.order_law.specs.Book.{Book, blank}
use Rattle.order_law.specs.After.{after}
use Rattle.order_law.specs.Law.{may_come, is_lawful, Lawful}
use Rattle.std.specs.Cmp.Derive.{both_true}

pub left_true : (a b : Bool) → a && b ≡ true → a ≡ true
left_true true b h = refl
left_true false b h = h

pub right_true : (a b : Bool) → a && b ≡ true → b ≡ true
right_true true b h = h
right_true false b h = absurd (let k : false ≡ true = h in cc)

pub false_true : {A : Type 0} → false ≡ true → A
false_true h = absurd cc

pub front_from : (b : Book) (front rest : List Event) → is_lawful b (front ++ rest) ≡ true → is_lawful b front ≡ true
front_from b [] rest h = refl
front_from b (e ∷ front) rest h =
    let more = is_lawful (after b e) (front ++ rest) in
    both_true (left_true (may_come b e) more h) (front_from (after b e) front rest (right_true (may_come b e) more h))

pub front_lawful : (front rest : List Event) → Lawful (front ++ rest) → Lawful front
front_lawful front rest h = front_from blank front rest h
