-- The actions of a callback's body stand where they are said to.
use Rattle.std.proofs.Common.{◌≡◌, ◌≢◌, ◌<◌, ◌+◌, ◌++◌, ◌∷◌, [], ℕ, zero, suc, Bool, true, false, List, None, Some, length, get_or, drop, sym, refl, ap, subst}
use Rattle.std.proofs.Common.{◌∙◌, arith}
use Rattle.std.specs.Prelude.{slice_get, slice_set, if◌then◌else◌}
use Rattle.rule_tokens.specs.Callbacks.{all_calls}
use Rattle.rule_tokens.specs.declared.callback.CallName.{CallName}
use Rattle.rule_tokens.specs.declared.callback.CallName.TheVariants.{Constructor}
use Rattle.rule_lines.specs.Acts.{Act, act_of}
use Rattle.rule_lines.specs.declared.action.Action.{Action}
use Rattle.reaction_queue.specs.Queues.{or_empty}
use Rattle.ce_registry.specs.ClassFacts.{place_of}
use Rattle.ce_algorithms.specs.Body.{actions_of, same_call}
use Rattle.class_bodies.specs.Bodies.{ArePlaced, kept_for, lines_of, places_from}
use Rattle.ce_algorithms.proofs.CallNames.{same_is, same_self}

-- callbacks are told by their places

in_order : (a : CallName) → slice_get all_calls (place_of a) ≡ Some a
in_order Constructor = refl
in_order a = refl

place_tells : (a b : CallName) → place_of a ≡ place_of b → a ≡ b
place_tells a b e = let h : Some a ≡ Some b = sym (in_order a) ∙ ap (slice_get all_calls) e ∙ in_order b in cc

other_place : (a b : CallName) → same_call a b ≡ false → place_of a ≢ place_of b
other_place a b e same = let h : true ≡ false = sym (same_self a) ∙ ap (same_call a) (place_tells a b same) ∙ e in cc

-- a line more

own_more : (call c : CallName) (a : Act) → same_call c call ≡ true → (i : ℕ) (lines : List (CallName × Act))
    → places_from call i (lines ++ (c, a) ∷ []) ≡ places_from call i lines ++ (i + length lines) ∷ []
own_more call c a e i [] = let same : i ≡ i + 0 = omega arith in ap (λ b. if b then i ∷ [] else []) e ∙ ap (λ (n : ℕ). n ∷ []) same
own_more call c a e i (l ∷ lines) =
    let same : i + 1 + length lines ≡ i + length (l ∷ lines) = omega arith in
    go (same_call l.0 call) (own_more call c a e (i + 1) lines ∙ ap (λ (n : ℕ). places_from call (i + 1) lines ++ n ∷ []) same)
  where
    go : (b : Bool) → places_from call (i + 1) (lines ++ (c, a) ∷ []) ≡ places_from call (i + 1) lines ++ (i + length (l ∷ lines)) ∷ []
        → (if b then i ∷ places_from call (i + 1) (lines ++ (c, a) ∷ []) else places_from call (i + 1) (lines ++ (c, a) ∷ []))
        ≡ (if b then i ∷ places_from call (i + 1) lines else places_from call (i + 1) lines) ++ (i + length (l ∷ lines)) ∷ []
    go true h = ap (λ ps. i ∷ ps) h
    go false h = h

other_more : (call c : CallName) (a : Act) → same_call c call ≡ false → (i : ℕ) (lines : List (CallName × Act))
    → places_from call i (lines ++ (c, a) ∷ []) ≡ places_from call i lines
other_more call c a e i [] = ap (λ b. if b then i ∷ [] else []) e
other_more call c a e i (l ∷ lines) = ap (λ ps. if same_call l.0 call then i ∷ ps else ps) (other_more call c a e (i + 1) lines)

-- members of lists

member : {X : Type 0} (xs : List (List X)) (k : ℕ) (x : List X) → k < length xs → x ≡ get_or xs k x → or_empty (slice_get xs k) ≡ x
member [] k x within is = absurd (omega arith)
member (z ∷ xs) zero x within is = sym is
member (z ∷ xs) (suc k) x within is = let less : k < length xs = omega arith in member xs k x less is

put_own : {X : Type 0} (xs : List (List X)) (k : ℕ) (x : List X) → k < length xs → or_empty (slice_get (slice_set xs k x) k) ≡ x
put_own [] k x within = absurd (omega arith)
put_own (z ∷ xs) zero x within = refl
put_own (z ∷ xs) (suc k) x within = let less : k < length xs = omega arith in put_own xs k x less

put_other : {X : Type 0} (xs : List (List X)) (k j : ℕ) (x : List X) → k ≢ j → or_empty (slice_get (slice_set xs k x) j) ≡ or_empty (slice_get xs j)
put_other [] k j x other = refl
put_other (z ∷ xs) zero zero x other = absurd (other refl)
put_other (z ∷ xs) zero (suc j) x other = refl
put_other (z ∷ xs) (suc k) zero x other = refl
put_other (z ∷ xs) (suc k) (suc j) x other = put_other xs k j x (λ e. other (ap suc e))

-- how many lines there are
lines_many : (xs : List (CallName × Action)) → length (lines_of xs) ≡ length xs
lines_many [] = refl
lines_many (z ∷ xs) = ap suc (lines_many xs)

lines_append : (xs : List (CallName × Action)) (x : CallName × Action) → lines_of (xs ++ x ∷ []) ≡ lines_of xs ++ (x.0, act_of x.1) ∷ []
lines_append [] x = refl
lines_append (z ∷ xs) x = ap (λ (ls : List (CallName × Act)). (z.0, act_of z.1) ∷ ls) (lines_append xs x)

-- a line is put behind the others, and its place behind those of its callback
module _ (xs ys : List (CallName × Action)) (places : List (List ℕ)) (call : CallName) (action : Action) (k n : ℕ) (old new : List ℕ)
    (k_is : k ≡ place_of call) (within : k < length places) (old_is : old ≡ get_or places k old) (n_is : n ≡ length xs) (new_is : new ≡ old ++ n ∷ [])
    (ys_is : ys ≡ xs ++ (call, action) ∷ []) (placed : ArePlaced (lines_of xs) places) where
  own_placed : kept_for call (slice_set places k new) ≡ places_from call 0 (lines_of xs ++ (call, act_of action) ∷ [])
  own_placed =
      let many : n ≡ 0 + length (lines_of xs) = (let e = lines_many xs in omega arith) in
      ap (λ (j : ℕ). or_empty (slice_get (slice_set places k new) j)) (sym k_is)
      ∙ put_own places k new within
      ∙ new_is
      ∙ ap (λ (ps : List ℕ). ps ++ n ∷ []) (sym (member places k old within old_is) ∙ ap (λ (j : ℕ). or_empty (slice_get places j)) k_is ∙ placed call)
      ∙ ap (λ (m : ℕ). places_from call 0 (lines_of xs) ++ m ∷ []) many
      ∙ sym (own_more call call (act_of action) (same_self call) 0 (lines_of xs))

  other_placed : (c : CallName) → same_call call c ≡ false → kept_for c (slice_set places k new) ≡ places_from c 0 (lines_of xs ++ (call, act_of action) ∷ [])
  other_placed c e =
      put_other places k (place_of c) new (λ (same : k ≡ place_of c). other_place call c e (sym k_is ∙ same))
      ∙ placed c ∙ sym (other_more c call (act_of action) e 0 (lines_of xs))

  each_placed : (c : CallName) (b : Bool) → same_call call c ≡ b
      → kept_for c (slice_set places k new) ≡ places_from c 0 (lines_of xs ++ (call, act_of action) ∷ [])
  each_placed c true e = subst (λ (d : CallName). kept_for d (slice_set places k new) ≡ places_from d 0 (lines_of xs ++ (call, act_of action) ∷ []))
      (same_is call c e) own_placed
  each_placed c false e = other_placed c e

  pub placed_more : ArePlaced (lines_of ys) (slice_set places k new)
  placed_more c = each_placed c (same_call call c) refl
      ∙ ap (λ (ls : List (CallName × Act)). places_from c 0 ls) (sym (ap lines_of ys_is ∙ lines_append xs (call, action)))

-- an action is found

record Found (call : CallName) (lines : List (CallName × Act)) (i index p : ℕ) : Type 0 where
  pub at : ℕ
  pub is : p ≡ i + at
  pub within : at < length lines
  pub next : (d : CallName × Act) → drop index (actions_of call lines) ≡ (get_or lines at d).1 ∷ drop (suc index) (actions_of call lines)

finds : (call : CallName) (lines : List (CallName × Act)) (i index p : ℕ) → slice_get (places_from call i lines) index ≡ Some p → Found call lines i index p
finds call [] i index p e = absurd (let h : None ≡ Some p = e in cc)
finds call (l ∷ lines) i index p e = let f =
    go (same_call l.0 call) index (finds call lines (i + 1)) e in record { at = f.0; is = f.1; within = f.2; next = f.3 }
  where
    go : (b : Bool) (index : ℕ) → ((index p : ℕ) → slice_get (places_from call (i + 1) lines) index ≡ Some p → Found call lines (i + 1) index p)
        → slice_get (if b then i ∷ places_from call (i + 1) lines else places_from call (i + 1) lines) index ≡ Some p
        → (at : ℕ) × (p ≡ i + at) × (at < length (l ∷ lines)) × ((d : CallName × Act)
        → drop index (if b then l.1 ∷ actions_of call lines else actions_of call lines)
        ≡ (get_or (l ∷ lines) at d).1 ∷ drop (suc index) (if b then l.1 ∷ actions_of call lines else actions_of call lines))
    go true zero on e = let same : i ≡ p = cc in (0, omega arith, omega arith, λ d. refl)
    go true (suc index) on e = let f = on index p e in (suc f.at, let h = f.is in omega arith, let h = f.within in omega arith, f.next)
    go false index on e = let f = on index p e in (suc f.at, let h = f.is in omega arith, let h = f.within in omega arith, f.next)

ends : (call : CallName) (lines : List (CallName × Act)) (i index : ℕ) → slice_get (places_from call i lines) index ≡ None
    → drop index (actions_of call lines) ≡ []
ends call [] i zero e = refl
ends call [] i (suc index) e = refl
ends call (l ∷ lines) i index e = go (same_call l.0 call) index (ends call lines (i + 1)) e
  where
    go : (b : Bool) (index : ℕ) → ((index : ℕ) → slice_get (places_from call (i + 1) lines) index ≡ None → drop index (actions_of call lines) ≡ [])
        → slice_get (if b then i ∷ places_from call (i + 1) lines else places_from call (i + 1) lines) index ≡ None
        → drop index (if b then l.1 ∷ actions_of call lines else actions_of call lines) ≡ []
    go true zero on e = absurd (let h : Some i ≡ None = e in cc)
    go true (suc index) on e = on index e
    go false index on e = on index e

-- the line at a place, without where its inner action lies in memory
line_at : (xs : List (CallName × Action)) (k : ℕ) (x : CallName × Action) → k < length xs → x ≡ get_or xs k x
    → get_or (lines_of xs) k (x.0, act_of x.1) ≡ (x.0, act_of x.1)
line_at [] k x within is = absurd (omega arith)
line_at (z ∷ xs) zero x within is = ap (λ (y : CallName × Action). (y.0, act_of y.1)) (sym is)
line_at (z ∷ xs) (suc k) x within is = let less : k < length xs = omega arith in line_at xs k x less is

module _ (xs : List (CallName × Action)) (places : List (List ℕ)) (call : CallName) (k : ℕ) (kept : List ℕ) (index : ℕ)
    (k_is : k ≡ place_of call) (within : k < length places) (is : kept ≡ get_or places k kept) (placed : ArePlaced (lines_of xs) places) where
  kept_is : kept ≡ places_from call 0 (lines_of xs)
  kept_is = sym (member places k kept within is) ∙ ap (λ (j : ℕ). or_empty (slice_get places j)) k_is ∙ placed call

  found_in : (p : ℕ) → Some p ≡ slice_get kept index → Found call (lines_of xs) 0 index p
  found_in p e = finds call (lines_of xs) 0 index p (ap (λ (ps : List ℕ). slice_get ps index) (sym kept_is) ∙ sym e)

  pub body_within : (p : ℕ) → Some p ≡ slice_get kept index → p < length xs
  body_within p e = let f = found_in p e in let same = f.is in let less = f.within in let many = lines_many xs in omega arith

  pub body_at : (p : ℕ) (x : CallName × Action) → Some p ≡ slice_get kept index → x ≡ get_or xs p x
      → drop index (actions_of call (lines_of xs)) ≡ act_of x.1 ∷ drop (index + 1) (actions_of call (lines_of xs))
  body_at p x e at =
      let f = found_in p e in
      let same : f.at ≡ p = (let h = f.is in omega arith) in
      let one : suc index ≡ index + 1 = omega arith in
      f.next (x.0, act_of x.1)
      ∙ ap (λ (q : ℕ). (get_or (lines_of xs) q (x.0, act_of x.1)).1 ∷ drop (suc index) (actions_of call (lines_of xs))) same
      ∙ ap (λ (l : CallName × Act). l.1 ∷ drop (suc index) (actions_of call (lines_of xs))) (line_at xs p x (body_within p e) at)
      ∙ ap (λ (n : ℕ). act_of x.1 ∷ drop n (actions_of call (lines_of xs))) one

  pub body_ends : None ≡ slice_get kept index → drop index (actions_of call (lines_of xs)) ≡ []
  body_ends e = ends call (lines_of xs) 0 index (ap (λ (ps : List ℕ). slice_get ps index) (sym kept_is) ∙ sym e)
