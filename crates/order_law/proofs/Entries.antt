-- Lists of reactions that wait.
use Rattle.std.proofs.Common.{◌≡◌, ℕ, ◌<◌, ◌≤◌, Bool, true, false, List, [], ◌∷◌, ◌++◌, Some, refl, sym, ap, ◌∙◌, subst, arith, ⊎_elim, inl, inr}
use Rattle.std.specs.Prelude.{◌⊎◌, ◌==◌, ◌&&◌, not, if◌then◌else◌}
use Rattle.std.proofs.lemmas.Bool.{eqb-true, eqb-false, eq-eqb}
use Rattle.order_law.specs.Book.{Entry}
use Rattle.order_law.specs.Reads.{entry_of, without, none_of_element, none_of_queue, is_first}
use Rattle.order_law.proofs.Fronts.{right_true}

-- a number is one of these
abbrev pub IsIn : ℕ → List ℕ → Type 0
IsIn n [] = ⊥
IsIn n (x ∷ xs) = (x ≡ n) ⊎ IsIn n xs

-- a reaction is one of these
abbrev pub IsAmong : Entry → List Entry → Type 0
IsAmong v [] = ⊥
IsAmong v (w ∷ ws) = (w ≡ v) ⊎ IsAmong v ws

-- their numbers rise
abbrev pub Rising : ℕ → List Entry → Type 0
Rising low [] = Unit {0}
Rising low (w ∷ ws) = (low < w.number) × Rising w.number ws

pub rising_above : (low : ℕ) (ws : List Entry) (v : Entry) → Rising low ws → IsAmong v ws → low < v.number
rising_above low (w ∷ ws) v h (inl i) = subst (λ x. low < x.number) i h.0
rising_above low (w ∷ ws) v h (inr i) = let k = rising_above w.number ws v h.1 i in omega (arith, h.0, k)
rising_above low [] v h i = absurd i

rising_lower : (low l : ℕ) (ws : List Entry) → l ≤ low → Rising low ws → Rising l ws
rising_lower low l [] le h = tt
rising_lower low l (w ∷ ws) le h = (omega (arith, le, h.0), h.1)

pub rising_without : (low r : ℕ) (ws : List Entry) → Rising low ws → Rising low (without r ws)
rising_without low r [] h = tt
rising_without low r (w ∷ ws) h = go (w.number == r) (rising_without w.number r ws h.1)
  where
    go : (t : Bool) → Rising w.number (without r ws) → Rising low (if t then ws else w ∷ without r ws)
    go true k = rising_lower w.number low ws (omega (arith, h.0)) h.1
    go false k = (h.0, k)

pub rising_append : (low m : ℕ) (ws : List Entry) (v : Entry) → Rising low ws → ((w : Entry) → IsAmong w ws → w.number ≤ m) → low ≤ m →
    m < v.number → Rising low (ws ++ v ∷ [])
rising_append low m [] v h all le lt = (omega (arith, le, lt), tt)
rising_append low m (w ∷ ws) v h all le lt = (h.0, rising_append w.number m ws v h.1 (λ x i. all x (inr i)) (all w (inl refl)) lt)

-- one that stands last
pub among_append : (ws : List Entry) (v w : Entry) → IsAmong w (ws ++ v ∷ []) → IsAmong w ws ⊎ (v ≡ w)
among_append [] v w i = ⊎_elim (λ j. inr j) (λ j. absurd j) i
among_append (x ∷ ws) v w (inl i) = inl (inl i)
among_append (x ∷ ws) v w (inr i) = ⊎_elim (λ j. inl (inr j)) (λ j. inr j) (among_append ws v w i)

pub among_more : (ws : List Entry) (v w : Entry) → IsAmong w ws → IsAmong w (ws ++ v ∷ [])
among_more (x ∷ ws) v w (inl i) = inl i
among_more (x ∷ ws) v w (inr i) = inr (among_more ws v w i)
among_more [] v w i = absurd i

pub among_last : (ws : List Entry) (v : Entry) → IsAmong v (ws ++ v ∷ [])
among_last [] v = inl refl
among_last (x ∷ ws) v = inr (among_last ws v)

-- all but one
pub among_without : (r : ℕ) (ws : List Entry) (v : Entry) → IsAmong v (without r ws) → IsAmong v ws
among_without r [] v i = i
among_without r (w ∷ ws) v i = go (w.number == r) (among_without r ws v) i
  where
    go : (t : Bool) → (IsAmong v (without r ws) → IsAmong v ws) → IsAmong v (if t then ws else w ∷ without r ws) → IsAmong v (w ∷ ws)
    go true k j = inr j
    go false k j = ⊎_elim (λ x. inl x) (λ x. inr (k x)) j

pub without_among : (r : ℕ) (ws : List Entry) (v : Entry) → (v.number ≡ r → ⊥) → IsAmong v ws → IsAmong v (without r ws)
without_among r [] v other i = i
without_among r (w ∷ ws) v other i = go (w.number == r) refl i (without_among r ws v other)
  where
    go : (t : Bool) → w.number == r ≡ t → IsAmong v (w ∷ ws) → (IsAmong v ws → IsAmong v (without r ws)) → IsAmong v (if t then ws else w ∷ without r ws)
    go true e (inl j) k = absurd (other (subst (λ x. x.number ≡ r) j (eqb-true w.number r e)))
    go true e (inr j) k = j
    go false e (inl j) k = inl j
    go false e (inr j) k = inr (k j)

pub gone_without : (low r : ℕ) (ws : List Entry) (v : Entry) → Rising low ws → IsAmong v (without r ws) → v.number ≡ r → ⊥
gone_without low r [] v h i e = i
gone_without low r (w ∷ ws) v h i e = go (w.number == r) refl i (λ j. gone_without w.number r ws v h.1 j e)
  where
    go : (t : Bool) → w.number == r ≡ t → IsAmong v (if t then ws else w ∷ without r ws) → (IsAmong v (without r ws) → ⊥) → ⊥
    go true is j next = let k = rising_above w.number ws v h.1 j in let f = eqb-true w.number r is in absurd (omega (arith, k, e, f))
    go false is (inl j) next = eqb-false w.number r is (subst (λ x. x.number ≡ r) (sym j) e)
    go false is (inr j) next = next j

-- one that is found
pub found_among : (r : ℕ) (ws : List Entry) (w : Entry) → entry_of r ws ≡ Some w → IsAmong w ws × (w.number ≡ r)
found_among r [] w h = absurd (cc)
found_among r (v ∷ ws) w h = go (v.number == r) refl h (found_among r ws w)
  where
    go : (t : Bool) → v.number == r ≡ t → (if t then Some v else entry_of r ws) ≡ Some w → (entry_of r ws ≡ Some w → IsAmong w ws × (w.number ≡ r)) →
        IsAmong w (v ∷ ws) × (w.number ≡ r)
    go true is k next = let e : v ≡ w = cc in (inl e, subst (λ x. x.number ≡ r) e (eqb-true v.number r is))
    go false is k next = let f = next k in (inr f.0, f.1)

pub among_found : (low : ℕ) (ws : List Entry) (w : Entry) → Rising low ws → IsAmong w ws → entry_of w.number ws ≡ Some w
among_found low [] w h i = absurd i
among_found low (v ∷ ws) w h (inl i) = ap (λ t. if t then Some v else entry_of w.number ws) (eq-eqb v.number w.number (ap (λ x. x.number) i)) ∙ ap Some i
among_found low (v ∷ ws) w h (inr i) =
    ap (λ t. if t then Some v else entry_of w.number ws) (other (v.number == w.number) refl) ∙ among_found v.number ws w h.1 i
  where
    other : (t : Bool) → v.number == w.number ≡ t → t ≡ false
    other true is = let k = rising_above v.number ws w h.1 i in let e = eqb-true v.number w.number is in absurd (omega (arith, k, e))
    other false is = refl

not_equal : (a b : ℕ) (t : Bool) → not (a == b) && t ≡ true → a ≡ b → ⊥
not_equal a b t h e = let k : false ≡ true = sym (ap (λ x. not x && t) (eq-eqb a b e)) ∙ h in cc

-- what the tests say of each of them

pub none_of_element_says : (n : ℕ) (ws : List Entry) (w : Entry) → none_of_element n ws ≡ true → IsAmong w ws → w.element ≡ n → ⊥
none_of_element_says n [] w h i e = i
none_of_element_says n (v ∷ ws) w h (inl i) e = not_equal v.element n (none_of_element n ws) h (ap (λ x. x.element) i ∙ e)
none_of_element_says n (v ∷ ws) w h (inr i) e = none_of_element_says n ws w (right_true (not (v.element == n)) (none_of_element n ws) h) i e

pub none_of_queue_says : (q : ℕ) (ws : List Entry) (w : Entry) → none_of_queue q ws ≡ true → IsAmong w ws → w.queue ≡ q → ⊥
none_of_queue_says q [] w h i e = i
none_of_queue_says q (v ∷ ws) w h (inl i) e = not_equal v.queue q (none_of_queue q ws) h (ap (λ x. x.queue) i ∙ e)
none_of_queue_says q (v ∷ ws) w h (inr i) e = none_of_queue_says q ws w (right_true (not (v.queue == q)) (none_of_queue q ws) h) i e

pub is_first_says : (low r n : ℕ) (ws : List Entry) (v : Entry) → Rising low ws → is_first r n ws ≡ true → IsAmong v ws → v.element ≡ n → r ≤ v.number
is_first_says low r n [] v rises h i e = absurd i
is_first_says low r n (w ∷ ws) v rises h i e = go (w.number == r) refl h i (λ k j. is_first_says w.number r n ws v rises.1 k j e)
  where
    go : (t : Bool) → w.number == r ≡ t → (if t then true else not (w.element == n) && is_first r n ws) ≡ true → IsAmong v (w ∷ ws) →
        (is_first r n ws ≡ true → IsAmong v ws → r ≤ v.number) → r ≤ v.number
    go true is k (inl j) next = let f = eqb-true w.number r is in let g = ap (λ x. x.number) j in omega (arith, f, g)
    go true is k (inr j) next = let f = eqb-true w.number r is in let g = rising_above w.number ws v rises.1 j in omega (arith, f, g)
    go false is k (inl j) next = absurd (not_equal w.element n (is_first r n ws) k (ap (λ x. x.element) j ∙ e))
    go false is k (inr j) next = next (right_true (not (w.element == n)) (is_first r n ws) k) j
