-- The chains of classes, as frames come and go.
use Rattle.std.proofs.Common.{◌≡◌, ℕ, zero, suc, ◌+◌, ◌-◌, ◌<◌, ◌≤◌, Bool, true, false, List, [], ◌∷◌, ◌++◌, length, drop, take, Option, Some, None, refl, ap}
use Rattle.std.proofs.Common.{sym, ◌∙◌, subst, arith, length-append}
use Rattle.std.specs.Prelude.{slice_get, slice_set, ◌==◌}
use Rattle.std.proofs.lemmas.Bool.{eqb-true, eqb-false, eq-eqb}
use Rattle.std.proofs.lemmas.List.{take_at, length-set}
use Rattle.reaction_queue.specs.Queues.{or_empty}
use Rattle.ce_frames.specs.Frames.{Frame}
use Rattle.ce_frames.specs.Places.{Behaviour, Held, IsTopmost, NoneOf, Place, Wait, Body, holding, is_of}
use Rattle.frame_stack.proofs.TopLaws.{Ends, AtNone, AtLast, ends, last_push}
use Rattle.frame_stack.specs.Chains.{AreChained, index_if, indices_from, indices_of, last, linked, topmost, unlinked}
use Rattle.ce_base.proofs.Places.{set_within, set_other, each_number}
use Rattle.ce_frames.proofs.Moves.{of_holding}

-- one frame more

indices_push : (k i : ℕ) (frames : List Held) (f : Held)
    → indices_from k i (frames ++ f ∷ []) ≡ indices_from k i frames ++ index_if (is_of k f) (i + length frames) []
indices_push k i [] f = let same : i ≡ i + 0 = omega arith in ap (λ n. index_if (is_of k f) n []) same
indices_push k i (x ∷ frames) f =
    let same : suc i + length frames ≡ i + length (x ∷ frames) = omega arith in
    go (is_of k x) (indices_push k (suc i) frames f ∙ ap (λ n. indices_from k (suc i) frames ++ index_if (is_of k f) n []) same)
  where
    go : (b : Bool) → indices_from k (suc i) (frames ++ f ∷ []) ≡ indices_from k (suc i) frames ++ index_if (is_of k f) (i + length (x ∷ frames)) []
        → index_if b i (indices_from k (suc i) (frames ++ f ∷ []))
        ≡ index_if b i (indices_from k (suc i) frames) ++ index_if (is_of k f) (i + length (x ∷ frames)) []
    go true h = ap (λ l. i ∷ l) h
    go false h = h

own_push : (k : ℕ) (frames : List Held) (f : Held) → is_of k f ≡ true → indices_of k (frames ++ f ∷ []) ≡ indices_of k frames ++ length frames ∷ []
own_push k frames f is = let same : 0 + length frames ≡ length frames = omega arith in
    indices_push k 0 frames f ∙ ap (λ b. indices_of k frames ++ index_if b (0 + length frames) []) is ∙ ap (λ (n : ℕ). indices_of k frames ++ n ∷ []) same

else_push : (k : ℕ) (frames : List Held) (f : Held) → is_of k f ≡ false → indices_of k (frames ++ f ∷ []) ≡ indices_of k frames
else_push k frames f is = indices_push k 0 frames f ∙ ap (λ b. indices_of k frames ++ index_if b (0 + length frames) []) is ∙ nil (indices_of k frames)
  where
    nil : (l : List ℕ) → l ++ [] ≡ l
    nil [] = refl
    nil (x ∷ l) = ap (λ m. x ∷ m) (nil l)

-- another frame of the same class in its place
indices_set : (k i j : ℕ) (frames : List Held) (f g : Held) → slice_get frames j ≡ Some f → is_of k g ≡ is_of k f
    → indices_from k i (slice_set frames j g) ≡ indices_from k i frames
indices_set k i j [] f g at same = refl
indices_set k i zero (x ∷ frames) f g at same = let is : f ≡ x = cc in ap (λ b. index_if b i (indices_from k (suc i) frames)) (same ∙ ap (is_of k) is)
indices_set k i (suc j) (x ∷ frames) f g at same = ap (index_if (is_of k x) i) (indices_set k (suc i) j frames f g at same)

-- where the topmost frame lies

none_from : (k i : ℕ) (frames : List Held) → indices_from k i frames ≡ [] → NoneOf k frames
none_from k i [] h = tt
none_from k i (f ∷ frames) h = go (is_of k f) refl h (none_from k (suc i) frames)
  where
    go : (b : Bool) → is_of k f ≡ b → index_if b i (indices_from k (suc i) frames) ≡ [] → (indices_from k (suc i) frames ≡ [] → NoneOf k frames)
        → (is_of k f ≡ false) × NoneOf k frames
    go true is e others = absurd (let x : ◌≡◌ {A = List ℕ} (i ∷ indices_from k (suc i) frames) [] = e in cc)
    go false is e others = (is, others e)

record Top (k i : ℕ) (frames : List Held) (m : ℕ) : Type 0 where
  pub index : ℕ
  pub sum : m ≡ i + index
  pub frame : Held
  pub at : slice_get frames index ≡ Some frame
  pub is : is_of k frame ≡ true
  pub last : NoneOf k (drop (suc index) frames)

top_from : (k i : ℕ) (frames : List Held) (is : List ℕ) (m : ℕ) → indices_from k i frames ≡ is ++ m ∷ [] → Top k i frames m
top_from k i [] [] m h = absurd (let x : ◌≡◌ {A = List ℕ} [] (m ∷ []) = h in cc)
top_from k i [] (y ∷ is) m h = absurd (let x : ◌≡◌ {A = List ℕ} [] (y ∷ (is ++ m ∷ [])) = h in cc)
top_from k i (f ∷ frames) is m h = go (is_of k f) refl is h (λ is e. above (top_from k (suc i) frames is m e))
  where
    above : Top k (suc i) frames m → Top k i (f ∷ frames) m
    above t = let sum = t.sum in record { index = suc t.index; sum = omega (arith, sum); frame = t.frame; at = t.at; is = t.is; last = t.last }

    go : (b : Bool) → is_of k f ≡ b → (is : List ℕ) → index_if b i (indices_from k (suc i) frames) ≡ is ++ m ∷ []
        → ((is : List ℕ) → indices_from k (suc i) frames ≡ is ++ m ∷ [] → Top k i (f ∷ frames) m) → Top k i (f ∷ frames) m
    go true here [] e more =
        let first : i ≡ m = cc in
        let others : ◌≡◌ {A = List ℕ} (indices_from k (suc i) frames) [] = cc in
        record { index = 0; sum = omega (arith, first); frame = f; at = refl; is = here; last = none_from k (suc i) frames others }
    go true here (y ∷ is) e more = let others : indices_from k (suc i) frames ≡ is ++ m ∷ [] = cc in more is others
    go false here is e more = more is e

-- the last of a list

front_push : (is : List ℕ) (m : ℕ) → take (length (is ++ m ∷ []) - 1) (is ++ m ∷ []) ≡ is
front_push is m = let n : length is ≡ length (is ++ m ∷ []) - 1 = omega (arith, length-append is (m ∷ [])) in take_at is (m ∷ []) (length (is ++ m ∷ []) - 1) n

-- a list with this last member
record Ended (members : List ℕ) (m : ℕ) : Type 0 where
  pub front : List ℕ
  pub same : members ≡ front ++ m ∷ []

last_some : (is : List ℕ) (m : ℕ) → last is ≡ Some m → Ended is m
last_some is m h = go (ends is)
  where
    go : Ends is → Ended is m
    go (AtNone e) = absurd (let f : None ≡ Some m = sym (ap last e) ∙ h in cc)
    go (AtLast front x e) =
        let f : Some x ≡ Some m = sym (last_push front x) ∙ sym (ap last e) ∙ h in
        let g : x ≡ m = cc in
        record { front = front; same = e ∙ ap (λ (y : ℕ). front ++ y ∷ []) g }

last_none : (is : List ℕ) → last is ≡ None → is ≡ []
last_none is h = go (ends is)
  where
    go : Ends is → is ≡ []
    go (AtNone e) = e
    go (AtLast front x e) = absurd (let f : Some x ≡ None = sym (last_push front x) ∙ sym (ap last e) ∙ h in cc)

-- the chain of a class that is there

chain_is : (classes k : ℕ) (chains : List (List ℕ)) (frames : List Held) → AreChained classes chains frames → k < classes
    → or_empty (slice_get chains k) ≡ indices_of k frames
chain_is classes k chains frames c within = ap or_empty (c.known k within)

pub topmost_at : (classes k i : ℕ) (chains : List (List ℕ)) (frames : List Held) → AreChained classes chains frames → k < classes → topmost k chains ≡ Some i
    → (f : Held) × IsTopmost k frames i f
topmost_at classes k i chains frames c within h =
    let e = last_some (indices_of k frames) i (sym (ap last (chain_is classes k chains frames c within)) ∙ h) in
    let t = top_from k 0 frames e.front i e.same in
    let sum : t.index ≡ i = let s = t.sum in omega (arith, s) in
    (t.frame, record { at = subst (λ n. slice_get frames n ≡ Some t.frame) sum t.at; is = t.is; last = subst (λ n. NoneOf k (drop (suc n) frames)) sum t.last })

pub topmost_none : (classes k : ℕ) (chains : List (List ℕ)) (frames : List Held) → AreChained classes chains frames → k < classes → topmost k chains ≡ None
    → NoneOf k frames
topmost_none classes k chains frames c within h =
    none_from k 0 frames (last_none (indices_of k frames) (sym (ap last (chain_is classes k chains frames c within)) ∙ h))

-- changes

-- frames of which each class that is there has as many, and at the same places
pub chained_known : (classes : ℕ) (chains : List (List ℕ)) (old new : List Held) → ((k : ℕ) → k < classes → indices_of k new ≡ indices_of k old)
    → AreChained classes chains old → AreChained classes chains new
chained_known classes chains old new same c = record { each = c.each; known = λ k within. c.known k within ∙ ap Some (sym (same k within)) }

pub wait_indices : (k : ℕ) (frames : List Held) (f : Frame) → indices_of k (frames ++ Wait f ∷ []) ≡ indices_of k frames
wait_indices k frames f = else_push k frames (Wait f) refl

-- a body of a class that is there, on top
pub chained_push : (classes k : ℕ) (chains : List (List ℕ)) (frames : List Held) (p : Place) (h : Option Behaviour) → AreChained classes chains frames
    → k < classes
    → AreChained classes (linked k (length frames) chains) (frames ++ Body k p h ∷ [])
chained_push classes k chains frames p h c within =
    let many = c.each in
    let inside : k < length chains = omega (arith, within, many) in
    let chain : List ℕ = or_empty (slice_get chains k) ++ length frames ∷ [] in
    record {
      each = length-set chains k chain ∙ c.each;
      known = each_number (λ j. j < classes → slice_get (linked k (length frames) chains) j ≡ Some (indices_of j (frames ++ Body k p h ∷ []))) k
          (λ w. set_within chains k chain inside ∙ ap (λ l. Some (l ++ length frames ∷ [])) (chain_is classes k chains frames c within)
          ∙ ap Some (sym (own_push k frames (Body k p h) (eq-eqb k k refl))))
          (λ j other w. set_other chains k j chain (eqb-false k j other) ∙ c.known j w ∙ ap Some (sym (else_push j frames (Body k p h) other)));
    }

pub chained_pop : (classes k : ℕ) (chains : List (List ℕ)) (frames : List Held) (p : Place) (h : Option Behaviour)
    → AreChained classes chains (frames ++ Body k p h ∷ []) → k < classes
    → AreChained classes (unlinked k chains) frames
chained_pop classes k chains frames p h c within =
    let many = c.each in
    let inside : k < length chains = omega (arith, within, many) in
    let old : or_empty (slice_get chains k) ≡ indices_of k frames ++ length frames ∷ [] =
    chain_is classes k chains (frames ++ Body k p h ∷ []) c within ∙ own_push k frames (Body k p h) (eq-eqb k k refl) in
    let chain : List ℕ = take (length (or_empty (slice_get chains k)) - 1) (or_empty (slice_get chains k)) in
    record {
      each = length-set chains k chain ∙ c.each;
      known = each_number (λ j. j < classes → slice_get (unlinked k chains) j ≡ Some (indices_of j frames)) k
          (λ w. set_within chains k chain inside ∙ ap (λ l. Some (take (length l - 1) l)) old ∙ ap Some (front_push (indices_of k frames) (length frames)))
          (λ j other w. set_other chains k j chain (eqb-false k j other) ∙ c.known j w ∙ ap Some (else_push j frames (Body k p h) other));
    }

-- a body of a class that is not there
pub unknown_indices : (classes k j : ℕ) (frames : List Held) (p : Place) (h : Option Behaviour) → classes ≤ k → j < classes
    → indices_of j (frames ++ Body k p h ∷ []) ≡ indices_of j frames
unknown_indices classes k j frames p h past within = else_push j frames (Body k p h) (go (k == j) refl)
  where
    go : (t : Bool) → k == j ≡ t → t ≡ false
    go true is = let same = eqb-true k j is in absurd (omega (arith, past, within, same))
    go false is = refl

-- what a frame holds is changed
pub holding_indices : (k j : ℕ) (frames : List Held) (f : Held) (b : Option Behaviour) → slice_get frames j ≡ Some f
    → indices_of k (slice_set frames j (holding b f)) ≡ indices_of k frames
holding_indices k j frames f b at = indices_set k 0 j frames f (holding b f) at (of_holding k b f)

-- a body of the same class in the place of the topmost frame
pub top_indices : (k j : ℕ) (frames : List Held) (p q : Place) (h b : Option Behaviour)
    → indices_of k (frames ++ Body j q b ∷ []) ≡ indices_of k (frames ++ Body j p h ∷ [])
top_indices k j frames p q h b = indices_push k 0 frames (Body j q b) ∙ sym (indices_push k 0 frames (Body j p h))
