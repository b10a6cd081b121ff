-- A behaviour that moves from one place to another is still in one place.
use Rattle.std.proofs.Common.{◌≡◌, ℕ, zero, suc, ◌<◌, Bool, true, false, List, [], ◌∷◌, ◌++◌, map, length, drop, Option, Some, None, refl, sym, ap, ◌∙◌, subst}
use Rattle.std.proofs.Common.{arith, append_assoc, append-nil, length-set}
use Rattle.std.specs.Prelude.{slice_get, slice_set, ◌==◌}
use Rattle.std.proofs.lemmas.Bool.{eqb-true, eqb-false, eq-eqb, false≢true}
use Rattle.std.proofs.lemmas.Option.{slice_get_within}
use Rattle.rule_tokens.specs.declared.callback.CallName.{CallName}
use Rattle.rule_lines.specs.Acts.{Act}
use Rattle.ce_frames.specs.Frames.{Frame}
use Rattle.ce_frames.specs.Places.{Behaviour, Place, Held, Wait, Body, is_of, NoneOf, held_in, holding, place_if, places_of, home_in, home_of, Homes, OnlyLast}
use Rattle.ce_frames.specs.Places.{Stands, IsTopmost, seen}
use Rattle.ce_base.proofs.Places.{set_found, set_other, each_number}

-- lists of places

-- the last place has it
last_has : (b p : Option Behaviour) (ps : List (Option Behaviour)) → OnlyLast b (ps ++ p ∷ []) → p ≡ b
last_has b p [] h = h
last_has b p (x ∷ []) h = h.1
last_has b p (x ∷ y ∷ ps) h = last_has b p (y ∷ ps) h.1

-- where all places are empty, one more is
last_more : (p : Option Behaviour) (ps : List (Option Behaviour)) → OnlyLast None (p ∷ ps) → OnlyLast None (p ∷ (ps ++ None ∷ []))
last_more p [] h = (h, refl)
last_more p (q ∷ ps) h = (h.0, last_more q ps h.1)

last_less : (p h : Option Behaviour) (ps : List (Option Behaviour)) → OnlyLast None (p ∷ (ps ++ h ∷ [])) → OnlyLast None (p ∷ ps)
last_less p h [] e = e.0
last_less p h (q ∷ ps) e = (e.0, last_less q h ps e.1)

-- what the last place had goes on to a new last place
last_on : (b p : Option Behaviour) (ps : List (Option Behaviour)) → OnlyLast b (ps ++ p ∷ []) → OnlyLast b (ps ++ None ∷ p ∷ [])
last_on b p [] h = (refl, h)
last_on b p (x ∷ []) h = (h.0, (refl, h.1))
last_on b p (x ∷ y ∷ ps) h = (h.0, last_on b p (y ∷ ps) h.1)

-- and back
last_back : (b p q : Option Behaviour) (ps : List (Option Behaviour)) → OnlyLast b (ps ++ q ∷ p ∷ []) → OnlyLast b (ps ++ p ∷ [])
last_back b p q [] h = h.1
last_back b p q (x ∷ []) h = (h.0, h.1.1)
last_back b p q (x ∷ y ∷ ps) h = (h.0, last_back b p q (y ∷ ps) h.1)

-- another behaviour in the last place
last_other : (b c p : Option Behaviour) (ps : List (Option Behaviour)) → OnlyLast b (ps ++ p ∷ []) → OnlyLast c (ps ++ c ∷ [])
last_other b c p [] h = refl
last_other b c p (x ∷ []) h = (h.0, refl)
last_other b c p (x ∷ y ∷ ps) h = (h.0, last_other b c p (y ∷ ps) h.1)

-- the places of frames

places_append : (k : ℕ) (xs ys : List Held) → places_of k (xs ++ ys) ≡ places_of k xs ++ places_of k ys
places_append k [] ys = refl
places_append k (f ∷ xs) ys = go (is_of k f) (places_append k xs ys)
  where
    go : (t : Bool) → places_of k (xs ++ ys) ≡ places_of k xs ++ places_of k ys
        → place_if t (held_in f) (places_of k (xs ++ ys)) ≡ place_if t (held_in f) (places_of k xs) ++ places_of k ys
    go true h = ap (λ l. held_in f ∷ l) h
    go false h = h

-- a frame of a body on top: for its own class, and for another one
places_own : (k : ℕ) (p : Place) (h : Option Behaviour) (frames : List Held) → places_of k (frames ++ Body k p h ∷ []) ≡ places_of k frames ++ h ∷ []
places_own k p h frames = places_append k frames (Body k p h ∷ []) ∙ ap (λ t. places_of k frames ++ place_if t h []) (eq-eqb k k refl)

places_else : (j k : ℕ) (p : Place) (h : Option Behaviour) (frames : List Held) → k == j ≡ false → places_of j (frames ++ Body k p h ∷ []) ≡ places_of j frames
places_else j k p h frames other =
    places_append j frames (Body k p h ∷ []) ∙ ap (λ t. places_of j frames ++ place_if t h []) other ∙ append-nil (places_of j frames)

places_none : (k : ℕ) (frames : List Held) → NoneOf k frames → places_of k frames ≡ []
places_none k [] none = refl
places_none k (f ∷ frames) none = ap (λ t. place_if t (held_in f) (places_of k frames)) none.0 ∙ places_none k frames none.1

-- a frame of one class is of no other
of_one : (k j : ℕ) (f : Held) → is_of k f ≡ true → k == j ≡ false → is_of j f ≡ false
of_one k j (Wait f) is other = absurd (false≢true is)
of_one k j (Body class place held) is other = ap (λ c. c == j) (eqb-true class k is) ∙ other

pub of_holding : (k : ℕ) (b : Option Behaviour) (f : Held) → is_of k (holding b f) ≡ is_of k f
of_holding k b (Wait f) = refl
of_holding k b (Body class place held) = refl

in_holding : (k : ℕ) (b : Option Behaviour) (f : Held) → is_of k f ≡ true → held_in (holding b f) ≡ b
in_holding k b (Wait f) is = absurd (false≢true is)
in_holding k b (Body class place held) is = refl

-- the topmost frame of a class has its last place, whatever is in it
record Topmost (k : ℕ) (frames : List Held) (i : ℕ) (f : Held) : Type 0 where
  pub before : List (Option Behaviour)
  pub now : places_of k frames ≡ before ++ held_in f ∷ []
  pub then : (g : Held) → is_of k g ≡ true → places_of k (slice_set frames i g) ≡ before ++ held_in g ∷ []

topmost : (k : ℕ) (frames : List Held) (i : ℕ) (f : Held) → slice_get frames i ≡ Some f → is_of k f ≡ true → NoneOf k (drop (suc i) frames)
    → Topmost k frames i f
topmost k [] i f at is last = absurd (let e : None ≡ Some f = at in cc)
topmost k (x ∷ frames) zero f at is last =
    let same : x ≡ f = cc in
    let own : (g : Held) → is_of k g ≡ true
    → places_of k (g ∷ frames) ≡ held_in g ∷ [] = λ g g_is. ap (λ t. place_if t (held_in g) (places_of k frames)) g_is
    ∙ ap (λ l. held_in g ∷ l) (places_none k frames last) in
    record { before = []; now = ap (λ (y : Held). places_of k (y ∷ frames)) same ∙ own f is; then = own }
topmost k (x ∷ frames) (suc i) f at is last = let r = go (is_of k x) (topmost k frames i f at is last) in record { before = r.0; now = r.1; then = r.2 }
  where
    -- the frame below is of the class, or not
    go : (t : Bool) → Topmost k frames i f
        → (ps : List (Option Behaviour)) × (place_if t (held_in x) (places_of k frames) ≡ ps ++ held_in f ∷ []) ×
        ((g : Held) → is_of k g ≡ true → place_if t (held_in x) (places_of k (slice_set frames i g)) ≡ ps ++ held_in g ∷ [])
    go true h = (held_in x ∷ h.before, ap (λ l. held_in x ∷ l) h.now, λ g g_is. ap (λ l. held_in x ∷ l) (h.then g g_is))
    go false h = (h.before, h.now, h.then)

-- a frame of another class is put in
set_else : (j : ℕ) (frames : List Held) (i : ℕ) (f g : Held) → slice_get frames i ≡ Some f → is_of j f ≡ false → is_of j g ≡ false
    → places_of j (slice_set frames i g) ≡ places_of j frames
set_else j [] i f g at no_f no_g = refl
set_else j (x ∷ frames) zero f g at no_f no_g =
    let same : x ≡ f = cc in
    ap (λ t. place_if t (held_in g) (places_of j frames)) no_g
    ∙ sym (ap (λ (y : Held). places_of j (y ∷ frames)) same ∙ ap (λ t. place_if t (held_in f) (places_of j frames)) no_f)
set_else j (x ∷ frames) (suc i) f g at no_f no_g = ap (place_if (is_of j x) (held_in x)) (set_else j frames i f g at no_f no_g)

-- homes and behaviours

-- a home that is emptied
home_emptied : (homes : Homes) (k : ℕ) → home_of (slice_set homes k None) k ≡ None
home_emptied [] k = refl
home_emptied (h ∷ homes) zero = refl
home_emptied (h ∷ homes) (suc k) = home_emptied homes k

-- a home that is filled
home_filled : (homes : Homes) (k : ℕ) (b : Behaviour) → k < length homes → home_of (slice_set homes k (Some b)) k ≡ Some b
home_filled [] k b within = absurd (omega (arith, within))
home_filled (h ∷ homes) zero b within = refl
home_filled (h ∷ homes) (suc k) b within = home_filled homes k b (omega (arith, within))

home_else : (homes : Homes) (k j : ℕ) (h : Option Behaviour) → k == j ≡ false → home_of (slice_set homes k h) j ≡ home_of homes j
home_else homes k j h other = ap home_in (set_other homes k j h (eqb-false k j other))

-- no body runs

pub home_there : (bs : List Behaviour) (k : ℕ) → home_of (map Some bs) k ≡ slice_get bs k
home_there [] k = refl
home_there (b ∷ bs) zero = refl
home_there (b ∷ bs) (suc k) = home_there bs k

each_home : (bs : List Behaviour) → length (map Some bs) ≡ length bs
each_home [] = refl
each_home (b ∷ bs) = ap suc (each_home bs)

pub at_home : (bs : List Behaviour) → Stands (map Some bs) [] bs
at_home bs = record { each = each_home bs; one = home_there bs }

pub all_home : (homes : Homes) (bs : List Behaviour) → Stands homes [] bs → homes ≡ map Some bs
all_home [] [] s = refl
all_home [] (b ∷ bs) s = let each = s.each in absurd (omega (arith, each))
all_home (h ∷ homes) [] s = let each = s.each in absurd (omega (arith, each))
all_home (h ∷ homes) (b ∷ bs) s =
    let first : h ≡ Some b = s.one 0 in
    let each = s.each in
    let others : Stands homes [] bs = record { each = omega (arith, each); one = λ k. s.one (suc k) } in
    ap (λ x. x ∷ homes) first ∙ ap (λ l. Some b ∷ l) (all_home homes bs others)

-- moves

-- the frame of a body on top has its class's behaviour
pub top_has : (homes : Homes) (frames : List Held) (bs : List Behaviour) (k : ℕ) (p : Place) (h : Option Behaviour)
    → Stands homes (frames ++ Body k p h ∷ []) bs → h ≡ slice_get bs k
top_has homes frames bs k p h s =
    last_has (slice_get bs k) h (home_of homes k ∷ places_of k frames)
    (subst (λ l. OnlyLast (slice_get bs k) (home_of homes k ∷ l)) (places_own k p h frames) (s.one k))

-- a body begins, while one of its class waits: its behaviour goes up
pub fetched : (homes : Homes) (frames : List Held) (bs : List Behaviour) (k i : ℕ) (p : Place) (f : Held) → IsTopmost k frames i f
    → Stands homes frames bs → Stands homes (slice_set frames i (holding None f) ++ Body k p (held_in f) ∷ []) bs
fetched homes frames bs k i p f top s =
    record {
      each = s.each;
      one = each_number
          (λ j. OnlyLast (slice_get bs j) (home_of homes j ∷ places_of j (slice_set frames i (holding None f) ++ Body k p (held_in f) ∷ []))) k here others;
    }
  where
    here : OnlyLast (slice_get bs k) (home_of homes k ∷ places_of k (slice_set frames i (holding None f) ++ Body k p (held_in f) ∷ []))
    here =
        let t = topmost k frames i f top.at top.is top.last in
        let new : places_of k (slice_set frames i (holding None f) ++ Body k p (held_in f) ∷ []) ≡ t.before ++ None ∷ held_in f ∷ [] =
        places_own k p (held_in f) (slice_set frames i (holding None f))
        ∙ ap (λ l. l ++ held_in f ∷ []) (t.then (holding None f) (of_holding k None f ∙ top.is) ∙ ap (λ h. t.before ++ h ∷ []) (in_holding k None f top.is))
        ∙ append_assoc t.before (None ∷ []) (held_in f ∷ []) in
        subst (λ l. OnlyLast (slice_get bs k) (home_of homes k ∷ l)) (sym new)
        (last_on (slice_get bs k) (held_in f) (home_of homes k ∷ t.before) (subst (λ l. OnlyLast (slice_get bs k) (home_of homes k ∷ l)) t.now (s.one k)))

    others : (j : ℕ) → k == j ≡ false
        → OnlyLast (slice_get bs j) (home_of homes j ∷ places_of j (slice_set frames i (holding None f) ++ Body k p (held_in f) ∷ []))
    others j other =
        let same =
        places_else j k p (held_in f) (slice_set frames i (holding None f)) other
        ∙ set_else j frames i f (holding None f) top.at (of_one k j f top.is other) (of_holding j None f ∙ of_one k j f top.is other) in
        subst (λ l. OnlyLast (slice_get bs j) (home_of homes j ∷ l)) (sym same) (s.one j)

-- it has ended: its behaviour goes back down
pub handed_back : (homes : Homes) (frames : List Held) (bs : List Behaviour) (k i : ℕ) (p : Place) (f : Held) (h : Option Behaviour)
    → IsTopmost k frames i f → Stands homes (frames ++ Body k p h ∷ []) bs → Stands homes (slice_set frames i (holding h f)) bs
handed_back homes frames bs k i p f h top s =
    record {
      each = s.each;
      one = each_number
          (λ j. OnlyLast (slice_get bs j) (home_of homes j ∷ places_of j (slice_set frames i (holding h f)))) k here others;
    }
  where
    here : OnlyLast (slice_get bs k) (home_of homes k ∷ places_of k (slice_set frames i (holding h f)))
    here =
        let t = topmost k frames i f top.at top.is top.last in
        let old : places_of k (frames ++ Body k p h ∷ []) ≡ t.before ++ held_in f ∷ h ∷ [] = places_own k p h frames ∙ ap (λ l. l ++ h ∷ []) t.now
        ∙ append_assoc t.before (held_in f ∷ []) (h ∷ []) in
        let new : places_of k (slice_set frames i (holding h f)) ≡ t.before ++ h ∷ [] = t.then (holding h f) (of_holding k h f ∙ top.is)
        ∙ ap (λ g. t.before ++ g ∷ []) (in_holding k h f top.is) in
        subst (λ l. OnlyLast (slice_get bs k) (home_of homes k ∷ l)) (sym new)
        (last_back (slice_get bs k) h (held_in f) (home_of homes k ∷ t.before)
        (subst (λ l. OnlyLast (slice_get bs k) (home_of homes k ∷ l)) old (s.one k)))

    others : (j : ℕ) → k == j ≡ false → OnlyLast (slice_get bs j) (home_of homes j ∷ places_of j (slice_set frames i (holding h f)))
    others j other =
        let same : places_of j (slice_set frames i (holding h f))
        ≡ places_of j (frames ++ Body k p h ∷ []) = set_else j frames i f (holding h f) top.at (of_one k j f top.is other)
        (of_holding j h f ∙ of_one k j f top.is other) ∙ sym (places_else j k p h frames other) in
        subst (λ l. OnlyLast (slice_get bs j) (home_of homes j ∷ l)) (sym same) (s.one j)

-- a body begins, and none of its class waits: its behaviour leaves home
pub from_home : (homes : Homes) (frames : List Held) (bs : List Behaviour) (k : ℕ) (p : Place) → NoneOf k frames → Stands homes frames bs
    → Stands (slice_set homes k None) (frames ++ Body k p (home_of homes k) ∷ []) bs
from_home homes frames bs k p none s =
    record {
      each = length-set homes k None
          ∙ s.each;
      one = each_number
          (λ j. OnlyLast (slice_get bs j) (home_of (slice_set homes k None) j ∷ places_of j (frames ++ Body k p (home_of homes k) ∷ []))) k here others;
    }
  where
    here : OnlyLast (slice_get bs k) (home_of (slice_set homes k None) k ∷ places_of k (frames ++ Body k p (home_of homes k) ∷ []))
    here =
        let new : places_of k (frames ++ Body k p (home_of homes k) ∷ []) ≡ home_of homes k ∷ [] = places_own k p (home_of homes k) frames
        ∙ ap (λ l. l ++ home_of homes k ∷ []) (places_none k frames none) in
        let old : home_of homes k ≡ slice_get bs k = subst (λ l. OnlyLast (slice_get bs k) (home_of homes k ∷ l)) (places_none k frames none) (s.one k) in
        subst (λ l. OnlyLast (slice_get bs k) (home_of (slice_set homes k None) k ∷ l)) (sym new) (home_emptied homes k, old)

    others : (j : ℕ) → k == j ≡ false
        → OnlyLast (slice_get bs j) (home_of (slice_set homes k None) j ∷ places_of j (frames ++ Body k p (home_of homes k) ∷ []))
    others j other =
        subst (λ l. OnlyLast (slice_get bs j) l)
        (sym (ap (λ h. h ∷ places_of j (frames ++ Body k p (home_of homes k) ∷ [])) (home_else homes k j None other)
        ∙ ap (λ l. home_of homes j ∷ l) (places_else j k p (home_of homes k) frames other))) (s.one j)

-- it has ended: its behaviour comes home
pub to_home : (homes : Homes) (frames : List Held) (bs : List Behaviour) (k : ℕ) (p : Place) (b : Behaviour) → NoneOf k frames
    → Stands homes (frames ++ Body k p (Some b) ∷ []) bs → Stands (slice_set homes k (Some b)) frames bs
to_home homes frames bs k p b none s =
    record {
      each = length-set homes k (Some b)
          ∙ s.each;
      one = each_number (λ j. OnlyLast (slice_get bs j) (home_of (slice_set homes k (Some b)) j ∷ places_of j frames)) k here others;
    }
  where
    here : OnlyLast (slice_get bs k) (home_of (slice_set homes k (Some b)) k ∷ places_of k frames)
    here =
        let has : Some b ≡ slice_get bs k = top_has homes frames bs k p (Some b) s in
        let within = slice_get_within bs k b (sym has) in
        let each = s.each in
        subst (λ l. OnlyLast (slice_get bs k) (home_of (slice_set homes k (Some b)) k ∷ l)) (sym (places_none k frames none))
        (home_filled homes k b (omega (arith, within, each)) ∙ has)

    others : (j : ℕ) → k == j ≡ false → OnlyLast (slice_get bs j) (home_of (slice_set homes k (Some b)) j ∷ places_of j frames)
    others j other =
        subst (λ l. OnlyLast (slice_get bs j) l)
        (sym (ap (λ h. h ∷ places_of j frames) (home_else homes k j (Some b) other)
        ∙ ap (λ l. home_of homes j ∷ l) (sym (places_else j k p (Some b) frames other)))) (s.one j)

-- a body goes on, and may change what its class remembers
pub changed : (homes : Homes) (frames : List Held) (bs : List Behaviour) (k : ℕ) (p q : Place) (b c : Behaviour)
    → Stands homes (frames ++ Body k p (Some b) ∷ []) bs → Stands homes (frames ++ Body k q (Some c) ∷ []) (slice_set bs k c)
changed homes frames bs k p q b c s =
    record {
      each = s.each
          ∙ sym (length-set bs k c);
      one = each_number
          (λ j. OnlyLast (slice_get (slice_set bs k c) j) (home_of homes j ∷ places_of j (frames ++ Body k q (Some c) ∷ []))) k here others;
    }
  where
    here : OnlyLast (slice_get (slice_set bs k c) k) (home_of homes k ∷ places_of k (frames ++ Body k q (Some c) ∷ []))
    here =
        let has : Some b ≡ slice_get bs k = top_has homes frames bs k p (Some b) s in
        let old = subst (λ l. OnlyLast (slice_get bs k) (home_of homes k ∷ l)) (places_own k p (Some b) frames) (s.one k) in
        let new : OnlyLast (Some c) (home_of homes k ∷ places_of k (frames ++ Body k q (Some c) ∷ [])) =
        subst (λ l. OnlyLast (Some c) (home_of homes k ∷ l)) (sym (places_own k q (Some c) frames))
        (last_other (slice_get bs k) (Some c) (Some b) (home_of homes k ∷ places_of k frames) old) in
        subst (λ a. OnlyLast a (home_of homes k ∷ places_of k (frames ++ Body k q (Some c) ∷ []))) (sym (set_found bs k b c (sym has))) new

    others : (j : ℕ) → k == j ≡ false → OnlyLast (slice_get (slice_set bs k c) j) (home_of homes j ∷ places_of j (frames ++ Body k q (Some c) ∷ []))
    others j other =
        let same : places_of j (frames ++ Body k q (Some c) ∷ [])
        ≡ places_of j (frames ++ Body k p (Some b) ∷ []) = places_else j k q (Some c) frames other ∙ sym (places_else j k p (Some b) frames other) in
        subst (λ a. OnlyLast a (home_of homes j ∷ places_of j (frames ++ Body k q (Some c) ∷ []))) (sym (set_other bs k j c (eqb-false k j other)))
        (subst (λ l. OnlyLast (slice_get bs j) (home_of homes j ∷ l)) (sym same) (s.one j))

-- a body of a class that is not there has nothing
pub unknown_begins : (homes : Homes) (frames : List Held) (bs : List Behaviour) (k : ℕ) (p : Place) → slice_get bs k ≡ None
    → Stands homes frames bs → Stands homes (frames ++ Body k p None ∷ []) bs
unknown_begins homes frames bs k p unknown s =
    record { each = s.each; one = each_number (λ j. OnlyLast (slice_get bs j) (home_of homes j ∷ places_of j (frames ++ Body k p None ∷ []))) k here others }
  where
    here : OnlyLast (slice_get bs k) (home_of homes k ∷ places_of k (frames ++ Body k p None ∷ []))
    here =
        subst (λ o. OnlyLast o (home_of homes k ∷ places_of k (frames ++ Body k p None ∷ []))) (sym unknown)
        (subst (λ l. OnlyLast None (home_of homes k ∷ l)) (sym (places_own k p None frames))
        (last_more (home_of homes k) (places_of k frames) (subst (λ o. OnlyLast o (home_of homes k ∷ places_of k frames)) unknown (s.one k))))

    others : (j : ℕ) → k == j ≡ false → OnlyLast (slice_get bs j) (home_of homes j ∷ places_of j (frames ++ Body k p None ∷ []))
    others j other = subst (λ l. OnlyLast (slice_get bs j) (home_of homes j ∷ l)) (sym (places_else j k p None frames other)) (s.one j)

pub unknown_ends : (homes : Homes) (frames : List Held) (bs : List Behaviour) (k : ℕ) (p : Place) (h : Option Behaviour) → slice_get bs k ≡ None
    → Stands homes (frames ++ Body k p h ∷ []) bs → Stands homes frames bs
unknown_ends homes frames bs k p h unknown s =
    record { each = s.each; one = each_number (λ j. OnlyLast (slice_get bs j) (home_of homes j ∷ places_of j frames)) k here others }
  where
    here : OnlyLast (slice_get bs k) (home_of homes k ∷ places_of k frames)
    here =
        subst (λ o. OnlyLast o (home_of homes k ∷ places_of k frames)) (sym unknown)
        (last_less (home_of homes k) h (places_of k frames)
        (subst (λ l. OnlyLast None (home_of homes k ∷ l)) (places_own k p h frames)
        (subst (λ o. OnlyLast o (home_of homes k ∷ places_of k (frames ++ Body k p h ∷ []))) unknown (s.one k))))

    others : (j : ℕ) → k == j ≡ false → OnlyLast (slice_get bs j) (home_of homes j ∷ places_of j frames)
    others j other = subst (λ l. OnlyLast (slice_get bs j) (home_of homes j ∷ l)) (places_else j k p h frames other) (s.one j)

-- a body of such a class stands anywhere
pub unknown_stays : (homes : Homes) (frames : List Held) (bs : List Behaviour) (k : ℕ) (p q : Place) (h : Option Behaviour) → slice_get bs k ≡ None
    → Stands homes (frames ++ Body k p h ∷ []) bs → Stands homes (frames ++ Body k q None ∷ []) bs
unknown_stays homes frames bs k p q h unknown s = unknown_begins homes frames bs k q unknown (unknown_ends homes frames bs k p h unknown s)

-- frames of no body come and go
places_wait : (k : ℕ) (frames : List Held) (f : Frame) → places_of k (frames ++ Wait f ∷ []) ≡ places_of k frames
places_wait k frames f = places_append k frames (Wait f ∷ []) ∙ append-nil (places_of k frames)

pub waits : (homes : Homes) (frames : List Held) (bs : List Behaviour) (f : Frame) → Stands homes frames bs → Stands homes (frames ++ Wait f ∷ []) bs
waits homes frames bs f s =
    record { each = s.each; one = λ k. subst (λ l. OnlyLast (slice_get bs k) (home_of homes k ∷ l)) (sym (places_wait k frames f)) (s.one k) }

pub waited : (homes : Homes) (frames : List Held) (bs : List Behaviour) (f : Frame) → Stands homes (frames ++ Wait f ∷ []) bs → Stands homes frames bs
waited homes frames bs f s =
    record { each = s.each; one = λ k. subst (λ l. OnlyLast (slice_get bs k) (home_of homes k ∷ l)) (places_wait k frames f) (s.one k) }

-- what a frame holds changes nothing of what it stands for
pub seen_holding : (bodies : List (List (CallName × Act))) (h : Option Behaviour) (f : Held) → seen bodies (holding h f) ≡ seen bodies f
seen_holding bodies h (Wait f) = refl
seen_holding bodies h (Body class place held) = refl
