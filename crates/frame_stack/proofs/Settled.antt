-- What the classes do and remember is read off their last places.
use Rattle.std.proofs.Common.{◌≡◌, ℕ, suc, ◌+◌, List, [], ◌∷◌, length, Option, Some, refl, ap, sym, ◌∙◌, subst, arith, add-zero}
use Rattle.std.specs.Prelude.{slice_get}
use Rattle.ce_frames.specs.Places.{Behaviour, Held, Homes, OnlyLast, Stands, home_of, places_of}
use Rattle.frame_stack.specs.Chains.{AreChained}
use Rattle.frame_stack.specs.Order.{AreInOrder}
use Rattle.frame_stack.specs.Stacked.{behaviours_of, last_of, or_new, placed_from}

last_is : (b h : Option Behaviour) (ps : List (Option Behaviour)) → OnlyLast b (h ∷ ps) → last_of h ps ≡ b
last_is b h [] e = e
last_is b h (p ∷ ps) e = last_is b p ps e.1

settled_from : (k : ℕ) (frames : List Held) (homes : Homes) (bs : List Behaviour) → length homes ≡ length bs
    → ((j : ℕ) → OnlyLast (slice_get bs j) (home_of homes j ∷ places_of (k + j) frames)) → placed_from k frames homes ≡ bs
settled_from k frames [] [] each one = refl
settled_from k frames [] (b ∷ bs) each one = absurd (omega (arith, each))
settled_from k frames (h ∷ homes) [] each one = absurd (omega (arith, each))
settled_from k frames (h ∷ homes) (b ∷ bs) each one =
    let here : OnlyLast (Some b) (h ∷ places_of k frames) = subst (λ n. OnlyLast (Some b) (h ∷ places_of n frames)) (add-zero k) (one 0) in
    let next : (j : ℕ) → k + suc j ≡ suc k + j = λ j. omega arith in
    let others = settled_from (suc k) frames homes bs (omega (arith, each))
    (λ j. subst (λ n. OnlyLast (slice_get bs j) (home_of homes j ∷ places_of n frames)) (next j) (one (suc j))) in
    ap (λ x. or_new x ∷ placed_from (suc k) frames homes) (last_is (Some b) h (places_of k frames) here) ∙ ap (λ l. b ∷ l) others

-- behaviours that stand in one place each are those
pub settled : (homes : Homes) (frames : List Held) (bs : List Behaviour) → Stands homes frames bs → placed_from 0 frames homes ≡ bs
settled homes frames bs s =
    let from : (j : ℕ) → j ≡ 0 + j = λ j. omega arith in
    settled_from 0 frames homes bs s.each (λ j. subst (λ n. OnlyLast (slice_get bs j) (home_of homes j ∷ places_of n frames)) (from j) (s.one j))

-- a stack is in order, by the behaviours that stand there
pub in_order : (homes : Homes) (chains : List (List ℕ)) (frames : List Held) (bs : List Behaviour) → Stands homes frames bs
    → AreChained (length homes) chains frames → AreInOrder homes chains frames
in_order homes chains frames bs s c =
    let same = settled homes frames bs s in
    record { placed = subst (Stands homes frames) (sym same) s; chained = c }

pub behaviours_are : (homes : Homes) (frames : List Held) (bs : List Behaviour) → Stands homes frames bs
    → behaviours_of (record { homes = homes; frames = frames }) ≡ bs
unfolding behaviours_of
behaviours_are homes frames bs s = settled homes frames bs s

pub placed_length : (k : ℕ) (frames : List Held) (homes : Homes) → length (placed_from k frames homes) ≡ length homes
placed_length k frames [] = refl
placed_length k frames (h ∷ homes) = ap suc (placed_length (suc k) frames homes)
