-- The topmost frame, and those below it.
use Rattle.std.proofs.Common.{◌≡◌, ◌-◌, ◌<◌, List, [], ◌∷◌, ◌++◌, length, Some, None, refl, ap, ◌∙◌, arith, length-append}
use Rattle.std.specs.Prelude.{slice_get}
use Rattle.ce_base.proofs.Places.{slice_get-append_last}
use Rattle.ce_frames.specs.Frames.{Frame}
use Rattle.frame_stack.specs.declared.waiting.Waiting.{Waiting}
use Rattle.frame_stack.specs.declared.waiting.Waiting.TheVariants.{Replying, Checking, DrainingBackup, Naming, Stepping, Draining, InReaction, CreatingFit}
use Rattle.frame_stack.specs.declared.waiting.Waiting.TheVariants.{CreatingExtended, Upgrading, Constructing}
use Rattle.frame_stack.specs.Frames.{waiting_of}
use Rattle.frame_stack.specs.Stacked.{Running, below_top, in_body, top_of}

pub top_push : (frames : List Frame) (f : Frame) → top_of (frames ++ f ∷ []) ≡ Some f
top_push [] f = refl
top_push (x ∷ []) f = refl
top_push (x ∷ y ∷ frames) f = top_push (y ∷ frames) f

pub below_push : (frames : List Frame) (f : Frame) → below_top (frames ++ f ∷ []) ≡ frames
below_push [] f = refl
below_push (x ∷ []) f = refl
below_push (x ∷ y ∷ frames) f = ap (λ l. x ∷ l) (below_push (y ∷ frames) f)

pub top_below : (frames : List Frame) (f : Frame) → top_of frames ≡ Some f → frames ≡ below_top frames ++ f ∷ []
top_below [] f h = absurd (let e : None ≡ Some f = h in cc)
top_below (x ∷ []) f h = let e : x ≡ f = cc in ap (λ y. y ∷ []) e
top_below (x ∷ y ∷ frames) f h = ap (λ l. x ∷ l) (top_below (y ∷ frames) f h)

pub some_top : (frames : List Frame) (f : Frame) → top_of frames ≡ Some f → 0 < length frames
some_top [] f h = absurd (let e : None ≡ Some f = h in cc)
some_top (x ∷ frames) f h = omega arith

-- a waiting frame stands for no frame of a body
pub plain_body : (w : Waiting) (r : Running) → waiting_of w ≡ in_body r → ⊥
plain_body (Replying line) r e = cc
plain_body (Checking line kept) r e = cc
plain_body (DrainingBackup n) r e = cc
plain_body (Naming var) r e = cc
plain_body (Stepping queue) r e = cc
plain_body (Draining queue n elements kept) r e = cc
plain_body (InReaction number) r e = cc
plain_body (CreatingFit local document) r e = cc
plain_body (CreatingExtended n) r e = cc
plain_body (Upgrading n d) r e = cc
plain_body Constructing r e = cc

-- the last frame, as it is kept

pub last_push : {X : Type 0} (xs : List X) (x : X) → slice_get (xs ++ x ∷ []) (length (xs ++ x ∷ []) - 1) ≡ Some x
last_push xs x = let n : length (xs ++ x ∷ []) - 1 ≡ length xs = omega (arith, length-append xs (x ∷ [])) in ap (slice_get (xs ++ x ∷ [])) n ∙ slice_get-append_last xs x

-- a list is empty, or has a last member
pub data Ends {X : Type 0} (xs : List X) : Type 0 where
  AtNone : xs ≡ [] → Ends xs
  AtLast : (front : List X) → (x : X) → xs ≡ front ++ x ∷ [] → Ends xs

pub ends : {X : Type 0} (xs : List X) → Ends xs
ends [] = AtNone refl
ends (x ∷ []) = AtLast [] x refl
ends (x ∷ y ∷ xs) = go (ends (y ∷ xs))
  where
    go : Ends (y ∷ xs) → Ends (x ∷ y ∷ xs)
    go (AtNone e) = absurd (let k : ◌≡◌ {A = List _} (y ∷ xs) [] = e in cc)
    go (AtLast front z e) = AtLast (x ∷ front) z (ap (λ l. x ∷ l) e)
