-- The topmost frame as it is kept: where it is read, changed and taken.
use Rattle.std.proofs.Common.{◌≡◌, ℕ, ◌-◌, ◌<◌, true, false, List, [], ◌∷◌, ◌++◌, map, length, Option, Some, None, refl, ap, sym, ◌∙◌, subst, arith}
use Rattle.std.proofs.Common.{length-append, append-nil}
use Rattle.std.specs.Prelude.{slice_get, slice_set, slice_index_or, option_map, option_to_list}
use Rattle.std.specs.Bool.{◌==◌}
use Rattle.std.proofs.Math.Dec.{eqb-suc-zero}
use Rattle.std.proofs.lemmas.List.{length-map, map-append, set_at}
use Rattle.rule_tokens.specs.declared.callback.CallName.{CallName}
use Rattle.rule_lines.specs.Acts.{Act}
use Rattle.reaction_queue.specs.ElementQueues.{is_empty}
use Rattle.ce_frames.specs.Frames.{Frame}
use Rattle.ce_frames.specs.Places.{Held, Homes, Stands, Wait, Body, seen}
use Rattle.frame_stack.specs.declared.waiting.Waiting.{Waiting}
use Rattle.frame_stack.specs.declared.waiting.Waiting.TheVariants.{Replying, Checking, DrainingBackup, Naming, Stepping, Draining, InReaction, CreatingFit}
use Rattle.frame_stack.specs.declared.waiting.Waiting.TheVariants.{CreatingExtended, Upgrading, Constructing}
use Rattle.frame_stack.specs.Frames.{IsPlain, guarded_in, is_body, is_waiting, owner_in, this_in, waiting_of}
use Rattle.frame_stack.specs.Order.{AreInOrder}
use Rattle.frame_stack.specs.Stacked.{Stacked, HasBody, behaviours_of, bodies_in, frames_of, guarded_of, in_body, owner_of, placed_from, this_of, top_of}
use Rattle.frame_stack.proofs.PushLaws.{pop_order, push_behaviours, push_frames}
use Rattle.frame_stack.proofs.TopLaws.{Ends, AtNone, AtLast, ends, last_push, plain_body, some_top, top_push}

abbrev pub stacked : Homes → List Held → Stacked
stacked homes frames = record { homes = homes; frames = frames }

-- each behaviour is in one place
pub one_place : (s : Stacked) → Stands s.homes s.frames (placed_from 0 s.frames s.homes) → Stands s.homes s.frames (behaviours_of s)
unfolding behaviours_of
one_place s h = h

pub no_behaviours : (homes : Homes) (frames : List Held) → homes ≡ [] → behaviours_of (stacked homes frames) ≡ []
unfolding behaviours_of
no_behaviours homes frames h = ap (λ (l : Homes). placed_from 0 frames l) h

pub empty_seen : (s : Stacked) → (length s.frames == 0) ≡ is_empty (frames_of s)
unfolding frames_of
empty_seen s = go s.frames
  where
    go : (l : List Held) → (length l == 0) ≡ is_empty (map (seen (bodies_in (behaviours_of s))) l)
    go [] = refl
    go (x ∷ l) = eqb-suc-zero (length l)

-- what is read off the topmost frame

top_seen : (bodies : List (List (CallName × Act))) (frames : List Held) (f : Held) → slice_get frames (length frames - 1) ≡ Some f
    → top_of (map (seen bodies) frames) ≡ Some (seen bodies f)
top_seen bodies frames f h = go (ends frames)
  where
    go : Ends frames → top_of (map (seen bodies) frames) ≡ Some (seen bodies f)
    go (AtNone e) = let k : None ≡ Some f = sym (ap (λ (l : List Held). slice_get l (length l - 1)) e) ∙ h in absurd cc
    go (AtLast front x e) =
        let is : Some x ≡ Some f = sym (last_push front x) ∙ sym (ap (λ (l : List Held). slice_get l (length l - 1)) e) ∙ h in
        ap (λ (l : List Held). top_of (map (seen bodies) l)) e ∙ ap top_of (map-append (seen bodies) front (x ∷ []))
        ∙ top_push (map (seen bodies) front) (seen bodies x) ∙ ap (option_map (seen bodies)) is

no_top : (bodies : List (List (CallName × Act))) (frames : List Held) → slice_get frames (length frames - 1) ≡ None → top_of (map (seen bodies) frames) ≡ None
no_top bodies frames h = go (ends frames)
  where
    go : Ends frames → top_of (map (seen bodies) frames) ≡ None
    go (AtNone e) = ap (λ (l : List Held). top_of (map (seen bodies) l)) e
    go (AtLast front x e) = let k : Some x ≡ None = sym (last_push front x) ∙ sym (ap (λ (l : List Held). slice_get l (length l - 1)) e) ∙ h in absurd cc

pub none_read : {A : Type 0} (s : Stacked) (read : Option Frame → A) → slice_get s.frames (length s.frames - 1) ≡ None → read None ≡ read (top_of (frames_of s))
unfolding frames_of
none_read s read h = sym (ap read (no_top (bodies_in (behaviours_of s)) s.frames h))

pub top_read : {A : Type 0} (s : Stacked) (f : Held) (read : Option Frame → A) (x : A) → slice_get s.frames (length s.frames - 1) ≡ Some f
    → ((bodies : List (List (CallName × Act))) → x ≡ read (Some (seen bodies f))) → x ≡ read (top_of (frames_of s))
unfolding frames_of
top_read s f read x h same = same (bodies_in (behaviours_of s)) ∙ sym (ap read (top_seen (bodies_in (behaviours_of s)) s.frames f h))

waiting_read : {A : Type 0} (read : Option Frame → A) (x : A) → ((w : Waiting) → x ≡ read (Some (waiting_of w))) → (f : Frame)
    → ((w : Waiting) × (Wait f ≡ Wait (waiting_of w))) → x ≡ read (Some f)
waiting_read read x each f plain = let w : Wait f ≡ Wait (waiting_of plain.0) = plain.1 in let e : waiting_of plain.0 ≡ f =
    cc in each plain.0 ∙ ap (λ (g : Frame). read (Some g)) e

pub this_seen : (f : Held) → IsPlain f → (bodies : List (List (CallName × Act))) → this_in f ≡ this_of (Some (seen bodies f))
this_seen (Wait f) plain bodies = waiting_read this_of None each f plain
  where
    each : (w : Waiting) → None ≡ this_of (Some (waiting_of w))
    each (Replying line) = refl
    each (Checking line kept) = refl
    each (DrainingBackup n) = refl
    each (Naming var) = refl
    each (Stepping queue) = refl
    each (Draining queue n elements kept) = refl
    each (InReaction number) = refl
    each (CreatingFit local document) = refl
    each (CreatingExtended n) = refl
    each (Upgrading n d) = refl
    each Constructing = refl
this_seen (Body k p held) plain bodies = refl

pub owner_seen : (f : Held) → IsPlain f → (bodies : List (List (CallName × Act))) → owner_in f ≡ owner_of (Some (seen bodies f))
owner_seen (Wait f) plain bodies = waiting_read owner_of None each f plain
  where
    each : (w : Waiting) → None ≡ owner_of (Some (waiting_of w))
    each (Replying line) = refl
    each (Checking line kept) = refl
    each (DrainingBackup n) = refl
    each (Naming var) = refl
    each (Stepping queue) = refl
    each (Draining queue n elements kept) = refl
    each (InReaction number) = refl
    each (CreatingFit local document) = refl
    each (CreatingExtended n) = refl
    each (Upgrading n d) = refl
    each Constructing = refl
owner_seen (Body k p held) plain bodies = refl

pub guarded_seen : (f : Held) → IsPlain f → (bodies : List (List (CallName × Act))) → guarded_in f ≡ guarded_of (Some (seen bodies f))
guarded_seen (Wait f) plain bodies = waiting_read guarded_of false each f plain
  where
    each : (w : Waiting) → false ≡ guarded_of (Some (waiting_of w))
    each (Replying line) = refl
    each (Checking line kept) = refl
    each (DrainingBackup n) = refl
    each (Naming var) = refl
    each (Stepping queue) = refl
    each (Draining queue n elements kept) = refl
    each (InReaction number) = refl
    each (CreatingFit local document) = refl
    each (CreatingExtended n) = refl
    each (Upgrading n d) = refl
    each Constructing = refl
guarded_seen (Body k p held) plain bodies = refl

-- where it is of a body

seen_frame : (s : Stacked) → HasBody (frames_of s) → 0 < length s.frames
unfolding frames_of
seen_frame s b =
    let some = some_top (frames_of s) (in_body b.body) b.top in
    let n : length (frames_of s) ≡ length s.frames = length-map s.frames (seen (bodies_in (behaviours_of s))) in
    omega (arith, some, n)

pub has_frame : (homes : Homes) (frames : List Held) (now : Stacked) → stacked homes frames ≡ now → HasBody (frames_of now) → 0 < length frames
has_frame homes frames now is b = seen_frame (stacked homes frames) (subst (λ (s : Stacked). HasBody (frames_of s)) (sym is) b)

seen_body : (s : Stacked) (f : Held) → HasBody (frames_of s) → slice_get s.frames (length s.frames - 1) ≡ Some f → IsPlain f → is_body f ≡ false → ⊥
unfolding frames_of
seen_body s (Wait g) b at plain other =
    let e : Some g ≡ Some (in_body b.body) = sym (top_seen (bodies_in (behaviours_of s)) s.frames (Wait g) at) ∙ b.top in
    let i : g ≡ in_body b.body = cc in
    let w : Wait g ≡ Wait (waiting_of plain.0) = plain.1 in
    let j : waiting_of plain.0 ≡ g = cc in
    plain_body plain.0 b.body (j ∙ i)
seen_body s (Body k p held) b at plain other = let e : true ≡ false = other in absurd cc

pub no_other : (homes : Homes) (frames front : List Held) (f : Held) (now : Stacked) → stacked homes frames ≡ now → HasBody (frames_of now)
    → frames ≡ front ++ f ∷ [] → IsPlain f → is_body f ≡ false → ⊥
no_other homes frames front f now is b split plain other =
    seen_body (stacked homes frames) f (subst (λ (s : Stacked). HasBody (frames_of s)) (sym is) b)
    (ap (λ (l : List Held). slice_get l (length l - 1)) split ∙ last_push front f) plain other

-- it is at its place, and may be changed there
pub record AtTop (frames : List Held) (i : ℕ) (f : Held) : Type 0 where
  pub front : List Held
  pub is : frames ≡ front ++ f ∷ []
  pub set : (g : Held) → slice_set frames i g ≡ front ++ g ∷ []

or_push : (front : List Held) (x d : Held) → slice_index_or (front ++ x ∷ []) (length front) d ≡ x
or_push [] x d = refl
or_push (y ∷ front) x d = or_push front x d

pub at_top : (frames : List Held) (n : ℕ) (f : Held) → 0 < length frames → n ≡ length frames → f ≡ slice_index_or frames (n - 1) f → AtTop frames (n - 1) f
at_top frames n f some many here = go (ends frames)
  where
    go : Ends frames → AtTop frames (n - 1) f
    go (AtNone e) = let z = ap length e in absurd (omega (arith, some, z))
    go (AtLast front x e) =
        let z = ap length e in
        let l = length-append front (x ∷ []) in
        let i : n - 1 ≡ length front = omega (arith, z, l, many) in
        let same : f ≡ x = here ∙ ap (λ (l : List Held). slice_index_or l (n - 1) f) e ∙ ap (λ (k : ℕ). slice_index_or (front ++ x ∷ []) k f) i
        ∙ or_push front x f in
        record {
          front = front;
          is = e ∙ ap (λ (y : Held). front ++ y ∷ []) (sym same);
          set = λ g. ap (λ (l : List Held). slice_set l (n - 1) g) e ∙ ap (λ (k : ℕ). slice_set (front ++ x ∷ []) k g) i
              ∙ set_at front x [] g (length front) refl;
        }

-- it is taken, where it is of no body

waits_at : (homes : Homes) (frames left : List Held) (f : Held) → frames ≡ left ++ f ∷ [] → is_waiting (slice_get frames (length frames - 1)) ≡ true
    → is_waiting (Some f) ≡ true
waits_at homes frames left f is waits = sym (ap is_waiting (ap (λ (l : List Held). slice_get l (length l - 1)) is ∙ last_push left f)) ∙ waits

pub no_body_taken : (homes : Homes) (frames left : List Held) (f : Held) → frames ≡ left ++ f ∷ [] → is_waiting (slice_get frames (length frames - 1)) ≡ true
    → is_body f ≡ false
no_body_taken homes frames left (Wait f) is waits = refl
no_body_taken homes frames left (Body k p held) is waits = let e : false ≡ true = waits_at homes frames left (Body k p held) is waits in absurd cc

pub taken_order : (homes : Homes) (chains : List (List ℕ)) (frames left : List Held) (o : Option Held) → AreInOrder homes chains frames
    → frames ≡ left ++ option_to_list o → is_waiting (slice_get frames (length frames - 1)) ≡ true → AreInOrder homes chains left
taken_order homes chains frames left None o is waits = subst (AreInOrder homes chains) (is ∙ append-nil left) o
taken_order homes chains frames left (Some (Wait f)) o is waits = pop_order homes chains left f (subst (AreInOrder homes chains) is o)
taken_order homes chains frames left (Some (Body k p held)) o is waits = let e : false ≡ true = waits_at homes frames left (Body k p held) is waits in absurd cc

pub taken_behaviours : (homes : Homes) (chains : List (List ℕ)) (frames left : List Held) (o : Option Held) → AreInOrder homes chains frames
    → frames ≡ left ++ option_to_list o → is_waiting (slice_get frames (length frames - 1)) ≡ true
    → behaviours_of (stacked homes left) ≡ behaviours_of (stacked homes frames)
taken_behaviours homes chains frames left None o is waits = ap (λ (l : List Held). behaviours_of (stacked homes l)) (sym (is ∙ append-nil left))
taken_behaviours homes chains frames left (Some (Wait f)) o is waits =
    sym (push_behaviours homes chains left f (pop_order homes chains left f (subst (AreInOrder homes chains) is o)))
    ∙ ap (λ (l : List Held). behaviours_of (stacked homes l)) (sym is)
taken_behaviours homes chains frames left (Some (Body k p held)) o is waits = let e : false ≡ true =
    waits_at homes frames left (Body k p held) is waits in absurd cc

pub taken_frames : (homes : Homes) (chains : List (List ℕ)) (frames left : List Held) (f : Held) (w : Frame) → AreInOrder homes chains frames
    → frames ≡ left ++ f ∷ [] → f ≡ Wait w
    → frames_of (stacked homes frames) ≡ frames_of (stacked homes left) ++ w ∷ []
taken_frames homes chains frames left f w o is waits =
    let all : frames ≡ left ++ Wait w ∷ [] = is ∙ ap (λ (x : Held). left ++ x ∷ []) waits in
    ap (λ (l : List Held). frames_of (stacked homes l)) all
    ∙ push_frames homes chains left w (pop_order homes chains left w (subst (AreInOrder homes chains) all o))
