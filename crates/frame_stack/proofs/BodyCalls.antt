-- What the calls on frames of bodies leave.
use Rattle.std.proofs.Common.{◌≡◌, ℕ, ◌<◌, ◌≤◌, true, false, List, [], ◌∷◌, ◌++◌, length, Option, Some, None, Result, ap, sym, ◌∙◌, subst}
use Rattle.std.specs.Prelude.{slice_set, is_some, IfOk, MatchOption}
use Rattle.std.proofs.lemmas.Result.{IfOk-weaker}
use Rattle.rule_tokens.specs.declared.callback.CallName.{CallName}
use Rattle.ce_base.specs.declared.memory.NoMemory.{NoMemory}
use Rattle.ce_algorithms.specs.Values.{Args}
use Rattle.ce_frames.specs.Frames.{InBody}
use Rattle.ce_frames.specs.Places.{Behaviour, Held, Homes, Wait, Body, held_in, home_of}
use Rattle.class_bodies.specs.declared.next.Next.{Next}
use Rattle.behaviours.specs.Next.{stop_of}
use Rattle.frame_stack.specs.Chains.{linked, topmost, unlinked}
use Rattle.body_frames.specs.Kept.{first_place}
use Rattle.body_frames.specs.Resumes.{FrameResumes, IsSameBody}
use Rattle.frame_stack.specs.Frames.{class_in, is_body}
use Rattle.frame_stack.specs.Moves.{frames_filled, frames_left, holding_at, homes_filled, homes_left, taken}
use Rattle.frame_stack.specs.Order.{AreInOrder}
use Rattle.frame_stack.specs.Resumes.{IsForSession, Proceeds, Resumes}
use Rattle.frame_stack.specs.Stacked.{Stacked, actions_at, behaviours_of, below_top, frames_of}
use Rattle.frame_stack.proofs.BeginLaws.{begin_behaviours, begin_frames, begin_order, below_there, unknown_behaviours, unknown_frames, unknown_order}
use Rattle.frame_stack.proofs.EndLaws.{end_behaviours, end_frames, end_order, gone_behaviours, gone_frames, gone_order, has_home, room_below}
use Rattle.frame_stack.proofs.ResumeLaws.{resume_order, resume_resumes}
use Rattle.frame_stack.proofs.SpendLaws.{resumes_spends}
use Rattle.frame_stack.proofs.StopLaws.{resumes_stops}
use Rattle.frame_stack.proofs.Tops.{AtTop, stacked}

-- a body begins

pub record Begins (homes : Homes) (chains : List (List ℕ)) (kept : List Held) (old : Stacked) (k : ℕ) (call : CallName) (args : Args)
    (this : Option ℕ) : Type 0 where
  pub order : AreInOrder homes chains kept
  pub frames : frames_of (stacked homes kept) ≡ frames_of old ++ InBody k args this false (actions_at call k (behaviours_of old)) ∷ []
  pub behaviours : behaviours_of (stacked homes kept) ≡ behaviours_of old

module _ (homes : Homes) (chains : List (List ℕ)) (frames : List Held) (k : ℕ) (call : CallName) (args : Args) (this : Option ℕ)
    (o : AreInOrder homes chains frames) (pushed : List Held) (is : pushed ≡ frames ++ Body k (first_place call args this) None ∷ []) where
  abbrev first : Held
  first = Body k (first_place call args this) None

  abbrev old : Stacked
  old = stacked homes frames

  pub unknown_begun : length homes ≤ k → Begins homes chains pushed old k call args this
  unknown_begun past = subst (λ (l : List Held). Begins homes chains l old k call args this) (sym is) (record {
    order = unknown_order homes chains frames k (first_place call args this) o past;
    frames = unknown_frames homes chains frames k (first_place call args this) o past;
    behaviours = unknown_behaviours homes chains frames k (first_place call args this) o past;
  })

  pub known_there : (below : Option ℕ) (n : ℕ) → k < length homes → below ≡ topmost k chains → n ≡ length pushed
      → MatchOption below (is_some (home_of homes k) ≡ true) (λ i. i < n)
  known_there below n within same many =
      subst (λ (t : Option ℕ). MatchOption t (is_some (home_of homes k) ≡ true) (λ i. i < n)) (sym same)
      (subst (λ (m : ℕ). MatchOption (topmost k chains) (is_some (home_of homes k) ≡ true) (λ i. i < m)) (sym (many ∙ ap length is))
      (below_there homes chains frames first k o within))

  abbrev BeginsAt : Homes → List (List ℕ) → List Held → Type 0
  BeginsAt h c l = Begins h c l old k call args this

  pub known_begun : (below : Option ℕ) (index : ℕ) (homes1 : Homes) (chains1 : List (List ℕ)) (frames1 : List Held) → k < length homes
      → below ≡ topmost k chains → index ≡ length frames
      → homes1 ≡ homes_left below k homes → chains1 ≡ linked k index chains
      → frames1 ≡ holding_at index (taken below k homes pushed) (frames_left below pushed) → BeginsAt homes1 chains1 frames1
  known_begun below index homes1 chains1 frames1 within same at hs cs fs =
      let p = first_place call args this in
      let first_of : List Held = frames ++ first ∷ [] in
      let b0 : BeginsAt (homes_left (topmost k chains) k homes) (linked k (length frames) chains)
      (holding_at (length frames) (taken (topmost k chains) k homes first_of) (frames_left (topmost k chains) first_of)) =
      record {
        order = begin_order homes chains frames k p o within;
        frames = begin_frames homes chains frames k p o within;
        behaviours = begin_behaviours homes chains frames k p o within;
      } in
      let b1 = subst (λ (t : Option ℕ). BeginsAt (homes_left t k homes) (linked k (length frames) chains)
      (holding_at (length frames) (taken t k homes first_of) (frames_left t first_of))) (sym same) b0 in
      let b2 = subst (λ (n : ℕ). BeginsAt (homes_left below k homes) (linked k n chains)
      (holding_at n (taken below k homes first_of) (frames_left below first_of))) (sym at) b1 in
      let b3 = subst (λ (l : List Held). BeginsAt (homes_left below k homes) (linked k index chains)
      (holding_at index (taken below k homes l) (frames_left below l))) (sym is) b2 in
      let b4 = subst (λ (h : Homes). BeginsAt h (linked k index chains) (holding_at index (taken below k homes pushed) (frames_left below pushed)))
      (sym hs) b3 in
      let b5 = subst (λ (c : List (List ℕ)). BeginsAt homes1 c (holding_at index (taken below k homes pushed) (frames_left below pushed))) (sym cs) b4 in
      subst (λ (l : List Held). BeginsAt homes1 chains1 l) (sym fs) b5

-- a body goes on

module _ (homes : Homes) (chains : List (List ℕ)) (frames : List Held) (i : ℕ) (f g : Held) (before after : ℕ) (now : Stacked)
    (view : stacked homes frames ≡ now) (o : AreInOrder homes chains frames) (top : AtTop frames i f) where
  front_order : AreInOrder homes chains (top.front ++ f ∷ [])
  front_order = subst (AreInOrder homes chains) top.is o

  pub changed_order : IsSameBody f g → AreInOrder homes chains (slice_set frames i g)
  changed_order same = subst (AreInOrder homes chains) (sym (top.set g)) (resume_order homes chains top.front f g front_order same)

  resumes : (next : Next) → FrameResumes f g before after next → Resumes now (stacked homes (slice_set frames i g)) before after next
  resumes next h =
      subst (λ (s : Stacked). Resumes s (stacked homes (slice_set frames i g)) before after next) view
      (subst (λ (l : List Held). Resumes (stacked homes frames) (stacked homes l) before after next) (sym (top.set g))
      (subst (λ (l : List Held). Resumes (stacked homes l) (stacked homes (top.front ++ g ∷ [])) before after next) (sym top.is)
      (resume_resumes homes chains top.front f g before after next front_order h)))

  pub has_resumed : (r : Result Next NoMemory) → IfOk r (FrameResumes f g before after)
      → IfOk r (Resumes now (stacked homes (slice_set frames i g)) before after)
  has_resumed r h = IfOk-weaker r (FrameResumes f g before after) (Resumes now (stacked homes (slice_set frames i g)) before after) resumes h

  pub has_stopped : (r : Result Next NoMemory) → IfOk r (FrameResumes f g before after) → IfOk r (λ (next : Next). IsForSession (stop_of next))
  has_stopped r h = IfOk-weaker r (FrameResumes f g before after) (λ (next : Next). IsForSession (stop_of next))
      (λ next e. resumes_stops now (stacked homes (slice_set frames i g)) before after next (resumes next e)) h

  pub has_spent : (r : Result Next NoMemory) → IfOk r (FrameResumes f g before after) → IfOk r (λ (next : Next). Proceeds (stop_of next) → after < before)
  has_spent r h = IfOk-weaker r (FrameResumes f g before after) (λ (next : Next). Proceeds (stop_of next) → after < before)
      (λ next e does. resumes_spends now (stacked homes (slice_set frames i g)) before after next (resumes next e) does) h

-- a body ends

pub record Leaves (homes : Homes) (chains : List (List ℕ)) (kept : List Held) (old : Stacked) : Type 0 where
  pub order : AreInOrder homes chains kept
  pub frames : frames_of (stacked homes kept) ≡ below_top (frames_of old)
  pub behaviours : behaviours_of (stacked homes kept) ≡ behaviours_of old

pub gone : (homes : Homes) (chains : List (List ℕ)) (frames left : List Held) (f : Held) (h : Option Behaviour) → AreInOrder homes chains frames
    → frames ≡ left ++ f ∷ [] → is_body f ≡ true → h ≡ held_in f → h ≡ None
    → Leaves homes chains left (stacked homes frames)
gone homes chains frames left (Wait f) h o is body held none = absurd (let e : false ≡ true = body in cc)
gone homes chains frames left (Body k p (Some b)) h o is body held none = absurd (let e : Some b ≡ None = sym held ∙ none in cc)
gone homes chains frames left (Body k p None) h o is body held none =
    let all : AreInOrder homes chains (left ++ Body k p None ∷ []) = subst (AreInOrder homes chains) is o in
    record {
      order = gone_order homes chains left k p all;
      frames = gone_frames homes chains left k p all ∙ ap (λ (l : List Held). below_top (frames_of (stacked homes l))) (sym is);
      behaviours = gone_behaviours homes chains left k p all ∙ ap (λ (l : List Held). behaviours_of (stacked homes l)) (sym is);
    }

abbrev filled : ℕ → Behaviour → Homes → List (List ℕ) → Homes
filled k b homes chains = homes_filled (topmost k (unlinked k chains)) k b homes

abbrev filling : ℕ → Behaviour → List (List ℕ) → List Held → List Held
filling k b chains left = frames_filled (topmost k (unlinked k chains)) b left

-- of a body with its behaviour
pub record Falls (homes : Homes) (chains : List (List ℕ)) (left : List Held) (old : Stacked) (k : ℕ) (b : Behaviour) : Type 0 where
  pub within : k < length homes
  pub room : MatchOption (topmost k (unlinked k chains)) ((k < length homes) × (home_of homes k ≡ None)) (λ i. i < length left)
  pub leaves : Leaves (filled k b homes chains) (unlinked k chains) (filling k b chains left) old

pub falls : (homes : Homes) (chains : List (List ℕ)) (frames left : List Held) (f : Held) (k : ℕ) (h : Option Behaviour) (b : Behaviour)
    → AreInOrder homes chains frames → frames ≡ left ++ f ∷ [] → is_body f ≡ true → k ≡ class_in f → h ≡ held_in f → h ≡ Some b
    → Falls homes chains left (stacked homes frames) k b
falls homes chains frames left (Wait f) k h b o is body class held some = absurd (let e : false ≡ true = body in cc)
falls homes chains frames left (Body j p None) k h b o is body class held some = absurd (let e : None ≡ Some b = sym held ∙ some in cc)
falls homes chains frames left (Body j p (Some a)) k h b o is body class held some =
    let e : Some a ≡ Some b = sym held ∙ some in
    let same : a ≡ b = cc in
    let all : AreInOrder homes chains (left ++ Body j p (Some a) ∷ []) = subst (AreInOrder homes chains) is o in
    subst (λ (n : ℕ). Falls homes chains left (stacked homes frames) n b) (sym class)
    (subst (λ (x : Behaviour). Falls homes chains left (stacked homes frames) j x) same (record {
      within = has_home homes chains left j p a all;
      room = room_below homes chains left j p a all;
      leaves = record {
        order = end_order homes chains left j p a all;
        frames = end_frames homes chains left j p a all ∙ ap (λ (l : List Held). below_top (frames_of (stacked homes l))) (sym is);
        behaviours = end_behaviours homes chains left j p a all ∙ ap (λ (l : List Held). behaviours_of (stacked homes l)) (sym is);
      };
    }))

module _ (homes : Homes) (chains : List (List ℕ)) (left : List Held) (old : Stacked) (k : ℕ) (b : Behaviour) (h : Falls homes chains left old k b)
    (chains1 : List (List ℕ)) (below : Option ℕ) (cs : chains1 ≡ unlinked k chains) (bs : below ≡ topmost k chains1) where
  same_below : below ≡ topmost k (unlinked k chains)
  same_below = bs ∙ ap (topmost k) cs

  pub falls_room : (n : ℕ) → n ≡ length left → MatchOption below ((k < length homes) × (home_of homes k ≡ None)) (λ i. i < n)
  falls_room n many =
      subst (λ (t : Option ℕ). MatchOption t ((k < length homes) × (home_of homes k ≡ None)) (λ i. i < n)) (sym same_below)
      (subst (λ (m : ℕ). MatchOption (topmost k (unlinked k chains)) ((k < length homes) × (home_of homes k ≡ None)) (λ i. i < m)) (sym many) h.room)

  pub falls_leaves : (homes1 : Homes) (frames1 : List Held) → homes1 ≡ homes_filled below k b homes → frames1 ≡ frames_filled below b left
      → Leaves homes1 chains1 frames1 old
  falls_leaves homes1 frames1 hs fs =
      let l1 = subst (λ (t : Option ℕ). Leaves (homes_filled t k b homes) (unlinked k chains) (frames_filled t b left) old) (sym same_below) h.leaves in
      let l2 = subst (λ (c : List (List ℕ)). Leaves (homes_filled below k b homes) c (frames_filled below b left) old) (sym cs) l1 in
      let l3 = subst (λ (h : Homes). Leaves h chains1 (frames_filled below b left) old) (sym hs) l2 in
      subst (λ (l : List Held). Leaves homes1 chains1 l old) (sym fs) l3
