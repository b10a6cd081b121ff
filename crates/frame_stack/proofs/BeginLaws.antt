-- A body begins.
use Rattle.std.proofs.Common.{◌≡◌, ℕ, zero, suc, ◌<◌, ◌≤◌, true, List, [], ◌∷◌, ◌++◌, map, length, Option, Some, None, refl, ap, sym, ◌∙◌, subst, arith}
use Rattle.std.specs.Prelude.{slice_get, slice_set, is_some, MatchOption}
use Rattle.std.proofs.lemmas.List.{length-set, map-append, set-append_left, set_at, length-append}
use Rattle.std.proofs.lemmas.Option.{slice_get_within, slice_get_past}
use Rattle.ce_base.proofs.Places.{slice_get-append_front, slice_get-append_last}
use Rattle.rule_tokens.specs.declared.callback.CallName.{CallName}
use Rattle.rule_lines.specs.Acts.{Act}
use Rattle.ce_frames.specs.Frames.{Frame}
use Rattle.ce_frames.specs.Places.{Behaviour, Held, Homes, IsTopmost, NoneOf, OnlyLast, Place, Stands, Wait, Body, held_in, holding, home_of, place_if}
use Rattle.ce_frames.specs.Places.{places_of, seen}
use Rattle.ce_frames.proofs.Moves.{fetched, from_home, unknown_begins, seen_holding}
use Rattle.frame_stack.specs.Chains.{AreChained, indices_of, linked, topmost}
use Rattle.frame_stack.specs.Moves.{frames_left, held_at, holding_at, homes_left, or_waiting, taken}
use Rattle.frame_stack.specs.Order.{AreInOrder}
use Rattle.frame_stack.specs.Stacked.{behaviours_of, bodies_in, frames_of, placed_from}
use Rattle.frame_stack.proofs.ChainLaws.{chained_known, chained_push, holding_indices, topmost_at, topmost_none, unknown_indices}
use Rattle.frame_stack.proofs.PushLaws.{frames_are}
use Rattle.frame_stack.proofs.Settled.{behaviours_are, in_order}

-- lists

pub front_held : (frames : List Held) (f : Held) (i : ℕ) → i < length frames → held_at (frames ++ f ∷ []) i ≡ held_at frames i
front_held frames f i h = ap or_waiting (slice_get-append_front frames (f ∷ []) i h)

-- what a frame below the last one holds is changed
pub holding_front : (frames : List Held) (f : Held) (i : ℕ) (b : Option Behaviour) → i < length frames
    → holding_at i b (frames ++ f ∷ []) ≡ holding_at i b frames ++ f ∷ []
holding_front frames f i b h =
    ap (λ (g : Held). slice_set (frames ++ f ∷ []) i (holding b g)) (front_held frames f i h)
    ∙ set-append_left frames (f ∷ []) i (holding b (held_at frames i)) h

-- and what the last one holds
pub holding_last : (frames : List Held) (f : Held) (n : ℕ) (b : Option Behaviour) → length frames ≡ n
    → holding_at n b (frames ++ f ∷ []) ≡ frames ++ holding b f ∷ []
holding_last frames f n b is =
    ap (λ (m : ℕ). holding_at m b (frames ++ f ∷ [])) (sym is)
    ∙ ap (λ (o : Option Held). slice_set (frames ++ f ∷ []) (length frames) (holding b (or_waiting o))) (slice_get-append_last frames f)
    ∙ set_at frames f [] (holding b f) (length frames) refl

-- a frame that is there

pub seen_set : (bodies : List (List (CallName × Act))) (frames : List Held) (i : ℕ) (f : Held) (b : Option Behaviour) → slice_get frames i ≡ Some f
    → map (seen bodies) (slice_set frames i (holding b f)) ≡ map (seen bodies) frames
seen_set bodies [] i f b at = refl
seen_set bodies (x ∷ frames) zero f b at = let is : f ≡ x =
    cc in ap (λ (y : Frame). y ∷ map (seen bodies) frames) (seen_holding bodies b f ∙ ap (seen bodies) is)
seen_set bodies (x ∷ frames) (suc i) f b at = ap (λ l. seen bodies x ∷ l) (seen_set bodies frames i f b at)

-- where the topmost frame of a class lies, or that it has none

abbrev pub Found : ℕ → List Held → Option ℕ → Type 0
Found k frames None = NoneOf k frames
Found k frames (Some i) = (f : Held) × IsTopmost k frames i f

pub found : (classes k : ℕ) (chains : List (List ℕ)) (frames : List Held) → AreChained classes chains frames → k < classes → Found k frames (topmost k chains)
found classes k chains frames c within = go (topmost k chains) refl
  where
    go : (o : Option ℕ) → topmost k chains ≡ o → Found k frames o
    go None e = topmost_none classes k chains frames c within e
    go (Some i) e = topmost_at classes k i chains frames c within e

-- a class that is there has a behaviour
pub class_there : (homes : Homes) (frames : List Held) (bs : List Behaviour) (k : ℕ) → Stands homes frames bs → k < length homes
    → (b : Behaviour) × (slice_get bs k ≡ Some b)
class_there homes frames bs k s within = let each = s.each in at bs k (omega (arith, within, each))
  where
    at : (bs : List Behaviour) (k : ℕ) → k < length bs → (b : Behaviour) × (slice_get bs k ≡ Some b)
    at [] k h = absurd (omega (arith, h))
    at (b ∷ bs) zero h = (b, refl)
    at (b ∷ bs) (suc k) h = at bs k (omega (arith, h))

pub class_gone : (homes : Homes) (frames : List Held) (bs : List Behaviour) (k : ℕ) → Stands homes frames bs → length homes ≤ k → slice_get bs k ≡ None
class_gone homes frames bs k s past = let each = s.each in slice_get_past bs k (omega (arith, past, each))

-- where the class has no frame, its behaviour is at home
pub home_there : (homes : Homes) (frames : List Held) (bs : List Behaviour) (k : ℕ) → Stands homes frames bs → NoneOf k frames
    → home_of homes k ≡ slice_get bs k
home_there homes frames bs k s none = subst (λ l. OnlyLast (slice_get bs k) (home_of homes k ∷ l)) (no_places frames none) (s.one k)
  where
    no_places : (frames : List Held) → NoneOf k frames → places_of k frames ≡ []
    no_places [] none = refl
    no_places (Wait f ∷ frames) none = no_places frames none.1
    no_places (Body c p h ∷ frames) none = ap (λ t. place_if t h (places_of k frames)) none.0 ∙ no_places frames none.1

-- the moves of a body that begins

begun_frames : (homes : Homes) (frames : List Held) (k : ℕ) (p : Place) (below : Option ℕ) → Found k frames below
    → holding_at (length frames) (taken below k homes (frames ++ Body k p None ∷ [])) (frames_left below (frames ++ Body k p None ∷ []))
    ≡ frames_left below frames ++ Body k p (taken below k homes frames) ∷ []
begun_frames homes frames k p None none = holding_last frames (Body k p None) (length frames) (home_of homes k) refl
begun_frames homes frames k p (Some i) found =
    let within = slice_get_within frames i found.0 found.1.at in
    let held : Option Behaviour = held_in (held_at frames i) in
    ap (λ (g : Held). holding_at (length frames) (held_in g) (frames_left (Some i) (frames ++ Body k p None ∷ []))) (front_held frames (Body k p None) i within)
    ∙ ap (holding_at (length frames) held) (holding_front frames (Body k p None) i None within)
    ∙ holding_last (holding_at i None frames) (Body k p None) (length frames) held (length-set frames i (holding None (held_at frames i)))

begun_stands : (homes : Homes) (frames : List Held) (bs : List Behaviour) (k : ℕ) (p : Place) (below : Option ℕ) → Found k frames below → Stands homes frames bs
    → Stands (homes_left below k homes) (frames_left below frames ++ Body k p (taken below k homes frames) ∷ []) bs
begun_stands homes frames bs k p None none s = from_home homes frames bs k p none s
begun_stands homes frames bs k p (Some i) found s =
    subst (λ (g : Held). Stands homes (slice_set frames i (holding None g) ++ Body k p (held_in g) ∷ []) bs) (sym (ap or_waiting found.1.at))
    (fetched homes frames bs k i p found.0 found.1 s)

begun_indices : (frames : List Held) (k j : ℕ) (below : Option ℕ) → Found k frames below → indices_of j (frames_left below frames) ≡ indices_of j frames
begun_indices frames k j None none = refl
begun_indices frames k j (Some i) found =
    ap (λ (g : Held). indices_of j (slice_set frames i (holding None g))) (ap or_waiting found.1.at) ∙ holding_indices j i frames found.0 None found.1.at

left_length : (frames : List Held) (k : ℕ) (below : Option ℕ) → Found k frames below → length (frames_left below frames) ≡ length frames
left_length frames k None none = refl
left_length frames k (Some i) found = length-set frames i (holding None (held_at frames i))

left_homes : (homes : Homes) (frames : List Held) (k : ℕ) (below : Option ℕ) → Found k frames below → length (homes_left below k homes) ≡ length homes
left_homes homes frames k None none = length-set homes k None
left_homes homes frames k (Some i) found = refl

left_seen : (bodies : List (List (CallName × Act))) (frames : List Held) (k : ℕ) (below : Option ℕ) → Found k frames below
    → map (seen bodies) (frames_left below frames) ≡ map (seen bodies) frames
left_seen bodies frames k None none = refl
left_seen bodies frames k (Some i) found =
    ap (λ (g : Held). map (seen bodies) (slice_set frames i (holding None g))) (ap or_waiting found.1.at) ∙ seen_set bodies frames i found.0 None found.1.at

-- what is taken is there
pub below_there : (homes : Homes) (chains : List (List ℕ)) (frames : List Held) (f : Held) (k : ℕ) → AreInOrder homes chains frames → k < length homes
    → MatchOption (topmost k chains) (is_some (home_of homes k) ≡ true) (λ i. i < length (frames ++ f ∷ []))
below_there homes chains frames f k o within = go (topmost k chains) (found (length homes) k chains frames o.chained within)
  where
    go : (below : Option ℕ) → Found k frames below → MatchOption below (is_some (home_of homes k) ≡ true) (λ i. i < length (frames ++ f ∷ []))
    go None none =
        let b = class_there homes frames (placed_from 0 frames homes) k o.placed within in
        ap is_some (home_there homes frames (placed_from 0 frames homes) k o.placed none ∙ b.1)
    go (Some i) found = let h = slice_get_within frames i found.0 found.1.at in let l = length-append frames (f ∷ []) in omega (arith, h, l)

-- a body of a class that is there
module _ (homes : Homes) (chains : List (List ℕ)) (frames : List Held) (k : ℕ) (p : Place) (o : AreInOrder homes chains frames)
    (within : k < length homes) where
  where_it_is : Found k frames (topmost k chains)
  where_it_is = found (length homes) k chains frames o.chained within

  abbrev new_homes : Homes
  new_homes = homes_left (topmost k chains) k homes

  abbrev new_frames : List Held
  new_frames = holding_at (length frames) (taken (topmost k chains) k homes (frames ++ Body k p None ∷ []))
      (frames_left (topmost k chains) (frames ++ Body k p None ∷ []))

  frames_is : new_frames ≡ frames_left (topmost k chains) frames ++ Body k p (taken (topmost k chains) k homes frames) ∷ []
  frames_is = begun_frames homes frames k p (topmost k chains) where_it_is

  stands : Stands new_homes new_frames (placed_from 0 frames homes)
  stands = subst (λ l. Stands new_homes l (placed_from 0 frames homes)) (sym frames_is)
      (begun_stands homes frames (placed_from 0 frames homes) k p (topmost k chains) where_it_is o.placed)

  chained : AreChained (length new_homes) (linked k (length frames) chains) new_frames
  chained =
      let left : List Held = frames_left (topmost k chains) frames in
      let c : AreChained (length homes) chains left =
      chained_known (length homes) chains frames left (λ j _. begun_indices frames k j (topmost k chains) where_it_is) o.chained in
      let more = chained_push (length homes) k chains left p (taken (topmost k chains) k homes frames) c within in
      subst (λ n. AreChained n (linked k (length frames) chains) new_frames) (sym (left_homes homes frames k (topmost k chains) where_it_is))
      (subst (λ l. AreChained (length homes) (linked k (length frames) chains) l) (sym frames_is)
      (subst (λ n. AreChained (length homes) (linked k n chains) (left ++ Body k p (taken (topmost k chains) k homes frames) ∷ []))
      (left_length frames k (topmost k chains) where_it_is) more))

  pub begin_order : AreInOrder new_homes (linked k (length frames) chains) new_frames
  begin_order = in_order new_homes (linked k (length frames) chains) new_frames (placed_from 0 frames homes) stands chained

  pub begin_behaviours : behaviours_of (record { homes = new_homes; frames = new_frames }) ≡ behaviours_of (record { homes = homes; frames = frames })
  begin_behaviours = behaviours_are new_homes new_frames (placed_from 0 frames homes) stands
      ∙ sym (behaviours_are homes frames (placed_from 0 frames homes) o.placed)

  pub begin_frames : frames_of (record { homes = new_homes; frames = new_frames })
      ≡ frames_of (record { homes = homes; frames = frames }) ++ seen (bodies_in (behaviours_of (record { homes = homes; frames = frames }))) (Body k p None)
      ∷ []
  begin_frames =
      let bodies : List (List (CallName × Act)) = bodies_in (placed_from 0 frames homes) in
      frames_are new_homes new_frames (placed_from 0 frames homes) stands
      ∙ ap (map (seen bodies)) frames_is
      ∙ map-append (seen bodies) (frames_left (topmost k chains) frames) (Body k p (taken (topmost k chains) k homes frames) ∷ [])
      ∙ ap (λ l. l ++ seen bodies (Body k p None) ∷ [])
      (left_seen bodies frames k (topmost k chains) where_it_is ∙ sym (frames_are homes frames (placed_from 0 frames homes) o.placed))
      ∙ ap (λ (b : List Behaviour). frames_of (record { homes = homes; frames = frames }) ++ seen (bodies_in b) (Body k p None) ∷ [])
      (sym (behaviours_are homes frames (placed_from 0 frames homes) o.placed))

-- a body of a class that is not there
module _ (homes : Homes) (chains : List (List ℕ)) (frames : List Held) (k : ℕ) (p : Place) (o : AreInOrder homes chains frames) (past : length homes ≤ k) where
  stays : Stands homes (frames ++ Body k p None ∷ []) (placed_from 0 frames homes)
  stays = unknown_begins homes frames (placed_from 0 frames homes) k p (class_gone homes frames (placed_from 0 frames homes) k o.placed past) o.placed

  pub unknown_order : AreInOrder homes chains (frames ++ Body k p None ∷ [])
  unknown_order = in_order homes chains (frames ++ Body k p None ∷ []) (placed_from 0 frames homes) stays
      (chained_known (length homes) chains frames (frames ++ Body k p None ∷ []) (λ j w. unknown_indices (length homes) k j frames p None past w) o.chained)

  pub unknown_behaviours : behaviours_of (record { homes = homes; frames = frames ++ Body k p None ∷ [] })
      ≡ behaviours_of (record { homes = homes; frames = frames })
  unknown_behaviours = behaviours_are homes (frames ++ Body k p None ∷ []) (placed_from 0 frames homes) stays
      ∙ sym (behaviours_are homes frames (placed_from 0 frames homes) o.placed)

  pub unknown_frames : frames_of (record { homes = homes; frames = frames ++ Body k p None ∷ [] })
      ≡ frames_of (record { homes = homes; frames = frames }) ++ seen (bodies_in (behaviours_of (record { homes = homes; frames = frames }))) (Body k p None)
      ∷ []
  unknown_frames =
      let bodies : List (List (CallName × Act)) = bodies_in (placed_from 0 frames homes) in
      frames_are homes (frames ++ Body k p None ∷ []) (placed_from 0 frames homes) stays
      ∙ map-append (seen bodies) frames (Body k p None ∷ [])
      ∙ ap (λ l. l ++ seen bodies (Body k p None) ∷ []) (sym (frames_are homes frames (placed_from 0 frames homes) o.placed))
      ∙ ap (λ (b : List Behaviour). frames_of (record { homes = homes; frames = frames }) ++ seen (bodies_in b) (Body k p None) ∷ [])
      (sym (behaviours_are homes frames (placed_from 0 frames homes) o.placed))
