-- Frames of no body come and go.
use Rattle.std.proofs.Common.{◌≡◌, ℕ, ◌-◌, ◌<◌, true, false, List, [], ◌∷◌, ◌++◌, map, length, drop, Some, refl, ap, sym, ◌∙◌, subst, arith}
use Rattle.std.specs.Prelude.{slice_get}
use Rattle.std.proofs.lemmas.List.{length-map, map-append}
use Rattle.rule_tokens.specs.declared.callback.CallName.{CallName}
use Rattle.rule_lines.specs.Acts.{Act}
use Rattle.reaction_queue.specs.Queues.{or_empty}
use Rattle.ce_algorithms.specs.Body.{actions_of}
use Rattle.ce_frames.specs.Frames.{Frame}
use Rattle.ce_frames.specs.Places.{Behaviour, Held, Homes, Stands, Wait, Body, seen}
use Rattle.ce_frames.proofs.Moves.{waits, waited}
use Rattle.frame_stack.specs.Frames.{is_waiting}
use Rattle.frame_stack.specs.Order.{AreInOrder}
use Rattle.frame_stack.specs.Stacked.{Stacked, HasBody, Running, behaviours_of, bodies_in, frames_of, in_body, placed_from, top_of}
use Rattle.frame_stack.proofs.ChainLaws.{chained_known, wait_indices}
use Rattle.frame_stack.proofs.Settled.{behaviours_are, in_order}
use Rattle.frame_stack.proofs.TopLaws.{Ends, AtNone, AtLast, ends, last_push, top_push}

-- the frames of the definitions, where the behaviours are known
pub frames_are : (homes : Homes) (frames : List Held) (bs : List Behaviour) → Stands homes frames bs
    → frames_of (record { homes = homes; frames = frames }) ≡ map (seen (bodies_in bs)) frames
unfolding frames_of
frames_are homes frames bs s = ap (λ (l : List Behaviour). map (seen (bodies_in l)) frames) (behaviours_are homes frames bs s)

module _ (homes : Homes) (chains : List (List ℕ)) (frames : List Held) (f : Frame) where
  -- one comes
  module _ (o : AreInOrder homes chains frames) where
    pushed_stands : Stands homes (frames ++ Wait f ∷ []) (placed_from 0 frames homes)
    pushed_stands = waits homes frames (placed_from 0 frames homes) f o.placed

    pub push_order : AreInOrder homes chains (frames ++ Wait f ∷ [])
    push_order = in_order homes chains (frames ++ Wait f ∷ []) (placed_from 0 frames homes) pushed_stands
        (chained_known (length homes) chains frames (frames ++ Wait f ∷ []) (λ k _. wait_indices k frames f) o.chained)

    pub push_behaviours : behaviours_of (record { homes = homes; frames = frames ++ Wait f ∷ [] }) ≡ behaviours_of (record { homes = homes; frames = frames })
    push_behaviours = behaviours_are homes (frames ++ Wait f ∷ []) (placed_from 0 frames homes) pushed_stands
        ∙ sym (behaviours_are homes frames (placed_from 0 frames homes) o.placed)

    pub push_frames : frames_of (record { homes = homes; frames = frames ++ Wait f ∷ [] }) ≡ frames_of (record { homes = homes; frames = frames }) ++ f ∷ []
    push_frames =
        frames_are homes (frames ++ Wait f ∷ []) (placed_from 0 frames homes) pushed_stands
        ∙ map-append (seen (bodies_in (placed_from 0 frames homes))) frames (Wait f ∷ [])
        ∙ ap (λ l. l ++ f ∷ []) (sym (frames_are homes frames (placed_from 0 frames homes) o.placed))

  -- one goes
  module _ (o : AreInOrder homes chains (frames ++ Wait f ∷ [])) where
    popped_stands : Stands homes frames (placed_from 0 (frames ++ Wait f ∷ []) homes)
    popped_stands = waited homes frames (placed_from 0 (frames ++ Wait f ∷ []) homes) f o.placed

    pub pop_order : AreInOrder homes chains frames
    pop_order = in_order homes chains frames (placed_from 0 (frames ++ Wait f ∷ []) homes) popped_stands
        (chained_known (length homes) chains (frames ++ Wait f ∷ []) frames (λ k _. sym (wait_indices k frames f)) o.chained)

-- what is on top

-- a body, where frames lie and no other frame is on top
pub body_on_top : (homes : Homes) (chains : List (List ℕ)) (frames : List Held) → AreInOrder homes chains frames
    → is_waiting (slice_get frames (length frames - 1)) ≡ false
    → 0 < length (frames_of (record { homes = homes; frames = frames })) → HasBody (frames_of (record { homes = homes; frames = frames }))
body_on_top homes chains frames o h some =
    let bodies : List (List (CallName × Act)) = bodies_in (placed_from 0 frames homes) in
    let are = frames_are homes frames (placed_from 0 frames homes) o.placed in
    subst HasBody (sym are) (go bodies frames (ends frames) h (subst (λ (l : List Frame). 0 < length l) are some))
  where
    last : (bodies : List (List (CallName × Act))) (front : List Held) (x : Held) → is_waiting (Some x) ≡ false → HasBody (map (seen bodies) (front ++ x ∷ []))
    last bodies front (Wait f) waits = absurd (let e : true ≡ false = waits in cc)
    last bodies front (Body k p held) waits =
        let r : Running = record {
          class = k;
          args = p.args;
          this = p.this;
          guarded = p.guarded;
          actions = drop p.index (actions_of p.call (or_empty (slice_get bodies k)));
        } in
        record { body = r; top = ap top_of (map-append (seen bodies) front (Body k p held ∷ [])) ∙ top_push (map (seen bodies) front) (in_body r) }

    go : (bodies : List (List (CallName × Act))) (frames : List Held) → Ends frames → is_waiting (slice_get frames (length frames - 1)) ≡ false
        → 0 < length (map (seen bodies) frames) → HasBody (map (seen bodies) frames)
    go bodies frames (AtNone e) waits some = let l = length-map frames (seen bodies) in let z = ap length e in absurd (omega (arith, some, l, z))
    go bodies frames (AtLast front x e) waits some =
        subst (λ l. HasBody (map (seen bodies) l)) (sym e)
        (last bodies front x (sym (ap is_waiting (ap (λ l. slice_get l (length l - 1)) e ∙ last_push front x)) ∙ waits))

-- no frames
pub no_frames : (s : Stacked) → frames_of s ≡ [] → s.frames ≡ []
unfolding frames_of
no_frames s h = go s.frames h
  where
    go : (l : List Held) → map (seen (bodies_in (behaviours_of s))) l ≡ [] → l ≡ []
    go [] e = refl
    go (x ∷ l) e = absurd (let k : ◌≡◌ {A = List Frame} (seen (bodies_in (behaviours_of s)) x ∷ map (seen (bodies_in (behaviours_of s))) l) [] = e in cc)
