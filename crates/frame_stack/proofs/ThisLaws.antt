-- The body on top gets another `this`.
use Rattle.std.proofs.Common.{◌≡◌, ℕ, true, false, List, [], ◌∷◌, ◌++◌, map, drop, Option, Some, None, refl, ap, sym, ◌∙◌, subst}
use Rattle.std.specs.Prelude.{slice_get, slice_set}
use Rattle.std.proofs.lemmas.List.{map-append}
use Rattle.reaction_queue.specs.Queues.{or_empty}
use Rattle.ce_algorithms.specs.Body.{actions_of}
use Rattle.ce_frames.specs.Frames.{Frame}
use Rattle.ce_frames.specs.Places.{Behaviour, Held, Homes, OnlyLast, Place, Stands, Wait, Body, held_in, home_of, is_of, place_if, places_of, seen}
use Rattle.frame_stack.specs.Changes.{SetsThis}
use Rattle.frame_stack.specs.Frames.{is_body, with_this}
use Rattle.frame_stack.specs.Order.{AreInOrder}
use Rattle.body_frames.specs.Resumes.{IsSameBody}
use Rattle.frame_stack.specs.Stacked.{Stacked, Running, below_top, bodies_in, frames_of, in_body, placed_from, top_of}
use Rattle.frame_stack.proofs.PushLaws.{frames_are}
use Rattle.frame_stack.proofs.ResumeLaws.{resume_order}
use Rattle.frame_stack.proofs.Settled.{behaviours_are}
use Rattle.frame_stack.proofs.TopLaws.{below_push, top_push}
use Rattle.frame_stack.proofs.Tops.{AtTop, stacked}

-- the frame is of the same body
same_this : (n : ℕ) (f : Held) → IsSameBody f (with_this n f)
same_this n (Wait f) = refl
same_this n (Body k p None) = (record p { this = Some n }, refl)
same_this n (Body k p (Some b)) = (record p { this = Some n }, b.memory, refl)

same_places : (j k : ℕ) (frames : List Held) (p q : Place) (h : Option Behaviour)
    → places_of j (frames ++ Body k p h ∷ []) ≡ places_of j (frames ++ Body k q h ∷ [])
same_places j k [] p q h = refl
same_places j k (f ∷ frames) p q h = ap (place_if (is_of j f) (held_in f)) (same_places j k frames p q h)

module _ (homes : Homes) (chains : List (List ℕ)) (frames : List Held) (k : ℕ) (p : Place) (h : Option Behaviour) (n : ℕ)
    (o : AreInOrder homes chains (frames ++ Body k p h ∷ [])) where
  abbrev q : Place
  q = record p { this = Some n }

  abbrev bs : List Behaviour
  bs = placed_from 0 (frames ++ Body k p h ∷ []) homes

  stays : Stands homes (frames ++ Body k q h ∷ []) bs
  stays = record {
    each = o.placed.each;
    one = λ j. subst (λ (ps : List (Option Behaviour)). OnlyLast (slice_get bs j) (home_of homes j ∷ ps)) (same_places j k frames p q h) (o.placed.one j);
  }

  abbrev running : Running
  running = record {
    class = k;
    args = p.args;
    this = p.this;
    guarded = p.guarded;
    actions = drop p.index (actions_of p.call (or_empty (slice_get (bodies_in bs) k)));
  }

  abbrev old : Stacked
  old = stacked homes (frames ++ Body k p h ∷ [])

  abbrev new : Stacked
  new = stacked homes (frames ++ Body k q h ∷ [])

  old_frames : frames_of old ≡ map (seen (bodies_in bs)) frames ++ in_body running ∷ []
  old_frames = frames_are homes (frames ++ Body k p h ∷ []) bs o.placed ∙ map-append (seen (bodies_in bs)) frames (Body k p h ∷ [])

  body_sets : SetsThis old new n
  body_sets = record {
    body = running;
    top = ap top_of old_frames ∙ top_push (map (seen (bodies_in bs)) frames) (in_body running);
    frames =
        frames_are homes (frames ++ Body k q h ∷ []) bs stays
        ∙ map-append (seen (bodies_in bs)) frames (Body k q h ∷ [])
        ∙ ap (λ (l : List Frame). l ++ in_body (record running { this = Some n }) ∷ [])
        (sym (ap below_top old_frames ∙ below_push (map (seen (bodies_in bs)) frames) (in_body running)));
    behaviours = behaviours_are homes (frames ++ Body k q h ∷ []) bs stays ∙ sym (behaviours_are homes (frames ++ Body k p h ∷ []) bs o.placed);
  }

frame_sets : (homes : Homes) (chains : List (List ℕ)) (frames : List Held) (f : Held) (n : ℕ) → AreInOrder homes chains (frames ++ f ∷ []) → is_body f ≡ true
    → SetsThis (stacked homes (frames ++ f ∷ [])) (stacked homes (frames ++ with_this n f ∷ [])) n
frame_sets homes chains frames (Wait f) n o body = absurd (let e : false ≡ true = body in cc)
frame_sets homes chains frames (Body k p h) n o body = body_sets homes chains frames k p h n o

-- where the frame is changed at its place
module _ (homes : Homes) (chains : List (List ℕ)) (frames : List Held) (i : ℕ) (f g : Held) (n : ℕ) (now : Stacked) (view : stacked homes frames ≡ now)
    (o : AreInOrder homes chains frames) (top : AtTop frames i f) (is : g ≡ with_this n f) where
  front_order : AreInOrder homes chains (top.front ++ f ∷ [])
  front_order = subst (AreInOrder homes chains) top.is o

  pub this_order : AreInOrder homes chains (slice_set frames i g)
  this_order = subst (AreInOrder homes chains) (sym (top.set g))
      (resume_order homes chains top.front f g front_order (subst (IsSameBody f) (sym is) (same_this n f)))

  pub sets_this : is_body f ≡ true → SetsThis now (stacked homes (slice_set frames i g)) n
  sets_this body =
      subst (λ (s : Stacked). SetsThis s (stacked homes (slice_set frames i g)) n) view
      (subst (λ (l : List Held). SetsThis (stacked homes frames) (stacked homes l) n) (sym (top.set g ∙ ap (λ (x : Held). top.front ++ x ∷ []) is))
      (subst (λ (l : List Held). SetsThis (stacked homes l) (stacked homes (top.front ++ with_this n f ∷ [])) n) (sym top.is)
      (frame_sets homes chains top.front f n front_order body)))
