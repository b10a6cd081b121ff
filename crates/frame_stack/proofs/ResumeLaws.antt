-- The body on top goes on.
use Rattle.std.proofs.Common.{◌≡◌, ℕ, zero, suc, ◌≤◌, Bool, false, List, [], ◌∷◌, ◌++◌, map, length, drop, Option, Some, None, refl, ap, sym, ◌∙◌, subst, arith}
use Rattle.std.specs.Prelude.{slice_get, slice_set}
use Rattle.std.proofs.lemmas.List.{map-append}
use Rattle.rule_tokens.specs.declared.callback.CallName.{CallName}
use Rattle.rule_lines.specs.Acts.{Act}
use Rattle.reaction_queue.specs.Queues.{or_empty}
use Rattle.ce_algorithms.specs.Body.{actions_of}
use Rattle.ce_algorithms.specs.State.{Memory}
use Rattle.ce_frames.specs.Frames.{Frame}
use Rattle.ce_frames.specs.Places.{Behaviour, Held, Homes, Place, Stands, Wait, Body, seen}
use Rattle.ce_frames.proofs.Moves.{changed, top_has, unknown_stays}
use Rattle.ce_frames.proofs.Wholes.{bodies_stay}
use Rattle.class_bodies.specs.declared.next.Next.{Next}
use Rattle.behaviours.specs.Next.{stop_of}
use Rattle.behaviours.specs.Resume.{Resumed, resumed}
use Rattle.frame_stack.specs.Order.{AreInOrder}
use Rattle.body_frames.specs.Resumes.{Ends, FrameResumes, IsSameBody, Runs, is_guarded}
use Rattle.frame_stack.specs.Resumes.{Resumes}
use Rattle.frame_stack.specs.Stacked.{Stacked, Running, behaviour_at, behaviours_of, below_top, bodies_in, frames_of, in_body, or_new, placed_from, top_of}
use Rattle.frame_stack.proofs.ChainLaws.{chained_known, top_indices}
use Rattle.frame_stack.proofs.PushLaws.{frames_are}
use Rattle.frame_stack.proofs.EndLaws.{has_home}
use Rattle.frame_stack.proofs.Settled.{behaviours_are, in_order, placed_length}
use Rattle.frame_stack.proofs.TopLaws.{below_push, top_push}

bodies_at : (bs : List Behaviour) (k : ℕ) (b : Behaviour) → slice_get bs k ≡ Some b → or_empty (slice_get (bodies_in bs) k) ≡ b.bodies
bodies_at [] k b at = absurd (let e : None ≡ Some b = at in cc)
bodies_at (x ∷ bs) zero b at = let is : x ≡ b = cc in ap (λ (y : Behaviour). y.bodies) is
bodies_at (x ∷ bs) (suc k) b at = bodies_at bs k b at

no_bodies : (bs : List Behaviour) (k : ℕ) → slice_get bs k ≡ None → or_empty (slice_get (bodies_in bs) k) ≡ []
no_bodies [] k at = refl
no_bodies (x ∷ bs) zero at = absurd (let e : Some x ≡ None = at in cc)
no_bodies (x ∷ bs) (suc k) at = no_bodies bs k at

set_gone : (bs : List Behaviour) (k : ℕ) (b : Behaviour) → slice_get bs k ≡ None → slice_set bs k b ≡ bs
set_gone [] k b at = refl
set_gone (x ∷ bs) zero b at = absurd (let e : Some x ≡ None = at in cc)
set_gone (x ∷ bs) (suc k) b at = ap (λ l. x ∷ l) (set_gone bs k b at)

-- with its behaviour
module _ (homes : Homes) (chains : List (List ℕ)) (frames : List Held) (k : ℕ) (p : Place) (b : Behaviour)
    (o : AreInOrder homes chains (frames ++ Body k p (Some b) ∷ [])) where
  abbrev bs : List Behaviour
  bs = placed_from 0 (frames ++ Body k p (Some b) ∷ []) homes

  has : slice_get bs k ≡ Some b
  has = sym (top_has homes frames bs k p (Some b) o.placed)

  module _ (q : Place) (m : Memory) where
    abbrev next_bs : List Behaviour
    next_bs = slice_set bs k (record b { memory = m })

    stands : Stands homes (frames ++ Body k q (Some (record b { memory = m })) ∷ []) next_bs
    stands = changed homes frames bs k p q b (record b { memory = m }) o.placed

    own_order : AreInOrder homes chains (frames ++ Body k q (Some (record b { memory = m })) ∷ [])
    own_order = in_order homes chains (frames ++ Body k q (Some (record b { memory = m })) ∷ []) next_bs stands
        (chained_known (length homes) chains (frames ++ Body k p (Some b) ∷ []) (frames ++ Body k q (Some (record b { memory = m })) ∷ [])
        (λ j _. top_indices j k frames p q (Some b) (Some (record b { memory = m }))) o.chained)

  abbrev running : Running
  running = record {
    class = k;
    args = p.args;
    this = p.this;
    guarded = p.guarded;
    actions = drop p.index (actions_of p.call (or_empty (slice_get (bodies_in bs) k)));
  }

  old_frames : frames_of (record { homes = homes; frames = frames ++ Body k p (Some b) ∷ [] }) ≡ map (seen (bodies_in bs)) frames ++ in_body running ∷ []
  old_frames = frames_are homes (frames ++ Body k p (Some b) ∷ []) bs o.placed ∙ map-append (seen (bodies_in bs)) frames (Body k p (Some b) ∷ [])

  abbrev old : Stacked
  old = record { homes = homes; frames = frames ++ Body k p (Some b) ∷ [] }

  module _ (new : Held) (before after : ℕ) (next : Next) (r : Runs k p b new before after next) where
    abbrev now : Stacked
    now = record { homes = homes; frames = frames ++ new ∷ [] }

    abbrev q : Place
    q = record p { index = r.index; guarded = is_guarded (stop_of next) }

    abbrev came : Resumed
    came = resumed p.args (drop p.index (actions_of p.call b.bodies)) b.memory before

    -- what the definition says at the running body
    same_came : resumed running.args running.actions (behaviour_at k (behaviours_of old)).memory before ≡ came
    same_came =
        ap (λ (l : List Behaviour). resumed p.args running.actions (behaviour_at k l).memory before)
        (behaviours_are homes (frames ++ Body k p (Some b) ∷ []) bs o.placed)
        ∙ ap (λ (x : Option Behaviour). resumed p.args running.actions (or_new x).memory before) has
        ∙ ap (λ (l : List (CallName × Act)). resumed p.args (drop p.index (actions_of p.call l)) b.memory before) (bodies_at bs k b has)

    new_stands : Stands homes (frames ++ new ∷ []) (next_bs q r.memory)
    new_stands = subst (λ (f : Held). Stands homes (frames ++ f ∷ []) (next_bs q r.memory)) (sym r.frame) (stands q r.memory)

    new_behaviours : behaviours_of now
        ≡ slice_set (behaviours_of old) k
        (record (behaviour_at k (behaviours_of old))
        { memory = (resumed running.args running.actions (behaviour_at k (behaviours_of old)).memory before).memory })
    new_behaviours =
        behaviours_are homes (frames ++ new ∷ []) (next_bs q r.memory) new_stands
        ∙ ap (λ (m : Memory). slice_set bs k (record b { memory = m })) (ap (λ (x : Resumed). x.memory) (r.ran ∙ sym same_came))
        ∙ ap (λ (x : Option Behaviour).
        slice_set bs k (record (or_new x) { memory = (resumed running.args running.actions (behaviour_at k (behaviours_of old)).memory before).memory }))
        (sym has)
        ∙ ap (λ (l : List Behaviour). slice_set l k
        (record (behaviour_at k l) { memory = (resumed running.args running.actions (behaviour_at k (behaviours_of old)).memory before).memory }))
        (sym (behaviours_are homes (frames ++ Body k p (Some b) ∷ []) bs o.placed))

    new_frames : frames_of now ≡ below_top (frames_of old)
        ++ in_body (record running {
          guarded = is_guarded (stop_of next);
          actions = (resumed running.args running.actions (behaviour_at k (behaviours_of old)).memory before).left;
        }) ∷ []
    new_frames =
        frames_are homes (frames ++ new ∷ []) (next_bs q r.memory) new_stands
        ∙ ap (λ (l : List (List (CallName × Act))). map (seen l) (frames ++ new ∷ [])) (bodies_stay bs k b r.memory has)
        ∙ map-append (seen (bodies_in bs)) frames (new ∷ [])
        ∙ ap (λ (f : Held). map (seen (bodies_in bs)) frames ++ seen (bodies_in bs) f ∷ []) r.frame
        ∙ ap (λ (l : List (CallName × Act)). map (seen (bodies_in bs)) frames
        ++ in_body (record running { guarded = is_guarded (stop_of next); actions = drop r.index (actions_of p.call l) }) ∷ []) (bodies_at bs k b has)
        ∙ ap (λ (x : Resumed). map (seen (bodies_in bs)) frames ++ in_body (record running { guarded = is_guarded (stop_of next); actions = x.left }) ∷ [])
        (r.ran ∙ sym same_came)
        ∙ ap (λ (l : List Frame). l ++ in_body
        (record running {
          guarded = is_guarded (stop_of next);
          actions = (resumed running.args running.actions (behaviour_at k (behaviours_of old)).memory before).left;
        }) ∷ [])
        (sym (ap below_top old_frames ∙ below_push (map (seen (bodies_in bs)) frames) (in_body running)))

    within_all : length (behaviours_of old) ≤ k → ⊥
    within_all past =
        let within = has_home homes chains frames k p b o in
        let same = ap length (behaviours_are homes (frames ++ Body k p (Some b) ∷ []) bs o.placed) in
        let many = placed_length 0 (frames ++ Body k p (Some b) ∷ []) homes in
        omega (arith, past, within, same, many)

    own_resumes : Resumes old now before after next
    own_resumes = record {
      body = running;
      top = ap top_of old_frames ∙ top_push (map (seen (bodies_in bs)) frames) (in_body running);
      idle = λ past. let h = within_all past in absurd h;
      stop = ap (λ (x : Resumed). x.stop) (r.ran ∙ sym same_came);
      fuel = ap (λ (x : Resumed). x.fuel) (r.ran ∙ sym same_came);
      frames = new_frames;
      behaviours = new_behaviours;
    }

-- of a class that is not there
module _ (homes : Homes) (chains : List (List ℕ)) (frames : List Held) (k : ℕ) (p : Place) (o : AreInOrder homes chains (frames ++ Body k p None ∷ [])) where
  abbrev cs : List Behaviour
  cs = placed_from 0 (frames ++ Body k p None ∷ []) homes

  gone : slice_get cs k ≡ None
  gone = sym (top_has homes frames cs k p None o.placed)

  stays : (q : Place) → Stands homes (frames ++ Body k q None ∷ []) cs
  stays q = unknown_stays homes frames cs k p q None gone o.placed

  gone_order : (q : Place) → AreInOrder homes chains (frames ++ Body k q None ∷ [])
  gone_order q = in_order homes chains (frames ++ Body k q None ∷ []) cs (stays q)
      (chained_known (length homes) chains (frames ++ Body k p None ∷ []) (frames ++ Body k q None ∷ [])
      (λ j _. top_indices j k frames p q None None) o.chained)

  abbrev idle : Running
  idle = record {
    class = k;
    args = p.args;
    this = p.this;
    guarded = p.guarded;
    actions = drop p.index (actions_of p.call (or_empty (slice_get (bodies_in cs) k)));
  }

  abbrev before_it : Stacked
  before_it = record { homes = homes; frames = frames ++ Body k p None ∷ [] }

  idle_frames : frames_of before_it ≡ map (seen (bodies_in cs)) frames ++ in_body idle ∷ []
  idle_frames = frames_are homes (frames ++ Body k p None ∷ []) cs o.placed ∙ map-append (seen (bodies_in cs)) frames (Body k p None ∷ [])

  drop_none : (i : ℕ) (call : CallName) → drop i (actions_of call []) ≡ []
  drop_none zero call = refl
  drop_none (suc i) call = refl

  no_actions : idle.actions ≡ []
  no_actions = ap (λ (l : List (CallName × Act)). drop p.index (actions_of p.call l)) (no_bodies cs k gone) ∙ drop_none p.index p.call

  module _ (new : Held) (before after : ℕ) (next : Next) (r : Ends k p new before after next) where
    abbrev after_it : Stacked
    after_it = record { homes = homes; frames = frames ++ new ∷ [] }

    abbrev memory : Memory
    memory = (behaviour_at k (behaviours_of before_it)).memory

    idle_came : (l : List Act) → l ≡ [] → resumed p.args l memory before ≡ record { stop = stop_of next; memory = memory; fuel = after; left = l }
    idle_came [] e = ap (λ s. record { stop = s; memory = memory; fuel = before; left = [] }) (sym r.stop)
        ∙ ap (λ (n : ℕ). record { stop = stop_of next; memory = memory; fuel = n; left = [] }) (sym r.fuel)
    idle_came (a ∷ l) e = absurd (let f : ◌≡◌ {A = List Act} (a ∷ l) [] = e in cc)

    come : resumed p.args idle.actions memory before ≡ record { stop = stop_of next; memory = memory; fuel = after; left = idle.actions }
    come = idle_came idle.actions no_actions

    gone_stands : Stands homes (frames ++ new ∷ []) cs
    gone_stands = subst (λ (f : Held). Stands homes (frames ++ f ∷ []) cs) (sym r.frame) (stays (record p { guarded = false }))

    no_guard : is_guarded (stop_of next) ≡ false
    no_guard = ap is_guarded r.stop

    gone_set : (c : Behaviour) → slice_set (behaviours_of before_it) k c ≡ cs
    gone_set c = ap (λ (l : List Behaviour). slice_set l k c) (behaviours_are homes (frames ++ Body k p None ∷ []) cs o.placed) ∙ set_gone cs k c gone

    gone_frames : frames_of after_it
        ≡ below_top (frames_of before_it)
        ++ in_body (record idle { guarded = is_guarded (stop_of next); actions = (resumed p.args idle.actions memory before).left }) ∷ []
    gone_frames =
        frames_are homes (frames ++ new ∷ []) cs gone_stands
        ∙ map-append (seen (bodies_in cs)) frames (new ∷ [])
        ∙ ap (λ (f : Held). map (seen (bodies_in cs)) frames ++ seen (bodies_in cs) f ∷ []) r.frame
        ∙ ap (λ (t : Bool). map (seen (bodies_in cs)) frames ++ in_body (record idle { guarded = t }) ∷ []) (sym no_guard)
        ∙ ap (λ (x : Resumed). map (seen (bodies_in cs)) frames ++ in_body (record idle { guarded = is_guarded (stop_of next); actions = x.left }) ∷ [])
        (sym come)
        ∙ ap (λ (l : List Frame). l ++ in_body
        (record idle { guarded = is_guarded (stop_of next); actions = (resumed p.args idle.actions memory before).left }) ∷ [])
        (sym (ap below_top idle_frames ∙ below_push (map (seen (bodies_in cs)) frames) (in_body idle)))

    gone_resumes : Resumes before_it after_it before after next
    gone_resumes = record {
      body = idle;
      top = ap top_of idle_frames ∙ top_push (map (seen (bodies_in cs)) frames) (in_body idle);
      idle = λ past. no_actions;
      stop = sym (ap (λ (x : Resumed). x.stop) come);
      fuel = sym (ap (λ (x : Resumed). x.fuel) come);
      frames = gone_frames;
      behaviours = behaviours_are homes (frames ++ new ∷ []) cs gone_stands
          ∙ sym (gone_set (record (behaviour_at k (behaviours_of before_it)) { memory = (resumed p.args idle.actions memory before).memory }));
    }

-- whichever it is

pub resume_order : (homes : Homes) (chains : List (List ℕ)) (frames : List Held) (f g : Held) → AreInOrder homes chains (frames ++ f ∷ []) → IsSameBody f g
    → AreInOrder homes chains (frames ++ g ∷ [])
resume_order homes chains frames (Wait f) g o h = subst (λ (x : Held). AreInOrder homes chains (frames ++ x ∷ [])) (sym h) o
resume_order homes chains frames (Body k p None) g o h =
    subst (λ (x : Held). AreInOrder homes chains (frames ++ x ∷ [])) (sym h.1) (gone_order homes chains frames k p o h.0)
resume_order homes chains frames (Body k p (Some b)) g o h =
    subst (λ (x : Held). AreInOrder homes chains (frames ++ x ∷ [])) (sym h.2) (own_order homes chains frames k p b o h.0 h.1)

pub resume_resumes : (homes : Homes) (chains : List (List ℕ)) (frames : List Held) (f g : Held) (before after : ℕ) (next : Next)
    → AreInOrder homes chains (frames ++ f ∷ []) → FrameResumes f g before after next
    → Resumes (record { homes = homes; frames = frames ++ f ∷ [] }) (record { homes = homes; frames = frames ++ g ∷ [] }) before after next
resume_resumes homes chains frames (Wait f) g before after next o h = absurd h
resume_resumes homes chains frames (Body k p None) g before after next o h = gone_resumes homes chains frames k p o g before after next h
resume_resumes homes chains frames (Body k p (Some b)) g before after next o h = own_resumes homes chains frames k p b o g before after next h
