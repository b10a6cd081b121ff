-- A body has ended.
use Rattle.std.proofs.Common.{◌≡◌, ℕ, ◌<◌, ◌≤◌, List, [], ◌∷◌, ◌++◌, map, length, Option, Some, None, refl, ap, sym, ◌∙◌, subst, arith}
use Rattle.std.specs.Prelude.{slice_get, slice_set, MatchOption, ◌⊎◌}
use Rattle.std.proofs.Common.{inl, inr}
use Rattle.std.proofs.lemmas.Bool.{eq-eqb, cases_lt}
use Rattle.std.proofs.lemmas.List.{length-set, map-append}
use Rattle.std.proofs.lemmas.Option.{slice_get_within}
use Rattle.rule_tokens.specs.declared.callback.CallName.{CallName}
use Rattle.rule_lines.specs.Acts.{Act}
use Rattle.ce_frames.specs.Places.{Behaviour, Held, Homes, NoneOf, OnlyLast, Place, Stands, Wait, Body, holding, home_of, place_if, places_of, seen}
use Rattle.ce_frames.proofs.Moves.{handed_back, to_home, top_has, unknown_ends}
use Rattle.frame_stack.specs.Chains.{AreChained, indices_of, topmost, unlinked}
use Rattle.frame_stack.specs.Moves.{frames_filled, homes_filled, or_waiting}
use Rattle.frame_stack.specs.Order.{AreInOrder}
use Rattle.frame_stack.specs.Stacked.{behaviours_of, below_top, bodies_in, frames_of, placed_from}
use Rattle.frame_stack.proofs.BeginLaws.{Found, class_gone, class_there, found, seen_set}
use Rattle.frame_stack.proofs.ChainLaws.{chained_known, chained_pop, holding_indices, unknown_indices}
use Rattle.frame_stack.proofs.PushLaws.{frames_are}
use Rattle.frame_stack.proofs.Settled.{behaviours_are, in_order}
use Rattle.frame_stack.proofs.TopLaws.{below_push}

places_one : (k : ℕ) (frames : List Held) (p : Place) (h : Option Behaviour) → NoneOf k frames → places_of k (frames ++ Body k p h ∷ []) ≡ h ∷ []
places_one k [] p h none = ap (λ t. place_if t h []) (eq-eqb k k refl)
places_one k (Wait f ∷ frames) p h none = places_one k frames p h none.1
places_one k (Body c q b ∷ frames) p h none = ap (λ t. place_if t b (places_of k (frames ++ Body k p h ∷ []))) none.0 ∙ places_one k frames p h none.1

-- the home of a class whose only frame is the topmost is empty
home_away : (homes : Homes) (frames : List Held) (bs : List Behaviour) (k : ℕ) (p : Place) (h : Option Behaviour) → NoneOf k frames
    → Stands homes (frames ++ Body k p h ∷ []) bs → home_of homes k ≡ None
home_away homes frames bs k p h none s = (subst (λ l. OnlyLast (slice_get bs k) (home_of homes k ∷ l)) (places_one k frames p h none) (s.one k)).0

ended_stands : (homes : Homes) (frames : List Held) (bs : List Behaviour) (k : ℕ) (p : Place) (b : Behaviour) (below : Option ℕ) → Found k frames below
    → Stands homes (frames ++ Body k p (Some b) ∷ []) bs
    → Stands (homes_filled below k b homes) (frames_filled below b frames) bs
ended_stands homes frames bs k p b None none s = to_home homes frames bs k p b none s
ended_stands homes frames bs k p b (Some i) found s =
    subst (λ (g : Held). Stands homes (slice_set frames i (holding (Some b) g)) bs) (sym (ap or_waiting found.1.at))
    (handed_back homes frames bs k i p found.0 (Some b) found.1 s)

ended_indices : (frames : List Held) (k j : ℕ) (b : Behaviour) (below : Option ℕ) → Found k frames below
    → indices_of j (frames_filled below b frames) ≡ indices_of j frames
ended_indices frames k j b None none = refl
ended_indices frames k j b (Some i) found =
    ap (λ (g : Held). indices_of j (slice_set frames i (holding (Some b) g))) (ap or_waiting found.1.at)
    ∙ holding_indices j i frames found.0 (Some b) found.1.at

filled_homes : (homes : Homes) (frames : List Held) (k : ℕ) (b : Behaviour) (below : Option ℕ) → Found k frames below
    → length (homes_filled below k b homes) ≡ length homes
filled_homes homes frames k b None none = length-set homes k (Some b)
filled_homes homes frames k b (Some i) found = refl

filled_seen : (bodies : List (List (CallName × Act))) (frames : List Held) (k : ℕ) (b : Behaviour) (below : Option ℕ) → Found k frames below
    → map (seen bodies) (frames_filled below b frames) ≡ map (seen bodies) frames
filled_seen bodies frames k b None none = refl
filled_seen bodies frames k b (Some i) found =
    ap (λ (g : Held). map (seen bodies) (slice_set frames i (holding (Some b) g))) (ap or_waiting found.1.at)
    ∙ seen_set bodies frames i found.0 (Some b) found.1.at

-- the topmost frame has its behaviour where its class is there
pub has_behaviour : (homes : Homes) (chains : List (List ℕ)) (frames : List Held) (k : ℕ) (p : Place) (h : Option Behaviour)
    → AreInOrder homes chains (frames ++ Body k p h ∷ []) → h ≡ None → length homes ≤ k
has_behaviour homes chains frames k p h o none = go (cases_lt k (length homes))
  where
    go : (k < length homes) ⊎ (length homes ≤ k) → length homes ≤ k
    go (inr past) = past
    go (inl within) =
        let b = class_there homes (frames ++ Body k p h ∷ []) (placed_from 0 (frames ++ Body k p h ∷ []) homes) k o.placed within in
        let e : None ≡ Some b.0 = sym none ∙ top_has homes frames (placed_from 0 (frames ++ Body k p h ∷ []) homes) k p h o.placed ∙ b.1 in
        absurd cc

pub has_home : (homes : Homes) (chains : List (List ℕ)) (frames : List Held) (k : ℕ) (p : Place) (b : Behaviour)
    → AreInOrder homes chains (frames ++ Body k p (Some b) ∷ []) → k < length homes
has_home homes chains frames k p b o =
    let has : Some b ≡ slice_get (placed_from 0 (frames ++ Body k p (Some b) ∷ []) homes) k =
    top_has homes frames (placed_from 0 (frames ++ Body k p (Some b) ∷ []) homes) k p (Some b) o.placed in
    let within = slice_get_within (placed_from 0 (frames ++ Body k p (Some b) ∷ []) homes) k b (sym has) in
    let each = o.placed.each in
    omega (arith, within, each)

-- a class that is there
module _ (homes : Homes) (chains : List (List ℕ)) (frames : List Held) (k : ℕ) (p : Place) (b : Behaviour)
    (o : AreInOrder homes chains (frames ++ Body k p (Some b) ∷ [])) where
  abbrev all : List Behaviour
  all = placed_from 0 (frames ++ Body k p (Some b) ∷ []) homes

  left_chained : AreChained (length homes) (unlinked k chains) frames
  left_chained = chained_pop (length homes) k chains frames p (Some b) o.chained (has_home homes chains frames k p b o)

  abbrev below : Option ℕ
  below = topmost k (unlinked k chains)

  where_it_goes : Found k frames below
  where_it_goes = found (length homes) k (unlinked k chains) frames left_chained (has_home homes chains frames k p b o)

  pub room_below : MatchOption below ((k < length homes) × (home_of homes k ≡ None)) (λ i. i < length frames)
  room_below = go below where_it_goes
    where
      go : (below : Option ℕ) → Found k frames below → MatchOption below ((k < length homes) × (home_of homes k ≡ None)) (λ i. i < length frames)
      go None none = (has_home homes chains frames k p b o, home_away homes frames all k p (Some b) none o.placed)
      go (Some i) found = slice_get_within frames i found.0 found.1.at

  stands : Stands (homes_filled below k b homes) (frames_filled below b frames) all
  stands = ended_stands homes frames all k p b below where_it_goes o.placed

  pub end_order : AreInOrder (homes_filled below k b homes) (unlinked k chains) (frames_filled below b frames)
  end_order = in_order (homes_filled below k b homes) (unlinked k chains) (frames_filled below b frames) all stands
      (subst (λ n. AreChained n (unlinked k chains) (frames_filled below b frames)) (sym (filled_homes homes frames k b below where_it_goes))
      (chained_known (length homes) (unlinked k chains) frames (frames_filled below b frames)
      (λ j _. ended_indices frames k j b below where_it_goes) left_chained))

  pub end_behaviours : behaviours_of (record { homes = homes_filled below k b homes; frames = frames_filled below b frames })
      ≡ behaviours_of (record { homes = homes; frames = frames ++ Body k p (Some b) ∷ [] })
  end_behaviours = behaviours_are (homes_filled below k b homes) (frames_filled below b frames) all stands
      ∙ sym (behaviours_are homes (frames ++ Body k p (Some b) ∷ []) all o.placed)

  pub end_frames : frames_of (record { homes = homes_filled below k b homes; frames = frames_filled below b frames })
      ≡ below_top (frames_of (record { homes = homes; frames = frames ++ Body k p (Some b) ∷ [] }))
  end_frames =
      frames_are (homes_filled below k b homes) (frames_filled below b frames) all stands
      ∙ filled_seen (bodies_in all) frames k b below where_it_goes
      ∙ sym (ap below_top (frames_are homes (frames ++ Body k p (Some b) ∷ []) all o.placed ∙ map-append (seen (bodies_in all)) frames (Body k p (Some b) ∷ []))
      ∙ below_push (map (seen (bodies_in all)) frames) (seen (bodies_in all) (Body k p (Some b))))

-- a class that is not there
module _ (homes : Homes) (chains : List (List ℕ)) (frames : List Held) (k : ℕ) (p : Place) (o : AreInOrder homes chains (frames ++ Body k p None ∷ [])) where
  abbrev rest : List Behaviour
  rest = placed_from 0 (frames ++ Body k p None ∷ []) homes

  past : length homes ≤ k
  past = has_behaviour homes chains frames k p None o refl

  stays : Stands homes frames rest
  stays = unknown_ends homes frames rest k p None (class_gone homes (frames ++ Body k p None ∷ []) rest k o.placed past) o.placed

  pub gone_order : AreInOrder homes chains frames
  gone_order = in_order homes chains frames rest stays
      (chained_known (length homes) chains (frames ++ Body k p None ∷ []) frames
      (λ j w. sym (unknown_indices (length homes) k j frames p None past w)) o.chained)

  pub gone_behaviours : behaviours_of (record { homes = homes; frames = frames })
      ≡ behaviours_of (record { homes = homes; frames = frames ++ Body k p None ∷ [] })
  gone_behaviours = behaviours_are homes frames rest stays ∙ sym (behaviours_are homes (frames ++ Body k p None ∷ []) rest o.placed)

  pub gone_frames : frames_of (record { homes = homes; frames = frames })
      ≡ below_top (frames_of (record { homes = homes; frames = frames ++ Body k p None ∷ [] }))
  gone_frames =
      frames_are homes frames rest stays
      ∙ sym (ap below_top (frames_are homes (frames ++ Body k p None ∷ []) rest o.placed ∙ map-append (seen (bodies_in rest)) frames (Body k p None ∷ []))
      ∙ below_push (map (seen (bodies_in rest)) frames) (seen (bodies_in rest) (Body k p None)))
