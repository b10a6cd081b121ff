-- The classes, while no frame lies on the stack.
use Rattle.std.proofs.Common.{◌≡◌, ℕ, zero, suc, ◌<◌, ◌≤◌, ◌+◌, true, List, [], ◌∷◌, ◌++◌, map, length, Option, Some, refl, ap, sym, ◌∙◌, subst, arith}
use Rattle.std.proofs.Common.{length-append, length-set}
use Rattle.std.specs.Prelude.{slice_get, slice_set, is_some, ◌⊎◌, OnOk, OnErr, Result, Ok, Err}
use Rattle.std.proofs.Common.{inl, inr}
use Rattle.std.proofs.lemmas.Bool.{cases_lt}
use Rattle.std.proofs.lemmas.List.{map-append}
use Rattle.ce_base.proofs.Places.{slice_get-append_last}
use Rattle.ce_base.specs.declared.memory.NoMemory.{NoMemory}
use Rattle.rule_tokens.specs.declared.callback.CallName.{CallName}
use Rattle.rule_lines.specs.Acts.{Act}
use Rattle.ce_frames.specs.Places.{Behaviour, Held, Homes, Stands, home_of}
use Rattle.ce_frames.proofs.Moves.{all_home, at_home, home_there}
use Rattle.behaviours.specs.Behaviours.{extended, extended_at, new_behaviour, with_action}
use Rattle.frame_stack.specs.Chains.{AreChained}
use Rattle.frame_stack.specs.Changes.{extended as extended_in}
use Rattle.frame_stack.specs.Order.{AreInOrder}
use Rattle.frame_stack.specs.Stacked.{Stacked, behaviour_at, behaviours_of, placed_from}
use Rattle.frame_stack.proofs.Settled.{behaviours_are, in_order}

-- all behaviours are at home
pub homes_are : (homes : Homes) (chains : List (List ℕ)) (frames : List Held) → AreInOrder homes chains frames → frames ≡ []
    → homes ≡ map Some (placed_from 0 frames homes)
homes_are homes chains frames o none =
    all_home homes (placed_from 0 frames homes) (subst (λ (l : List Held). Stands homes l (placed_from 0 frames homes)) none o.placed)

-- chains of no frames

-- with one member more at the end, a place has what it had, or is the last and has that member
front_or_last : {X : Type 0} (xs : List X) (x : X) (k : ℕ) → k < length xs + 1
    → (slice_get (xs ++ x ∷ []) k ≡ slice_get xs k) ⊎ ((k ≡ length xs) × (slice_get (xs ++ x ∷ []) k ≡ Some x))
front_or_last [] x zero h = inr (refl, refl)
front_or_last [] x (suc k) h = absurd (omega (arith, h))
front_or_last (y ∷ xs) x zero h = inl refl
front_or_last (y ∷ xs) x (suc k) h = go (front_or_last xs x k (omega (arith, h)))
  where
    go : (slice_get (xs ++ x ∷ []) k ≡ slice_get xs k) ⊎ ((k ≡ length xs) × (slice_get (xs ++ x ∷ []) k ≡ Some x))
        → (slice_get (xs ++ x ∷ []) k ≡ slice_get xs k) ⊎ ((suc k ≡ suc (length xs)) × (slice_get (xs ++ x ∷ []) k ≡ Some x))
    go (inl e) = inl e
    go (inr e) = inr (ap suc e.0, e.1)

more_chains : (n : ℕ) (chains : List (List ℕ)) → AreChained n chains [] → AreChained (n + 1) (chains ++ [] ∷ []) []
more_chains n chains c = record {
  each = let each = c.each in omega (arith, each, length-append chains ([] ∷ []));
  known = λ k h. go k h (front_or_last chains [] k (let each = c.each in omega (arith, h, each)));
}
  where
    go : (k : ℕ) → k < n + 1 → (slice_get (chains ++ [] ∷ []) k ≡ slice_get chains k) ⊎ ((k ≡ length chains) × (slice_get (chains ++ [] ∷ []) k ≡ Some []))
        → slice_get (chains ++ [] ∷ []) k ≡ Some []
    go k h (inr e) = e.1
    go k h (inl e) = within k h e (cases_lt k n)
      where
        within : (k : ℕ) → k < n + 1 → slice_get (chains ++ [] ∷ []) k ≡ slice_get chains k → (k < n) ⊎ (n ≤ k) → slice_get (chains ++ [] ∷ []) k ≡ Some []
        within k h e (inl less) = e ∙ c.known k less
        within k h e (inr past) = let each = c.each in let is : length chains ≡ k =
            omega (arith, h, past, each) in ap (slice_get (chains ++ [] ∷ [])) (sym is) ∙ slice_get-append_last chains []

-- one class more
module _ (homes : Homes) (chains : List (List ℕ)) (frames : List Held) (o : AreInOrder homes chains frames) (none : frames ≡ []) where
  abbrev bs : List Behaviour
  bs = placed_from 0 frames homes

  more_homes : homes ++ Some new_behaviour ∷ [] ≡ map Some (bs ++ new_behaviour ∷ [])
  more_homes = ap (λ l. l ++ Some new_behaviour ∷ []) (homes_are homes chains frames o none) ∙ sym (map-append Some bs (new_behaviour ∷ []))

  more_stands : Stands (homes ++ Some new_behaviour ∷ []) frames (bs ++ new_behaviour ∷ [])
  more_stands =
      subst (λ (l : List Held). Stands (homes ++ Some new_behaviour ∷ []) l (bs ++ new_behaviour ∷ [])) (sym none)
      (subst (λ (h : Homes). Stands h [] (bs ++ new_behaviour ∷ [])) (sym more_homes) (at_home (bs ++ new_behaviour ∷ [])))

  more_chained : AreChained (length (homes ++ Some new_behaviour ∷ [])) (chains ++ [] ∷ []) frames
  more_chained =
      let many : length (homes ++ Some new_behaviour ∷ []) ≡ length homes + 1 = length-append homes (Some new_behaviour ∷ []) in
      subst (λ (l : List Held). AreChained (length (homes ++ Some new_behaviour ∷ [])) (chains ++ [] ∷ []) l) (sym none)
      (subst (λ n. AreChained n (chains ++ [] ∷ []) []) (sym many)
      (more_chains (length homes) chains (subst (AreChained (length homes) chains) none o.chained)))

  pub add_order : AreInOrder (homes ++ Some new_behaviour ∷ []) (chains ++ [] ∷ []) frames
  add_order = in_order (homes ++ Some new_behaviour ∷ []) (chains ++ [] ∷ []) frames (bs ++ new_behaviour ∷ []) more_stands more_chained

  pub add_behaviours : behaviours_of (record { homes = homes ++ Some new_behaviour ∷ []; frames = frames })
      ≡ behaviours_of (record { homes = homes; frames = frames }) ++ new_behaviour ∷ []
  add_behaviours =
      behaviours_are (homes ++ Some new_behaviour ∷ []) frames (bs ++ new_behaviour ∷ []) more_stands
      ∙ ap (λ l. l ++ new_behaviour ∷ []) (sym (behaviours_are homes frames bs o.placed))

-- a class's body gets an action more

map_set : (bs : List Behaviour) (k : ℕ) (b : Behaviour) → slice_set (map Some bs) k (Some b) ≡ map Some (slice_set bs k b)
map_set [] k b = refl
map_set (x ∷ bs) zero b = refl
map_set (x ∷ bs) (suc k) b = ap (λ l. Some x ∷ l) (map_set bs k b)

pub behaviour_there : (bs : List Behaviour) (k : ℕ) → k < length bs → slice_get bs k ≡ Some (behaviour_at k bs)
behaviour_there [] k h = absurd (omega (arith, h))
behaviour_there (b ∷ bs) zero h = refl
behaviour_there (b ∷ bs) (suc k) h = behaviour_there bs k (omega (arith, h))

pub extend_home : (homes : Homes) (chains : List (List ℕ)) (frames : List Held) (k : ℕ) → AreInOrder homes chains frames → frames ≡ []
    → k < length (behaviours_of (record { homes = homes; frames = frames })) → is_some (home_of homes k) ≡ true
unfolding behaviours_of
extend_home homes chains frames k o none within =
    ap (λ (h : Homes). is_some (home_of h k)) (homes_are homes chains frames o none)
    ∙ ap is_some (home_there (placed_from 0 frames homes) k ∙ behaviour_there (placed_from 0 frames homes) k within)

module _ (homes : Homes) (chains : List (List ℕ)) (frames : List Held) (k : ℕ) (call : CallName) (action : Act) (o : AreInOrder homes chains frames)
    (none : frames ≡ []) (within : k < length (placed_from 0 frames homes)) where
  abbrev all : List Behaviour
  all = placed_from 0 frames homes

  abbrev longer : List Behaviour
  longer = extended_in k call action all

  longer_homes : extended_at k call action homes ≡ map Some longer
  longer_homes =
      ap (λ (h : Homes). extended_at k call action h) (homes_are homes chains frames o none)
      ∙ ap (λ (b : Option Behaviour). slice_set (map Some all) k (extended call action b)) (home_there all k ∙ behaviour_there all k within)
      ∙ map_set all k (with_action call action (behaviour_at k all))

  longer_stands : Stands (extended_at k call action homes) frames longer
  longer_stands =
      subst (λ (l : List Held). Stands (extended_at k call action homes) l longer) (sym none)
      (subst (λ (h : Homes). Stands h [] longer) (sym longer_homes) (at_home longer))

  same_length : length (extended_at k call action homes) ≡ length homes
  same_length = length-set homes k (extended call action (home_of homes k))

  pub extend_order : AreInOrder (extended_at k call action homes) chains frames
  extend_order =
      in_order (extended_at k call action homes) chains frames longer longer_stands
      (subst (λ n. AreChained n chains frames) (sym same_length) o.chained)

  pub extend_behaviours : behaviours_of (record { homes = extended_at k call action homes; frames = frames })
      ≡ extended_in k call action (behaviours_of (record { homes = homes; frames = frames }))
  extend_behaviours =
      behaviours_are (extended_at k call action homes) frames longer longer_stands
      ∙ ap (extended_in k call action) (sym (behaviours_are homes frames all o.placed))

-- an action comes to a class's body, unless memory is refused

module _ (homes : Homes) (chains : List (List ℕ)) (frames : List Held) (k : ℕ) (call : CallName) (action : Act) (now : Stacked)
    (view : record { homes = homes; frames = frames } ≡ now) (o : AreInOrder homes chains frames) (empty : now.frames ≡ [])
    (within : k < length (behaviours_of now)) where
  none_there : frames ≡ []
  none_there = ap (λ (s : Stacked). s.frames) view ∙ empty

  class_in : k < length (placed_from 0 frames homes)
  class_in = subst (λ (l : List Behaviour). k < length l) (behaviours_are homes frames (placed_from 0 frames homes) o.placed)
      (subst (λ (s : Stacked). k < length (behaviours_of s)) (sym view) within)

  pub has_home_there : is_some (home_of homes k) ≡ true
  has_home_there = extend_home homes chains frames k o none_there (subst (λ (s : Stacked). k < length (behaviours_of s)) (sym view) within)

  pub extended_order : (r : Result (Unit {0}) NoMemory) (homes1 : Homes) → OnOk r (homes1 ≡ extended_at k call action homes) → OnErr r (homes1 ≡ homes)
      → AreInOrder homes1 chains frames
  extended_order (Ok u) homes1 on off =
      subst (λ (h : Homes). AreInOrder h chains frames) (sym on) (extend_order homes chains frames k call action o none_there class_in)
  extended_order (Err e) homes1 on off = subst (λ (h : Homes). AreInOrder h chains frames) (sym off) o

  pub extended_behaviours : (r : Result (Unit {0}) NoMemory) (homes1 : Homes) → OnOk r (homes1 ≡ extended_at k call action homes)
      → OnOk r (behaviours_of (record { homes = homes1; frames = frames }) ≡ extended_in k call action (behaviours_of now))
  extended_behaviours (Ok u) homes1 on =
      ap (λ (h : Homes). behaviours_of (record { homes = h; frames = frames })) on ∙ extend_behaviours homes chains frames k call action o none_there class_in
      ∙ ap (λ (s : Stacked). extended_in k call action (behaviours_of s)) view
  extended_behaviours (Err e) homes1 on = tt
