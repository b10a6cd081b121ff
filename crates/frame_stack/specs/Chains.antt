-- The chain of a class: where the frames of its bodies lie, the lowest first.
use Rattle.std.specs.Prelude.{◌≡◌, ℕ, suc, ◌-◌, ◌<◌, Bool, true, false, List, [], ◌∷◌, ◌++◌, length, take, Option, Some, slice_get, slice_set}
use Rattle.reaction_queue.specs.Queues.{or_empty}
use Rattle.ce_frames.specs.Places.{Held, is_of}

abbrev pub index_if : Bool → ℕ → List ℕ → List ℕ
index_if true i is = i ∷ is
index_if false i is = is

-- where the frames of a class lie, where the lowest frame of all has this index
abbrev pub indices_from : ℕ → ℕ → List Held → List ℕ
indices_from k i [] = []
indices_from k i (f ∷ frames) = index_if (is_of k f) i (indices_from k (suc i) frames)

abbrev pub indices_of : ℕ → List Held → List ℕ
indices_of k frames = indices_from k 0 frames

-- each class that is there has its chain
pub record AreChained (classes : ℕ) (chains : List (List ℕ)) (frames : List Held) : Type 0 where
  pub each : length chains ≡ classes
  pub known : (k : ℕ) → k < classes → slice_get chains k ≡ Some (indices_of k frames)

-- the last of a chain
abbrev pub last : List ℕ → Option ℕ
last is = slice_get is (length is - 1)

-- where the topmost frame of a class lies
abbrev pub topmost : ℕ → List (List ℕ) → Option ℕ
topmost k chains = last (or_empty (slice_get chains k))

-- one frame more of a class
abbrev pub linked : ℕ → ℕ → List (List ℕ) → List (List ℕ)
linked k i chains = slice_set chains k (or_empty (slice_get chains k) ++ i ∷ [])

-- its topmost frame is gone
abbrev pub unlinked : ℕ → List (List ℕ) → List (List ℕ)
unlinked k chains = slice_set chains k (take (length (or_empty (slice_get chains k)) - 1) (or_empty (slice_get chains k)))
