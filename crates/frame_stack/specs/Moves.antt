-- A behaviour moves: from its class's topmost frame, or from home where there is none, to a new frame, and back.
use Rattle.std.specs.Prelude.{ℕ, List, Option, Some, None, slice_get, slice_set}
use Rattle.ce_frames.specs.Frames.{Constructing}
use Rattle.ce_frames.specs.Places.{Behaviour, Held, Homes, Wait, held_in, holding, home_of}

-- what stands for a frame that is not there
abbrev pub or_waiting : Option Held → Held
or_waiting None = Wait Constructing
or_waiting (Some f) = f

abbrev pub held_at : List Held → ℕ → Held
held_at frames i = or_waiting (slice_get frames i)

-- the frame at a place holds this, or nothing
abbrev pub holding_at : ℕ → Option Behaviour → List Held → List Held
holding_at i b frames = slice_set frames i (holding b (held_at frames i))

-- from a frame, or from home

abbrev pub taken : Option ℕ → ℕ → Homes → List Held → Option Behaviour
taken None k homes frames = home_of homes k
taken (Some i) k homes frames = held_in (held_at frames i)

abbrev pub homes_left : Option ℕ → ℕ → Homes → Homes
homes_left None k homes = slice_set homes k None
homes_left (Some i) k homes = homes

abbrev pub frames_left : Option ℕ → List Held → List Held
frames_left None frames = frames
frames_left (Some i) frames = holding_at i None frames

-- and back

abbrev pub homes_filled : Option ℕ → ℕ → Behaviour → Homes → Homes
homes_filled None k b homes = slice_set homes k (Some b)
homes_filled (Some i) k b homes = homes

abbrev pub frames_filled : Option ℕ → Behaviour → List Held → List Held
frames_filled None b frames = frames
frames_filled (Some i) b frames = holding_at i (Some b) frames
