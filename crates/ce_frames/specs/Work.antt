-- What is left to do, as a number that each turn lowers.
use Rattle.std.specs.Prelude.{ℕ, ◌+◌, ◌*◌, List, length, sum_by}
use Rattle.reaction_queue.specs.Queues.{Open, Queues}
use Rattle.ce_algorithms.specs.Page.{Work}
use Rattle.ce_algorithms.specs.State.{State, work_of}
use Rattle.ce_algorithms.specs.Model.{clock_of}
use Rattle.ce_frames.specs.Frames.{Frame, Replying, Checking, DrainingBackup, Naming, Stepping, Draining}
use Rattle.ce_frames.specs.Frames.{InReaction, CreatingFit, CreatingExtended, Upgrading, Constructing, InBody}

-- what a frame adds to it: more than the frames that it pushes before a unit of fuel, a reaction or an element of a queue is
-- taken, which pays for more
abbrev pub weight : Frame → ℕ
weight (Replying line) = 3
weight (Checking line result) = 1
weight (DrainingBackup element) = 1
weight (Naming var) = 1
weight (Stepping queue) = 2
weight (Draining queue elements kept) = length elements + 1
weight (InReaction number) = 1
weight (CreatingFit local document) = 1
weight (CreatingExtended element) = 1
weight (Upgrading element definition) = 1
weight Constructing = 1
weight (InBody class args this guarded actions) = 1

-- the elements of an open element queue, as a number
abbrev pub elements_in : Open → ℕ
elements_in q = length q.elements

-- the elements in the open element queues
abbrev pub places : Queues → ℕ
places q = sum_by elements_in q.stack

-- eight for each unit of the model's clock; one for each unit of fuel, since an enqueue takes one and adds an element to a
-- queue; one for each element of the open element queues
abbrev pub potential_of : Work → ℕ
potential_of w = 8 * clock_of w + w.fuel + places w.page.queues

-- what a state holds of work to come
unfoldable pub potential : State → ℕ
potential s = potential_of (work_of s)

-- what is left to do with these frames, in this state
abbrev pub work : List Frame → State → ℕ
work frames s = potential s + sum_by weight frames
