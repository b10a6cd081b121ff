-- The nodes that frames hand down, and what `this` is in bodies, are there.
use Rattle.std.specs.Prelude.{◌≡◌, ◌≤◌, List, [], ◌∷◌, Result, Ok, Err, IfSome}
use Rattle.ce_base.specs.declared.fault.Fault.{Fault}
use Rattle.node_trees.specs.Nodes.{IsNode, size}
use Rattle.node_trees.specs.Trees.{Trees}
use Rattle.ce_algorithms.specs.declared.given.Given.{Given}
use Rattle.ce_frames.specs.Frames.{Frame, Naming, Stepping, Draining, CreatingFit, CreatingExtended, Constructing, InBody}
use Rattle.ce_frames.specs.Rest.{WaitEnd, Went, Threw, Over}
use Rattle.ce_frames.specs.Turned.{Turned}
use Rattle.session_state.specs.Given.{IsThere}
use Rattle.ce_outcomes.specs.declared.came.Came.{Came}
use Rattle.ce_outcomes.specs.declared.came.Came.TheVariants as came

-- a node with which it came is there
abbrev pub IsEndThere : Trees → Came → Type 0
IsEndThere f (came.Went given) = IsThere f given
IsEndThere f now = Unit {0}

-- a node that was kept is there
abbrev pub IsKeptThere : Trees → Result Given Fault → Type 0
IsKeptThere f (Ok given) = IsThere f given
IsKeptThere f (Err x) = Unit {0}

abbrev pub Reaches : Trees → WaitEnd → Type 0
Reaches f (Went given) = IsThere f given
Reaches f (Threw x) = Unit {0}
Reaches f Over = Unit {0}

-- what these frames will hand down, with this end, is there. A body gives only what is there
abbrev pub Gives : Trees → List Frame → WaitEnd → Type 0
Gives f [] end = Reaches f end
Gives f (Draining queue elements kept ∷ frames) end = IsKeptThere f kept
Gives f (Stepping queue ∷ frames) end = Gives f frames end
Gives f (CreatingFit local document ∷ frames) end = Gives f frames end
Gives f (CreatingExtended n ∷ frames) end = IsNode f n
Gives f (Constructing ∷ frames) end = Gives f frames end
Gives f (InBody class args this guarded actions ∷ frames) end = Unit {0}
Gives f (g ∷ frames) end = ⊥

-- a variable, the steps of an operation, a creation by an autonomous definition and a construction wait only for a node
-- that is there; what `this` is in a body is there
abbrev pub IsNamed : Trees → Frame → List Frame → WaitEnd → Type 0
IsNamed f (Naming var) above end = Gives f above end
IsNamed f (Stepping queue) above end = Gives f above end
IsNamed f (CreatingFit local document) above end = Gives f above end
IsNamed f Constructing above end = Gives f above end
IsNamed f (InBody class args this guarded actions) above end = IfSome this (IsNode f)
IsNamed f g above end = Unit {0}

abbrev pub ArePlaced : Trees → List Frame → WaitEnd → Type 0
ArePlaced f [] end = Unit {0}
ArePlaced f (g ∷ above) end = IsNamed f g above end × ArePlaced f above end

-- where a turn has ended; the forest that there was may have grown
pub record Lasts (f : Trees) (t : Turned) : Type 0 where
  pub grows : size f ≤ size t.state.page.forest
  pub gives : Gives t.state.page.forest t.pushed t.end
  pub placed : ArePlaced t.state.page.forest t.pushed t.end

-- the same of a turn below which no frame waits for a node: what it hands down may be any
pub record StaysPlaced (f : Trees) (t : Turned) : Type 0 where
  pub grows : size f ≤ size t.state.page.forest
  pub placed : ArePlaced t.state.page.forest t.pushed t.end

-- a creation's turn pushes nothing, and what it hands down is there; the forest may have grown
pub record Creates (old new : Trees) (before frames : List Frame) (now : Came) : Type 0 where
  pub grows : size old ≤ size new
  pub there : IsEndThere new now
  pub same : frames ≡ before

-- only of a creation by an autonomous definition
abbrev pub IfCreating : Frame → Type 0 → Type 0
IfCreating (CreatingFit local document) fact = fact
IfCreating f fact = Unit {0}
