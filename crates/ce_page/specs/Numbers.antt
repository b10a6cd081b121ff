-- What a call leaves as it was, in numbers. A reaction gets its number where fuel was spent for it, so the numbers fit their type.
use Rattle.std.specs.Prelude.{ℕ, ◌≡◌, ◌≤◌, ◌+◌, length}
use Rattle.node_trees.specs.Nodes.{size}
use Rattle.ce_algorithms.specs.Page.{Page}

-- no number was given to a reaction or a queue, no queue was pushed or popped, and the nodes that there were are there
pub record SameNumbers (old new : Page) : Type 0 where
  pub reactions : new.queues.reactions ≡ old.queues.reactions
  pub pushed : new.queues.pushed ≡ old.queues.pushed
  pub depth : length new.queues.stack ≡ length old.queues.stack
  pub nodes : size old.forest ≤ size new.forest

-- each reaction that got a number has spent fuel; no queue was pushed or popped; the nodes are those that there were
pub record StaysWithin (old new : Page) (before now : ℕ) : Type 0 where
  pub reactions : new.queues.reactions + now ≤ old.queues.reactions + before
  pub fuel : now ≤ before
  pub pushed : new.queues.pushed ≡ old.queues.pushed
  pub depth : length new.queues.stack ≡ length old.queues.stack
  pub nodes : size new.forest ≡ size old.forest

-- the same where nodes may have been made
pub record GrowsWithin (old new : Page) (before now : ℕ) : Type 0 where
  pub reactions : new.queues.reactions + now ≤ old.queues.reactions + before
  pub fuel : now ≤ before
  pub pushed : new.queues.pushed ≡ old.queues.pushed
  pub depth : length new.queues.stack ≡ length old.queues.stack
  pub nodes : size old.forest ≤ size new.forest

-- the trees, the rows and the definitions are as they were, and the page is settled where it was
pub record OnlyEnqueues (old new : Page) : Type 0 where
  pub forest : new.forest ≡ old.forest
  pub elements : new.elements ≡ old.elements
  pub definitions : new.definitions ≡ old.definitions
  pub settled : new.settled ≡ old.settled
