-- What is read off a book.
use Rattle.std.specs.Prelude.{ℕ, Bool, true, false, not, ◌&&◌, ◌||◌, ◌==◌, if◌then◌else◌, List, [], ◌∷◌, Option, Some, None}
use Rattle.rule_tokens.specs.declared.callback.CallName.{CallName}
use Rattle.rule_tokens.specs.declared.callback.CallOrUpgrade.{CallOrUpgrade}
use Rattle.rule_tokens.specs.declared.callback.CallOrUpgrade.TheVariants.{Call, Upgrade}
use Rattle.ce_algorithms.specs.Body.{same_call}
use Rattle.order_law.specs.Book.{Entry, Bracket, Filling, Draining, Reacting, Upgrading}

abbrev pub is_one_of : ℕ → List ℕ → Bool
is_one_of n [] = false
is_one_of n (m ∷ ms) = (m == n) || is_one_of n ms

-- what a reaction is for

abbrev pub is_callback : CallOrUpgrade → Bool
is_callback (Call name) = true
is_callback Upgrade = false

abbrev pub is_for : CallOrUpgrade → CallName → Bool
is_for (Call name) call = same_call name call
is_for Upgrade call = false

-- reactions that wait

-- the one with this number
abbrev pub entry_of : ℕ → List Entry → Option Entry
entry_of r [] = None
entry_of r (w ∷ ws) = if w.number == r then Some w else entry_of r ws

-- all but the one with this number
abbrev pub without : ℕ → List Entry → List Entry
without r [] = []
without r (w ∷ ws) = if w.number == r then ws else w ∷ without r ws

-- none is the element's
abbrev pub none_of_element : ℕ → List Entry → Bool
none_of_element n [] = true
none_of_element n (w ∷ ws) = not (w.element == n) && none_of_element n ws

-- none was told with the queue
abbrev pub none_of_queue : ℕ → List Entry → Bool
none_of_queue q [] = true
none_of_queue q (w ∷ ws) = not (w.queue == q) && none_of_queue q ws

-- none of the element's stands before the one with this number
abbrev pub is_first : ℕ → ℕ → List Entry → Bool
is_first r n [] = true
is_first r n (w ∷ ws) = if w.number == r then true else not (w.element == n) && is_first r n ws

-- open brackets

-- the queues whose draining has not begun, the innermost first
abbrev pub fillings : List Bracket → List ℕ
fillings [] = []
fillings (Filling q ∷ bs) = q ∷ fillings bs
fillings (Draining q ∷ bs) = fillings bs
fillings (Reacting w called ∷ bs) = fillings bs
fillings (Upgrading n ∷ bs) = fillings bs

-- the element queue that was pushed last, of those whose draining has not begun; or 0
abbrev pub current : List Bracket → ℕ
current [] = 0
current (Filling q ∷ bs) = q
current (Draining q ∷ bs) = current bs
current (Reacting w called ∷ bs) = current bs
current (Upgrading n ∷ bs) = current bs

-- those around the innermost
abbrev pub around : List Bracket → List Bracket
around [] = []
around (x ∷ bs) = bs
