-- What holds between the log and the state while algorithms are suspended.
use Rattle.std.proofs.Common.{◌≡◌, ℕ, suc, ◌<◌, ◌≤◌, Bool, true, false, List, [], ◌∷◌, length, map, Option, Some, None, subst}
use Rattle.std.specs.Prelude.{◌==◌, ◌⊎◌, ◌||◌}
use Rattle.std.specs.List.{AllByRecursion as Each}
use Rattle.rule_tokens.specs.declared.callback.CallOrUpgrade.{CallOrUpgrade}
use Rattle.rule_tokens.specs.declared.callback.CallOrUpgrade.TheVariants.{Call, Upgrade as IsUpgrade}
use Rattle.reaction_queue.specs.declared.reaction.Reaction.{Reaction}
use Rattle.reaction_queue.specs.Queues.{Queues, Open, waiting_at}
use Rattle.reaction_queue.specs.Reactions.{what_of}
use Rattle.ce_registry.specs.declared.definition.Definition.{Definition}
use Rattle.ce_registry.specs.ClassFacts.{has_call}
use Rattle.ce_events.specs.declared.event.Event.{Event}
use Rattle.ce_algorithms.specs.Steps.{Outcome, Goes, Throws, Spent}
use Rattle.ce_algorithms.specs.Page.{Page, Element, element_of, state_of, definition_of}
use Rattle.ce_algorithms.specs.State.{State}
use Rattle.node_trees.specs.Trees.{Trees}
use Rattle.order_law.proofs.Model.Sound.{IsRow, Sound}
use Rattle.ce_algorithms.specs.Upgrade.{is_upgradable}
use Rattle.order_law.specs.Book.{Entry, Bracket, Filling, Draining, Reacting, Upgrading, Book, blank}
use Rattle.order_law.specs.Reads.{is_one_of}
use Rattle.order_law.specs.Law.{Lawful}
use Rattle.order_law.proofs.Model.Reading.{Reads, told_at}
use Rattle.order_law.proofs.Entries.{Rising, IsIn}
use Rattle.ce_algorithms.specs.Create.{has_any}

-- what is suspended, the innermost first: the steps of an operation; a drain with the elements that it has left, the one at hand
-- among them (queue 0: the checkpoint); a reaction, and whether its call line has come; an upgrade; and a node that steps have
-- in hand, which is no bracket
pub data Hold : Type 0 where
  InSteps : (queue : ℕ) → Hold
  InDrain : (queue : ℕ) → (elements : List ℕ) → Hold
  InReaction : (entry : Entry) → (called : Bool) → Hold
  InUpgrade : (element : ℕ) → Hold
  InHand : (node : ℕ) → Hold

abbrev pub brackets_of : List Hold → List Bracket
brackets_of [] = []
brackets_of (InSteps q ∷ h) = Filling q ∷ brackets_of h
brackets_of (InDrain q ns ∷ h) = Draining q ∷ brackets_of h
brackets_of (InReaction w called ∷ h) = Reacting w called ∷ brackets_of h
brackets_of (InUpgrade n ∷ h) = Upgrading n ∷ brackets_of h
brackets_of (InHand n ∷ h) = brackets_of h

-- the queues whose drain has not come, the innermost first: they are the stack
abbrev pub fillings_of : List Hold → List ℕ
fillings_of [] = []
fillings_of (InSteps q ∷ h) = q ∷ fillings_of h
fillings_of (InDrain q ns ∷ h) = fillings_of h
fillings_of (InReaction w called ∷ h) = fillings_of h
fillings_of (InUpgrade n ∷ h) = fillings_of h
fillings_of (InHand n ∷ h) = fillings_of h

-- the numbers of queues fall from the innermost on, and are below l; only the checkpoint has 0
abbrev pub Falling : ℕ → List Hold → Type 0
Falling l [] = Unit {0}
Falling l (InSteps q ∷ h) = (q < l) × Falling q h × (0 < q)
Falling l (InDrain q ns ∷ h) = (q < l) × Falling q h
Falling l (InReaction w called ∷ h) = Falling l h
Falling l (InUpgrade n ∷ h) = Falling l h
Falling l (InHand n ∷ h) = Falling l h

-- the entry's element is in its queue, which is on the stack
abbrev pub IsOpen : List Open → Entry → Type 0
IsOpen [] w = ⊥
IsOpen (o ∷ os) w = ((o.number ≡ w.queue) × IsIn w.element o.elements) ⊎ IsOpen os w

-- the entry's element is left in its queue, which is draining
abbrev pub IsLeft : List Hold → Entry → Type 0
IsLeft [] w = ⊥
IsLeft (InSteps q ∷ h) w = IsLeft h w
IsLeft (InDrain q ns ∷ h) w = ((q ≡ w.queue) × IsIn w.element ns) ⊎ IsLeft h w
IsLeft (InReaction v called ∷ h) w = IsLeft h w
IsLeft (InUpgrade n ∷ h) w = IsLeft h w
IsLeft (InHand n ∷ h) w = IsLeft h w

-- the entry's element waits in the backup element queue
abbrev pub IsBackup : List ℕ → Entry → Type 0
IsBackup backup w = (w.queue ≡ 0) × IsIn w.element backup

abbrev pub IsPlaced : List Open → List ℕ → List Hold → Entry → Type 0
IsPlaced os backup h w = IsOpen os w ⊎ (IsLeft h w ⊎ IsBackup backup w)

-- a checkpoint is under way
abbrev pub is_checkpoint : List Hold → Bool
is_checkpoint [] = false
is_checkpoint (InDrain q ns ∷ h) = (q == 0) || is_checkpoint h
is_checkpoint (x ∷ h) = is_checkpoint h

abbrev pub told : (ℕ × Reaction) → (ℕ × CallOrUpgrade)
told w = (w.0, what_of w.1)

-- the book and the queues
pub record SaysQueues (b : Book) (h : List Hold) (q : Queues) : Type 0 where
  pub numbers : b.numbers ≡ q.reactions
  pub queues : b.queues ≡ q.pushed
  pub rising : Rising 0 b.waiting
  pub below : Each (λ w. w.number ≤ b.numbers) b.waiting
  pub waits : (n : ℕ) → told_at n b.waiting ≡ map told (waiting_at q n)
  pub brackets : b.brackets ≡ brackets_of h
  pub opens : map (λ (o : Open). o.number) q.stack ≡ fillings_of h
  pub falls : Falling (suc q.pushed) h
  pub placed : Each (IsPlaced q.stack q.backup h) b.waiting
  pub owed : (b.owed ≡ false) ⊎ (has_any q.backup || is_checkpoint h ≡ true)

-- an element's number: the first node is the document
pub record Known (rows : List Element) (n : ℕ) : Type 0 where
  pub low : 2 ≤ n
  pub high : n ≤ length rows

abbrev pub fits : CallOrUpgrade → Option Definition → Bool
fits IsUpgrade d = true
fits (Call name) None = false
fits (Call name) (Some d) = has_call name d.facts.calls

-- what is suspended is at known elements, and what is in hand is a node; an upgrade is booked
abbrev pub Ongoing : List ℕ → List Element → List Hold → Type 0
Ongoing upgraded rows [] = Unit {0}
Ongoing upgraded rows (InSteps q ∷ h) = Ongoing upgraded rows h
Ongoing upgraded rows (InDrain q ns ∷ h) = Ongoing upgraded rows h
Ongoing upgraded rows (InReaction w called ∷ h) = Known rows w.element × Ongoing upgraded rows h
Ongoing upgraded rows (InUpgrade n ∷ h) = Known rows n × (is_one_of n upgraded ≡ true) × Ongoing upgraded rows h
Ongoing upgraded rows (InHand n ∷ h) = IsRow (length rows) n × Ongoing upgraded rows h

-- the book and the elements: a callback waits only where the definition has it; one that can be upgraded has no definition; one whose upgrade began can't be
-- upgraded again; one whose upgrade threw has no definition either
pub record SaysElements (b : Book) (h : List Hold) (p : Page) : Type 0 where
  pub known : Each (λ w. Known p.elements w.element) b.waiting
  pub defined : Each (λ w. fits w.what (definition_of p w.element) ≡ true) b.waiting
  pub unset : (n : ℕ) → is_upgradable (state_of p n) ≡ true → (element_of p n).definition ≡ None
  pub upgraded : (n : ℕ) → is_one_of n b.upgraded ≡ true → is_upgradable (state_of p n) ≡ false
  pub thrown : (n : ℕ) → is_one_of n b.thrown ≡ true → (is_upgradable (state_of p n) ≡ false) × ((element_of p n).definition ≡ None)
  pub document : (element_of p 1).definition ≡ None
  pub ongoing : Ongoing b.upgraded p.elements h

-- the page is what the log says, with this suspended
pub record Holds (h : List Hold) (log : List Event) (p : Page) : Type 0 where
  pub book : Book
  pub reads : Reads blank log book
  pub over : book.over ≡ false
  pub dropping : book.dropping ≡ None
  pub queues : SaysQueues book h p.queues
  pub elements : SaysElements book h p

-- what the variables hold
abbrev pub nodes_of : List (List ℕ × ℕ) → List ℕ
nodes_of [] = []
nodes_of (v ∷ variables) = v.1 ∷ nodes_of variables

-- the page is sound, and each variable holds a node
pub record HoldsRest (f : Trees) (rows : ℕ) (stacks : List (List (Option ℕ))) (variables : List (List ℕ × ℕ)) : Type 0 where
  pub sound : Sound f rows stacks
  pub named : Each (IsRow rows) (nodes_of variables)

-- as many rows
pub rest_rows : (f : Trees) (rows others : ℕ) (stacks : List (List (Option ℕ))) (variables : List (List ℕ × ℕ)) →
    rows ≡ others → HoldsRest f rows stacks variables → HoldsRest f others stacks variables
rest_rows f rows others stacks variables e k = subst (λ n. HoldsRest f n stacks variables) e k

-- the state is what the log says, with this suspended
pub record HoldsIn (h : List Hold) (s : State) : Type 0 where
  pub holds : Holds h s.log s.page
  pub notes : s.page.notes ≡ []
  pub rest : HoldsRest s.page.forest (length s.page.elements) s.page.stacks s.variables

abbrev pub After : {A : Type 0} → List Hold → Outcome State A → Type 0
After h (Goes a s) = HoldsIn h s
After h (Throws f s) = HoldsIn h s
After h (Spent s) = Lawful s.log
