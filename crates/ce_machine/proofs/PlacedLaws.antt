-- What a turn hands down is there.
use Rattle.std.proofs.Common.{◌≡◌, ℕ, List, [], ◌∷◌, ◌++◌, Some, None, Option, refl, ap, sym, ◌∙◌, subst, ◌≤◌, append-nil, arith}
use Rattle.std.specs.Prelude.{Result, Ok, Err, IfSome, slice_get}
use Rattle.std.specs.Option.{option_and_then}
use Rattle.ce_base.specs.declared.fault.Fault.{Fault}
use Rattle.ce_base.specs.declared.fault.Fault.TheVariants.{ReferenceError}
use Rattle.node_trees.specs.Kinds.{IsElement}
use Rattle.node_trees.specs.Nodes.{IsNode, size}
use Rattle.node_trees.specs.Trees.{Trees}
use Rattle.reaction_queue.specs.declared.reaction.Reaction.{Reaction}
use Rattle.reaction_queue.specs.declared.reaction.Reaction.TheVariants.{Upgrade}
use Rattle.reaction_queue.specs.Queues.{current_elements, popped_queue, waiting_at, with_waiting}
use Rattle.ce_registry.specs.declared.definition.Definition.{Definition}
use Rattle.ce_events.specs.declared.event.Event.TheVariants.{DrainBegun, QueueClosed, Started}
use Rattle.ce_algorithms.specs.declared.given.Given.{Given}
use Rattle.ce_algorithms.specs.declared.given.Given.TheVariants.{Nothing, Node, Answers, Ignored}
use Rattle.ce_algorithms.specs.Page.{Page, definition_of, element_of, with_queues}
use Rattle.ce_algorithms.specs.Perform.{gives_node, named}
use Rattle.ce_algorithms.specs.State.{State, logged}
use Rattle.ce_algorithms.specs.Steps.{found, settle}
use Rattle.ce_frames.specs.Frames as waiting
use Rattle.ce_frames.specs.Handing.{node_in}
use Rattle.ce_frames.specs.Rest as ends
use Rattle.ce_frames.specs.Rest.{WaitEnd}
use Rattle.ce_frames.specs.Turned.{Turned, ended}
use Rattle.ce_frames.specs.OperateTurns.{next_turn, pop_turn}
use Rattle.ce_frames.specs.DrainTurns.{call_turn, reaction_turn, taken_turn, next_backup_turn, taken_backup_turn, checked_turn}
use Rattle.ce_frames.specs.Turns.{turn}
use Rattle.ce_frames.specs.Frames.{Frame}
use Rattle.ce_outcomes.specs.declared.came.Came.{Came}
use Rattle.ce_outcomes.specs.declared.came.Came.TheVariants.{Went, Threw, Over}
use Rattle.frame_stack.specs.declared.waiting.Waiting.{Waiting}
use Rattle.frame_stack.specs.declared.waiting.Waiting.TheVariants.{Replying, Checking, DrainingBackup, Naming, Stepping, Draining, InReaction, CreatingFit}
use Rattle.frame_stack.specs.declared.waiting.Waiting.TheVariants.{CreatingExtended, Upgrading, Constructing}
use Rattle.frame_stack.specs.Frames.{waiting_of}
use Rattle.ce_page.specs.Rows.{HasRows}
use Rattle.ce_page.proofs.RowLemmas.{row_element}
use Rattle.frame_stack.specs.Stacked.{Stacked, HasBody, below_top, frames_of, this_of, top_of}
use Rattle.ce_machine.specs.Bodies.{frame_on_top}
use Rattle.ce_outcomes.specs.Turns.{Turns, end_of}
use Rattle.ce_drains.proofs.SettleLaws.{threw_settles, upgrade_settles, went_settles}
use Rattle.ce_machine.proofs.BodyLaws.{on_top, popped_body, this_grows}
use Rattle.ce_outcomes.specs.Given.{IsThere}
use Rattle.ce_outcomes.specs.Placed.{IsEndThere, IsKeptThere, Reaches, Gives, IsNamed, ArePlaced, Creates, IfCreating, Lasts}

-- where the forest has grown

there_grows : (F G : Trees) → size F ≤ size G → (given : Given) → IsThere F given → IsThere G given
there_grows F G le Nothing h = h
there_grows F G le (Node n) h = record { low = h.low; high = omega (arith, h.high, le) }
there_grows F G le (Answers a) h = h
there_grows F G le Ignored h = h

kept_grows : (F G : Trees) → size F ≤ size G → (kept : Result Given Fault) → IsKeptThere F kept → IsKeptThere G kept
kept_grows F G le (Ok given) h = there_grows F G le given h
kept_grows F G le (Err x) h = h

-- frames on frames

given_below : (F G : Trees) → size F ≤ size G → (xs above above' : List Frame) (e e' : WaitEnd) → (Gives F above e → Gives G above' e')
    → Gives F (xs ++ above) e → Gives G (xs ++ above') e'
given_below F G le [] above above' e e' g h = g h
given_below F G le (waiting.Draining queue ns kept ∷ xs) above above' e e' g h = kept_grows F G le kept h
given_below F G le (waiting.Stepping queue ∷ xs) above above' e e' g h = given_below F G le xs above above' e e' g h
given_below F G le (waiting.CreatingFit local document ∷ xs) above above' e e' g h = given_below F G le xs above above' e e' g h
given_below F G le (waiting.CreatingExtended n ∷ xs) above above' e e' g h = record { low = h.low; high = let high = h.high in omega (arith, high, le) }
given_below F G le (waiting.Constructing ∷ xs) above above' e e' g h = given_below F G le xs above above' e e' g h
given_below F G le (waiting.InBody class args this guarded actions ∷ xs) above above' e e' g h = tt
given_below F G le (x ∷ xs) above above' e e' g h = h

named_below : (F G : Trees) → size F ≤ size G → (x : Frame) (xs above above' : List Frame) (e e' : WaitEnd) → (Gives F above e → Gives G above' e')
    → IsNamed F x (xs ++ above) e → IsNamed G x (xs ++ above') e'
named_below F G le (waiting.Naming var) xs above above' e e' g h = given_below F G le xs above above' e e' g h
named_below F G le (waiting.Stepping queue) xs above above' e e' g h = given_below F G le xs above above' e e' g h
named_below F G le (waiting.CreatingFit local document) xs above above' e e' g h = given_below F G le xs above above' e e' g h
named_below F G le waiting.Constructing xs above above' e e' g h = given_below F G le xs above above' e e' g h
named_below F G le (waiting.InBody class args this guarded actions) xs above above' e e' g h = this_grows F G this le h
named_below F G le x xs above above' e e' g h = h

-- other frames above the same ones
placed_below : (F G : Trees) → size F ≤ size G → (xs above above' : List Frame) (e e' : WaitEnd) → (Gives F above e → Gives G above' e') → ArePlaced G above' e'
    → ArePlaced F (xs ++ above) e → ArePlaced G (xs ++ above') e'
placed_below F G le [] above above' e e' g p h = p
placed_below F G le (x ∷ xs) above above' e e' g p h = (named_below F G le x xs above above' e e' g h.0, placed_below F G le xs above above' e e' g p h.1)

placed_above : (F : Trees) (xs above : List Frame) (e : WaitEnd) → ArePlaced F (xs ++ above) e → ArePlaced F above e
placed_above F [] above e h = h
placed_above F (x ∷ xs) above e h = placed_above F xs above e h.1

-- a turn

-- what it hands down stays there, where the forest has grown
record Stays (F G : Trees) (f : Frame) (e : WaitEnd) (t : Turned) : Type 0 where
  pub gives : Gives F (f ∷ []) e → Gives G t.pushed t.end
  pub placed : ArePlaced G t.pushed t.end

-- callbacks

call_placed : (G : Trees) (n : ℕ) (r : Reaction) (d : Option Definition) (s : State) → (((x : Definition) → d ≡ Some x → IsNode G n))
    → ArePlaced G (call_turn n r d s).pushed (call_turn n r d s).end
call_placed G n r None s there = tt
call_placed G n (Upgrade c) (Some d) s there = (there d refl, tt)
call_placed G n r (Some d) s there = (there d refl, tt)

-- what has a definition is an element
defined_element : (p : Page) (n : ℕ) (d : Definition) → HasRows p.elements p.forest → definition_of p n ≡ Some d → IsElement p.forest n
defined_element p n d rows is = go (element_of p n).definition refl
  where
    go : (o : Option ℕ) → (element_of p n).definition ≡ o → IsElement p.forest n
    go None e = let f : None ≡ Some d = sym (ap (option_and_then (slice_get p.definitions)) e) ∙ is in absurd cc
    go (Some k) e = row_element p n k rows e

-- so in the frame of its callback `this` is a node
defined_placed : (G : Trees) (n : ℕ) (r : Reaction) (s : State) → HasRows s.page.elements s.page.forest → size s.page.forest ≤ size G
    → ArePlaced G (call_turn n r (definition_of s.page n) s).pushed (call_turn n r (definition_of s.page n) s).end
defined_placed G n r s rows le =
    call_placed G n r (definition_of s.page n) s
    (λ d is. let x = (defined_element s.page n d rows is).node in record { low = x.low; high = let high = x.high in omega (arith, high, le) })

reaction_placed : (G : Trees) (n : ℕ) (r : Reaction) (s : State) → HasRows s.page.elements s.page.forest → size s.page.forest ≤ size G
    → ArePlaced G (reaction_turn n r s).pushed (reaction_turn n r s).end
unfolding reaction_turn
reaction_placed G n (Upgrade d) s rows le = upgrade_settles n d s G
reaction_placed G n r s rows le = defined_placed G n r s rows le

-- the state where a reaction was taken, and has started
abbrev taken : ℕ → ℕ → List (ℕ × Reaction) → State → State
taken n number ws s = logged (Started number) (record s { page = with_queues (with_waiting n ws) s.page })

-- drains

-- what was kept
kept_gives : (F G : Trees) → size F ≤ size G → (kept : Result Given Fault) (s : State) (f : Frame) (e : WaitEnd) → (Gives F (f ∷ []) e → IsKeptThere F kept)
    → Stays F G f e (ended (settle kept s))
kept_gives F G le (Ok given) s f e k = record { gives = λ h. there_grows F G le given (k h); placed = tt }
kept_gives F G le (Err x) s f e k = record { gives = λ _. tt; placed = tt }

-- a queue was popped
next_stays : (F G : Trees) → size F ≤ size G → (f : Frame) (e : WaitEnd) (queue : ℕ) (es : List ℕ) (kept : Result Given Fault) (s : State)
    → (Gives F (f ∷ []) e → IsKeptThere F kept) → Stays F G f e (next_turn queue es kept s)
next_stays F G le f e queue [] kept s k = kept_gives F G le kept (logged (QueueClosed queue) s) f e k
next_stays F G le f e queue (n ∷ ns) kept s k = record { gives = λ h. kept_grows F G le kept (k h); placed = (tt, tt) }

stepped_stays : (F G : Trees) → size F ≤ size G → (queue : ℕ) (kept : Result Given Fault) (e : WaitEnd) (s : State)
    → (Gives F (waiting.Stepping queue ∷ []) e → IsKeptThere F kept) → Stays F G (waiting.Stepping queue) e (pop_turn queue kept s)
stepped_stays F G le queue kept e s k =
    next_stays F G le (waiting.Stepping queue) e queue (current_elements s.page.queues) kept
    (logged (DrainBegun queue) (record s { page = with_queues popped_queue s.page })) k

drain_stays : (G : Trees) (queue n : ℕ) (ns : List ℕ) (kept : Result Given Fault) (e : WaitEnd) (s : State) (ws : List (ℕ × Reaction))
    → HasRows s.page.elements s.page.forest → size s.page.forest ≤ size G
    → Stays s.page.forest G (waiting.Draining queue (n ∷ ns) kept) e (taken_turn queue n ns kept ws s)
drain_stays G queue n ns kept e s [] rows le = next_stays s.page.forest G le (waiting.Draining queue (n ∷ ns) kept) e queue ns kept s (λ h. h)
drain_stays G queue n ns kept e s (w ∷ ws) rows le =
    record { gives = λ h. kept_grows s.page.forest G le kept h; placed = (tt, (tt, reaction_placed G n w.1 (taken n w.0 ws s) rows le)) }

next_backup_stays : (F G : Trees) (f : Frame) (e : WaitEnd) (es : List ℕ) (s : State) → (Gives F (f ∷ []) e → ⊥) → Stays F G f e (next_backup_turn es s)
next_backup_stays F G f e [] s never = record { gives = λ h. absurd (never h); placed = tt }
next_backup_stays F G f e (n ∷ ns) s never = record { gives = λ h. absurd (never h); placed = (tt, tt) }

backup_stays : (G : Trees) (n : ℕ) (e : WaitEnd) (s : State) (ws : List (ℕ × Reaction)) → HasRows s.page.elements s.page.forest → size s.page.forest ≤ size G
    → Stays s.page.forest G (waiting.DrainingBackup n) e (taken_backup_turn n ws s)
backup_stays G n e s [] rows le = next_backup_stays s.page.forest G (waiting.DrainingBackup n) e s.page.queues.backup s (λ k. k)
backup_stays G n e s (w ∷ ws) rows le = record { gives = λ k. absurd k; placed = (tt, (tt, reaction_placed G n w.1 (taken n w.0 ws s) rows le)) }

check_stays : (F G : Trees) (line : ℕ) (kept : Result Given Fault) (e : WaitEnd) (s : State) (es : List ℕ)
    → Stays F G (waiting.Replying line) e (checked_turn line kept es s)
check_stays F G line kept e s [] = record { gives = λ h. absurd h; placed = tt }
check_stays F G line kept e s (n ∷ ns) = record { gives = λ h. absurd h; placed = (tt, (tt, tt)) }

-- a variable

named_stays : (F G : Trees) (var : List ℕ) (given : Given) (s : State) → Stays F G (waiting.Naming var) (ends.Went given) (ended (named (Some var) given s))
named_stays F G var Nothing s = record { gives = λ h. absurd h; placed = tt }
named_stays F G var (Node n) s = record { gives = λ h. absurd h; placed = tt }
named_stays F G var (Answers a) s = record { gives = λ h. absurd h; placed = tt }
named_stays F G var Ignored s = record { gives = λ h. absurd h; placed = tt }

-- all frames

over_stays : (F G : Trees) (f : Frame) (s : State) → Stays F G f ends.Over (turn f ends.Over s)
unfolding turn
over_stays F G f s = record { gives = λ h. tt; placed = tt }

-- all but creations by an autonomous definition, which hand down what they were given
abbrev IsQuick : Waiting → Type 0
IsQuick (CreatingFit local document) = ⊥
IsQuick w = Unit {0}

node_stays : (F G : Trees) → size F ≤ size G → (n : ℕ) → IsNode F n → IsNode G n
node_stays F G le n h = record { low = h.low; high = let high = h.high in omega (arith, high, le) }

-- a constructor's body has to have given a node
constructed_stays : (F G : Trees) → size F ≤ size G → (given : Given) (s : State)
    → Stays F G waiting.Constructing (ends.Went given) (ended (gives_node (found (node_in given) ReferenceError) s))
constructed_stays F G le (Node n) s = record { gives = λ h. node_stays F G le n h; placed = tt }
constructed_stays F G le Nothing s = record { gives = λ h. tt; placed = tt }
constructed_stays F G le (Answers a) s = record { gives = λ h. tt; placed = tt }
constructed_stays F G le Ignored s = record { gives = λ h. tt; placed = tt }

threw_stays : (F G : Trees) → size F ≤ size G → (w : Waiting) (x : Fault) (s : State) → IsQuick w
    → Stays F G (waiting_of w) (ends.Threw x) (turn (waiting_of w) (ends.Threw x) s)
unfolding turn
threw_stays F G le (CreatingFit local document) x s q = absurd q
threw_stays F G le (CreatingExtended n) x s q = record { gives = λ h. node_stays F G le n h; placed = tt }
threw_stays F G le (Upgrading n d) x s q = record { gives = λ h. absurd h; placed = threw_settles n d x s G }
threw_stays F G le (Stepping queue) x s q = stepped_stays F G le queue (Err x) (ends.Threw x) s (λ h. h)
threw_stays F G le (Replying line) x s q = check_stays F G line (Err x) (ends.Threw x) s s.page.queues.backup
threw_stays F G le (Checking line kept) x s q = record { gives = λ h. tt; placed = tt }
threw_stays F G le (DrainingBackup n) x s q = record { gives = λ h. tt; placed = tt }
threw_stays F G le (Naming var) x s q = record { gives = λ h. tt; placed = tt }
threw_stays F G le (Draining queue n ns kept) x s q = record { gives = λ h. tt; placed = tt }
threw_stays F G le (InReaction number) x s q = record { gives = λ h. tt; placed = tt }
threw_stays F G le Constructing x s q = record { gives = λ h. tt; placed = tt }

went_stays : (G : Trees) (w : Waiting) (given : Given) (s : State) → HasRows s.page.elements s.page.forest → size s.page.forest ≤ size G → IsQuick w
    → Stays s.page.forest G (waiting_of w) (ends.Went given) (turn (waiting_of w) (ends.Went given) s)
unfolding turn
went_stays G (CreatingFit local document) given s rows le q = absurd q
went_stays G (CreatingExtended n) given s rows le q = record { gives = λ h. node_stays s.page.forest G le n h; placed = tt }
went_stays G (Upgrading n d) given s rows le q = record { gives = λ h. absurd h; placed = went_settles n d given s G }
went_stays G (Stepping queue) given s rows le q = stepped_stays s.page.forest G le queue (Ok given) (ends.Went given) s (λ h. h)
went_stays G (Replying line) given s rows le q = check_stays s.page.forest G line (Ok given) (ends.Went given) s s.page.queues.backup
went_stays G (Checking line kept) given s rows le q = record { gives = λ h. tt; placed = tt }
went_stays G (DrainingBackup n) given s rows le q = backup_stays G n (ends.Went given) s (waiting_at s.page.queues n) rows le
went_stays G (Naming var) given s rows le q = named_stays s.page.forest G var given s
went_stays G (Draining queue n ns kept) given s rows le q = drain_stays G queue n ns kept (ends.Went given) s (waiting_at s.page.queues n) rows le
went_stays G (InReaction number) given s rows le q = record { gives = λ h. tt; placed = tt }
went_stays G Constructing given s rows le q = constructed_stays s.page.forest G le given s

stays : (G : Trees) (w : Waiting) (end : Came) (s : State) → HasRows s.page.elements s.page.forest → size s.page.forest ≤ size G → IsQuick w
    → Stays s.page.forest G (waiting_of w) (end_of end) (turn (waiting_of w) (end_of end) s)
stays G w (Went given) s rows le q = went_stays G w given s rows le q
stays G w (Threw x) s rows le q = threw_stays s.page.forest G le w x s q
stays G w Over s rows le q = over_stays s.page.forest G (waiting_of w) s

-- the topmost of them
pub topmost_placed : (F : Trees) (old under : List Frame) (f : Frame) (e : WaitEnd) → old ≡ under ++ f ∷ [] → ArePlaced F old e → ArePlaced F (f ∷ []) e
topmost_placed F old under f e popped h = placed_above F under (f ∷ []) e (subst (λ l. ArePlaced F l e) popped h)

-- a turn keeps it

quick_placed : (old under new : List Frame) (w : Waiting) (end now : Came) (s s1 : State) → IsQuick w → HasRows s.page.elements s.page.forest
    → size s.page.forest ≤ size s1.page.forest → old ≡ under ++ waiting_of w ∷ [] → Turns under new now s1 (turn (waiting_of w) (end_of end) s)
    → ArePlaced s.page.forest old (end_of end)
    → ArePlaced s1.page.forest new (end_of now)
quick_placed old under new w end now s s1 q rows le popped h placed =
    let t : Turned = turn (waiting_of w) (end_of end) s in
    let F : Trees = s.page.forest in
    let G : Trees = s1.page.forest in
    let k = stays G w end s rows le q in
    let after : ArePlaced G (under ++ t.pushed) t.end =
    placed_below F G le under (waiting_of w ∷ []) t.pushed (end_of end) t.end k.gives k.placed (subst (λ l. ArePlaced F l (end_of end)) popped placed) in
    subst (λ e. ArePlaced G new e) (sym h.end) (subst (λ l. ArePlaced G l t.end) (sym h.frames) after)

end_there : (F : Trees) (now : Came) → IsEndThere F now → Reaches F (end_of now)
end_there F (Went given) h = h
end_there F (Threw x) h = tt
end_there F Over h = tt

created_placed : (old under new : List Frame) (local : List ℕ) (document : ℕ) (end now : Came) (F G : Trees)
    → old ≡ under ++ waiting.CreatingFit local document ∷ [] → Creates F G under new now → ArePlaced F old (end_of end) → ArePlaced G new (end_of now)
created_placed old under new local document end now F G popped c placed =
    let after : ArePlaced G (under ++ []) (end_of now) =
    placed_below F G c.grows under (waiting.CreatingFit local document ∷ []) [] (end_of end) (end_of now) (λ _. end_there G now c.there) tt
    (subst (λ l. ArePlaced F l (end_of end)) popped placed) in
    subst (λ l. ArePlaced G l (end_of now)) (append-nil under ∙ sym c.same) after

pub turned_placed : (old under new : List Frame) (w : Waiting) (end now : Came) (s s1 : State) → HasRows s.page.elements s.page.forest
    → size s.page.forest ≤ size s1.page.forest → old ≡ under ++ waiting_of w ∷ [] → Turns under new now s1 (turn (waiting_of w) (end_of end) s)
    → IfCreating (waiting_of w) (Creates s.page.forest s1.page.forest under new now) → ArePlaced s.page.forest old (end_of end)
    → ArePlaced s1.page.forest new (end_of now)
turned_placed old under new (CreatingFit local document) end now s s1 rows le popped h c placed =
    created_placed old under new local document end now s.page.forest s1.page.forest popped c placed
turned_placed old under new (CreatingExtended n) end now s s1 rows le popped h c placed =
    quick_placed old under new (CreatingExtended n) end now s s1 tt rows le popped h placed
turned_placed old under new (Upgrading n d) end now s s1 rows le popped h c placed =
    quick_placed old under new (Upgrading n d) end now s s1 tt rows le popped h placed
turned_placed old under new (Stepping queue) end now s s1 rows le popped h c placed =
    quick_placed old under new (Stepping queue) end now s s1 tt rows le popped h placed
turned_placed old under new (Replying line) end now s s1 rows le popped h c placed =
    quick_placed old under new (Replying line) end now s s1 tt rows le popped h placed
turned_placed old under new (Checking line kept) end now s s1 rows le popped h c placed =
    quick_placed old under new (Checking line kept) end now s s1 tt rows le popped h placed
turned_placed old under new (DrainingBackup n) end now s s1 rows le popped h c placed =
    quick_placed old under new (DrainingBackup n) end now s s1 tt rows le popped h placed
turned_placed old under new (Naming var) end now s s1 rows le popped h c placed =
    quick_placed old under new (Naming var) end now s s1 tt rows le popped h placed
turned_placed old under new (Draining queue n ns kept) end now s s1 rows le popped h c placed =
    quick_placed old under new (Draining queue n ns kept) end now s s1 tt rows le popped h placed
turned_placed old under new (InReaction number) end now s s1 rows le popped h c placed =
    quick_placed old under new (InReaction number) end now s s1 tt rows le popped h placed
turned_placed old under new Constructing end now s s1 rows le popped h c placed =
    quick_placed old under new Constructing end now s s1 tt rows le popped h placed

-- a turn of a body keeps it

pub body_placed : (old : Stacked) (new : List Frame) (end : WaitEnd) (now : Came) (F : Trees) (s1 : State) (t : Turned) → HasBody (frames_of old)
    → Turns (below_top (frames_of old)) new now s1 t → Lasts F t → ArePlaced F (frames_of old) end → ArePlaced s1.page.forest new (end_of now)
body_placed old new end now F s1 t b h k placed =
    let G : Trees = t.state.page.forest in
    let f : Frame = frame_on_top old in
    let after : ArePlaced G (below_top (frames_of old) ++ t.pushed) t.end =
    placed_below F G k.grows (below_top (frames_of old)) (f ∷ []) t.pushed end t.end (λ _. k.gives) k.placed
    (subst (λ l. ArePlaced F l end) (popped_body old b) placed) in
    let at : G ≡ s1.page.forest = sym (ap (λ (x : State). x.page.forest) h.state) in
    subst (λ G. ArePlaced G new (end_of now)) at (subst (λ e. ArePlaced G new e) (sym h.end) (subst (λ l. ArePlaced G l t.end) (sym h.frames) after))

-- what `this` is in it is there
pub body_there : (old : Stacked) (end : WaitEnd) (F : Trees) → HasBody (frames_of old) → ArePlaced F (frames_of old) end
    → IfSome (this_of (top_of (frames_of old))) (IsNode F)
body_there old end F b placed =
    let top = topmost_placed F (frames_of old) (below_top (frames_of old)) (frame_on_top old) end (popped_body old b) placed in
    let named = subst (λ (f : Frame). IsNamed F f [] end) (on_top old b) top.0 in
    subst (λ (o : Option ℕ). IfSome o (IsNode F)) (sym (ap this_of b.top)) named
