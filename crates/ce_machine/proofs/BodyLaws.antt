-- Turns of bodies, of the whole session.
use Rattle.std.proofs.Common.{◌≡◌, ℕ, ◌<◌, ◌≤◌, Bool, true, false, List, [], ◌∷◌, ◌++◌, length, Option, Some, None, refl, ap, sym, ◌∙◌, subst, arith}
use Rattle.std.proofs.Common.{length-set}
use Rattle.std.specs.Prelude.{Result, Ok, Err, IfOk, IfSome, IfNone, slice_set, ◌⊎◌}
use Rattle.std.proofs.Common.{inl, inr}
use Rattle.std.proofs.lemmas.Bool.{cases_lt}
use Rattle.std.proofs.Math.Seq.{set_out}
use Rattle.ce_base.specs.declared.fault.Fault.{Fault}
use Rattle.ce_base.specs.declared.memory.NoMemory.{NoMemory}
use Rattle.node_trees.specs.Nodes.{IsNode, size}
use Rattle.node_trees.specs.Trees.{Trees}
use Rattle.rule_tokens.specs.declared.operand.Operand.{Operand}
use Rattle.rule_tokens.specs.declared.operand.Operand.TheVariants.{Doc, This, Variable}
use Rattle.rule_lines.specs.declared.op.Op.{Op}
use Rattle.rule_lines.specs.Acts.{Act, Both}
use Rattle.class_bodies.proofs.Resumes.{body_resumes}
use Rattle.class_bodies.specs.declared.next.Next.{Next}
use Rattle.behaviours.specs.Next.{stop_of}
use Rattle.behaviours.specs.Resume.{Doing, Resumed, Returning, BodyStop, Throwing, resumed}
use Rattle.behaviours.specs.Turns.{remembering, stop_turn}
use Rattle.ce_algorithms.specs.Body.{Ended, told}
use Rattle.ce_events.specs.declared.event.Event.TheVariants.{Caught}
use Rattle.ce_algorithms.specs.declared.given.Given.{Given}
use Rattle.ce_algorithms.specs.declared.given.Given.TheVariants.{Answers, Ignored, Node, Nothing}
use Rattle.ce_algorithms.specs.Operands.{node}
use Rattle.ce_algorithms.specs.State.{Class, State, logged, view}
use Rattle.ce_algorithms.specs.Steps.{Goes, Outcome, Spent, Throws, give, settle, then_do}
use Rattle.ce_algorithms.specs.Values.{Args}
use Rattle.ce_frames.specs.After.{guard}
use Rattle.ce_frames.specs.BodyTurns.{body_turn, flow_turn}
use Rattle.ce_frames.specs.Frames.{Frame, InBody}
use Rattle.ce_frames.specs.Handing.{given_of}
use Rattle.ce_frames.specs.OperateTurns.{operate_turn}
use Rattle.ce_frames.specs.Places.{Behaviour}
use Rattle.ce_frames.specs.Rest as ends
use Rattle.ce_frames.specs.Turned.{Turn, Turned, ended, turn_after, with_below}
use Rattle.ce_frames.specs.Turns.{turn}
use Rattle.ce_frames.specs.Whole.{whole, whole_in}
use Rattle.ce_frames.proofs.Wholes.{found_joined, remembering_joined}
use Rattle.body_frames.specs.Resumes.{is_guarded}
use Rattle.frame_stack.specs.Resumes.{Proceeds, Resumes, resumed_of}
use Rattle.frame_stack.specs.Sessions.{ArePaired, session}
use Rattle.frame_stack.specs.Stacked.{Stacked, HasBody, Running, behaviour_at, behaviours_of, below_top, frames_of, guarded_of, in_body, this_of, top_of}
use Rattle.frame_stack.proofs.TopLaws.{below_push, top_below, top_push}
use Rattle.ce_machine.specs.Bodies.{GoesOn, StopsAt, acting_turn, answer, frame_on_top, given_node, or_constructing, running_turn, stopped_turn}
use Rattle.ce_outcomes.specs.declared.came.Came.{Came}
use Rattle.ce_outcomes.specs.declared.came.Came.TheVariants.{Threw, Over}
use Rattle.ce_outcomes.specs.Given.{IsThere}
use Rattle.ce_outcomes.specs.Placed.{Lasts}
use Rattle.ce_outcomes.specs.Turns.{Turns}
use Rattle.ce_drains.proofs.SessionLaws.{session_is}
use Rattle.ce_outcomes.proofs.TurnLaws.{turns_as, turns_ended, turns_pushed}
use Rattle.frame_stack.proofs.ClassLaws.{behaviour_there}

-- where the forest has grown

pub this_grows : (F G : Trees) (o : Option ℕ) → size F ≤ size G → IfSome o (IsNode F) → IfSome o (IsNode G)
this_grows F G None le h = tt
this_grows F G (Some n) le h = record { low = h.low; high = let x = h.high in omega (arith, x, le) }

-- the frame on top

pub on_top : (stack : Stacked) (b : HasBody (frames_of stack)) → frame_on_top stack ≡ in_body b.body
on_top stack b = ap or_constructing b.top

pub popped_body : (stack : Stacked) (b : HasBody (frames_of stack)) → frames_of stack ≡ below_top (frames_of stack) ++ frame_on_top stack ∷ []
popped_body stack b = top_below (frames_of stack) (in_body b.body) b.top ∙ ap (λ (f : Frame). below_top (frames_of stack) ++ f ∷ []) (sym (on_top stack b))

-- a turn that is the same on top, written otherwise
top_as : (stack : Stacked) (b : HasBody (frames_of stack)) (f g : Frame → Turn) (s t : State) → f (in_body b.body) s ≡ g (in_body b.body) t
    → f (frame_on_top stack) s ≡ g (frame_on_top stack) t
top_as stack b f g s t e = ap (λ (x : Frame). f x s) (on_top stack b) ∙ e ∙ sym (ap (λ (x : Frame). g x t) (on_top stack b))

-- the body has ended

-- what it gave is there, where it ended
abbrev pub IsDown : Outcome State Given → Type 0
IsDown (Goes given s) = IsThere s.page.forest given
IsDown (Throws f s) = Unit {0}
IsDown (Spent s) = Unit {0}

abbrev pub forest_in : Outcome State Given → Trees
forest_in (Goes given s) = s.page.forest
forest_in (Throws f s) = s.page.forest
forest_in (Spent s) = s.page.forest

lasts_in : (F : Trees) (o : Outcome State Given) → size F ≤ size (forest_in o) → IsDown o → Lasts F (ended o)
lasts_in F (Goes given s) le h = record { grows = le; gives = h; placed = tt }
lasts_in F (Throws f s) le h = record { grows = le; gives = tt; placed = tt }
lasts_in F (Spent s) le h = record { grows = le; gives = tt; placed = tt }

pub lasts_ended : (F : Trees) (o : Outcome State Given) (t : Turned) → size F ≤ size (forest_in o) → IsDown o → ended o ≡ t → Lasts F t
lasts_ended F o t le h e = subst (Lasts F) e (lasts_in F o le h)

-- what it returns

answer_same : (this : Option ℕ) (bs : List Behaviour) (s : State) (value : Option Operand) → answer this (whole bs s) value ≡ answer this s value
answer_same this bs s None = refl
answer_same this bs s (Some Doc) = refl
answer_same this bs s (Some This) = refl
answer_same this bs s (Some (Variable name)) = refl

abbrev returning : ℕ → Args → Option ℕ → List Act → Bool → State → Result ℕ Fault → Turned
returning class args this left guarded s x =
    turn_after (guard guarded this (then_do (settle x s) (λ n. give (Ended (Some n))))) (flow_turn (λ next. body_turn class args next left))

goes_by : (class : ℕ) (args : Args) (this : Option ℕ) (left : List Act) (guarded : Bool) (s : State) (given : Given) (x : Result ℕ Fault)
    → given_node x ≡ Ok given → ended (Goes given s) ≡ returning class args this left guarded s x
goes_by class args this left true s given (Ok n) h = let e : Node n ≡ given = cc in ap (λ (g : Given). ended (Goes g s)) (sym e)
goes_by class args this left false s given (Ok n) h = let e : Node n ≡ given = cc in ap (λ (g : Given). ended (Goes g s)) (sym e)
goes_by class args this left guarded s given (Err f) h = absurd (let e : given_node (Err f) ≡ Ok given = h in cc)

ok_same : (x y : Given) → ◌≡◌ {A = Result Given Fault} (Ok x) (Ok y) → x ≡ y
ok_same x y e = cc

answer_goes : (class : ℕ) (args : Args) (this : Option ℕ) (left : List Act) (value : Option Operand) (guarded : Bool) (s : State) (given : Given)
    → answer this s value ≡ Ok given → ended (Goes given s) ≡ stop_turn class args this left (Returning value guarded) s
answer_goes class args this left None true s given h = ap (λ (g : Given). ended (Goes g s)) (sym (ok_same (given_of this) given h))
answer_goes class args this left None false s given h = ap (λ (g : Given). ended (Goes g s)) (sym (ok_same (given_of this) given h))
answer_goes class args this left (Some operand) guarded s given h = goes_by class args this left guarded s given (node (view this s) operand) h

throws_by : (class : ℕ) (args : Args) (this : Option ℕ) (left : List Act) (guarded : Bool) (s : State) (f : Fault) (x : Result ℕ Fault) → given_node x ≡ Err f
    → stop_turn class args this left (Throwing f guarded) s ≡ returning class args this left guarded s x
throws_by class args this left guarded s f (Ok n) h = absurd (let e : given_node (Ok n) ≡ Err f = h in cc)
throws_by class args this left guarded s f (Err g) h = let e : g ≡ f = cc in ap (λ (y : Fault). stop_turn class args this left (Throwing y guarded) s) (sym e)

answer_throws : (class : ℕ) (args : Args) (this : Option ℕ) (left : List Act) (value : Option Operand) (guarded : Bool) (s : State) (f : Fault)
    → answer this s value ≡ Err f → stop_turn class args this left (Throwing f guarded) s ≡ stop_turn class args this left (Returning value guarded) s
answer_throws class args this left None guarded s f h = absurd (let e : answer this s None ≡ Err f = h in cc)
answer_throws class args this left (Some operand) guarded s f h = throws_by class args this left guarded s f (node (view this s) operand) h

answer_on : (old : Stacked) (b : HasBody (frames_of old)) (s : State) (this : Option ℕ) (value : Option Operand) (r : Result Given Fault)
    → this ≡ this_of (top_of (frames_of old)) → answer this s value ≡ r → answer b.body.this (session old s) value ≡ r
answer_on old b s this value r is h =
    answer_same b.body.this (behaviours_of old) s value ∙ ap (λ (t : Option ℕ). answer t s value) (sym (is ∙ ap this_of b.top)) ∙ h

pub returned_is : (old : Stacked) (b : HasBody (frames_of old)) (s : State) (this : Option ℕ) (value : Option Operand) (guarded : Bool) (given : Given)
    → this ≡ this_of (top_of (frames_of old)) → answer this s value ≡ Ok given
    → ended (Goes given (session old s)) ≡ stopped_turn (Returning value guarded) (frame_on_top old) (session old s)
returned_is old b s this value guarded given is h =
    answer_goes b.body.class b.body.args b.body.this b.body.actions value guarded (session old s) given (answer_on old b s this value (Ok given) is h)
    ∙ sym (ap (λ (x : Frame). stopped_turn (Returning value guarded) x (session old s)) (on_top old b))

pub returned_throws : (old : Stacked) (b : HasBody (frames_of old)) (s : State) (this : Option ℕ) (value : Option Operand) (guarded : Bool) (f : Fault)
    → this ≡ this_of (top_of (frames_of old)) → answer this s value ≡ Err f
    → stopped_turn (Throwing f guarded) (frame_on_top old) (session old s) ≡ stopped_turn (Returning value guarded) (frame_on_top old) (session old s)
returned_throws old b s this value guarded f is h =
    top_as old b (stopped_turn (Throwing f guarded)) (stopped_turn (Returning value guarded)) (session old s) (session old s)
    (answer_throws b.body.class b.body.args b.body.this b.body.actions value guarded (session old s) f (answer_on old b s this value (Err f) is h))

pub returned_lasts : (old : Stacked) (s : State) (this : Option ℕ) (value : Option Operand) (guarded : Bool) (given : Given) → HasBody (frames_of old)
    → this ≡ this_of (top_of (frames_of old)) → answer this s value ≡ Ok given → IsThere s.page.forest given
    → Lasts s.page.forest (stopped_turn (Returning value guarded) (frame_on_top old) (session old s))
returned_lasts old s this value guarded given b is h there =
    lasts_ended s.page.forest (Goes given (session old s)) _ (omega arith) there (returned_is old b s this value guarded given is h)

-- the body goes on

-- from an earlier state on, by a turn that comes to the same
pub goes_on_from : (old new : Stacked) (s s1 s2 : State) (f g : Frame → Turn) → f (frame_on_top old) (session old s1) ≡ g (frame_on_top old) (session old s)
    → size s.page.forest ≤ size s1.page.forest → s1.fuel ≤ s.fuel → GoesOn old new s1 s2 f → GoesOn old new s s2 g
goes_on_from old new s s1 s2 f g e le less h = record {
  body = h.body;
  below = h.below;
  this = λ there. h.this (this_grows s.page.forest s1.page.forest (this_of (top_of (frames_of old))) le there);
  same = h.same ∙ e;
  paired = h.paired;
  grows = let x = h.grows in omega (arith, x, le);
  fuel = let x = h.fuel in omega (arith, x, less);
}

pub goes_on_as : (old new : Stacked) (s s1 : State) (f g : Frame → Turn) → f (frame_on_top old) (session old s) ≡ g (frame_on_top old) (session old s)
    → GoesOn old new s s1 f → GoesOn old new s s1 g
goes_on_as old new s s1 f g e h = goes_on_from old new s s s1 f g e (omega arith) (omega arith) h

-- what `this` is stays a node
pub this_there : (old new : Stacked) (s t : State) → this_of (top_of (frames_of new)) ≡ this_of (top_of (frames_of old)) → t.page.forest ≡ s.page.forest
    → IfSome (this_of (top_of (frames_of old))) (IsNode s.page.forest) → IfSome (this_of (top_of (frames_of new))) (IsNode t.page.forest)
this_there old new s t this forest h =
    subst (λ (F : Trees). IfSome (this_of (top_of (frames_of new))) (IsNode F)) (sym forest)
    (subst (λ (o : Option ℕ). IfSome o (IsNode s.page.forest)) (sym this) h)

-- an operation runs above it

acting_is : (old : Stacked) (b : HasBody (frames_of old)) (s : State) (this : Option ℕ) (op : Op) → this ≡ this_of (top_of (frames_of old))
    → with_below (in_body b.body) (operate_turn this op (session old s)) ≡ acting_turn (Both op) (frame_on_top old) (session old s)
acting_is old b s this op is =
    ap (λ (t : Option ℕ). with_below (in_body b.body) (operate_turn t op (session old s))) (is ∙ ap this_of b.top)
    ∙ sym (ap (λ (x : Frame). acting_turn (Both op) x (session old s)) (on_top old b))

pub operation_turns : (old new : Stacked) (s t : State) (this : Option ℕ) (op : Op) (r : Result Came NoMemory) → HasBody (frames_of old)
    → this ≡ this_of (top_of (frames_of old)) → IfOk r (λ (now : Came). Turns (frames_of old) (frames_of new) now t (operate_turn this op (session old s)))
    → IfOk r (λ (now : Came). Turns (below_top (frames_of old)) (frames_of new) now t (acting_turn (Both op) (frame_on_top old) (session old s)))
operation_turns old new s t this op (Ok now) b is h =
    turns_as (below_top (frames_of old)) (frames_of new) now t _ _ (acting_is old b s this op is)
    (turns_pushed (below_top (frames_of old)) (frames_of old) (frames_of new) (in_body b.body) now t (operate_turn this op (session old s))
    (top_below (frames_of old) (in_body b.body) b.top) h)
operation_turns old new s t this op (Err x) b is h = tt

-- where a body has stopped, it goes on

-- a body without actions
idle_body : (class : ℕ) (args : Args) (this : Option ℕ) (t : State) → stop_turn class args this [] (Returning None false) t ≡ body_turn class args this [] t
unfolding body_turn
idle_body class args this t = refl

module _ (old new : Stacked) (s s1 : State) (next : Next) (h : Resumes old new s.fuel s1.fuel next) (paired : ArePaired old s)
    (is : s1 ≡ record s { fuel = s1.fuel }) where
  abbrev r : Running
  r = h.body

  abbrev bs : List Behaviour
  bs = behaviours_of old

  abbrev came : Resumed
  came = resumed_of r bs s.fuel

  abbrev mine : Behaviour
  mine = behaviour_at r.class bs

  abbrev old_body : HasBody (frames_of old)
  old_body = record { body = r; top = h.top }

  new_top : top_of (frames_of new) ≡ Some (in_body (record r { guarded = is_guarded (stop_of next); actions = came.left }))
  new_top = ap top_of h.frames ∙ top_push (below_top (frames_of old)) _

  abbrev new_body : HasBody (frames_of new)
  new_body = record { body = record r { guarded = is_guarded (stop_of next); actions = came.left }; top = new_top }

  -- what the class remembers, and the fuel, are those of the new session
  session_new : session new s1 ≡ whole (slice_set bs r.class (record mine { memory = came.memory })) (record s { fuel = came.fuel })
  session_new =
      ap (λ (l : List Behaviour). whole l s1) h.behaviours
      ∙ ap (whole (slice_set bs r.class (record mine { memory = came.memory }))) (is ∙ ap (λ (n : ℕ). record s { fuel = n }) h.fuel)

  remembers : (r.class < length bs) → remembering r.class came.memory came.fuel (session old s) ≡ session new s1
  remembers within =
      ap (λ (l : List Class). record s { fuel = came.fuel; classes = l })
      (remembering_joined s.classes bs r.class mine came.memory (behaviour_there bs r.class within)) ∙ sym session_new

  stops : stop_turn r.class r.args r.this came.left came.stop (session new s1) ≡ stopped_turn (stop_of next) (frame_on_top new) (session new s1)
  stops =
      ap (λ (x : BodyStop). stop_turn r.class r.args r.this came.left x (session new s1)) (sym h.stop)
      ∙ sym (ap (λ (f : Frame). stopped_turn (stop_of next) f (session new s1)) (on_top new new_body))

  runs : running_turn (frame_on_top old) (session old s) ≡ body_turn r.class r.args r.this r.actions (session old s)
  runs = ap (λ (f : Frame). running_turn f (session old s)) (on_top old old_body)

  same_within : r.class < length bs → stopped_turn (stop_of next) (frame_on_top new) (session new s1) ≡ running_turn (frame_on_top old) (session old s)
  same_within within =
      sym (runs
      ∙ body_resumes r.class r.args r.this r.actions (session old s) _ (found_joined s.classes bs r.class mine paired (behaviour_there bs r.class within))
      ∙ ap (stop_turn r.class r.args r.this came.left came.stop) (remembers within)
      ∙ stops)

  -- a class that is not there does nothing

  idle_came : length bs ≤ r.class → came ≡ record { stop = Returning None false; memory = mine.memory; fuel = s.fuel; left = [] }
  idle_came past = ap (λ (l : List Act). resumed r.args l mine.memory s.fuel) (h.idle past)

  idle_session : length bs ≤ r.class → session new s1 ≡ session old s
  idle_session past =
      session_new
      ∙ ap (λ (l : List Behaviour). whole l (record s { fuel = came.fuel })) (set_out bs r.class (record mine { memory = came.memory }) past)
      ∙ ap (λ (x : Resumed). whole bs (record s { fuel = x.fuel })) (idle_came past)

  same_past : length bs ≤ r.class → stopped_turn (stop_of next) (frame_on_top new) (session new s1) ≡ running_turn (frame_on_top old) (session old s)
  same_past past =
      sym stops
      ∙ ap (stop_turn r.class r.args r.this came.left came.stop) (idle_session past)
      ∙ ap (λ (x : Resumed). stop_turn r.class r.args r.this x.left x.stop (session old s)) (idle_came past)
      ∙ idle_body r.class r.args r.this (session old s)
      ∙ ap (λ (l : List Act). body_turn r.class r.args r.this l (session old s)) (sym (h.idle past))
      ∙ sym runs

  pub stops_at : StopsAt old new s s1 (stop_of next)
  stops_at = record {
    body = new_body;
    below = ap below_top h.frames ∙ below_push (below_top (frames_of old)) _;
    this = ap this_of new_top ∙ sym (ap this_of h.top);
    same = by_class (cases_lt r.class (length bs));
    guarded = ap guarded_of new_top;
    paired = ap (λ (x : State). length x.classes) is ∙ paired ∙ sym (ap length h.behaviours ∙ length-set bs r.class (record mine { memory = came.memory }));
  }
    where
      by_class : (r.class < length bs) ⊎ (length bs ≤ r.class)
          → stopped_turn (stop_of next) (frame_on_top new) (session new s1) ≡ running_turn (frame_on_top old) (session old s)
      by_class (inl within) = same_within within
      by_class (inr past) = same_past past

-- where it is known at which stop
pub stopped : (old new : Stacked) (s s1 : State) {next known : Next} → next ≡ known → Resumes old new s.fuel s1.fuel next → ArePaired old s
    → s1 ≡ record s { fuel = s1.fuel } → StopsAt old new s s1 (stop_of known)
stopped old new s s1 is h paired rest = subst (StopsAt old new s s1) (ap stop_of is) (stops_at old new s s1 _ h paired rest)

-- what is done where it has stopped is what it does

pub stops_turns : (old mid : Stacked) (s s1 t : State) (stop : BodyStop) (new : List Frame) (o : Option Came) → StopsAt old mid s s1 stop
    → IfSome o (λ (now : Came). Turns (below_top (frames_of mid)) new now t (stopped_turn stop (frame_on_top mid) (session mid s1)))
    → IfSome o (λ (now : Came). Turns (below_top (frames_of old)) new now t (running_turn (frame_on_top old) (session old s)))
stops_turns old mid s s1 t stop new o k h =
    subst (λ (u : Turned). IfSome o (λ (now : Came). Turns (below_top (frames_of old)) new now t u)) k.same
    (subst (λ (l : List Frame). IfSome o (λ (now : Came). Turns l new now t (stopped_turn stop (frame_on_top mid) (session mid s1)))) k.below h)

pub stops_lasts : (old mid : Stacked) (s s1 : State) (stop : BodyStop) (o : Option Came) → StopsAt old mid s s1 stop → s1 ≡ record s { fuel = s1.fuel }
    → IfSome o (λ (now : Came). Lasts s1.page.forest (stopped_turn stop (frame_on_top mid) (session mid s1)))
    → IfSome o (λ (now : Came). Lasts s.page.forest (running_turn (frame_on_top old) (session old s)))
stops_lasts old mid s s1 stop o k is h =
    subst (λ (F : Trees). IfSome o (λ (now : Came). Lasts F (running_turn (frame_on_top old) (session old s)))) (ap (λ (x : State). x.page.forest) is)
    (subst (λ (u : Turned). IfSome o (λ (now : Came). Lasts s1.page.forest u)) k.same h)

pub stops_goes_on : (old mid new : Stacked) (s s1 t : State) (stop : BodyStop) (o : Option Came) → StopsAt old mid s s1 stop → s1 ≡ record s { fuel = s1.fuel }
    → IfNone o (s1.fuel < s.fuel) → IfNone o (GoesOn mid new s1 t (stopped_turn stop)) → IfNone o (GoesOn old new s t running_turn)
stops_goes_on old mid new s s1 t stop (Some now) k is less h = tt
stops_goes_on old mid new s s1 t stop None k is less h =
    let forest : s1.page.forest ≡ s.page.forest = ap (λ (x : State). x.page.forest) is in
    record {
      body = h.body;
      below = h.below ∙ k.below;
      this = λ there. h.this (this_there old mid s s1 k.this forest there);
      same = h.same ∙ k.same;
      paired = h.paired;
      grows = let x = h.grows in let e = ap size forest in omega (arith, x, e);
      fuel = let x = h.fuel in omega (arith, x, less);
    }

pub stops_spends : (s s1 : State) (next : Next) (stop : BodyStop) (o : Option Came) → stop_of next ≡ stop → (Proceeds (stop_of next) → s1.fuel < s.fuel)
    → IfNone o (Proceeds stop) → IfNone o (s1.fuel < s.fuel)
stops_spends s s1 next stop (Some now) is spends h = tt
stops_spends s s1 next stop None is spends h = spends (subst Proceeds (sym is) h)

pub none_goes_on_as : (o : Option Came) (old new : Stacked) (s s1 : State) (f g : Frame → Turn)
    → f (frame_on_top old) (session old s) ≡ g (frame_on_top old) (session old s) → IfNone o (GoesOn old new s s1 f) → IfNone o (GoesOn old new s s1 g)
none_goes_on_as (Some now) old new s s1 f g e h = tt
none_goes_on_as None old new s s1 f g e h = goes_on_as old new s s1 f g e h

pub none_goes_on_from : (o : Option Came) (old new : Stacked) (s s1 s2 : State) (f g : Frame → Turn)
    → f (frame_on_top old) (session old s1) ≡ g (frame_on_top old) (session old s) → size s.page.forest ≤ size s1.page.forest → s1.fuel ≤ s.fuel
    → IfNone o (GoesOn old new s1 s2 f) → IfNone o (GoesOn old new s s2 g)
none_goes_on_from (Some now) old new s s1 s2 f g e le less h = tt
none_goes_on_from None old new s s1 s2 f g e le less h = goes_on_from old new s s1 s2 f g e le less h

pub always : (o : Option Came) → IfNone o (Unit {0})
always None = tt
always (Some now) = tt

-- an action stands in a `try` if its frame says so
pub acts_as : (mid : Stacked) (b : HasBody (frames_of mid)) (action : Act) (guarded : Bool) (t : State) → guarded_of (top_of (frames_of mid)) ≡ guarded
    → acting_turn action (frame_on_top mid) t ≡ stopped_turn (Doing action guarded) (frame_on_top mid) t
acts_as mid b action guarded t is =
    top_as mid b (acting_turn action) (stopped_turn (Doing action guarded)) t t
    (ap (λ (g : Bool). stopped_turn (Doing action g) (in_body b.body) t) (sym (ap guarded_of b.top) ∙ is))

-- what it waited for has ended

-- it has gone well
told_whole : (given : Given) (bs : List Behaviour) (s s1 : State) → Goes tt s1 ≡ told given s → Goes tt (whole bs s1) ≡ told given (whole bs s)
told_whole Nothing bs s s1 e = ap (whole_in bs) e
told_whole (Node n) bs s s1 e = ap (whole_in bs) e
told_whole (Answers a) bs s s1 e = ap (whole_in bs) e
told_whole Ignored bs s s1 e = ap (whole_in bs) e

pub went_is : (old : Stacked) (b : HasBody (frames_of old)) (s s1 : State) (given : Given) → Goes tt s1 ≡ told given s
    → running_turn (frame_on_top old) (session old s1) ≡ turn (frame_on_top old) (ends.Went given) (session old s)
unfolding turn
went_is old b s s1 given e =
    top_as old b running_turn (λ (f : Frame). turn f (ends.Went given)) (session old s1) (session old s)
    (ap (λ (o : Outcome State (Unit {0})). turn_after o (λ _. body_turn b.body.class b.body.args b.body.this b.body.actions))
    (told_whole given (behaviours_of old) s s1 e))

-- it has thrown
pub threw_is : (old : Stacked) (b : HasBody (frames_of old)) (s : State) (f : Fault) → false ≡ guarded_of (top_of (frames_of old))
    → ended (Throws f (session old s)) ≡ turn (frame_on_top old) (ends.Threw f) (session old s)
unfolding turn
threw_is old b s f off =
    ap (λ (g : Bool). turn (InBody b.body.class b.body.args b.body.this g b.body.actions) (ends.Threw f) (session old s)) (off ∙ ap guarded_of b.top)
    ∙ sym (ap (λ (x : Frame). turn x (ends.Threw f) (session old s)) (on_top old b))

pub caught_is : (old : Stacked) (b : HasBody (frames_of old)) (s s1 : State) (f : Fault) → true ≡ guarded_of (top_of (frames_of old))
    → s1 ≡ logged (Caught f) s → running_turn (frame_on_top old) (session old s1) ≡ turn (frame_on_top old) (ends.Threw f) (session old s)
unfolding turn
caught_is old b s s1 f on is =
    top_as old b running_turn (λ (x : Frame). turn x (ends.Threw f)) (session old s1) (session old s)
    (ap (λ (t : State). body_turn b.body.class b.body.args b.body.this b.body.actions (session old t)) is
    ∙ ap (λ (g : Bool). turn (InBody b.body.class b.body.args b.body.this g b.body.actions) (ends.Threw f) (session old s)) (on ∙ ap guarded_of b.top))

-- the session has ended
pub over_is : (old : Stacked) (s : State) → ended (Spent (session old s)) ≡ turn (frame_on_top old) ends.Over (session old s)
unfolding turn
over_is old s = refl

pub over_turns : (old new : Stacked) (s : State) → frames_of new ≡ below_top (frames_of old) → behaviours_of new ≡ behaviours_of old
    → Turns (below_top (frames_of old)) (frames_of new) Over (session new s) (turn (frame_on_top old) ends.Over (session old s))
over_turns old new s fs same =
    turns_ended (below_top (frames_of old)) (frames_of new) Over (session new s) (Spent (session old s)) _ fs
    (ap (λ (t : State). Spent t) (session_is old new s s same refl)) (over_is old s)

pub over_lasts : (old : Stacked) (s : State) → Lasts s.page.forest (turn (frame_on_top old) ends.Over (session old s))
over_lasts old s = lasts_ended s.page.forest (Spent (session old s)) _ (omega arith) tt (over_is old s)

pub threw_turns : (old new : Stacked) (s : State) (f : Fault) → HasBody (frames_of old) → false ≡ guarded_of (top_of (frames_of old))
    → frames_of new ≡ below_top (frames_of old) → behaviours_of new ≡ behaviours_of old
    → Turns (below_top (frames_of old)) (frames_of new) (Threw f) (session new s) (turn (frame_on_top old) (ends.Threw f) (session old s))
threw_turns old new s f b off fs same =
    turns_ended (below_top (frames_of old)) (frames_of new) (Threw f) (session new s) (Throws f (session old s)) _ fs
    (ap (λ (t : State). Throws f t) (session_is old new s s same refl)) (threw_is old b s f off)

pub threw_lasts : (old : Stacked) (s : State) (f : Fault) → HasBody (frames_of old) → false ≡ guarded_of (top_of (frames_of old))
    → Lasts s.page.forest (turn (frame_on_top old) (ends.Threw f) (session old s))
threw_lasts old s f b off = lasts_ended s.page.forest (Throws f (session old s)) _ (omega arith) tt (threw_is old b s f off)

-- a turn of the same body, written otherwise

pub some_turns_as : (o : Option Came) (under new : List Frame) (s : State) (t u : Turned) → t ≡ u → IfSome o (λ (now : Came). Turns under new now s t)
    → IfSome o (λ (now : Came). Turns under new now s u)
some_turns_as o under new s t u e h = subst (λ (x : Turned). IfSome o (λ (now : Came). Turns under new now s x)) e h

pub some_lasts_as : (o : Option Came) (F : Trees) (t u : Turned) → t ≡ u → IfSome o (λ (now : Came). Lasts F t) → IfSome o (λ (now : Came). Lasts F u)
some_lasts_as o F t u e h = subst (λ (x : Turned). IfSome o (λ (now : Came). Lasts F x)) e h

-- from an earlier forest on
lasts_from : (F G : Trees) (t u : Turned) → t ≡ u → size F ≤ size G → Lasts G t → Lasts F u
lasts_from F G t u e le h = subst (Lasts F) e (let x = h.grows in record { grows = omega (arith, x, le); gives = h.gives; placed = h.placed })

pub running_lasts : (F : Trees) (t u : Turned) (G : Trees) → t ≡ u → G ≡ F → Lasts G t → Lasts F u
running_lasts F t u G e same h = lasts_from F G t u e (let n = ap size same in omega (arith, n)) h

pub some_lasts_from : (o : Option Came) (F G : Trees) (t u : Turned) → t ≡ u → size F ≤ size G → IfSome o (λ (now : Came). Lasts G t)
    → IfSome o (λ (now : Came). Lasts F u)
some_lasts_from None F G t u e le h = tt
some_lasts_from (Some now) F G t u e le h = lasts_from F G t u e le h
