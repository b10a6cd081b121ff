-- The turn of a body goes on where the body has stopped.
use Rattle.std.proofs.Common.{◌≡◌, ℕ, zero, suc, Bool, true, false, List, [], ◌∷◌, map, Option, Some, None, refl, ap, sym, ◌∙◌}
use Rattle.std.specs.Prelude.{slice_get, slice_set, if◌then◌else◌}
use Rattle.std.proofs.lemmas.List.{set-set}
use Rattle.ce_base.specs.declared.fault.Fault.TheVariants.{UserThrow}
use Rattle.rule_tokens.specs.declared.operand.Val.{Val}
use Rattle.rule_lines.specs.Acts.{Act, Both, Log, Super, Return, Throw, Bump, Keep, Try, If}
use Rattle.ce_events.specs.declared.event.Event.TheVariants.{Logged}
use Rattle.ce_algorithms.specs.Steps.{Outcome, Goes, Throws, then_do, give}
use Rattle.ce_algorithms.specs.State.{State, Class, Memory, class_of, or_new_class, change_memory, logged, spend}
use Rattle.ce_algorithms.specs.Values.{Args, text_of, fixed, fixed_value, fixed_text}
use Rattle.ce_algorithms.specs.Body.{Next, bumped, holds}
use Rattle.ce_frames.specs.Frames.{InBody}
use Rattle.ce_frames.specs.After.{guard}
use Rattle.ce_frames.specs.Turned.{Turn, Turned, ◌>>◌, turn_after, below}
use Rattle.ce_frames.specs.OperateTurns.{operate_turn}
use Rattle.ce_frames.specs.BodyTurns.{flow_turn, act_turn, body_turn}
use Rattle.class_bodies.specs.Resume.{BodyStop, Acted, acted, goes_on, spending, stop_or, resumed}
use Rattle.class_bodies.specs.Turns.{remembering, stop_turn, resumed_turn}
use Rattle.ce_base.proofs.Places.{set_found}

-- a member that is put where it is changes nothing
put_back : {X : Type 0} (xs : List X) (k : ℕ) (x : X) → slice_get xs k ≡ Some x → slice_set xs k x ≡ xs
put_back [] k x at = refl
put_back (z ∷ xs) zero x at = let same : z ≡ x = cc in ap (λ y. y ∷ xs) (sym same)
put_back (z ∷ xs) (suc k) x at = ap (λ ys. z ∷ ys) (put_back xs k x at)

-- the texts of values that were fixed
texts_fixed : (memory : Memory) (args : Args) (vals : List Val) → map (text_of memory args) vals ≡ map fixed_text (map (fixed_value memory args) vals)
texts_fixed memory args [] = refl
texts_fixed memory args (v ∷ vals) = ap (λ ts. text_of memory args v ∷ ts) (texts_fixed memory args vals)

-- what goes on needs no guard
guard_goes : (this : Option ℕ) (guarded : Bool) (rest : Option ℕ → Turn) (s : State)
    → turn_after (guard guarded this (Goes (Next this) s)) (flow_turn rest) ≡ rest this s
guard_goes this true rest s = refl
guard_goes this false rest s = refl

module _ (class : ℕ) (args : Args) (s : State) (k : Class) (at : slice_get s.classes class ≡ Some k) where
  class_there : (memory : Memory) (fuel : ℕ) → class_of (remembering class memory fuel s) class ≡ record (class_of s class) { memory = memory }
  class_there memory fuel = ap or_new_class (set_found s.classes class k (record (class_of s class) { memory = memory }) at)

  memory_there : (memory : Memory) (fuel : ℕ) → (class_of (remembering class memory fuel s) class).memory ≡ memory
  memory_there memory fuel = ap (λ (c : Class). c.memory) (class_there memory fuel)

  changes : (f : Memory → Memory) (memory : Memory) (fuel : ℕ)
      → change_memory class f (remembering class memory fuel s) ≡ Goes tt (remembering class (f memory) fuel s)
  changes f memory fuel =
      ap (λ (c : Class). Goes tt (record (remembering class memory fuel s)
      { classes = slice_set (remembering class memory fuel s).classes class (record c { memory = f c.memory }) })) (class_there memory fuel)
      ∙ ap (λ (cs : List Class). Goes tt (record (remembering class memory fuel s) { classes = cs }))
      (set-set s.classes class (record (class_of s class) { memory = memory }) (record (class_of s class) { memory = f memory }))

  -- the turn after an action
  abbrev next_turn : Option ℕ → List Act → Option BodyStop → Turn
  next_turn this left None = body_turn class args this left
  next_turn this left (Some stop) = stop_turn class args this left stop

  abbrev acted_turn : Option ℕ → List Act → Acted → Turned
  acted_turn this left done = next_turn this left done.stop (remembering class done.memory done.fuel s)

  -- behind a unit of fuel
  spent_stops : (this : Option ℕ) (left : List Act) (memory : Memory) (turn : Turn) (next : ℕ → Acted)
      → ((n : ℕ) → turn (remembering class memory n s) ≡ acted_turn this left (next n)) → (fuel : ℕ)
      → turn_after (spend (remembering class memory fuel s)) (λ _. turn) ≡ acted_turn this left (spending memory fuel next)
  spent_stops this left memory turn next same zero = refl
  spent_stops this left memory turn next same (suc n) = same n

  -- the turn of an `if`
  abbrev if_turn : Bool → Option ℕ → List Act → Bool → Act → Turn
  if_turn b this left guarded a =
      if b then spend >> act_turn class args this guarded left (λ next. body_turn class args next left) a else body_turn class args this left

  act_stops : (this : Option ℕ) (left : List Act) (guarded : Bool) (a : Act) (memory : Memory) (fuel : ℕ)
      → act_turn class args this guarded left (λ next. body_turn class args next left) a (remembering class memory fuel s)
      ≡ acted_turn this left (acted args guarded a memory fuel)
  unfolding act_turn
  act_stops this left guarded (Both op) memory fuel =
      ap (λ (m : Memory). below (InBody class args this guarded left) (operate_turn this (fixed m args op)) (remembering class memory fuel s))
      (memory_there memory fuel)
  act_stops this left guarded (Log vals) memory fuel =
      guard_goes this guarded (λ next. body_turn class args next left)
      (logged (Logged (map (text_of (class_of (remembering class memory fuel s) class).memory args) vals)) (remembering class memory fuel s))
      ∙ ap (λ (ts : List (List ℕ)). body_turn class args this left (logged (Logged ts) (remembering class memory fuel s)))
      (ap (λ (m : Memory). map (text_of m args) vals) (memory_there memory fuel) ∙ texts_fixed memory args vals)
  act_stops this left guarded Super memory fuel = refl
  act_stops this left guarded (Return operand) memory fuel = refl
  act_stops this left guarded (Throw val) memory fuel =
      ap (λ (m : Memory). turn_after (guard guarded this (Throws (UserThrow (text_of m args val)) (remembering class memory fuel s)))
      (flow_turn (λ next. body_turn class args next left))) (memory_there memory fuel)
  act_stops this left guarded Bump memory fuel =
      ap (λ (o : Outcome State (Unit {0})). turn_after (guard guarded this (then_do o (λ _. give (Next this))))
      (flow_turn (λ next. body_turn class args next left)))
      (changes (λ (m : Memory). record m { count = bumped m.count }) memory fuel)
      ∙ guard_goes this guarded (λ next. body_turn class args next left) (remembering class (record memory { count = bumped memory.count }) fuel s)
  act_stops this left guarded (Keep val) memory fuel =
      ap (λ (o : Outcome State (Unit {0})). turn_after (guard guarded this (then_do o (λ _. give (Next this))))
      (flow_turn (λ next. body_turn class args next left)))
      (changes (λ (m : Memory). record m { kept = text_of m args val }) memory fuel)
      ∙ guard_goes this guarded (λ next. body_turn class args next left) (remembering class (record memory { kept = text_of memory args val }) fuel s)
  act_stops this left guarded (Try a) memory fuel =
      spent_stops this left memory (act_turn class args this true left (λ next. body_turn class args next left) a) (acted args true a memory)
      (λ n. act_stops this left true a memory n) fuel
  act_stops this left guarded (If equal l r a) memory fuel =
      ap (λ (m : Memory). if_turn (holds equal (text_of m args l) (text_of m args r)) this left guarded a (remembering class memory fuel s))
      (memory_there memory fuel)
      ∙ go (holds equal (text_of memory args l) (text_of memory args r))
      (spent_stops this left memory (act_turn class args this guarded left (λ next. body_turn class args next left) a) (acted args guarded a memory)
      (λ n. act_stops this left guarded a memory n) fuel)
    where
      go : (b : Bool) → if_turn true this left guarded a (remembering class memory fuel s)
          ≡ acted_turn this left (spending memory fuel (acted args guarded a memory))
          → if_turn b this left guarded a (remembering class memory fuel s)
          ≡ acted_turn this left (if b then spending memory fuel (acted args guarded a memory) else goes_on memory fuel)
      go true same = same
      go false same = refl

  body_stops : (this : Option ℕ) (actions : List Act) (memory : Memory) (fuel : ℕ)
      → body_turn class args this actions (remembering class memory fuel s) ≡ resumed_turn class args this (resumed args actions memory fuel) s
  unfolding body_turn
  body_stops this [] memory fuel = refl
  body_stops this (a ∷ left) memory zero = refl
  body_stops this (a ∷ left) memory (suc n) =
      act_stops this left false a memory n
      ∙ go (body_stops this left) (acted args false a memory n).stop (acted args false a memory n).memory (acted args false a memory n).fuel
    where
      go : ((m : Memory) (f : ℕ) → body_turn class args this left (remembering class m f s) ≡ resumed_turn class args this (resumed args left m f) s)
          → (o : Option BodyStop) (m : Memory) (f : ℕ)
          → next_turn this left o (remembering class m f s) ≡ resumed_turn class args this (stop_or o m f left (resumed args left)) s
      go on None m f = on m f
      go on (Some stop) m f = refl

  -- what the class remembers, and the fuel, as they are
  remembered : remembering class k.memory s.fuel s ≡ s
  remembered =
      ap (λ (cs : List Class). record s { classes = cs })
      (ap (λ (o : Option Class). slice_set s.classes class (record (or_new_class o) { memory = k.memory })) at ∙ put_back s.classes class k at)

  pub body_resumed : (this : Option ℕ) (actions : List Act)
      → body_turn class args this actions s ≡ resumed_turn class args this (resumed args actions k.memory s.fuel) s
  body_resumed this actions = ap (body_turn class args this actions) (sym remembered) ∙ body_stops this actions k.memory s.fuel

pub body_resumes : (class : ℕ) (args : Args) (this : Option ℕ) (actions : List Act) (s : State) (k : Class) → slice_get s.classes class ≡ Some k
    → body_turn class args this actions s ≡ resumed_turn class args this (resumed args actions k.memory s.fuel) s
body_resumes class args this actions s k at = body_resumed class args s k at this actions
