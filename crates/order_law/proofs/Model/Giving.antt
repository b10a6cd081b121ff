-- Steps that keep the law, may throw, and give nodes: those of a page with its notes, and those of a session.
use Rattle.std.proofs.Common.{ℕ, Bool, true, false, List, [], ◌∷◌, ◌++◌, length, map, Option, Some, None}
use Rattle.std.specs.Prelude.{Result, Ok, Err, if◌then◌else◌}
use Rattle.std.specs.List.{AllByRecursion as Each}
use Rattle.ce_base.specs.declared.fault.Fault.{Fault}
use Rattle.ce_events.specs.declared.event.Event.{Event}
use Rattle.ce_algorithms.specs.declared.given.Given.{Given}
use Rattle.ce_algorithms.specs.declared.given.Given.TheVariants.{Node}
use Rattle.ce_algorithms.specs.Steps.{Step, Outcome, Goes, Throws, Spent, then_do, ◌>>=◌, ◌>>◌, give, throw, throw_if, throw_any, throw_where, refuse, catch}
use Rattle.ce_algorithms.specs.Steps.{catch_in, settle}
use Rattle.ce_algorithms.specs.Page.{Work}
use Rattle.ce_algorithms.specs.State.{State, View, view, look, event_of, with_outcome, work_of, on_page}
use Rattle.order_law.specs.Law.{Lawful}
use Rattle.order_law.proofs.Model.Sound.{IsRow}
use Rattle.order_law.proofs.Model.Invariant.{Hold, nodes_of, HoldsIn, After}
use Rattle.order_law.proofs.Model.Hands.{with_hands, IsHeld, all_rows, take_hands, drop_hands, take_in, drop_in}
use Rattle.order_law.proofs.Model.Ending.{spent_lawful}
use Rattle.order_law.proofs.Model.Steps.{HoldsAt, Any, AfterAt, KeepsAt, came_back, at_work, Keeps}

-- the nodes that are given

abbrev pub none : {A : Type 0} → A → List ℕ
none a = []

abbrev pub one : ℕ → List ℕ
one n = n ∷ []

abbrev pub given_nodes : Given → List ℕ
given_nodes (Node n) = n ∷ []
given_nodes given = []

-- on a page

abbrev pub AfterGivesAt : {A : Type 0} → (A → List ℕ) → List Hold → List Event → Outcome Work A → Type 0
AfterGivesAt nodes h l (Goes a w) = HoldsAt Any h l w × Each (IsRow (length w.page.elements)) (nodes a)
AfterGivesAt nodes h l (Throws f w) = HoldsAt Any h l w
AfterGivesAt nodes h l (Spent w) = HoldsAt Any h l w

pub record GivesAt {A : Type 0} (nodes : A → List ℕ) (h : List Hold) (l : List Event) (f : Step Work A) : Type 0 where
  pub at : (w : Work) → HoldsAt Any h l w → AfterGivesAt nodes h l (f w)

pub take_at : (ns : List ℕ) (h : List Hold) (l : List Event) (w : Work) → Each (IsRow (length w.page.elements)) ns → HoldsAt Any h l w →
    HoldsAt Any (with_hands ns h) l w
take_at ns h l w rows k = record { holds = take_hands ns h (l ++ map event_of w.page.notes) w.page rows k.holds; sound = k.sound; known = tt }

drop_at : (ns : List ℕ) (h : List Hold) (l : List Event) (w : Work) → HoldsAt Any (with_hands ns h) l w → HoldsAt Any h l w
drop_at ns h l w k = record { holds = drop_hands ns h (l ++ map event_of w.page.notes) w.page k.holds; sound = k.sound; known = tt }

pub let_go_at : {A : Type 0} (nodes : A → List ℕ) (ns : List ℕ) (h : List Hold) (l : List Event) (o : Outcome Work A) →
    AfterGivesAt nodes (with_hands ns h) l o → AfterGivesAt nodes h l o
let_go_at nodes ns h l (Goes a w) k = (drop_at ns h l w k.0, k.1)
let_go_at nodes ns h l (Throws f w) k = drop_at ns h l w k
let_go_at nodes ns h l (Spent w) k = drop_at ns h l w k

pub give_then_at : {A B : Type 0} (nodes : A → List ℕ) (others : B → List ℕ) (h : List Hold) (l : List Event) (o : Outcome Work A) (k : A → Step Work B) →
    AfterGivesAt nodes h l o
    → ((a : A) → GivesAt others (with_hands (nodes a) h) l (k a)) → AfterGivesAt others h l (then_do o k)
give_then_at nodes others h l (Goes a w) k o n = let_go_at others (nodes a) h l (k a w) ((n a).at w (take_at (nodes a) h l w o.1 o.0))
give_then_at nodes others h l (Throws f w) k o n = o
give_then_at nodes others h l (Spent w) k o n = o

pub give_bind_at : {A B : Type 0} {nodes : A → List ℕ} {others : B → List ℕ} {h : List Hold} {l : List Event} {f : Step Work A} {k : A → Step Work B} →
    GivesAt nodes h l f
    → ((a : A) → GivesAt others (with_hands (nodes a) h) l (k a)) → GivesAt others h l (f >>= k)
give_bind_at {nodes = nodes} {others = others} {h = h} {l = l} {f = f} {k = k} x n = record { at = λ w o. give_then_at nodes others h l (f w) k (x.at w o) n }

-- a primitive of which nothing is known but that it keeps the law, and throws nothing
pub given_at : {A : Type 0} (h : List Hold) (l : List Event) (o : Outcome Work A) → AfterAt Any h l o → AfterGivesAt none h l o
given_at h l (Goes a w) k = (k, tt)
given_at h l (Throws f w) k = absurd k
given_at h l (Spent w) k = k

pub keeps_at : {A : Type 0} {h : List Hold} {l : List Event} {f : Step Work A} → KeepsAt Any h l f → GivesAt none h l f
keeps_at {h = h} {l = l} {f = f} k = record { at = λ w o. given_at h l (f w) (k.at w o) }

pub give_seq_at : {A B : Type 0} {others : B → List ℕ} {h : List Hold} {l : List Event} {f : Step Work A} {g : Step Work B} → GivesAt none h l f →
    GivesAt others h l g → GivesAt others h l (f >> g)
give_seq_at {others = others} {h = h} {l = l} {f = f} {g = g} x n = record { at = λ w o. give_then_at none others h l (f w) (λ _. g) (x.at w o) (λ _. n) }

pub give_at : {A : Type 0} {nodes : A → List ℕ} {h : List Hold} {l : List Event} (a : A) → Each (λ n. IsHeld n h) (nodes a) → GivesAt nodes h l (give a)
give_at {nodes = nodes} {h = h} {l = l} a held = record { at = λ w o. (o, all_rows (nodes a) h (l ++ map event_of w.page.notes) w.page held o.holds) }

pub give_throw_if_at : {h : List Hold} {l : List Event} (t : Bool) (f : Fault) → GivesAt none h l (throw_if t f)
give_throw_if_at true f = record { at = λ w o. o }
give_throw_if_at false f = record { at = λ w o. (o, tt) }

pub give_throw_where_at : {h : List Hold} {l : List Event} (test : Work → Bool) (f : Fault) → GivesAt none h l (throw_where test f)
give_throw_where_at test f = record { at = λ w o. (give_throw_if_at (test w) f).at w o }

any_thrown : {h : List Hold} {l : List Event} (o : Option Fault) → GivesAt none h l (throw_any o)
any_thrown None = record { at = λ w o. (o, tt) }
any_thrown (Some f) = record { at = λ w o. o }

pub give_refuse_at : {h : List Hold} {l : List Event} (tests : Work → Option Fault) → GivesAt none h l (refuse tests)
give_refuse_at tests = record { at = λ w o. (any_thrown (tests w)).at w o }

-- in a session

abbrev pub AfterGives : {A : Type 0} → (A → List ℕ) → List Hold → Outcome State A → Type 0
AfterGives nodes h (Goes a s) = HoldsIn h s × Each (IsRow (length s.page.elements)) (nodes a)
AfterGives nodes h (Throws f s) = HoldsIn h s
AfterGives nodes h (Spent s) = Lawful s.log

pub record Gives {A : Type 0} (nodes : A → List ℕ) (h : List Hold) (f : Step State A) : Type 0 where
  pub at : (s : State) → HoldsIn h s → AfterGives nodes h (f s)

pub let_go : {A : Type 0} (nodes : A → List ℕ) (ns : List ℕ) (h : List Hold) (o : Outcome State A) → AfterGives nodes (with_hands ns h) o → AfterGives nodes h o
let_go nodes ns h (Goes a s) k = (drop_in ns h s k.0, k.1)
let_go nodes ns h (Throws f s) k = drop_in ns h s k
let_go nodes ns h (Spent s) k = k

gives_then : {A B : Type 0} (nodes : A → List ℕ) (others : B → List ℕ) (h : List Hold) (o : Outcome State A) (k : A → Step State B) → AfterGives nodes h o
    → ((a : A) → Gives others (with_hands (nodes a) h) (k a)) → AfterGives others h (then_do o k)
gives_then nodes others h (Goes a s) k o n = let_go others (nodes a) h (k a s) ((n a).at s (take_in (nodes a) h s o.1 o.0))
gives_then nodes others h (Throws f s) k o n = o
gives_then nodes others h (Spent s) k o n = o

pub gives_bind : {A B : Type 0} {nodes : A → List ℕ} {others : B → List ℕ} {h : List Hold} {f : Step State A} {k : A → Step State B} → Gives nodes h f
    → ((a : A) → Gives others (with_hands (nodes a) h) (k a)) → Gives others h (f >>= k)
gives_bind {nodes = nodes} {others = others} {h = h} {f = f} {k = k} x n = record { at = λ s o. gives_then nodes others h (f s) k (x.at s o) n }

-- steps of which nothing is known but that they keep the law
of_kept : {A : Type 0} (h : List Hold) (o : Outcome State A) → After h o → AfterGives none h o
of_kept h (Goes a s) k = (k, tt)
of_kept h (Throws f s) k = k
of_kept h (Spent s) k = k

pub keeps_gives : {A : Type 0} {h : List Hold} {f : Step State A} → Keeps h f → Gives none h f
keeps_gives {h = h} {f = f} k = record { at = λ s o. of_kept h (f s) (k.at s o) }

kept_of : {A : Type 0} (nodes : A → List ℕ) (h : List Hold) (o : Outcome State A) → AfterGives nodes h o → After h o
kept_of nodes h (Goes a s) k = k.0
kept_of nodes h (Throws f s) k = k
kept_of nodes h (Spent s) k = k

pub gives_keeps : {A : Type 0} {nodes : A → List ℕ} {h : List Hold} {f : Step State A} → Gives nodes h f → Keeps h f
gives_keeps {nodes = nodes} {h = h} {f = f} k = record { at = λ s o. kept_of nodes h (f s) (k.at s o) }

pub gives_seq : {A B : Type 0} {others : B → List ℕ} {h : List Hold} {f : Step State A} {g : Step State B} → Keeps h f → Gives others h g →
    Gives others h (f >> g)
gives_seq {others = others} {h = h} {f = f} {g = g} x n = record { at = λ s o. gives_then none others h (f s) (λ _. g) (of_kept h (f s) (x.at s o)) (λ _. n) }

-- a step that reads, and then others that know nothing of what was read
pub gives_after : {A B : Type 0} {others : B → List ℕ} {h : List Hold} {f : Step State A} {k : A → Step State B} → Keeps h f →
    ((a : A) → Gives others h (k a)) → Gives others h (f >>= k)
gives_after {others = others} {h = h} {f = f} {k = k} x n = record { at = λ s o. gives_then none others h (f s) k (of_kept h (f s) (x.at s o)) n }

pub gives_give : {A : Type 0} {nodes : A → List ℕ} {h : List Hold} (a : A) → Each (λ n. IsHeld n h) (nodes a) → Gives nodes h (give a)
gives_give {nodes = nodes} {h = h} a held = record { at = λ s o. (o, all_rows (nodes a) h s.log s.page held o.holds) }

pub gives_throw : {A : Type 0} {nodes : A → List ℕ} {h : List Hold} (f : Fault) → Gives nodes h (throw f)
gives_throw f = record { at = λ s o. o }

pub gives_if : {A : Type 0} {nodes : A → List ℕ} {h : List Hold} {f g : Step State A} (t : Bool) → Gives nodes h f → Gives nodes h g →
    Gives nodes h (if t then f else g)
gives_if true x y = x
gives_if false x y = y

catch_gives : {A : Type 0} (nodes : A → List ℕ) (h : List Hold) (o : Outcome State A) (k : Fault → Step State A) → AfterGives nodes h o →
    ((f : Fault) → Gives nodes h (k f)) → AfterGives nodes h (catch_in o k)
catch_gives nodes h (Goes a s) k o n = o
catch_gives nodes h (Throws f s) k o n = (n f).at s o
catch_gives nodes h (Spent s) k o n = o

pub gives_catch : {A : Type 0} {nodes : A → List ℕ} {h : List Hold} {f : Step State A} {k : Fault → Step State A} → Gives nodes h f →
    ((x : Fault) → Gives nodes h (k x)) → Gives nodes h (catch f k)
gives_catch {nodes = nodes} {h = h} {f = f} {k = k} x n = record { at = λ s o. catch_gives nodes h (f s) k (x.at s o) n }

-- a primitive on the page
page_back : {A : Type 0} (nodes : A → List ℕ) (h : List Hold) (s : State) (o : Outcome Work A) →
    AfterGivesAt nodes (with_hands (nodes_of s.variables) h) s.log o → AfterGives nodes h (with_outcome o s)
page_back nodes h s (Goes a w) k = (came_back h s w k.0, k.1)
page_back nodes h s (Throws f w) k = came_back h s w k
page_back nodes h s (Spent w) k = spent_lawful (with_hands (nodes_of s.variables) h) (s.log ++ map event_of w.page.notes) w.page k.holds

pub gives_page : {A : Type 0} {nodes : A → List ℕ} {h : List Hold} {f : Step Work A} →
    ((vs : List ℕ) (l : List Event) → GivesAt nodes (with_hands vs h) l f) → Gives nodes h (on_page f)
gives_page {nodes = nodes} {h = h} {f = f} n =
    record { at = λ s k. page_back nodes h s (f (work_of s)) ((n (nodes_of s.variables) s.log).at (work_of s) (at_work h s k)) }

-- what is looked up
abbrev pub FoundRows : {A : Type 0} → (A → List ℕ) → ℕ → Result A Fault → Type 0
FoundRows nodes rows (Ok a) = Each (IsRow rows) (nodes a)
FoundRows nodes rows (Err f) = Unit {0}

settles : {A : Type 0} (nodes : A → List ℕ) (h : List Hold) (s : State) (r : Result A Fault) → HoldsIn h s →
    FoundRows nodes (length s.page.elements) r → AfterGives nodes h (settle r s)
settles nodes h s (Ok a) k rows = (k, rows)
settles nodes h s (Err f) k rows = k

pub gives_look : {A : Type 0} {nodes : A → List ℕ} {h : List Hold} (this : Option ℕ) (find : View → Result A Fault)
    → ((s : State) → HoldsIn h s → FoundRows nodes (length s.page.elements) (find (view this s))) → Gives nodes h (look this find)
gives_look {nodes = nodes} {h = h} this find rows = record { at = λ s k. settles nodes h s (find (view this s)) k (rows s k) }
