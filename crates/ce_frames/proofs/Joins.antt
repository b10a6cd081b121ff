-- How outcomes join.
use Rattle.std.proofs.Common.{◌≡◌, ℕ, Bool, true, false, Option, Some, None, refl}
use Rattle.ce_algorithms.specs.declared.given.Given.TheVariants.{Nothing}
use Rattle.ce_algorithms.specs.Steps.{Step, Outcome, Goes, Throws, Spent, then_do, give, catch_in}
use Rattle.ce_algorithms.specs.State.{State}
use Rattle.ce_algorithms.specs.Body.{Flow, caught}
use Rattle.ce_frames.specs.Handing.{nothing, a_node, a_result, dropped, numbered, resulted}
use Rattle.ce_frames.specs.After.{guard}

-- steps one after another, in either grouping
pub then_assoc : {S A B C : Type 0} (o : Outcome S A) (k : A → Step S B) (l : B → Step S C) → then_do (then_do o k) l ≡ then_do o (λ a s. then_do (k a s) l)
then_assoc (Goes a s) k l = refl
then_assoc (Throws f s) k l = refl
then_assoc (Spent s) k l = refl

-- the next steps are the same
pub then_same : {S A B : Type 0} (o : Outcome S A) (k l : A → Step S B) → ((a : A) (s : S) → k a s ≡ l a s) → then_do o k ≡ then_do o l
then_same (Goes a s) k l h = h a s
then_same (Throws f s) k l h = refl
then_same (Spent s) k l h = refl

-- what gives nothing, with steps behind it
pub nothing_then : {B : Type 0} (o : Outcome State (Unit {0})) (next : Step State B) → then_do (nothing o) (λ _. next) ≡ then_do o (λ _. next)
nothing_then o next = then_assoc o (λ _. give Nothing) (λ _. next)

-- what was written is read back

pub dropped_nothing : (o : Outcome State (Unit {0})) → dropped (nothing o) ≡ o
dropped_nothing (Goes a s) = refl
dropped_nothing (Throws f s) = refl
dropped_nothing (Spent s) = refl

pub numbered_node : (o : Outcome State ℕ) → numbered (a_node o) ≡ o
numbered_node (Goes a s) = refl
numbered_node (Throws f s) = refl
numbered_node (Spent s) = refl

pub resulted_result : (o : Outcome State (Option ℕ)) → resulted (a_result o) ≡ o
resulted_result (Goes None s) = refl
resulted_result (Goes (Some n) s) = refl
resulted_result (Throws f s) = refl
resulted_result (Spent s) = refl

-- a `try` in a `try`: the inner one has caught the fault
pub guard_twice : (guarded : Bool) (this : Option ℕ) (o : Outcome State Flow) → guard guarded this (catch_in o (caught this)) ≡ guard true this o
guard_twice true this (Goes a s) = refl
guard_twice true this (Throws f s) = refl
guard_twice true this (Spent s) = refl
guard_twice false this o = refl
