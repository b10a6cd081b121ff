-- How what only refuses says what it takes.
use Rattle.std.specs.Prelude.{◌≡◌, ◌+◌, ℕ, Result, Ok, Err}
use Rattle.ce_base.specs.declared.fault.Fault.{Fault}
use Rattle.ce_base.specs.declared.fault.Refused.{Refused}
use Rattle.ce_base.specs.declared.fault.Refused.TheVariants.{Fault as IsFault, NoMemory}
use Rattle.ce_algorithms.specs.Steps.{Outcome, Goes, Throws}

-- the step gives the same answer or throws the same fault, and leaves the state as it is
abbrev pub Names : {S A : Type 0} → Result A Fault → S → Outcome S A → Type 0
Names (Ok a) s o = Goes a s ≡ o
Names (Err f) s o = Throws f s ≡ o

-- the step was taken, or throws the same fault, unless memory was refused
abbrev pub Takes : {S : Type 0} → Result (Unit {0}) Refused → S → Outcome S (Unit {0}) → Type 0
Takes (Ok x) s o = Goes tt s ≡ o
Takes (Err (IsFault f)) s o = Throws f s ≡ o
Takes (Err NoMemory) s o = Unit {0}

-- this holds unless memory was refused
abbrev pub Rests : Result (Unit {0}) Refused → Type 0 → Type 0
Rests (Ok x) fact = fact
Rests (Err (IsFault f)) fact = fact
Rests (Err NoMemory) fact = Unit {0}

-- there is one more, or as many as before where it was refused
abbrev pub Counts : Result (Unit {0}) Refused → ℕ → ℕ → Type 0
Counts (Ok x) old new = new ≡ old + 1
Counts (Err (IsFault f)) old new = new ≡ old
Counts (Err NoMemory) old new = Unit {0}
