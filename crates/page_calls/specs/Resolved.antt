-- How a call that may refuse says what it comes to.
use Rattle.std.specs.Prelude.{◌≡◌, Result, Ok, Err}
use Rattle.ce_base.specs.declared.fault.Fault.{Fault}
use Rattle.ce_base.specs.declared.fault.Refused.{Refused}
use Rattle.ce_base.specs.declared.fault.Refused.TheVariants.{Fault as IsFault, NoMemory}

-- it is what was found, or this fault, unless memory was refused
abbrev pub Resolves : {A : Type 0} → Result A Refused → Result A Fault → Type 0
Resolves (Ok a) found = found ≡ Ok a
Resolves (Err (IsFault f)) found = found ≡ Err f
Resolves (Err NoMemory) found = Unit {0}
