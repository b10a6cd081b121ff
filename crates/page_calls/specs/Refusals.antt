-- What a call that may only be refused answers.
use Rattle.std.specs.Prelude.{Option, Some, None, Result, Ok, Err}
use Rattle.ce_base.specs.declared.fault.Fault.{Fault}

-- nothing, unless it is refused with a fault
abbrev pub unless : Option Fault → Result (Unit {0}) Fault
unless None = Ok tt
unless (Some f) = Err f
