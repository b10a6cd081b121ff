-- What a call that changes the internals of an element comes to: what it answers, why it may be refused, the table before
-- and after, and what the table is to be where nothing is refused.
use Rattle.std.specs.Prelude.{◌≡◌, List, Option, Some, None, Result, Ok, Err}
use Rattle.ce_base.specs.declared.fault.Fault.{Fault}
use Rattle.ce_base.specs.declared.fault.Refused.{Refused}
use Rattle.ce_base.specs.declared.fault.Refused.TheVariants.{Fault as HasFault, NoMemory}
use Rattle.form_controls.specs.declared.internals.Internals.{Internals}

-- it was changed, or refused with this fault and left as it was
abbrev pub Changes : Result (Unit {0}) Fault → Option Fault → List (Option Internals) → List (Option Internals) → List (Option Internals) → Type 0
Changes (Ok done) refusal old new to_be = (refusal ≡ None) × (new ≡ to_be)
Changes (Err f) refusal old new to_be = (refusal ≡ Some f) × (new ≡ old)

-- the same, or memory was refused, which comes only where no fault is thrown
abbrev pub Writes : Result (Unit {0}) Refused → Option Fault → List (Option Internals) → List (Option Internals) → List (Option Internals) → Type 0
Writes (Ok done) refusal old new to_be = (refusal ≡ None) × (new ≡ to_be)
Writes (Err (HasFault f)) refusal old new to_be = (refusal ≡ Some f) × (new ≡ old)
Writes (Err NoMemory) refusal old new to_be = refusal ≡ None
