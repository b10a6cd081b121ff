-- What was returned is what was read, or that nothing was; want of memory says nothing.
use Rattle.std.specs.Prelude.{◌≡◌, Option, Some, None, Result, Ok, Err}
use Rattle.event_reader.specs.declared.refused.EventRefused.{EventRefused}
use Rattle.event_reader.specs.declared.refused.EventRefused.TheVariants as refused

abbrev pub Reads : {X : Type 0} → Result X EventRefused → Option X → Type 0
Reads (Ok x) read = read ≡ Some x
Reads (Err refused.NotAnEvent) read = read ≡ None
Reads (Err refused.NoMemory) read = Unit {0}
