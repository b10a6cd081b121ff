-- How the code says where a body stops.
use Rattle.std.specs.Prelude.{ℕ, List, Option, option_map}
use Rattle.rule_lines.specs.Acts.{Act, act_of}
use Rattle.ce_algorithms.specs.State.{Memory}
use Rattle.class_bodies.specs.declared.next.Next.{Next}
use Rattle.class_bodies.specs.declared.next.Next.TheVariants.{Do, Return, Throw, FuelSpent}
use Rattle.class_bodies.specs.Resume.{BodyStop, Doing, Returning, Throwing, OutOfFuel, Acted, Resumed}

abbrev pub stop_of : Next → BodyStop
stop_of (Do action guarded) = Doing (act_of action) guarded
stop_of (Return value guarded) = Returning value guarded
stop_of (Throw fault guarded) = Throwing fault guarded
stop_of FuelSpent = OutOfFuel

abbrev pub acted_to : Option Next → Memory → ℕ → Acted
acted_to next memory fuel = record { stop = option_map stop_of next; memory = memory; fuel = fuel }

abbrev pub resumed_to : Next → Memory → ℕ → List Act → Resumed
resumed_to next memory fuel left = record { stop = stop_of next; memory = memory; fuel = fuel; left = left }
