-- The numbers that a call from another program gives.
use Rattle.std.specs.Prelude.{ℕ}
use Rattle.page_runner.specs.Table.{number_of}
use Rattle.page_runner.specs.Status.TheVariants.{Usage, WriteFault, NoMemory}

-- the words would be refused
abbrev pub usage : ℕ
usage = number_of Usage

-- the transcript is longer than the buffer
abbrev pub more_room : ℕ
more_room = number_of WriteFault

abbrev pub no_memory : ℕ
no_memory = number_of NoMemory
