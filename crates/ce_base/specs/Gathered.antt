-- What a sink over a sink holds.
use Rattle.std.specs.Prelude.{ℕ, List, ◌++◌, length, Some, None}
use Rattle.std.specs.declared.option.Option.{Option}

-- what the sink below holds, and then the bytes that are pending
abbrev pub behind : Option (List ℕ) → List ℕ → Option (List ℕ)
behind (Some held) pending = Some (held ++ pending)
behind None pending = None

-- how many bytes a sink holds, 0 where it doesn't tell
abbrev pub count_of : Option (List ℕ) → ℕ
count_of (Some held) = length held
count_of None = 0
