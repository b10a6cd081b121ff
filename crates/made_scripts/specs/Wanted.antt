-- How far the line that is being written begins like one that tells a call.
use Rattle.std.specs.Prelude.{ℕ, Bool, false, ◌==◌, if◌then◌else◌, List, [], ◌∷◌, codes}

-- what the line has still to go on with after this byte, where it had to go on with these before; nothing where it is decided
abbrev pub wanted_next : List ℕ → ℕ → List ℕ
wanted_next [] byte = if byte == 10 then codes "call" else []
wanted_next (first ∷ rest) byte = if byte == 10 then codes "call" else (if first == byte then rest else [])

-- the byte makes the line one that tells a call
abbrev pub ends_beginning : List ℕ → ℕ → Bool
ends_beginning [] byte = false
ends_beginning (first ∷ []) byte = if byte == 10 then false else first == byte
ends_beginning (first ∷ second ∷ rest) byte = false

abbrev pub wanted_from : List ℕ → List ℕ → List ℕ
wanted_from wanted [] = wanted
wanted_from wanted (byte ∷ bytes) = wanted_from (wanted_next wanted byte) bytes

-- what the line behind these bytes has to go on with
unfoldable pub wanted_after : List ℕ → List ℕ
wanted_after bytes = wanted_from (codes "call") bytes
