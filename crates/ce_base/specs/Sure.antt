-- A source in memory that never fails.
use Rattle.std.specs.Prelude.{ℕ, Bool, List, length, min, nat_eq, if◌then◌else◌}
use Rattle.ce_base.specs.declared.outside.Got.{Got}
use Rattle.ce_base.specs.declared.outside.Got.TheVariants.{Bytes, End}

-- the bytes that are left, how many it gives a call at most, and whether the last read gave the end
pub record Supply : Type 0 where
  pub left : List ℕ
  pub cut : ℕ
  pub ended : Bool

-- what a read into a buffer with so much room gives: the end where nothing is left, else as many bytes as there may be
abbrev pub sure_got : Supply → ℕ → Got
sure_got s room = if nat_eq (length s.left) 0 then End else Bytes (min (min (length s.left) room) s.cut)
