-- The length of a text that is read piece by piece, without the text.
use Rattle.std.specs.Prelude.{◌≡◌, ℕ, ◌-◌, ◌^◌, min, Bool, false, List}
use Rattle.form_controls.specs.Texts.{units_of, normalized, collapsed}
use Rattle.control_state.specs.Reading.{behind_after, begun_after, apart_after}

-- how many code units there are so far, and whether a carriage return was read last
pub record NormalizedCount : Type 0 where
  pub units : ℕ
  pub behind : Bool

-- how many code units there are so far, whether anything but white space was read, and whether white space was read last
pub record CollapsedCount : Type 0 where
  pub units : ℕ
  pub begun : Bool
  pub apart : Bool

-- the pieces that were read make up this text, whose newlines are normalized
pub record CountsNormalized (c : NormalizedCount) (text : List ℕ) : Type 0 where
  pub units : c.units ≡ min (units_of (normalized text)) (2 ^ 64 - 1)
  pub behind : c.behind ≡ behind_after false text

-- the pieces that were read make up this text, whose white space is collapsed
pub record CountsCollapsed (c : CollapsedCount) (text : List ℕ) : Type 0 where
  pub units : c.units ≡ min (units_of (collapsed text)) (2 ^ 64 - 1)
  pub begun : c.begun ≡ begun_after false text
  pub apart : c.apart ≡ apart_after false text
