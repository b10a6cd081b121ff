-- The parts of a page.
use Rattle.std.specs.Prelude.{ℕ, ◌-◌, nat_lt, if◌then◌else◌, Option, Some, None}
use Rattle.ce_base.specs.declared.fault.Refused.{Refused}
use Rattle.ce_base.specs.declared.fault.Refused.TheVariants.{Fault as HasFault, NoMemory as LacksMemory}
use Rattle.ce_page.specs.declared.stop.PageStop.{PageStop}
use Rattle.ce_page.specs.declared.stop.PageStop.TheVariants.{Refused as IsRefused, NoMemory}

-- what a part's refusal is for the page
abbrev pub stop_of : Refused → PageStop
stop_of (HasFault f) = IsRefused f
stop_of LacksMemory = NoMemory

-- the place of a node's row among so many; a node past them has none
abbrev pub row_place : ℕ → ℕ → Option ℕ
row_place rows n = if nat_lt (n - 1) rows then Some (n - 1) else None
