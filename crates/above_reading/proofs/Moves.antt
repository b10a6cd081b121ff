-- What an insertion and a removal leave.
use Rattle.std.proofs.Common.{◌≡◌, ℕ, Option, Some, None}
use Rattle.node_trees.specs.Insertion.{may_insert}
use Rattle.node_trees.specs.Nodes.{IsNode, IsNodeOrNone, IsTidy}
use Rattle.node_trees.specs.Spots.{parent_at}
use Rattle.node_trees.specs.Trees.{cut, graft}
use Rattle.form_controls.specs.Owners.{Forms}
use Rattle.above_reading.specs.Locality.{IsAsideOfMove, IsUnchanged}
use Rattle.above_reading.proofs.SameReads.{unchanged}
use Rattle.above_reading.proofs.Shift.{cut-shift, graft-shift}
use Rattle.above_reading.proofs.ShiftReads.{shift-reads}

pub unchanged-graft : (f : Forms) (p n : ℕ) (b : Option ℕ) → IsTidy f.forest → IsNode f.forest p → IsNode f.forest n → IsNodeOrNone f.forest b
    → may_insert f.forest p n b ≡ None → parent_at f.forest n ≡ None
    → (m : ℕ) → IsNode f.forest m → IsAsideOfMove (graft f.forest p n b) n p m → IsUnchanged f (record f { forest = graft f.forest p n b }) m
unchanged-graft f p n b tidy is_p is_n is_b may free m is_m aside =
    unchanged f (graft f.forest p n b) m
    (shift-reads f.forest (graft f.forest p n b) n p m is_n is_m (graft-shift f.forest p n b tidy is_p is_n may free) aside)

pub unchanged-cut : (f : Forms) (n p : ℕ) → IsTidy f.forest → IsNode f.forest n → parent_at f.forest n ≡ Some p
    → (m : ℕ) → IsNode f.forest m → IsAsideOfMove (cut f.forest n) n p m → IsUnchanged f (record f { forest = cut f.forest n }) m
unchanged-cut f n p tidy is_n up m is_m aside =
    unchanged f (cut f.forest n) m (shift-reads f.forest (cut f.forest n) n p m is_n is_m (cut-shift f.forest n p tidy is_n up) aside)
