-- Elements in a set and in a list.
use Rattle.std.specs.Prelude.{◌≡◌, ℕ, List}
use Rattle.std.specs.Ordering.{nat_cmp}
use Rattle.std.specs.BTreeSet.{BTreeSet, contains}
use Rattle.order_law.specs.Reads.{is_one_of}

abbrev pub AreInSet : List ℕ → BTreeSet ℕ → Type 0
AreInSet ns s = (n : ℕ) → contains nat_cmp s n ≡ is_one_of n ns
