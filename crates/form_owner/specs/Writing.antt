-- What is written into the rows.
use Rattle.std.specs.Prelude.{◌≡◌, ◌≢◌, ◌<◌, ◌+◌, ◌-◌, ◌==◌, ◌||◌, if◌then◌else◌, ℕ, Bool, true, false}
use Rattle.std.specs.Prelude.{List, [], ◌∷◌, filter, Option, Some, None, unwrap_or}
use Rattle.std.specs.List.{list_any}
use Rattle.node_trees.specs.Trees.{Trees, is_number}
use Rattle.node_trees.specs.Nodes.{IsNode, size}
use Rattle.node_trees.specs.Orders.{tree_order_of}
use Rattle.node_trees.specs.Paths.{is_among, root_at}
use Rattle.form_controls.specs.declared.change.Change.{Change}
use Rattle.owner_rows.specs.OwnerRow.{OwnerRow, blank_seen, row_in, row_of}
use Rattle.owner_rows.specs.Attributes.{seen_at}
use Rattle.form_owner.specs.declared.touch.Touch.{Touch}
use Rattle.form_owner.specs.declared.touch.Touch.TheVariants.{Inserted, Removed, Attr, Associated}
use Rattle.form_owner.specs.Attributes.{is_naming, is_text}
use Rattle.owner_reading.specs.Owners.{owner_with}
use Rattle.above_reading.specs.Disabled.{disabled_with}
use Rattle.form_owner.specs.Reading.{is_owned_in, owned_in}

-- one row was written
pub record Written (old new : List OwnerRow) (place : ℕ) (row : OwnerRow) : Type 0 where
  pub here : row_in new place ≡ row
  pub others : (i : ℕ) → i ≢ place → row_in new i ≡ row_in old i

-- the form-associated custom elements

-- the element that a touch marks has its row
abbrev pub IsPlaced : Touch → ℕ → Type 0
IsPlaced (Inserted n) count = Unit {0}
IsPlaced (Removed n parent) count = Unit {0}
IsPlaced (Attr n) count = Unit {0}
IsPlaced (Associated n on) count = n - 1 < count

-- what a touch marks
abbrev pub Noted : Touch → List OwnerRow → List OwnerRow → Type 0
Noted (Inserted n) old new = new ≡ old
Noted (Removed n parent) old new = new ≡ old
Noted (Attr n) old new = new ≡ old
Noted (Associated n on) old new = Written old new (n - 1) (record (row_of old n) { associated = on })

-- form owners and disabled states

-- what is told is taken over
abbrev pub with_told : Option (Option ℕ) → Option Bool → OwnerRow → OwnerRow
with_told owner disabled row = record row { owner = unwrap_or owner row.owner; disabled = unwrap_or disabled row.disabled }

-- the row at a place, with the changes of its node
abbrev pub with_changes : List Change → ℕ → OwnerRow → OwnerRow
with_changes [] i row = row
with_changes (c ∷ cs) i row = with_changes cs i (if c.node - 1 == i then with_told c.owner c.disabled row else row)

-- controls

-- a row without its list
abbrev pub unlisted : OwnerRow → OwnerRow
unlisted row = record row { controls = [] }

-- the controls of these forms were listed, and no others
pub record AreListed (forest : Trees) (forms : List ℕ) (old new : List OwnerRow) : Type 0 where
  pub same : (i : ℕ) → unlisted (row_in new i) ≡ unlisted (row_in old i)
  pub listed : (i : ℕ) → is_among (i + 1) forms ≡ true → (row_in new i).controls ≡ owned_in old forest (i + 1)
  pub others : (i : ℕ) → is_among (i + 1) forms ≡ false → (row_in new i).controls ≡ (row_in old i).controls

-- a new owner of n takes it from a form, or gives it to one
abbrev pub is_moved : List OwnerRow → ℕ → Option (Option ℕ) → ℕ → Bool
is_moved rows n None form = false
is_moved rows n (Some owner) form = is_number (row_of rows n).owner form || is_number owner form

abbrev pub is_moved_among : List OwnerRow → List Change → ℕ → Bool
is_moved_among rows cs form = list_any (λ (c : Change). is_moved rows c.node c.owner form) cs

-- a form keeps m: it was its owner by the rows, and is by the trees
pub record IsKept (forest : Trees) (rows : List OwnerRow) (form m : ℕ) : Type 0 where
  pub owned : is_owned_in rows form m ≡ true
  pub owns : owner_with forest m (row_of rows m).associated ≡ Some form

-- a form keeps each node that passes a test
abbrev pub KeepsPassing : Trees → List OwnerRow → ℕ → (ℕ → Bool) → Type 0
KeepsPassing forest rows form test = (m : ℕ) → IsNode forest m → test m ≡ true → IsKept forest rows form m

-- each list is of those that the rows say the form owns, and those that it keeps stand in it as they do in tree order now
pub record ListsStood (forest : Trees) (rows : List OwnerRow) : Type 0 where
  pub owned : (i : ℕ) → filter (is_owned_in rows (i + 1)) (row_in rows i).controls ≡ (row_in rows i).controls
  pub kept : (i : ℕ) → IsNode forest (i + 1) → (test : ℕ → Bool) → KeepsPassing forest rows (i + 1) test →
      filter test (row_in rows i).controls ≡ filter test (tree_order_of forest (root_at forest (i + 1)))

-- the rows of all nodes were read off the trees, with the form-associated custom elements that they had
pub record AreRenewed (forest : Trees) (old new : List OwnerRow) : Type 0 where
  pub associated : (i : ℕ) → (row_in new i).associated ≡ (row_in old i).associated
  pub seen : (i : ℕ) → (row_in new i).seen ≡ (row_in old i).seen
  pub owner : (i : ℕ) → i < size forest → (row_in new i).owner ≡ owner_with forest (i + 1) (row_in old i).associated
  pub disabled : (i : ℕ) → i < size forest → (row_in new i).disabled ≡ disabled_with forest (i + 1) (row_in old i).associated
  pub controls : (i : ℕ) → i < size forest → (row_in new i).controls ≡ owned_in new forest (i + 1)

-- what was seen of an element

-- the element that was touched has its row, where something is to be seen of it
abbrev pub IsSeenPlaced : Touch → Trees → ℕ → Type 0
IsSeenPlaced (Inserted n) forest count = Unit {0}
IsSeenPlaced (Removed n parent) forest count = Unit {0}
IsSeenPlaced (Attr n) forest count = IsNode forest n × (n - 1 < count)
IsSeenPlaced (Associated n on) forest count = Unit {0}

-- each element is noted for the text of its `form` attribute that was seen
abbrev pub AreNoted : List OwnerRow → (List ℕ → ℕ → Bool) → Type 0
AreNoted rows named = (id : List ℕ) (n : ℕ) → 0 < n → named id n ≡ is_text id (row_of rows n).seen.form

-- a row without what was seen
abbrev pub unseen : OwnerRow → OwnerRow
unseen row = record row { seen = blank_seen }

-- the attributes of n were seen
pub record AreSeen (forest : Trees) (n : ℕ) (old new : List OwnerRow) (was now : List ℕ → ℕ → Bool) : Type 0 where
  pub row : Written old new (n - 1) (record (row_of old n) { seen = seen_at forest n })
  pub named : (id : List ℕ) (m : ℕ) → now id m ≡ (if n == m then is_naming forest id n else was id m)

-- nothing was seen
pub record AreUnseen (old new : List OwnerRow) (was now : List ℕ → ℕ → Bool) : Type 0 where
  pub rows : new ≡ old
  pub named : (id : List ℕ) (m : ℕ) → now id m ≡ was id m

abbrev pub AreSeenBy : Touch → Trees → List OwnerRow → List OwnerRow → (List ℕ → ℕ → Bool) → (List ℕ → ℕ → Bool) → Type 0
AreSeenBy (Inserted n) forest old new was now = AreUnseen old new was now
AreSeenBy (Removed n parent) forest old new was now = AreUnseen old new was now
AreSeenBy (Attr n) forest old new was now = AreSeen forest n old new was now
AreSeenBy (Associated n on) forest old new was now = AreUnseen old new was now
