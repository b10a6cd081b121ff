-- What a move looks at in each node, as it is noted.
use Rattle.std.specs.Prelude.{◌≡◌, ◌≢◌, ◌+◌, ◌-◌, ◌==◌, ◌||◌, ℕ, Bool, false, true, List, codes, Some}
use Rattle.node_trees.specs.Trees.{Trees}
use Rattle.node_trees.specs.Nodes.{IsNode}
use Rattle.node_trees.specs.Ids.{has_id}
use Rattle.node_trees.specs.Spots.{attribute_at, facts_at}
use Rattle.form_controls.specs.Rows.{row_at}
use Rattle.owner_rows.specs.OwnerRow.{OwnerRow}
use Rattle.form_owner.specs.declared.looks.Look.{Look}
use Rattle.form_owner.specs.declared.looks.Look.TheVariants.{Whole, Id, Nothing}
use Rattle.form_owner.specs.declared.touch.Touch.{Touch}
use Rattle.form_owner.specs.declared.touch.Touch.TheVariants.{Inserted, Removed, Attr, Associated}
use Rattle.form_owner.specs.Attributes.{is_naming}
use Rattle.form_owner.specs.Candidates.{is_concerned}

-- the note at a place, from 0; past the end of the notes all of a node is looked at
abbrev pub look_at : List Look → ℕ → Look
look_at looks i = row_at Whole looks i

-- forms are not about the node n
pub record IsApart (forest : Trees) (rows : List OwnerRow) (n : ℕ) : Type 0 where
  pub node : IsNode forest n
  pub apart : is_concerned forest rows n ≡ false

-- the text of n's `id` attribute is n's ID, and it is none of the texts that are known to have been somebody's `form`
-- attribute
pub record IsUnnamedId (forest : Trees) (known : List ℕ → Bool) (n : ℕ) (id : List ℕ) : Type 0 where
  pub has : has_id id (facts_at forest n) ≡ true
  pub unknown : known id ≡ false

-- the same, where n has an `id` attribute
abbrev pub IsUnnamed : Trees → (List ℕ → Bool) → ℕ → Type 0
IsUnnamed forest known n = (id : List ℕ) → attribute_at forest n (codes "id") ≡ Some id → IsUnnamedId forest known n id

-- what a note says of n is so
abbrev pub IsRight : Trees → List OwnerRow → (List ℕ → Bool) → Look → ℕ → Type 0
IsRight forest rows known Whole n = Unit {0}
IsRight forest rows known Id n = IsApart forest rows n
IsRight forest rows known Nothing n = IsApart forest rows n × IsUnnamed forest known n

-- what is noted at a place is so
abbrev pub IsRightAt : Trees → List OwnerRow → (List ℕ → Bool) → List Look → ℕ → Type 0
IsRightAt forest rows known looks i = IsRight forest rows known (look_at looks i) (i + 1)

abbrev pub AreRight : Trees → List OwnerRow → (List ℕ → Bool) → List Look → Type 0
AreRight forest rows known looks = (i : ℕ) → IsRightAt forest rows known looks i

-- each node that forms are about is looked at as a whole
abbrev pub AreNotedWhole : Trees → List OwnerRow → List Look → Type 0
AreNotedWhole forest rows looks = (n : ℕ) → IsNode forest n → is_concerned forest rows n ≡ true → look_at looks (n - 1) ≡ Whole

-- the second note says no more than the first
abbrev pub SaysNoMore : Look → Look → Type 0
SaysNoMore old Whole = Unit {0}
SaysNoMore old Id = old ≢ Whole
SaysNoMore old Nothing = old ≡ Nothing

-- notes say no more than they did, and what they say of IDs by the texts that were known is so by those that are known now
pub record AreKept (forest : Trees) (was now : List ℕ → Bool) (old new : List Look) : Type 0 where
  pub less : (i : ℕ) → SaysNoMore (look_at old i) (look_at new i)
  pub unnamed : (i : ℕ) → look_at new i ≡ Nothing → IsUnnamed forest was (i + 1) → IsUnnamed forest now (i + 1)

-- which texts are known, once the `form` attribute of n is seen
abbrev pub known_with : ℕ → Trees → (List ℕ → Bool) → List ℕ → Bool
known_with n forest known id = known id || is_naming forest id n

-- once what a touch changed is seen
abbrev pub known_by : Touch → Trees → (List ℕ → Bool) → List ℕ → Bool
known_by (Inserted n) forest known = known
known_by (Removed n parent) forest known = known
known_by (Attr n) forest known = known_with n forest known
known_by (Associated n on) forest known = known

-- each text that is known now was known, or came to be by this touch
abbrev pub KnowsBy : Touch → Trees → (List ℕ → Bool) → (List ℕ → Bool) → Type 0
KnowsBy touch forest was now = (id : List ℕ) → known_by touch forest was id ≡ false → now id ≡ false

-- a touch of an attribute of n, or of its definition
abbrev pub is_touching : Touch → ℕ → Bool
is_touching (Inserted m) n = false
is_touching (Removed m parent) n = false
is_touching (Attr m) n = m == n
is_touching (Associated m on) n = m == n

-- what it touches is a node
abbrev pub IsTouching : Touch → Trees → Type 0
IsTouching (Inserted n) forest = Unit {0}
IsTouching (Removed n parent) forest = Unit {0}
IsTouching (Attr n) forest = IsNode forest n
IsTouching (Associated n on) forest = IsNode forest n

-- after a touch what is noted is so, where what was noted of the others is
abbrev pub AreNotedBy : Touch → Trees → List OwnerRow → (List ℕ → Bool) → List Look → List Look → Type 0
AreNotedBy touch forest rows known old new =
    (i : ℕ) → (is_touching touch (i + 1) ≡ false → IsRightAt forest rows known old i) → IsRightAt forest rows known new i
