-- The classes of a session, and the map that finds them by their names.
use Rattle.std.specs.Prelude.{◌≡◌, ℕ, true, List, String, slice_get, slice_set}
use Rattle.std.specs.BTreeMap.{BTreeMap, get_by_text}
use Rattle.ce_algorithms.specs.State.{Class, class_named, or_new_class}

-- a class is changed
abbrev pub changed : ℕ → (Class → Class) → List Class → List Class
changed k f classes = slice_set classes k (f (or_new_class (slice_get classes k)))

-- a definition has the class
abbrev pub frozen_class : Class → Class
frozen_class k = record k { frozen = true }

-- the map finds each class by its name, and nothing by another one
abbrev pub Finds : {Y : Type 0} → BTreeMap (String Y) ℕ → List Class → Type 0
Finds numbers classes = (name : List ℕ) → get_by_text numbers name ≡ class_named classes name
