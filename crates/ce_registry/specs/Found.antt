-- How the registry finds its definitions and their observed names.
use Rattle.std.specs.Prelude.{◌≡◌, ℕ, Bool, false, if◌then◌else◌, List, [], ◌∷◌, ◌++◌, length, Option, Some, None, String, bytes_eq, slice_get}
use Rattle.std.specs.List.{list_any}
use Rattle.std.specs.Ordering.{nat_cmp}
use Rattle.std.specs.BTreeMap.{BTreeMap, get, get_by_text}
use Rattle.std.specs.BTreeSet.{BTreeSet, contains_text}
use Rattle.ce_registry.specs.declared.definition.Definition.{Definition}
use Rattle.ce_registry.specs.Registry.{by_name, by_class, by_names}

-- the set has these names and no others
abbrev pub HasNames : {Y : Type 0} → BTreeSet (String Y) → List (List ℕ) → Type 0
HasNames set names = (name : List ℕ) → contains_text set name ≡ list_any (λ n. bytes_eq n name) names

abbrev pub has_local : Option Definition → List ℕ → Bool
has_local None local = false
has_local (Some d) local = bytes_eq d.local local

-- the number, where its definition has this local name
abbrev pub with_local : List Definition → Option ℕ → List ℕ → Option ℕ
with_local ds None local = None
with_local ds (Some d) local = if has_local (slice_get ds d) local then Some d else None

-- the maps find each definition by its name and by its class, and nothing by others; the one that is found by a name
-- is the only one with it
pub record Finds {Y : Type 0} (names : BTreeMap (String Y) ℕ) (classes : BTreeMap ℕ ℕ) (ds : List Definition) : Type 0 where
  pub named : (name : List ℕ) → get_by_text names name ≡ by_name ds name
  pub with_class : (class : ℕ) → get nat_cmp classes class ≡ by_class ds class
  pub only : (name local : List ℕ) → by_names ds name local ≡ with_local ds (by_name ds name) local

-- the maps find a definition that is put last with this number, where no other one has its name or its class
abbrev pub Follows : {Y : Type 0} → BTreeMap (String Y) ℕ → BTreeMap ℕ ℕ → BTreeMap (String Y) ℕ → BTreeMap ℕ ℕ → Definition → ℕ → Type 0
Follows names classes more_names more_classes d number =
    (ds : List Definition) → Finds names classes ds → by_name ds d.name ≡ None → by_class ds d.class ≡ None → number ≡ length ds
    → Finds more_names more_classes (ds ++ d ∷ [])

-- the maps find what they found, where no definition has this one's class
abbrev pub Stays : {Y : Type 0} → BTreeMap (String Y) ℕ → BTreeMap ℕ ℕ → BTreeMap (String Y) ℕ → BTreeMap ℕ ℕ → Definition → Type 0
Stays names classes same_names same_classes d =
    (ds : List Definition) → Finds names classes ds → by_class ds d.class ≡ None → Finds same_names same_classes ds
