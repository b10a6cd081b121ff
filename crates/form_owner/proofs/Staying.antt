-- Rows that stand for the trees stand for them still where the same form-associated custom elements are listed otherwise.
use Rattle.std.proofs.Common.{◌≡◌, ℕ, ◌+◌, List, sym, ap, ◌∙◌}
use Rattle.node_trees.specs.Trees.{is_number}
use Rattle.node_trees.specs.Orders.{tree_order_of}
use Rattle.node_trees.specs.Paths.{is_among, root_at}
use Rattle.form_controls.specs.Owners.{Forms, form_owner, is_owned_by, controls_of}
use Rattle.form_owner.specs.OwnerRows.{OwnerRows}
use Rattle.owner_reading.specs.Owners.{owner_with}
use Rattle.above_reading.specs.Disabled.{disabled_with}
use Rattle.form_owner.specs.Stands.{Stands}
use Rattle.form_owner.proofs.Rows.{filter-members}

module _ (f : Forms) (other : List ℕ) (same : (n : ℕ) → is_among n other ≡ is_among n f.associated) where
  abbrev renamed : Forms
  renamed = record f { associated = other }

  owner-renamed : (n : ℕ) → form_owner renamed n ≡ form_owner f n
  owner-renamed n = ap (owner_with f.forest n) (same n)

  controls-renamed : (n : ℕ) → controls_of renamed n ≡ controls_of f n
  controls-renamed n = filter-members (is_owned_by renamed n) (is_owned_by f n) (tree_order_of f.forest (root_at f.forest n))
      (λ m _. ap (λ o. is_number o n) (owner-renamed m))

  renamed-stands : (table : OwnerRows) → Stands table f → Stands table renamed
  renamed-stands table s = record {
    within = s.within;
    associated = record { flags = λ i. s.associated.flags i ∙ sym (same (i + 1)); nodes = λ n h. s.associated.nodes n (sym (same n) ∙ h) };
    owner = λ i. s.owner i ∙ sym (owner-renamed (i + 1));
    disabled = λ i. s.disabled i ∙ sym (ap (disabled_with f.forest (i + 1)) (same (i + 1)));
    controls = λ i. s.controls i ∙ sym (controls-renamed (i + 1));
    seen = s.seen;
    named = s.named;
    looks = s.looks;
  }

pub stands_renamed : (table : OwnerRows) (f : Forms) (other : List ℕ) → ((n : ℕ) → is_among n other ≡ is_among n f.associated) → Stands table f
    → Stands table (record f { associated = other })
stands_renamed table f other same stands = renamed-stands f other same table stands
