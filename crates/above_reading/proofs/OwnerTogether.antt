-- A form owner stands in the tree of its control.
use Rattle.std.proofs.Common.{◌≡◌, ℕ, Bool, true, false, cond, List, Option, Some, None, sym, subst}
use Rattle.std.specs.Prelude.{codes}
use Rattle.element_names.specs.declared.natives.Native.TheVariants.{Form}
use Rattle.node_trees.specs.Trees.{Trees}
use Rattle.node_trees.specs.Ids.{has_id, first_with_id}
use Rattle.node_trees.specs.Nodes.{IsNode, IsTidy}
use Rattle.node_trees.specs.Orders.{tree_order_of}
use Rattle.node_trees.specs.Paths.{is_among, root_at, connected}
use Rattle.node_trees.specs.Spots.{attribute_at, facts_at}
use Rattle.tree_laws.proofs.Members.{among-found}
use Rattle.form_controls.specs.Kinds.{is_a}
use Rattle.form_controls.specs.Owners.{Forms, ancestors, where_form, named_form, nearest_form, owner_by, form_owner, is_listed}
use Rattle.above_reading.proofs.Ancestors.{ancestor-order}
use Rattle.above_reading.proofs.Roots.{root-free, root-among, order-root, order-top}

form-is : (f : Trees) (o : Option ℕ) (g : ℕ) → where_form f o ≡ Some g → o ≡ Some g
form-is f None g e = absurd cc
form-is f (Some k) g e = by_kind (is_a Form f k) e
  where
    by_kind : (b : Bool) → cond b (Some k) None ≡ Some g → Some k ≡ Some g
    by_kind true i = i
    by_kind false i = absurd cc

module _ (f : Trees) (m g : ℕ) (tidy : IsTidy f) (at : IsNode f m) where
  -- by its ID
  named-together : (id : List ℕ) → named_form f m id ≡ Some g → root_at f m ≡ root_at f g
  named-together id e =
      let among = among-found (λ i. has_id id (facts_at f i)) (tree_order_of f (root_at f m)) g (form-is f (first_with_id f (root_at f m) id) g e) in
      sym (order-top f tidy (root_at f m) g (root-free f tidy m at) among)

  -- above it
  nearest-together : nearest_form f m ≡ Some g → root_at f m ≡ root_at f g
  nearest-together e = order-root f tidy g m (ancestor-order f g m tidy (among-found (is_a Form f) (ancestors f m) g e))

  by-together : (o : Option (List ℕ)) → owner_by f m o ≡ Some g → root_at f m ≡ root_at f g
  by-together None e = nearest-together e
  by-together (Some id) e = by_place (connected f m) e
    where
      by_place : (b : Bool) → cond b (named_form f m id) (nearest_form f m) ≡ Some g → root_at f m ≡ root_at f g
      by_place true i = named-together id i
      by_place false i = nearest-together i

module _ (f : Forms) (m g : ℕ) (tidy : IsTidy f.forest) (at : IsNode f.forest m) (owner : form_owner f m ≡ Some g) where
  pub owner-together : root_at f.forest m ≡ root_at f.forest g
  owner-together = by_list (is_listed f m) owner
    where
      by_list : (b : Bool) → cond b (owner_by f.forest m (attribute_at f.forest m (codes "form"))) None ≡ Some g → root_at f.forest m ≡ root_at f.forest g
      by_list true i = by-together f.forest m g tidy at (attribute_at f.forest m (codes "form")) i
      by_list false i = absurd cc

  pub owner-in_order : is_among m (tree_order_of f.forest (root_at f.forest g)) ≡ true
  owner-in_order = subst (λ r. is_among m (tree_order_of f.forest r) ≡ true) owner-together (root-among f.forest tidy m at)
