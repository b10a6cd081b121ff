-- What is read of who has a new form owner, and of who keeps the old one.
use Rattle.std.proofs.Common.{◌≡◌, ℕ, ◌==◌, Bool, true, false, cond, List, [], ◌∷◌, Option, Some, None, refl, sym, ap, ◌∙◌, subst, arith}
use Rattle.std.specs.Prelude.{filter, nat_eq, not, is_some, ◌||◌, ◌&&◌}
use Rattle.std.specs.List.{list_any}
use Rattle.std.specs.List.Sorted.{IsStrictlyIncreasing}
use Rattle.std.specs.Option.{option_eq}
use Rattle.std.proofs.lemmas.Bool.Decides.{nat_tests}
use Rattle.std.proofs.lemmas.List.Folds.{list_any_at}
use Rattle.std.proofs.lemmas.List.Kept.{IsStrictlyIncreasing-filter}
use Rattle.node_trees.specs.Trees.{Trees}
use Rattle.node_trees.specs.Nodes.{IsNode, IsTidy, size}
use Rattle.node_trees.specs.Orders.{tree_order_of}
use Rattle.node_trees.specs.Paths.{is_among, root_at}
use Rattle.form_controls.specs.declared.change.Change.{Change}
use Rattle.form_controls.specs.Changes.{is_change, numbers, where_new}
use Rattle.form_controls.specs.Owners.{Forms, form_owner}
use Rattle.form_controls.proofs.Differ.{nodes_back, owners_alike}
use Rattle.form_controls.proofs.Listed.{contains_range, made_contains, range_increases}
use Rattle.above_reading.proofs.OwnerTogether.{owner-in_order}
use Rattle.owner_reading.specs.Owners.{owner_with}
use Rattle.owner_rows.specs.OwnerRow.{OwnerRow, row_of}
use Rattle.form_owner.specs.Moves.{is_moving, stays}
use Rattle.form_owner.specs.Reading.{change_read, changes_read}
use Rattle.form_owner.specs.Told.{AreRising}
use Rattle.form_owner.proofs.Nodes.{owner-node}

-- owners by the trees

module _ (f : Trees) (tidy : IsTidy f) (n : ℕ) (node : IsNode f n) (associated : Bool) (g : ℕ) (is : owner_with f n associated ≡ Some g) where
  abbrev as_forms : Forms
  as_forms = record { forest = f; associated = cond associated (n ∷ []) [] }

  same-owner : form_owner as_forms n ≡ Some g
  same-owner = ap (owner_with f n) (by_test associated) ∙ is
    where
      by_test : (b : Bool) → is_among n (cond b (n ∷ []) []) ≡ b
      by_test true = grind (arith, nat_tests)
      by_test false = refl

  pub owner-is-node : IsNode f g
  owner-is-node = owner-node as_forms n (Some g) tidy (sym same-owner)

  pub owner-has-it : is_among n (tree_order_of f (root_at f g)) ≡ true
  owner-has-it = owner-in_order as_forms n g tidy node same-owner

-- a new value

pub new-is : (old new o : Option ℕ) → where_new (option_eq nat_eq) old new ≡ Some o → new ≡ o
new-is old new o = by_test (option_eq nat_eq old new)
  where
    by_test : (b : Bool) → cond b None (Some new) ≡ Some o → new ≡ o
    by_test true e = absurd cc
    by_test false e = cc

module _ (f : Trees) (old : List OwnerRow) where
  abbrev read : List Change
  read = changes_read f old (numbers f)

  pub read-rising : (cs : List Change) → cs ≡ read → AreRising cs
  read-rising cs is =
      subst AreRising (sym is)
      (subst IsStrictlyIncreasing (sym (nodes_back (change_read f old) (λ n. refl) (filter (λ n. is_change (change_read f old n)) (numbers f))))
      (IsStrictlyIncreasing-filter (λ n. is_change (change_read f old n)) (numbers f) (range_increases 1 (size f))))

  -- whom no change moves has the owner of before
  pub unmoved : (m : ℕ) → IsNode f m → stays read m ≡ true → (row_of old m).owner ≡ owner_with f m (row_of old m).associated
  unmoved m node stay = by_test (option_eq nat_eq (row_of old m).owner (owner_with f m (row_of old m).associated)) refl
    where
      itself : (m == m) ≡ true
      itself = grind (arith, nat_tests)

      moves : is_some (change_read f old m).owner ≡ true → is_moving m (change_read f old m) ≡ true
      moves t = ap (λ b. b && m == m) t ∙ itself

      moving : is_some (change_read f old m).owner ≡ true → list_any (is_moving m) read ≡ true
      moving t =
          let high = node.high in
          let said : is_change (change_read f old m) ≡ true = ap (λ b. b || is_some (change_read f old m).disabled) t in
          let has = made_contains (change_read f old) (λ n. is_change (change_read f old n)) (numbers f) m
          (contains_range 1 (size f) m node.low (omega (arith, high))) said in
          list_any_at (is_moving m) read has.0 (change_read f old m) has.1 (ap (is_moving m) has.2 ∙ moves t)

      by_test : (b : Bool) → option_eq nat_eq (row_of old m).owner (owner_with f m (row_of old m).associated) ≡ b
          → (row_of old m).owner ≡ owner_with f m (row_of old m).associated
      by_test true e = owners_alike (row_of old m).owner (owner_with f m (row_of old m).associated) e
      by_test false e = absurd (
          let new : is_some (change_read f old m).owner ≡ true = ap (λ b. is_some (cond b None (Some (owner_with f m (row_of old m).associated)))) e in
          let gone : stays read m ≡ false = ap not (moving new) in
          cc
          )
