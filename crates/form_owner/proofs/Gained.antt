-- The steps of a loop that puts nodes into lists, from the last change on.
use Rattle.std.proofs.Common.{◌≡◌, All, ℕ, ◌+◌, ◌-◌, ◌<◌, List, take, true, Option, Some, None, ap, subst, arith}
use Rattle.std.specs.Prelude.{find, slice_get, unwrap_or, IfSome}
use Rattle.std.proofs.lemmas.Option.{get_or_from_slice_get, slice_get_within}
use Rattle.node_trees.specs.Trees.{Trees}
use Rattle.node_trees.specs.Nodes.{IsNode, IsTidy}
use Rattle.node_trees.specs.Orders.{tree_order_of}
use Rattle.node_trees.specs.Paths.{is_among, root_at}
use Rattle.tree_laws.specs.Numbers.{insert_number}
use Rattle.tree_laws.proofs.Counts.{AreApart}
use Rattle.form_controls.specs.declared.change.Change.{Change}
use Rattle.owner_rows.specs.OwnerRow.{OwnerRow, row_of}
use Rattle.form_owner.specs.Groups.{all_after}
use Rattle.form_owner.specs.Moves.{AreEntered, HasNoneBehind, IsTold, is_listed_in, last_listed}
use Rattle.form_owner.specs.Told.{AreRising}
use Rattle.form_owner.specs.Writing.{Written}
use Rattle.form_owner.proofs.Entering.{earlier, entered-apart, entered-last, entered-none, entered-some}

given : (o : Option (Option ℕ)) (g : ℕ) → unwrap_or o None ≡ Some g → o ≡ Some (Some g)
given None g e = absurd cc
given (Some o) g e = ap Some e

module _ (forest : Trees) (tidy : IsTidy forest) (old mid : List OwnerRow) (cs : List Change) (left : ℕ) (low : 0 < left) (c : Change)
    (at : slice_get cs (left - 1) ≡ Some c) (told : All (IsTold forest old) cs) (entered : AreEntered forest (take left cs) old mid) where
  it : IsTold forest old c
  it = subst (IsTold forest old) (get_or_from_slice_get cs (left - 1) c c at) (told (left - 1) c (slice_get_within cs (left - 1) c at))

  before : AreEntered forest (take ((left - 1) + 1) cs) old mid
  before = let same : left ≡ (left - 1) + 1 = omega arith in subst (λ n. AreEntered forest (take n cs) old mid) same entered

  pub enters-none : unwrap_or c.owner None ≡ None → AreEntered forest (take (left - 1) cs) old mid
  enters-none e = entered-none old cs (left - 1) c at forest mid before it e

  module _ (g : ℕ) (e : unwrap_or c.owner None ≡ Some g) where
    pub enters-form : IsNode forest g
    enters-form = it.form g (given c.owner g e)

    pub enters-inside : is_among c.node (tree_order_of forest (root_at forest g)) ≡ true
    enters-inside = it.inside g (given c.owner g e)

    pub enters-apart : AreApart (row_of mid g).controls
    enters-apart = entered-apart old cs (left - 1) c at forest mid before it tidy g (given c.owner g e)

    pub enters-last : IfSome (last_listed mid g) (HasNoneBehind (is_listed_in mid g) (tree_order_of forest (root_at forest g)))
    enters-last = entered-last old cs (left - 1) c at forest mid before it tidy g (given c.owner g e)

    pub enters-some : AreRising cs → (new : List OwnerRow)
        → Written mid new (g - 1) (record
        (row_of mid g) {
          controls = insert_number (find (is_listed_in mid g) (all_after c.node (tree_order_of forest (root_at forest g)))) c.node
              (row_of mid g).controls;
        }) →
        AreEntered forest (take (left - 1) cs) old new
    enters-some rising new w = entered-some old cs (left - 1) c at forest mid before it tidy g (given c.owner g e) (earlier cs (left - 1) c rising at) new w
