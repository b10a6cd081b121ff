-- A removal and an insertion tell each node what is due to it.
use Rattle.std.proofs.Common.{◌≡◌, ℕ, false, Option, arith}
use Rattle.node_trees.specs.Trees.{Trees, tree_of, cut, graft}
use Rattle.node_trees.specs.Nodes.{times, IsNode, IsTidy}
use Rattle.node_trees.specs.Orders.{order_of}
use Rattle.node_trees.specs.Paths.{is_among, path}
use Rattle.node_trees.specs.Spots.{parent_at}
use Rattle.node_trees.proofs.Weights.{IsApart}
use Rattle.tree_laws.proofs.Sizes.{weight-cut, weight-graft, size-cut, size-graft}
use Rattle.tree_laws.proofs.Sums.{one_at, tidy-apart}
use Rattle.tree_laws.proofs.Walked.{order-apart, stands-outside}
use Rattle.ce_algorithms.specs.Steps.{Step, Goes, Spent, ◌>>◌, for_each}
use Rattle.ce_algorithms.specs.Page.{Work}
use Rattle.ce_algorithms.specs.FormChanges.{form_changes, tell_others}
use Rattle.ce_algorithms.specs.Mutation.{is_connected_parent, removed, remove, inserted, put_in}
use Rattle.telling_law.specs.Told.{TellsExactly, TellsPart}
use Rattle.telling_law.proofs.Telling.{tells_removed, tells_inserted}
use Rattle.telling_law.proofs.Pages.{now, TellAll, exactly, partly, told-all, all-positive}

-- a removal

module _ (node : ℕ) (w : Work) (tidy : IsTidy w.page.forest) where
  abbrev without_it : Trees
  without_it = cut w.page.forest node

  cut-apart : IsApart without_it
  cut-apart i =
      let same : times i without_it ≡ times i w.page.forest = weight-cut (one_at i) w.page.forest node tidy in
      omega (arith, same, tidy-apart w.page.forest tidy i)

  abbrev removal : Step Work (Unit {0})
  removal =
      let changes = form_changes w.page (now w.page without_it) in
      for_each (order_of without_it node) (removed changes (is_connected_parent w.page (parent_at w.page.forest node))) >> tell_others changes
      (order_of without_it node)

  removal-tells : TellAll w.page without_it removal
  removal-tells =
      told-all w.page without_it removal (size-cut w.page.forest node tidy)
      (λ n low. tells_removed low (form_changes w.page (now w.page without_it)) (all-positive w.page without_it) (order_of without_it node)
      (is_connected_parent w.page (parent_at w.page.forest node)) (order-apart node without_it cut-apart))

  pub removal-exactly : (v : Work) → remove node w ≡ Goes tt v → TellsExactly w.page v.page
  removal-exactly v e = exactly w.page without_it removal w.fuel v removal-tells e

  pub removal-partly : (v : Work) → remove node w ≡ Spent v → TellsPart w.page v.page
  removal-partly v e = partly w.page without_it removal w.fuel v removal-tells e

-- an insertion

module _ (parent node : ℕ) (before : Option ℕ) (w : Work) (tidy : IsTidy w.page.forest) (is : IsNode w.page.forest parent)
    (off : is_among node (path parent w.page.forest) ≡ false) where
  abbrev with_it : Trees
  with_it = graft w.page.forest parent node before

  outside : times parent (tree_of node w.page.forest) ≡ 0
  outside = stands-outside w.page.forest node parent tidy off

  graft-apart : IsApart with_it
  graft-apart i =
      let same : times i with_it ≡ times i w.page.forest = weight-graft (one_at i) w.page.forest parent node before tidy is outside in
      omega (arith, same, tidy-apart w.page.forest tidy i)

  abbrev insertion : Step Work (Unit {0})
  insertion =
      let changes = form_changes w.page (now w.page with_it) in
      for_each (order_of with_it node) (inserted changes) >> tell_others changes (order_of with_it node)

  insertion-tells : TellAll w.page with_it insertion
  insertion-tells =
      told-all w.page with_it insertion (size-graft w.page.forest parent node before tidy is outside)
      (λ n low. tells_inserted low (form_changes w.page (now w.page with_it)) (all-positive w.page with_it) (order_of with_it node)
      (order-apart node with_it graft-apart))

  pub insertion-exactly : (v : Work) → put_in parent node before w ≡ Goes tt v → TellsExactly w.page v.page
  insertion-exactly v e = exactly w.page with_it insertion w.fuel v insertion-tells e

  pub insertion-partly : (v : Work) → put_in parent node before w ≡ Spent v → TellsPart w.page v.page
  insertion-partly v e = partly w.page with_it insertion w.fuel v insertion-tells e
