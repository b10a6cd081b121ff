-- An insertion and a removal that have nobody to tell.
use Rattle.std.proofs.Common.{◌≡◌, ℕ, Bool, false, List, [], ◌∷◌, refl, ap, ◌∙◌, arith}
use Rattle.std.specs.Prelude.{All}
use Rattle.std.proofs.lemmas.List.Elements.{All-head, All-tail}
use Rattle.form_controls.specs.declared.change.Change.{Change}
use Rattle.node_trees.specs.Kinds.{KeepsKinds}
use Rattle.node_trees.specs.Nodes.{IsNode, IsTidy}
use Rattle.node_trees.specs.Orders.{order_of}
use Rattle.node_trees.specs.Paths.{connected}
use Rattle.tree_laws.proofs.ConnectedBelow.{all_connected}
use Rattle.ce_algorithms.specs.FormChanges.{tell_others}
use Rattle.ce_algorithms.specs.Mutation.{connected_now, inserted, removed}
use Rattle.ce_algorithms.specs.Page.{Page, Work, is_custom}
use Rattle.ce_algorithms.specs.Steps.{Outcome, Goes, for_each, then_do, when}
use Rattle.ce_page.specs.Ends.{work}
use Rattle.ce_page.specs.Telling.{told}

-- a node is still one
pub inserted_node : (old now : Page) (n : ℕ) → KeepsKinds old.forest now.forest → IsNode old.forest n → IsNode now.forest n
inserted_node old now n kept at = record { low = at.low; high = omega (arith, at.high, kept.nodes) }

module _ (now : Page) (fuel : ℕ) where
  each_removed : (ns : List ℕ) → for_each ns (removed [] false) (work now fuel) ≡ Goes tt (work now fuel)
  each_removed [] = refl
  each_removed (n ∷ ns) = each_removed ns

  -- nothing is said of form owners, and what was removed was not connected
  pub removal_unheard : (cs : List Change) (was : Bool) (ns order : List ℕ) → cs ≡ [] → was ≡ false
      → told (removed cs was) cs ns order (work now fuel) ≡ Goes tt (work now fuel)
  removal_unheard cs was ns order none apart = rw (none, apart) (ap (λ (o : Outcome Work (Unit {0})). then_do o (λ _. tell_others [] order)) (each_removed ns))

  each_inserted : (b : Bool) (ns : List ℕ) → b ≡ false → All (λ m. connected now.forest m ≡ b) ns
      → for_each ns (inserted []) (work now fuel) ≡ Goes tt (work now fuel)
  each_inserted b [] apart all = refl
  each_inserted b (n ∷ ns) apart all =
      let P : ℕ → Type 0 = λ m. connected now.forest m ≡ b in
      let turn : Bool → Outcome Work (Unit {0}) = λ t. then_do (when t (connected_now n (is_custom now n)) (work now fuel)) (λ _. for_each ns (inserted [])) in
      ap turn (All-head P n ns all ∙ apart) ∙ each_inserted b ns apart (All-tail P n ns all)

  -- nothing is said of form owners, and what was inserted is not connected
  pub insertion_unheard : (cs : List Change) (n : ℕ) → cs ≡ [] → connected now.forest n ≡ false → IsNode now.forest n → IsTidy now.forest
      → told (inserted cs) cs (order_of now.forest n) (order_of now.forest n) (work now fuel) ≡ Goes tt (work now fuel)
  insertion_unheard cs n none apart node tidy =
      rw none (ap (λ (o : Outcome Work (Unit {0})). then_do o (λ _. tell_others [] (order_of now.forest n)))
      (each_inserted (connected now.forest n) (order_of now.forest n) apart (all_connected now.forest n (order_of now.forest n) node (λ some. tidy) refl)))
