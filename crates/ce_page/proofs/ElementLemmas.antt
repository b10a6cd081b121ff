-- Where each node is kept, and is of the same kind, elements stay elements.
use Rattle.std.proofs.Common.{ℕ, List, [], ◌∷◌, Option, None, Some, ◌∙◌, arith}
use Rattle.node_trees.specs.Trees.{Trees}
use Rattle.node_trees.specs.Nodes.{IsNode}
use Rattle.node_trees.specs.Kinds.{IsElement, KeepsKinds}
use Rattle.reaction_queue.specs.declared.reaction.Reaction.{Reaction}
use Rattle.ce_algorithms.specs.Page.{Element}
use Rattle.ce_page.specs.Rows.{HasRows}
use Rattle.ce_page.specs.Elements.{IsEntry, AreEntries}
use Rattle.ce_page.specs.Sound.{IsSound}

module _ (f g : Trees) (k : KeepsKinds f g) where
  pub node_kept : {n : ℕ} → IsNode f n → IsNode g n
  node_kept x = let high = x.high in let more = k.nodes in record { low = x.low; high = omega (arith, high, more) }

  pub element_kept : {n : ℕ} → IsElement f n → IsElement g n
  element_kept {n} x = record { node = node_kept x.node; kind = k.kinds n x.node ∙ x.kind }

  rows_kept : {elements : List Element} → HasRows elements f → HasRows elements g
  rows_kept h = let within = h.within in let more = k.nodes in record {
    first = node_kept h.first;
    document = k.kinds 1 h.first ∙ h.document;
    within = omega (arith, within, more);
    defined = λ i d is. element_kept (h.defined i d is);
  }

  entry_kept : (entry : Option ℕ) → IsEntry f entry → IsEntry g entry
  entry_kept None x = tt
  entry_kept (Some n) x = element_kept x

  pub entries_kept : (entries : List (Option ℕ)) → AreEntries f entries → AreEntries g entries
  entries_kept [] x = tt
  entries_kept (entry ∷ entries) x = (entry_kept entry x.0, entries_kept entries x.1)

  pub sound_kept : {elements : List Element} {waiting : List (List (ℕ × Reaction))} {stacks : List (List (Option ℕ))} → IsSound elements waiting stacks f
      → IsSound elements waiting stacks g
  sound_kept h = record {
    rows = rows_kept h.rows;
    waits = λ i some. element_kept (h.waits i some);
    held = λ d. entries_kept _ (h.held d);
  }
