-- Cloning (DOM Standard, section "Interface Node", "clone a node").
use Rattle.std.specs.Prelude.{ℕ, Bool, true, false, ◌||◌, List, None}
use Rattle.ce_base.specs.declared.fault.Fault.TheVariants.{NotSupportedError}
use Rattle.node_trees.specs.Facts.{Facts, is_document, is_element, is_shadow_root}
use Rattle.node_trees.specs.Links.{below}
use Rattle.node_trees.specs.Trees.{Trees, none, tree, tree_of}
use Rattle.node_trees.specs.Spots.{facts_at, kind_at}
use Rattle.ce_algorithms.specs.Steps.{Step, ◌>>=◌, ◌>>◌, give, done, when, throw_where, for_each}
use Rattle.ce_algorithms.specs.Page.{Work, spend, read_page}
use Rattle.ce_algorithms.specs.Making.{make_text}
use Rattle.ce_algorithms.specs.Attributes.{set_attribute}
use Rattle.ce_algorithms.specs.Controls.{copy_control}
use Rattle.ce_algorithms.specs.CreateLater.{create_later}
use Rattle.ce_algorithms.specs.Mutation.{pre_insert}

-- one fuel for each attribute
abbrev pub copy_attribute : ℕ → (List ℕ × List ℕ) → Step Work (Unit {0})
copy_attribute n a = do
  spend
  set_attribute n a.0 a.1

-- "clone a single node", and the cloning steps: an element is created in its document, not synchronously, with its attributes
-- and what its control keeps; a text is made
abbrev pub copy_node : ℕ → Facts → Bool → Step Work ℕ
copy_node from x true = do
  n ← create_later x.local x.is_value x.document
  for_each x.attributes (copy_attribute n)
  copy_control from n
  give n
copy_node from x false = make_text x.chars x.document

-- copies of these trees put at the end of a parent, each before what is below it. Shadow trees are not copied
abbrev pub copy_below : ℕ → Trees → Step Work (Unit {0})
copy_below parent none = done
copy_below parent (tree m x shadow children rest) = do
  n ← copy_node m x (is_element x.kind)
  pre_insert parent n None
  copy_below n children
  copy_below parent rest

-- a document or a shadow root is not cloned
abbrev pub clone : Bool → ℕ → Step Work ℕ
clone deep node = do
  throw_where (λ (w : Work). is_document (kind_at w.page.forest node) || is_shadow_root (kind_at w.page.forest node)) NotSupportedError
  x ← read_page (λ p. facts_at p.forest node)
  children ← read_page (λ p. below (tree_of node p.forest))
  n ← copy_node node x (is_element x.kind)
  when deep (copy_below n children)
  give n
