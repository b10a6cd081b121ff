-- Removal, adoption and insertion (DOM Standard, sections "Mutation algorithms" and "Interface Document"), with the callbacks that they enqueue.
use Rattle.std.specs.Prelude.{ℕ, Bool, true, false, not, ◌&&◌, ◌==◌, if◌then◌else◌, List, Option, Some, None, is_some}
use Rattle.reaction_queue.specs.declared.reaction.Reaction.TheVariants.{Connected, Disconnected, Adopted}
use Rattle.node_trees.specs.Facts.{is_element}
use Rattle.node_trees.specs.Trees.{Trees, cut, graft, with_document, is_number}
use Rattle.node_trees.specs.Orders.{order_of}
use Rattle.node_trees.specs.Spots.{kind_at, parent_at, document_at, next_sibling_at}
use Rattle.node_trees.specs.Paths.{connected}
use Rattle.node_trees.specs.Insertion.{may_insert}
use Rattle.ce_algorithms.specs.Steps.{Step, ◌>>=◌, ◌>>◌, refuse, when, where_is, for_each}
use Rattle.ce_algorithms.specs.Page.{Page, Work, read_page, change_page, with_forest, is_custom}
use Rattle.ce_algorithms.specs.Enqueue.{enqueue_callback, try_upgrade}
use Rattle.form_controls.specs.declared.change.Change.{Change}
use Rattle.ce_algorithms.specs.FormChanges.{form_changes, tell_at_turn, tell_others}

abbrev pub is_connected : Page → ℕ → Bool
is_connected p n = connected p.forest n

-- "remove"

abbrev pub is_connected_parent : Page → Option ℕ → Bool
is_connected_parent p None = false
is_connected_parent p (Some parent) = is_connected p parent

-- one node of the removed tree, which was connected or not
abbrev pub removed : List Change → Bool → ℕ → Step Work (Unit {0})
removed changes was_connected n = do
  tell_at_turn changes n
  where_is (λ w. was_connected && is_custom w.page n) (enqueue_callback n Disconnected)

-- The node is taken out of its parent. Then each of its shadow-including inclusive descendants has its turn: it is told
-- of its form change, and a custom one that it was disconnected, where the parent was connected; then the others of whom
-- something is said
abbrev pub remove : ℕ → Step Work (Unit {0})
remove node = do
  old ← read_page (λ p. p)
  change_page (with_forest (λ f. cut f node))
  changes ← read_page (form_changes old)
  walk ← read_page (λ p. order_of p.forest node)
  for_each walk (removed changes (is_connected_parent old (parent_at old.forest node)))
  tell_others changes walk

-- "adopt" (section "Interface Document")

abbrev pub adopted : ℕ → ℕ → ℕ → Step Work (Unit {0})
adopted old document n = where_is (λ w. is_custom w.page n) (enqueue_callback n (Adopted old document))

-- each shadow-including inclusive descendant gets the document; then each custom one is told
abbrev pub move_to : ℕ → ℕ → ℕ → Step Work (Unit {0})
move_to old document node = do
  walk ← read_page (λ p. order_of p.forest node)
  for_each walk (λ n. change_page (with_forest (with_document n document)))
  for_each walk (adopted old document)

-- a node with a parent is removed; then it moves where its document was another
abbrev pub adopt : ℕ → ℕ → Step Work (Unit {0})
adopt document node = do
  old ← read_page (λ p. document_at p.forest node)
  where_is (λ w. is_some (parent_at w.page.forest node)) (remove node)
  when (not (old == document)) (move_to old document node)

-- "insert" and "pre-insert"

-- a node that is connected now: a custom element is told, and of any other element an upgrade is tried
abbrev pub connected_now : ℕ → Bool → Step Work (Unit {0})
connected_now n true = enqueue_callback n Connected
connected_now n false = where_is (λ w. is_element (kind_at w.page.forest n)) (try_upgrade n)

-- one node of the inserted tree
abbrev pub inserted : List Change → ℕ → Step Work (Unit {0})
inserted changes n = do
  tell_at_turn changes n
  now_connected ← read_page (λ p. is_connected p n)
  custom ← read_page (λ p. is_custom p n)
  when now_connected (connected_now n custom)

-- the node is placed; then each of its shadow-including inclusive descendants has its turn
abbrev pub put_in : ℕ → ℕ → Option ℕ → Step Work (Unit {0})
put_in parent node before = do
  old ← read_page (λ p. p)
  change_page (with_forest (λ f. graft f parent node before))
  changes ← read_page (form_changes old)
  walk ← read_page (λ p. order_of p.forest node)
  for_each walk (inserted changes)
  tell_others changes walk

-- the reference child: the child to insert before, or where that is the node itself, its next sibling
abbrev pub reference_child : Trees → ℕ → Option ℕ → Option ℕ
reference_child forest node before = if is_number before node then next_sibling_at forest node else before

-- "insert": the node is adopted into the parent's document, and put in
abbrev pub insert : ℕ → ℕ → Option ℕ → Step Work (Unit {0})
insert parent node child = do
  document ← read_page (λ p. document_at p.forest parent)
  adopt document node
  put_in parent node child

-- "pre-insert": validity is ensured, and the node is inserted before the reference child
abbrev pub pre_insert : ℕ → ℕ → Option ℕ → Step Work (Unit {0})
pre_insert parent node before = do
  refuse (λ w. may_insert w.page.forest parent node before)
  child ← read_page (λ p. reference_child p.forest node before)
  insert parent node child
