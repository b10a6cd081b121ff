-- Where values come from, and how they are read.
use Rattle.std.specs.Prelude.{ℕ, List}
use Rattle.node_trees.specs.Trees.{Trees}
use Rattle.node_trees.specs.Nodes.{IsNode}
use Rattle.form_controls.specs.Options.{text_below}
use Rattle.form_controls.specs.Texts.{without_newlines, normalized, collapsed}
use Rattle.form_controls.specs.Values.{child_text}
use Rattle.control_state.specs.declared.source.Source.{Source}
use Rattle.control_state.specs.declared.source.Source.TheVariants.{Plain, Line, Lines, Children, Below}

abbrev pub value_from : Trees → Source → List ℕ
value_from forest (Plain text) = text.now
value_from forest (Line text) = without_newlines text.now
value_from forest (Lines text) = normalized text.now
value_from forest (Children n) = normalized (child_text forest n)
value_from forest (Below n) = collapsed (text_below forest n)

-- what is read off the tree is read at a node
abbrev pub IsOfNode : Trees → Source → Type 0
IsOfNode forest (Plain text) = Unit {0}
IsOfNode forest (Line text) = Unit {0}
IsOfNode forest (Lines text) = Unit {0}
IsOfNode forest (Children n) = IsNode forest n
IsOfNode forest (Below n) = IsNode forest n
