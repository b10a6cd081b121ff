-- What some options of a select give.
use Rattle.std.specs.Prelude.{ℕ, not, List, map, filter}
use Rattle.ce_base.specs.declared.entries.Entry.{Entry}
use Rattle.node_trees.specs.Trees.{Trees}
use Rattle.form_controls.specs.Disabled.{is_option_disabled}
use Rattle.form_controls.specs.Kinds.{name_of}
use Rattle.form_controls.specs.Options.{option_value}
use Rattle.ce_base.specs.Texts.{entry}

-- an entry for each that is not disabled
abbrev pub option_entries : Trees → ℕ → List ℕ → List Entry
option_entries forest select options =
    map (λ option. entry (name_of forest select) (option_value forest option)) (filter (λ option. not (is_option_disabled forest option)) options)
