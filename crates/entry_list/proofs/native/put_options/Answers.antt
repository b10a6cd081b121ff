use Rattle.std.specs.Prelude.{not}
use Rattle.std.proofs.lemmas.Option.{get_or_from_slice_get, slice_get_within}
use Rattle.form_controls.specs.Disabled.{is_option_disabled}
use Rattle.form_controls.specs.Kinds.{name_of}
use Rattle.form_controls.specs.Options.{option_value}
use Rattle.ce_base.specs.Texts.{entry}
use Rattle.entry_list.proofs.Growing.{kept-next}
use Rattle.entry_list.proofs.native.put_options.Goals as goal

pub loop-i-preserved : goal.loop-i-preserved
loop-i-preserved c =
    let option = c.node_at-option.result in
    kept-next (λ o. not (is_option_disabled c.args.tree.now o)) (λ o. entry (name_of c.args.tree.now c.args.select) (option_value c.args.tree.now o))
    c.args.options.now c.loop-i.i option c.args.list.now c.loop-i.list c.put_option.new.list
    (slice_get_within c.args.options.now c.loop-i.i option c.node_at-option.ensures.here)
    (get_or_from_slice_get c.args.options.now c.loop-i.i option option c.node_at-option.ensures.here)
    c.loop-i.invariant c.in_ok-put_option.ensures
