use Rattle.std.proofs.Common.{ap, arith, rules, sym, ◌∙◌}
use Rattle.std.specs.Prelude.{filter}
use Rattle.std.proofs.lemmas.List.{take_all}
use Rattle.std.proofs.lemmas.Option.{slice_get-get_or}
use Rattle.ce_base.proofs.Filtered.{filter-next}
use Rattle.form_owner.specs.Reading.{is_owned_in}
use Rattle.form_owner.proofs.controls.owned_among.Goals as goal

pub loop-i-init : goal.loop-i-init
loop-i-init c = c.new-found.ensures.items

pub unwrap-n-requires : goal.unwrap-n-requires
unwrap-n-requires c = rw (c.get.ensures, slice_get-get_or c.args.order.now c.loop-i.i 0 (omega (arith, c.len-i-end.ensures, c.loop-i-test.true))) (search rules)

pub loop-i-preserved : goal.loop-i-preserved
loop-i-preserved c = filter-next (is_owned_in c.args.rows.now c.args.form) c.args.order.now c.loop-i.i c.unwrap-n.result
    (sym c.get.ensures ∙ c.unwrap-n.ensures) c.loop-i.found.items _ c.is_owned-is_found.result c.loop-i.invariant c.is_owned-is_found.ensures
    c.in_ok-keep_where.ensures

pub returns : goal.returns
returns c = c.loop-i.invariant
    ∙ ap (filter (is_owned_in c.args.rows.now c.args.form)) (take_all c.loop-i.i c.args.order.now (omega (arith, c.len-i-end.ensures, c.loop-i-test.false)))
