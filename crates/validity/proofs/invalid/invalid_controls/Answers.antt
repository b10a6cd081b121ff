use Rattle.std.proofs.Common.{length, refl}
use Rattle.std.proofs.lemmas.Option.{slice_get_read}
use Rattle.form_controls.specs.Validity.{is_invalid}
use Rattle.ce_base.proofs.Filtered.{filter-next}
use Rattle.validity.proofs.invalid.invalid_controls.Goals as goal

pub loop-n-preserved : goal.loop-n-preserved
loop-n-preserved c = λ f forest stands.
    filter-next (is_invalid f c.args.controls.now c.args.inner.now) c.controls-n-items.result.now c.loop-n.n-index c.n-item.result
    (slice_get_read c.controls-n-items.result.now (length c.controls-n-items.result.now) c.loop-n.n-index c.n-item.result refl c.loop-n-test.true c.n-item.is)
    _ _ c.is_invalid-is_kept.result (c.loop-n.invariant f forest stands) (c.is_invalid-is_kept.ensures f forest stands) c.in_ok-keep_where.ensures
