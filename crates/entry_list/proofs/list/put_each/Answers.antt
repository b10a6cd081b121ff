use Rattle.std.proofs.Common.{sym}
use Rattle.form_submission.specs.EntryList.{entries_at}
use Rattle.entry_list.specs.Given.{is_giver}
use Rattle.entry_list.proofs.Growing.{given-next}
use Rattle.entry_list.proofs.list.put_each.Goals as goal

pub loop-n-preserved : goal.loop-n-preserved
loop-n-preserved c = λ f forest stands.
    given-next (is_giver f c.args.controls.now c.args.submitter.now) (entries_at f c.args.controls.now c.args.inner.now)
    c.args.elements.now c.loop-n.n-index c.n-item.result c.args.list.now c.loop-n.list c.put_given.new.list
    c.loop-n-test.true (sym c.n-item.is) (c.loop-n.invariant f forest stands) (c.in_ok-put_given.ensures f forest stands)
