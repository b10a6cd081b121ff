use Rattle.std.proofs.Common.{◌≡◌, length, take, drop, arith}
use Rattle.std.proofs.lemmas.List.{take_rest, length-take}
use Rattle.ce_base.proofs.Fronts.{left-copied}
use Rattle.ce_base.proofs.sure.SureSourceSource.read.Goals as goal

pub returns-clause-bytes : goal.returns-clause-bytes
returns-clause-bytes c =
    let at = c.self.inside.at in
    let content = c.self.inside.content.items in
    let count = c.min-count.result in
    let len : length c.copy_from_slice.new.self ≡ count =
    rw (c.copy_from_slice.ensures.len, length-take) (omega arith) in
    let is : c.copy_from_slice.new.self ≡ take count (drop at content) =
    rw (c.copy_from_slice.ensures.after, take_rest, c.deref.ensures.value) in
    rw (← c.self.view_is) (left-copied content c.copy_from_slice.new.self (drop count c.args.buf.now) at count len is)
