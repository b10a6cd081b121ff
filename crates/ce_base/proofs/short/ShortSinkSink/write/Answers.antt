use Rattle.std.proofs.Common.{◌++◌, ap, ◌∙◌}
use Rattle.ce_base.specs.Failing.{ShortStore}
use Rattle.ce_base.specs.Outside.{bytes_put}
use Rattle.ce_base.proofs.Shortened.{cut-bytes, cut-short, cut-takes}
use Rattle.ce_base.proofs.short.ShortSinkSink.write.Goals as goal

pub returns-clause-took : goal.returns-clause-took
returns-clause-took c = cut-takes c.args.piece.now c.min-count.result c.self.inside.cut c.min-count.ensures c.write.result c.self.invariant
    c.write.ensures.whole

pub returns-clause-short : goal.returns-clause-short
returns-clause-short c = λ went. cut-short c.args.piece.now c.min-count.result c.self.inside.cut c.min-count.ensures c.write.result c.args.self.now.cut
    (ap (λ (s : ShortStore). s.cut) c.self.view_is) c.write.ensures.whole

pub returns-clause-bytes : goal.returns-clause-bytes
returns-clause-bytes c =
    c.write.ensures.bytes
    ∙ ap (λ ys. c.self.inside.inner ++ ys)
    (cut-bytes c.args.piece.now c.min-count.result c.self.inside.cut c.min-count.ensures c.write.result c.write.ensures.whole)
    ∙ ap (λ (s : ShortStore). s.store.held ++ bytes_put c.write.result c.args.piece.now) c.self.view_is
