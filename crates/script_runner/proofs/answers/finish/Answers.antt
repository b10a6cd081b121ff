use Rattle.std.proofs.Common.{◌≡◌, [], ◌∷◌, ◌∙◌, rules}
use Rattle.std.specs.Prelude.{IfOk, OnErr}
use Rattle.ce_base.specs.Outside.{AppendsPart}
use Rattle.ce_algorithms.specs.Lines.{last_line}
use Rattle.script_runner.specs.Ran.{Answered, answers}
use Rattle.line_feed.proofs.LineLaws.{last_line-none, last_line-some}
use Rattle.script_runner.proofs.SittingLaws.{answered_nothing}
use Rattle.script_runner.proofs.answers.finish.Goals as goal

pub returns-in-None-clause-ran : goal.returns-in-None-clause-ran
returns-in-None-clause-ran g c =
    rw (last_line-none c.args.feed c.in-None.ensures.none c.requires.clean) (answered_nothing c.args.session (g.K.Sink.held c.args.sink.now) c.requires.empty)

pub returns-in-Some-clause-ran : goal.returns-in-Some-clause-ran
returns-in-Some-clause-ran g c =
    let line = c.as_slice.result.now in
    let last : last_line c.args.feed ≡ line ∷ [] =
    last_line-some c.args.feed line (c.as_slice.ensures ∙ c.in-Some.ensures.some) c.requires.clean (rw c.as_slice.ensures c.in-Some.ensures.line) in
    let ran : IfOk c.answer_line.result
    (λ r. Answered c.args.session (last_line c.args.feed) r.1 r.0 (g.K.Sink.held c.make-out.result.sink.now)
    (g.K.Sink.held c.answer_line.new.out.sink.now)) = rw last c.answer_line.ensures.ran in
    search (rules, ran)

pub returns-in-Some-clause-part : goal.returns-in-Some-clause-part
returns-in-Some-clause-part g c =
    let line = c.as_slice.result.now in
    let last : last_line c.args.feed ≡ line ∷ [] =
    last_line-some c.args.feed line (c.as_slice.ensures ∙ c.in-Some.ensures.some) c.requires.clean (rw c.as_slice.ensures c.in-Some.ensures.line) in
    let part : OnErr c.answer_line.result
    (AppendsPart (g.K.Sink.held c.make-out.result.sink.now) (g.K.Sink.held c.answer_line.new.out.sink.now)
    (answers c.args.session (last_line c.args.feed))) = rw last c.answer_line.ensures.part in
    search (rules, part)
