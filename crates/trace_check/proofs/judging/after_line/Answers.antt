use Rattle.trace_check.proofs.TraceLaws.{after_text}
use Rattle.trace_check.proofs.judging.after_line.Goals as goal

pub returns-in-Ok : goal.returns-in-Ok
returns-in-Ok c =
    after_text c.texts_tell_steps.ensures c.args.book c.args.line.now c.in-Ok.e c.in-Ok.ensures.value c.in-Ok.ensures.text c.after_event.result
    c.after_event.ensures
