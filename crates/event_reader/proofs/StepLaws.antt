-- Two events with one text are read as one event, whose step is that of both.
use Rattle.std.proofs.Common.{◌≡◌, sym, ap, ◌∙◌}
use Rattle.std.proofs.lemmas.Option.{same_Some}
use Rattle.ce_events.specs.Step.{step_of}
use Rattle.event_reader.specs.Guessed.{TextsAreGuessed}
use Rattle.event_reader.specs.Reading.{guess}
use Rattle.event_reader.specs.Steps.{TextsTellSteps}

pub texts_tell : TextsAreGuessed → TextsTellSteps
texts_tell are e f e_is f_is same =
    let e_told = are e e_is in
    let f_told = are f f_is in
    let one : e_told.other ≡ f_told.other = same_Some e_told.other f_told.other (sym e_told.read ∙ (ap guess same ∙ f_told.read)) in
    sym e_told.step ∙ (ap step_of one ∙ f_told.step)
