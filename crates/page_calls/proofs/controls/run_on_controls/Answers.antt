use Rattle.page_calls.proofs.controls.run_on_controls.Goals as goal

pub returns-in-Edit-clause-step : goal.returns-in-Edit-clause-step
returns-in-Edit-clause-step c = rw c.in-Edit.is c.set_text.ensures.step

pub returns-in-Tick-clause-step : goal.returns-in-Tick-clause-step
returns-in-Tick-clause-step c = rw c.in-Tick.is c.set_tick.ensures.step

pub returns-in-Choose-clause-step : goal.returns-in-Choose-clause-step
returns-in-Choose-clause-step c = rw c.in-Choose.is c.set_choice.ensures.step

pub returns-in-SetMessage-clause-step : goal.returns-in-SetMessage-clause-step
returns-in-SetMessage-clause-step c = rw c.in-SetMessage.is c.set_message.ensures.step
