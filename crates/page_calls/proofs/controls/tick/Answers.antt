use Rattle.std.proofs.Common.{◌∙◌, sym}
use Rattle.ce_algorithms.specs.declared.deed.ControlDeed.TheVariants.{Tick}
use Rattle.ce_algorithms.specs.declared.fit.Fit.TheVariants.{Tickable}
use Rattle.page_calls.proofs.CommandLaws.{commanded-fits}
use Rattle.page_calls.proofs.controls.tick.Goals as goal

pub returns-clause-step : goal.returns-clause-step
returns-clause-step c = λ fuel. c.in_ok-set_tick.ensures.step fuel
    ∙ commanded-fits Tickable c.args.n (Tick c.args.n c.args.on c.args.by_user) c.args.page.now fuel (sym c.fits.ensures ∙ c.if-not-fits.false)
