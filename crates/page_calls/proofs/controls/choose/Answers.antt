use Rattle.std.proofs.Common.{◌∙◌, sym}
use Rattle.ce_algorithms.specs.declared.deed.ControlDeed.TheVariants.{Choose}
use Rattle.ce_algorithms.specs.declared.fit.Fit.TheVariants.{AnOption}
use Rattle.page_calls.proofs.CommandLaws.{commanded-fits}
use Rattle.page_calls.proofs.controls.choose.Goals as goal

pub returns-clause-step : goal.returns-clause-step
returns-clause-step c = λ fuel. c.in_ok-set_choice.ensures.step fuel
    ∙ commanded-fits AnOption c.args.n (Choose c.args.n c.args.on c.args.by_user) c.args.page.now fuel (sym c.fits.ensures ∙ c.if-not-fits.false)
