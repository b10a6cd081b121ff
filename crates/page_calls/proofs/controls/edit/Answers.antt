use Rattle.std.proofs.Common.{◌∙◌, sym}
use Rattle.ce_algorithms.specs.declared.deed.ControlDeed.TheVariants.{Edit}
use Rattle.ce_algorithms.specs.declared.fit.Fit.TheVariants.{TextControl}
use Rattle.page_calls.proofs.CommandLaws.{commanded-fits}
use Rattle.page_calls.proofs.controls.edit.Goals as goal

pub returns-clause-step : goal.returns-clause-step
returns-clause-step c = λ fuel. c.in_ok-set_text.ensures.step fuel
    ∙ commanded-fits TextControl c.args.n (Edit c.args.n c.args.v c.args.by_user) c.args.page.now fuel (sym c.fits.ensures ∙ c.if-not-fits.false)
