use Rattle.std.proofs.Common.{ap, sym, ◌∙◌}
use Rattle.ce_algorithms.specs.Page.{Page, with_controls}
use Rattle.page_calls.proofs.RivalLaws.{off-step}
use Rattle.page_calls.proofs.rivals.set_others_off.Goals as goal

pub loop-i-preserved : goal.loop-i-preserved
loop-i-preserved c = record {
  rest = c.set_off_unless.ensures.rest ∙ ap (λ (p : Page). with_controls (λ cs. c.set_off_unless.new.page.controls) p) c.loop-i.invariant.rest;
  left = off-step c.args.n c.loop-i.i c.unwrap-other.result c.args.controls.now c.loop-i.page.controls _ (sym c.get.ensures ∙ c.unwrap-other.ensures)
      (ap (λ (p : Page). p.controls) c.in_ok-set_off_unless.ensures.page) ∙ c.loop-i.invariant.left;
}
