use Rattle.std.proofs.Common.{◌≡◌, drop}
use Rattle.form_controls.specs.Setting.{set_all_off, without}
use Rattle.ce_algorithms.specs.Page.{with_controls}
use Rattle.page_calls.proofs.rivals.set_others_off.Given as goal

abbrev pub invariant-loop-i : goal.invariant-loop-i
invariant-loop-i l = record {
  rest : l.page ≡ with_controls (λ cs. l.page.controls) l.fn.page;
  left : set_all_off l.page.controls (without l.n (drop l.i l.controls)) ≡ set_all_off l.fn.page.controls (without l.n l.controls);
}
