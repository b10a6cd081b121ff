use Rattle.std.proofs.Common.{ap, sym, ◌∙◌, ◌-◌, length}
use Rattle.std.specs.Prelude.{reverse, map}
use Rattle.std.specs.List.{slice_get}
use Rattle.order_law.specs.Reads.{current}
use Rattle.order_checker.specs.Opened.{bracket_of}
use Rattle.order_checker.proofs.OpenLemmas.{head_or_zero, current_of, head_is, zero_is}
use Rattle.order_checker.proofs.brackets.Brackets.current.Goals as goal

pub returns-in-Some : goal.returns-in-Some
returns-in-Some c =
    head_is c.self.inside.filling.items c.in-Some.q.now (c.in-Some.ensures.value ∙ ap (λ xs. slice_get xs (length xs - 1)) c.deref.ensures.value)
    ∙ ap head_or_zero c.self.invariant ∙ sym (current_of (reverse (map bracket_of c.self.inside.open.items))) ∙ ap current c.self.view_is

pub returns-in-None : goal.returns-in-None
returns-in-None c =
    zero_is c.self.inside.filling.items (c.in-None.ensures.value ∙ ap (λ xs. slice_get xs (length xs - 1)) c.deref.ensures.value)
    ∙ ap head_or_zero c.self.invariant ∙ sym (current_of (reverse (map bracket_of c.self.inside.open.items))) ∙ ap current c.self.view_is
