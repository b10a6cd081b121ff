-- What is written and what is left are the script.
use Rattle.std.proofs.Common.{◌++◌, refl, sym, ap, ◌∙◌, append-nil}
use Rattle.std.specs.Prelude.{string_bytes}
use Rattle.made_scripts.specs.Made.{joined, made_script}
use Rattle.made_scripts.proofs.LineLaws.{joined_none, joined_more}
use Rattle.made_scripts.proofs.script.made_script.Goals as goal

pub loop-script-init : goal.loop-script-init
unfolding made_script
loop-script-init c = rw (c.new-script.ensures.bytes, c.of-maker.ensures) refl

pub loop-script-preserved : goal.loop-script-preserved
loop-script-preserved c =
    let written = string_bytes c.loop-script.script in
    let next = rw c.in-Some.is at c.in_ok-line.ensures.next in
    rw (c.in_ok-push_str-2.ensures.bytes, c.in_ok-push_str.ensures.bytes, c.as_str.ensures)
    (joined_more written c.in-Some.line c.next_line.new.self ∙ (ap (λ lines. written ++ joined lines) (sym next) ∙ c.loop-script.invariant))

pub returns : goal.returns
returns c =
    let written = string_bytes c.loop-script.script in
    let none = rw c.in_default.is at c.in_ok-line.ensures.none in
    c.from.ensures ∙ (sym (append-nil written) ∙ (ap (λ text. written ++ text) (sym (ap joined none.0 ∙ joined_none)) ∙ c.loop-script.invariant))
