-- The line at a place, by the part of the script that it stands in.
use Rattle.std.proofs.Common.{Some, sym, ap, ◌∙◌, arith}
use Rattle.made_scripts.proofs.MadeLaws.{made_first, made_element, made_submit, made_end}
use Rattle.made_scripts.proofs.maker.made_line.Goals as goal

pub returns-then-place-lt-FIRST_LINES : goal.returns-then-place-lt-FIRST_LINES
returns-then-place-lt-FIRST_LINES c =
    ap Some (c.in_ok-of.ensures ∙ c.first_line.ensures) ∙ sym (made_first c.args.n c.args.place (omega arith))

pub returns-then-place-submit : goal.returns-then-place-submit
returns-then-place-submit c =
    ap Some c.in_ok-element_line.ensures ∙ sym (made_element c.args.n c.args.place (omega arith) (omega arith))

pub returns-then-place-submit-2 : goal.returns-then-place-submit-2
returns-then-place-submit-2 c =
    ap Some c.in_ok-submit_line.ensures ∙ sym (made_submit c.args.n c.args.place (omega arith))

pub returns : goal.returns
returns c = sym (made_end c.args.n c.args.place (omega arith))
