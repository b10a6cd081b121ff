use Rattle.std.proofs.Common.{sym, ◌∙◌, ap, rules}
use Rattle.std.specs.Prelude.{position}
use Rattle.form_controls.specs.Texts.{is_newline}
use Rattle.submit_encoders.specs.Cuts.{past_line_end}
use Rattle.submit_encoders.proofs.Lines.{ends_line, no_line_end, cuts_line}
use Rattle.submit_encoders.proofs.cuts.cut_line.Goals as goal

pub returns-in_err-end : goal.returns-in_err-end
returns-in_err-end c =
    let none = ap (position is_newline) (sym c.as_bytes.ensures.value) ∙ sym c.in_err-end.ensures in
    search (rules, no_line_end c.args.text.now none)

pub split_at-requires : goal.split_at-requires
split_at-requires c =
    let found = ap (position is_newline) (sym c.as_bytes.ensures.value) ∙ sym c.in_ok-end.ensures in
    (ends_line c.args.text.now c.in_ok-end.end found).boundary

pub past_line_end-requires : goal.past_line_end-requires
past_line_end-requires c =
    let found = ap (position is_newline) (sym c.as_bytes.ensures.value) ∙ sym c.in_ok-end.ensures in
    rw c.split_at.ensures.back (ends_line c.args.text.now c.in_ok-end.end found).ends

pub returns : goal.returns
returns c =
    let found = ap (position is_newline) (sym c.as_bytes.ensures.value) ∙ sym c.in_ok-end.ensures in
    cuts_line c.args.text.now _ _ c.in_ok-end.end (ends_line c.args.text.now c.in_ok-end.end found) c.split_at.ensures.front
    (c.past_line_end.ensures ∙ ap past_line_end c.split_at.ensures.back)
