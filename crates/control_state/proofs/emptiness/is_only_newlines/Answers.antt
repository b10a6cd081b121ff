use Rattle.std.proofs.Common.{◌≡◌, sym, ◌∙◌}
use Rattle.std.specs.List.{list_all}
use Rattle.form_controls.specs.Texts.{is_newline}
use Rattle.control_state.proofs.Empty.{is_empty-without_newlines}
use Rattle.control_state.proofs.emptiness.is_only_newlines.Goals as goal

pub returns : goal.returns
returns c =
    let all : c.are_newlines.result ≡ list_all is_newline c.args.text.now = cc in
    all ∙ sym (is_empty-without_newlines c.args.text.now)
