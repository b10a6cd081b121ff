use Rattle.std.proofs.Common.{◌≡◌, sym, ◌∙◌}
use Rattle.std.specs.Char.{is_ascii_whitespace}
use Rattle.std.specs.List.{list_all}
use Rattle.control_state.proofs.Words.{is_empty-collapsed}
use Rattle.control_state.proofs.emptiness.is_only_whitespace.Goals as goal

pub returns : goal.returns
returns c =
    let all : c.are_whitespace.result ≡ list_all is_ascii_whitespace c.args.text.now = cc in
    all ∙ sym (is_empty-collapsed c.args.text.now)
