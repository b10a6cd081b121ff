-- What holds of the canonical tokens.
use Rattle.std.specs.Prelude.{◌≡◌}
use Rattle.rule_lines.specs.Canon.{canon_tokens}
use Rattle.rule_reader.specs.declared.pieces.Form.{Form}
use Rattle.rule_reader.specs.AsRead.{form_as_read}
use Rattle.rule_writer.specs.Canon.{form_tokens}

-- the tokens of a form are those that the table gives
abbrev pub FormsAreCanonical : Type 0
FormsAreCanonical = (f : Form) → form_tokens f ≡ canon_tokens (form_as_read f)
