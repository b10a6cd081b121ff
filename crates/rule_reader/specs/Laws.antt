-- What holds of reading a line.
use Rattle.std.specs.Prelude.{◌≡◌, List, Ok}
use Rattle.rule_tokens.specs.declared.token.Token.{Token}
use Rattle.rule_tokens.specs.Gives.{◌>>=◌}
use Rattle.rule_lines.specs.Read.{read_tokens}
use Rattle.rule_reader.specs.declared.pieces.Form.{Form}
use Rattle.rule_reader.specs.AsRead.{form_as_read}
use Rattle.rule_reader.specs.Pieces.{form_of}

-- what the tokens of a line say, seen operand by operand, is what the table of forms gives, and they are
-- refused where it refuses them, for the same
abbrev pub IsReadByTable : Type 0
IsReadByTable = (ts : List Token) → read_tokens ts ≡ (form_of ts >>= λ f. Ok (form_as_read f))

-- forms whose tokens are read as the same operands are the same
abbrev pub OperandsTellForms : Type 0
OperandsTellForms = (f g : Form) → form_as_read f ≡ form_as_read g → f ≡ g
