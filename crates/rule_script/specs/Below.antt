-- The laws of the crates below that the laws of lines stand on.
use Rattle.rule_tokens.specs.Laws.{LinesAreAnswered, SaidIsRead, SaidOnce}
use Rattle.rule_tokens.specs.Spaced.{WrittenIsRead}
use Rattle.rule_lines.specs.Laws.{CanonicalIsClean, CanonicalIsSpelled, FormsAreRead, SpelledIsRead, FaultsAreApart}
use Rattle.rule_reader.specs.Laws.{IsReadByTable, OperandsTellForms}
use Rattle.rule_writer.specs.Laws.{FormsAreCanonical}

pub record Below : Type 0 where
  pub answered : LinesAreAnswered
  pub said : SaidIsRead
  pub once : SaidOnce
  pub forms : FormsAreRead
  pub spelled : SpelledIsRead
  pub apart : FaultsAreApart
  pub table : IsReadByTable
  pub tell : OperandsTellForms

-- the laws that writing stands on
pub record BelowWriting : Type 0 where
  pub read : Below
  pub written : WrittenIsRead
  pub canonical : CanonicalIsSpelled
  pub clean : CanonicalIsClean
  pub forms : FormsAreCanonical
