-- The open brackets, as they are kept.
use Rattle.std.specs.Prelude.{Bool, true, false}
use Rattle.order_law.specs.Book as book
use Rattle.order_checker.specs.declared.brackets.Bracket.{Bracket}
use Rattle.order_checker.specs.declared.brackets.Bracket.TheVariants.{Filling, Draining, Reacting, Upgrading}

abbrev pub bracket_of : Bracket → book.Bracket
bracket_of (Filling q) = book.Filling q
bracket_of (Draining q) = book.Draining q
bracket_of (Reacting r n what q called) = book.Reacting (record { number = r; element = n; what = what; queue = q }) called
bracket_of (Upgrading n) = book.Upgrading n

abbrev pub is_filling : book.Bracket → Bool
is_filling (book.Filling q) = true
is_filling b = false

abbrev pub with_call : Bracket → Bracket
with_call (Reacting r n what q called) = Reacting r n what q true
with_call b = b
