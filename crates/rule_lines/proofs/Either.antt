-- A choice between two facts by a test.
use Rattle.std.proofs.Common.{◌≡◌, Bool, true, false}
use Rattle.rule_lines.specs.Whole.{either}

pub first_of : (b : Bool) (X Y : Type 0) → b ≡ true → either b X Y → X
first_of true X Y is fact = fact
first_of false X Y is fact = absurd cc

pub to_first : (b : Bool) (X Y : Type 0) → b ≡ true → X → either b X Y
to_first true X Y is fact = fact
to_first false X Y is fact = absurd cc

pub second_of : (b : Bool) (X Y : Type 0) → b ≡ false → either b X Y → Y
second_of true X Y is fact = absurd cc
second_of false X Y is fact = fact

pub to_second : (b : Bool) (X Y : Type 0) → b ≡ false → Y → either b X Y
to_second true X Y is fact = absurd cc
to_second false X Y is fact = fact
