-- What is given of a line says what the line says.
use Rattle.std.proofs.Common.{◌≡◌, ◌<◌, ◌≤◌, ◌+◌, ℕ, List, true, Err, nat_lt, length, refl, sym, ap, ◌∙◌, inl, inr, arith}
use Rattle.std.proofs.lemmas.Bool.{cases_lt}
use Rattle.std.proofs.lemmas.Bool.Decides.{nat_tests}
use Rattle.std.proofs.lemmas.List.{take_all, length-take}
use Rattle.rule_tokens.specs.declared.refused.Bad.TheVariants.{Long}
use Rattle.rule_script.specs.Reading.{reading}
use Rattle.line_feed.specs.Feed.{given, GivesLine}

-- a line within the limit is given whole
pub given_within : (limit : ℕ) (line : List ℕ) → length line ≤ limit → given limit line ≡ line
unfolding given
given_within limit line within = take_all (limit + 1) line (omega arith)

-- what is given of a line over the limit is over it too
pub given_over : (limit : ℕ) (line : List ℕ) → limit < length line → limit < length (given limit line)
unfolding given
given_over limit line over = omega (arith, length-take (limit + 1) line)

-- a line over the limit is refused
reading_over : (limit : ℕ) (line : List ℕ) → limit < length line → reading limit line ≡ Err Long
unfolding reading
reading_over limit line over =
    let long : nat_lt limit (length line) ≡ true = grind (arith, nat_tests) in
    rw long refl

-- so reading what is given of a line is reading the line, under each limit that is no more than what is given
pub reading_given : (limit most : ℕ) (line : List ℕ) → limit ≤ most → reading limit (given most line) ≡ reading limit line
reading_given limit most line le = elim (cases_lt most (length line)) [
  | inl over ↦
      reading_over limit (given most line) (let more = given_over most line over in omega (arith, more, le))
      ∙ sym (reading_over limit line (omega (arith, over, le)))
  | inr within ↦ ap (reading limit) (given_within most line within)
]

pub reading_line : (limit most : ℕ) (old new line : List ℕ) (gives : GivesLine most old new line) → limit ≤ most
    → reading limit line ≡ reading limit gives.whole
reading_line limit most old new line gives le = ap (reading limit) gives.cut ∙ reading_given limit most gives.whole le
