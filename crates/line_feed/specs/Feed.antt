-- What a feed gives of a line.
use Rattle.std.specs.Prelude.{◌≡◌, ◌≢◌, ℕ, ◌+◌, List, ◌∷◌, ◌++◌, take, All}

-- its first bytes, one more than the limit: a line within it is given whole, and one over it still shows that it is
unfoldable pub given : ℕ → List ℕ → List ℕ
given limit line = take (limit + 1) line

-- of these bytes the first line was given, and what stands behind its line feed is left
pub record GivesLine (limit : ℕ) (old new line : List ℕ) : Type 0 where
  pub whole : List ℕ
  pub clean : All (λ b. b ≢ 10) whole
  pub split : old ≡ whole ++ 10 ∷ new
  pub cut : line ≡ given limit whole
