-- A line without tokens.
use Rattle.std.proofs.Common.{◌≡◌, ℕ, List, [], ◌∷◌, refl}
use Rattle.rule_tokens.specs.declared.token.Token.{Token}
use Rattle.rule_tokens.specs.Spaced.{as_line, spaced}

-- what begins with no space has no tokens
pub no_tokens : (ts : List Token) → ((rest : List ℕ) → spaced ts ≡ 32 ∷ rest → ⊥) → as_line ts ≡ []
no_tokens [] unlike = refl
no_tokens (t ∷ ts) unlike = absurd (unlike _ refl)
