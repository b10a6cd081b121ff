-- Where a word has a `=`.
use Rattle.std.proofs.Common.{◌≡◌, ◌<◌, ℕ, true, false, List, length, Some, None, Bor, MatchOption, arith}
use Rattle.std.proofs.lemmas.List.Elements.{All-from_get_or}
use Rattle.std.proofs.lemmas.List.Folds.{list_any_at, list_any_none}
use Rattle.std.proofs.lemmas.List.Sums.{fails_before_first, passes_at_first}
use Rattle.std.specs.List.{after_first, before_first, list_any, position_or_len}
use Rattle.std.specs.Prelude.{Option}
use Rattle.command_words.specs.Choices.{Splits}
use Rattle.command_words.specs.Words.{is_equals_sign}

lacks_sign : (word : List ℕ) → position_or_len is_equals_sign word ≡ length word → list_any is_equals_sign word ≡ false
lacks_sign word end = list_any_none is_equals_sign word
    (All-from_get_or (λ b. is_equals_sign b ≡ false) word 0 (λ i within. fails_before_first is_equals_sign word i 0 (omega (arith, end))))

has_sign : (word : List ℕ) → position_or_len is_equals_sign word < length word → list_any is_equals_sign word ≡ true
has_sign word within = list_any_at is_equals_sign word (position_or_len is_equals_sign word) 0 within (passes_at_first is_equals_sign word 0 within)

-- a word is cut at its first `=`
pub splits : (word : List ℕ) (r : Option (Bor (List ℕ) × Bor (List ℕ))) →
    MatchOption r (position_or_len is_equals_sign word ≡ length word)
    (λ x. (position_or_len is_equals_sign word < length word) × (x.0.now ≡ before_first is_equals_sign word) × (x.1.now ≡ after_first is_equals_sign word))
    →
    MatchOption r (list_any is_equals_sign word ≡ false) (λ parts. Splits word parts.0.now parts.1.now)
splits word None end = lacks_sign word end
splits word (Some parts) (within, before, behind) = record { has_sign = has_sign word within; before = before; behind = behind }
