-- What words choose, as the code holds it.
use Rattle.std.specs.Prelude.{◌≡◌, ℕ, true, List, map, Option, Some, None, option_copied, String, string_bytes}
use Rattle.std.specs.Borrow.{Bor}
use Rattle.std.specs.List.{after_first, before_first, list_any}
use Rattle.command_words.specs.declared.choice.Choice.{Choice}
use Rattle.command_words.specs.Words.{Chosen, is_equals_sign, read}

abbrev pub chosen_of : Choice → Chosen
chosen_of choice = record {
  fuel = choice.fuel;
  boundary = option_copied choice.boundary;
  url = option_copied choice.url;
  trace = choice.trace;
  make = choice.make;
}

-- with the words that are left
abbrev pub read_on : {A : Type 0} → Option (Choice × Bor (List (String A))) → Option Chosen
read_on None = None
read_on (Some (choice, left)) = read (map (λ w. string_bytes w) left.now) (chosen_of choice)

-- a word has a `=`, and these stand before the first one and behind it
pub record Splits (word name value : List ℕ) : Type 0 where
  pub has_sign : list_any is_equals_sign word ≡ true
  pub before : name ≡ before_first is_equals_sign word
  pub behind : value ≡ after_first is_equals_sign word
