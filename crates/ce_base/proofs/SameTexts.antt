-- Whether two texts are the same.
use Rattle.std.proofs.Common.{◌≡◌, ◌≢◌, true, false, ℕ, List, sym, ◌∙◌, arith}
use Rattle.std.specs.Prelude.{bytes_eq}
use Rattle.std.proofs.lemmas.Slice.Eq.{bytes_eq-Decides}

pub same_text : (a b : List ℕ) → bytes_eq a b ≡ true → a ≡ b
same_text a b e = (bytes_eq-Decides a b).0 e

pub text_same : (a b : List ℕ) → a ≡ b → bytes_eq a b ≡ true
text_same a b e = (bytes_eq-Decides a b).1 e

pub other_text : (a b : List ℕ) → bytes_eq a b ≡ false → a ≢ b
other_text a b is same = let clash : true ≡ false = sym (text_same a b same) ∙ is in cc

pub ruleset text_tests = (same_text, other_text)

pub bytes_sym : (a b : List ℕ) → bytes_eq a b ≡ bytes_eq b a
bytes_sym a b = grind (arith, same_text a b, same_text b a, text_same a b, text_same b a)
