-- A test of UTF-8 against the fact that it tests, and a byte that is a text.
use Rattle.std.proofs.Common.{◌≡◌, ◌<◌, ℕ, false, List, [], ◌∷◌}
use Rattle.std.specs.Str.{IsUtf8, is_utf8}
use Rattle.std.proofs.lemmas.Bool.{false_from_ne_true}
use Rattle.std.proofs.lemmas.Str.{is_utf8-from_IsUtf8, IsUtf8-from_is_utf8, IsUtf8-from_ascii}
use Rattle.std.proofs.lemmas.Str.Ascii.{IsAscii-cons, IsAscii-nil}

pub is_utf8-from_not : (bytes : List ℕ) → (IsUtf8 bytes → ⊥) → is_utf8 bytes ≡ false
is_utf8-from_not bytes hn = false_from_ne_true (is_utf8 bytes) (λ e. hn (IsUtf8-from_is_utf8 bytes e))

pub ruleset utf8_tests = (is_utf8-from_IsUtf8, is_utf8-from_not)

pub IsUtf8-ascii : (b : ℕ) → b < 128 → IsUtf8 (b ∷ [])
IsUtf8-ascii b low = IsUtf8-from_ascii (b ∷ []) (IsAscii-cons b [] low IsAscii-nil)
