-- Cases on the value of a test, and on an optional number.
use Rattle.std.proofs.Common.{◌≡◌, ℕ, Bool, true, false, Option, Some, None, refl}

pub by_test : {A : Type 0} (b : Bool) → (b ≡ true → A) → (b ≡ false → A) → A
by_test true f g = f refl
by_test false f g = g refl

pub by_option : {A : Type 0} (o : Option ℕ) → (o ≡ None → A) → ((q : ℕ) → o ≡ Some q → A) → A
by_option None f g = f refl
by_option (Some q) f g = g q refl
