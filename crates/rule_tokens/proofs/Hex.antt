-- A number of fewer than six hexadecimal digits.
use Rattle.std.proofs.Common.{ℕ, zero, suc, ◌<◌, ◌^◌, arith}

pub below_six : (i n : ℕ) → i < 6 → n < 16 ^ i → n < 16 ^ 5
below_six zero n lt fits = omega arith
below_six (suc zero) n lt fits = omega arith
below_six (suc (suc zero)) n lt fits = omega arith
below_six (suc (suc (suc zero))) n lt fits = omega arith
below_six (suc (suc (suc (suc zero)))) n lt fits = omega arith
below_six (suc (suc (suc (suc (suc zero))))) n lt fits = omega arith
below_six (suc (suc (suc (suc (suc (suc i)))))) n lt fits = absurd (omega arith)
