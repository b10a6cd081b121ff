-- Counts of faults, where each fault that is counted is told.
use Rattle.std.proofs.Common.{◌≡◌, ◌<◌, ◌≤◌, ℕ, arith}
use Rattle.std.specs.Prelude.{Ok, Err}
use Rattle.ce_base.specs.declared.outside.Got.TheVariants.{Bytes, Failed}

-- the count has not risen where the call went well
pub unrisen : {T E : Type 0} (x : T) (e : E) (before now : ℕ) → (before < now → Ok x ≡ Err e) → now ≤ before
unrisen x e before now told =
    let none : before < now → ⊥ = λ rose. let failed = told rose in cc in
    omega (arith, none)

-- nor where a read gave bytes
pub no_bytes_where_it_rose : (n before now : ℕ) → (before < now → Bytes n ≡ Failed) → now ≤ before
no_bytes_where_it_rose n before now told =
    let none : before < now → ⊥ = λ rose. let failed = told rose in cc in
    omega (arith, none)
