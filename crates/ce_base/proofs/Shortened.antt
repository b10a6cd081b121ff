-- A write that is handed the front of a piece, no longer than it may be, and takes all of it.
use Rattle.std.proofs.Common.{◌≡◌, ◌≤◌, ℕ, List, ◌⊎◌, inl, inr, length, take, take_all, length-take-le, refl, min, arith}
use Rattle.ce_base.specs.Outside.{TakesSome, bytes_put}
use Rattle.ce_base.specs.declared.outside.Put.{Put}
use Rattle.ce_base.specs.declared.outside.Put.TheVariants.{Took, NoMemory}

module _ (piece : List ℕ) (n cut : ℕ) (is : n ≡ min (length piece) cut) (r : Put) where
  -- the front is as long as it may be
  front-long : length (take n piece) ≡ n
  front-long = length-take-le n piece (omega (arith, is))

  pub cut-takes : 1 ≤ cut → (r ≡ Took (length (take n piece))) ⊎ (r ≡ NoMemory) → TakesSome r piece
  cut-takes some (inl e) = rw (e, front-long) (omega (arith, is), λ has. omega (arith, is, some, has))
  cut-takes some (inr e) = rw e tt

  pub cut-short : (most : ℕ) → cut ≡ most → (r ≡ Took (length (take n piece))) ⊎ (r ≡ NoMemory) → (r ≡ Took (min (length piece) most)) ⊎ (r ≡ NoMemory)
  cut-short most same (inl e) = inl (rw (← same, ← is, e, front-long) refl)
  cut-short most same (inr e) = inr e

  pub cut-bytes : (r ≡ Took (length (take n piece))) ⊎ (r ≡ NoMemory) → bytes_put r (take n piece) ≡ bytes_put r piece
  cut-bytes (inl e) = rw (e, front-long) (take_all n (take n piece) (omega (arith, front-long)))
  cut-bytes (inr e) = rw e refl
