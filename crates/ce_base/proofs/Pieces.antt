-- A source that is read piece by piece.
use Rattle.std.proofs.Common.{ℕ, ◌≤◌, List, [], length, length-append, append-nil, ap, subst, arith, Some, None}
use Rattle.std.proofs.KnownBytes.{Consumes-trans}
use Rattle.std.specs.Io.KnownBytes.{Consumes}
use Rattle.std.specs.declared.option.Option.{Option}

-- a read took nothing
pub took_no_more : (old mid new : Option (List ℕ)) (taken : List ℕ) → Consumes old mid taken → Consumes mid new [] → Consumes old new taken
took_no_more old mid new taken before none =
    let P : List ℕ → Type 0 = λ l. Consumes old new l in
    subst P (append-nil taken) (Consumes-trans old mid new taken [] before none)

-- no more is taken than there is
pub took_within : (bytes : List ℕ) (left : Option (List ℕ)) (taken : List ℕ) → Consumes (Some bytes) left taken → length taken ≤ length bytes
took_within bytes None taken took = absurd took
took_within bytes (Some rest) taken took = omega (arith, ap length took, length-append taken rest)
