-- Bytes without a line feed: they end no line.
use Rattle.std.proofs.Common.{◌≡◌, ◌≢◌, ℕ, false, ◌==◌, List, [], ◌∷◌, ◌++◌, sym, ap, ◌∙◌, append_assoc, append-nil, arith}
use Rattle.std.specs.List.{AllByRecursion}
use Rattle.std.proofs.lemmas.Grind.{common_steps}
use Rattle.ce_algorithms.specs.Lines.{whole_from, part_from}

-- no line feed is among the bytes
abbrev pub NoFeed : List ℕ → Type 0
NoFeed = AllByRecursion (λ b. b ≢ 10)

pub not_feed : (b : ℕ) → b ≢ 10 → (b == 10) ≡ false
not_feed b h = grind (arith, common_steps)

-- bytes without a line feed go onto the part before
pub whole_from-no_feed : (p q b : List ℕ) → NoFeed q → whole_from p (q ++ b) ≡ whole_from (p ++ q) b
whole_from-no_feed p [] b h = ap (λ l. whole_from l b) (sym (append-nil p))
whole_from-no_feed p (x ∷ q) b h =
    rw (not_feed x h.0) (whole_from-no_feed (p ++ x ∷ []) q b h.1 ∙ ap (λ l. whole_from l b) (append_assoc p (x ∷ []) q))

pub part_from-no_feed : (p q b : List ℕ) → NoFeed q → part_from p (q ++ b) ≡ part_from (p ++ q) b
part_from-no_feed p [] b h = ap (λ l. part_from l b) (sym (append-nil p))
part_from-no_feed p (x ∷ q) b h =
    rw (not_feed x h.0) (part_from-no_feed (p ++ x ∷ []) q b h.1 ∙ ap (λ l. part_from l b) (append_assoc p (x ∷ []) q))
