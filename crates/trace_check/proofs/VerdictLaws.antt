-- Lines have one verdict.
use Rattle.std.proofs.Common.{◌≡◌, inl, inr, ◌<◌, ◌≤◌, ◌+◌, ℕ, zero, suc, List, [], ◌∷◌, ◌++◌, take, drop, length, Result, Ok, Err, refl, ap, sym, subst, ◌∙◌}
use Rattle.std.proofs.Common.{arith}
use Rattle.std.specs.Prelude.{IfOk}
use Rattle.std.proofs.lemmas.Bool.{cases_lt}
use Rattle.std.proofs.lemmas.List.{take-append-drop}
use Rattle.ce_base.specs.declared.memory.NoMemory.{NoMemory}
use Rattle.trace_check.specs.Traces.{AreLawful}
use Rattle.trace_check.specs.Verdict.{BreaksAt, IsVerdict}
use Rattle.trace_check.specs.declared.verdict.Verdict.{Verdict}
use Rattle.trace_check.specs.declared.verdict.Verdict.TheVariants.{Yes, No}

-- each front of the lines of a lawful log is so
abbrev pub EachFront : Type 0
EachFront = (front rest : List (List ℕ)) → AreLawful (front ++ rest) → AreLawful front

-- a shorter front is a front of a longer one
record IsFrontOf (front all : List (List ℕ)) : Type 0 where
  rest : List (List ℕ)
  split : all ≡ front ++ rest

front_of_front : (k n : ℕ) (lines : List (List ℕ)) → k ≤ n → IsFrontOf (take k lines) (take n lines)
front_of_front zero n lines le = record { rest = take n lines; split = refl }
front_of_front (suc k) zero lines le = absurd (omega arith)
front_of_front (suc k) (suc n) [] le = record { rest = []; split = refl }
front_of_front (suc k) (suc n) (line ∷ lines) le =
    let is = front_of_front k n lines (omega arith) in
    record { rest = is.rest; split = ap (λ (l : List (List ℕ)). line ∷ l) is.split }

shorter : EachFront → (lines : List (List ℕ)) (k n : ℕ) → k ≤ n → AreLawful (take n lines) → AreLawful (take k lines)
shorter each lines k n le are =
    let is = front_of_front k n lines le in
    each (take k lines) is.rest (subst AreLawful is.split are)

-- lawful lines break nowhere
lawful_unbroken : EachFront → (lines : List (List ℕ)) (n : ℕ) → AreLawful lines → BreaksAt n lines → ⊥
lawful_unbroken each lines n are breaks =
    breaks.with_it (each (take (breaks.before + 1) lines) (drop (breaks.before + 1) lines)
    (subst AreLawful (sym (take-append-drop (breaks.before + 1) lines)) are))

-- a break is not behind another
not_behind : EachFront → (lines : List (List ℕ)) (m n : ℕ) (first : BreaksAt m lines) (second : BreaksAt n lines) → first.before < second.before → ⊥
not_behind each lines m n first second lt = first.with_it (shorter each lines (first.before + 1) second.before (omega arith) second.lawful)

one_break : EachFront → (lines : List (List ℕ)) (m n : ℕ) → BreaksAt m lines → BreaksAt n lines → m ≡ n
one_break each lines m n first second = elim (cases_lt first.before second.before) [
  | inl lt ↦ absurd (not_behind each lines m n first second lt)
  | inr le ↦ elim (cases_lt second.before first.before) [
    | inl lt ↦ absurd (not_behind each lines n m second first lt)
    | inr ge ↦ omega (arith, first.number_is, second.number_is)
  ]
]

pub one_verdict : EachFront → (lines : List (List ℕ)) (v w : Verdict) → IsVerdict v lines → IsVerdict w lines → v ≡ w
one_verdict each lines (Yes n) (Yes m) a b = ap Yes (a.0 ∙ sym b.0)
one_verdict each lines (Yes n) (No m) a b = absurd (lawful_unbroken each lines m a.1 b)
one_verdict each lines (No n) (Yes m) a b = absurd (lawful_unbroken each lines n b.1 a)
one_verdict each lines (No n) (No m) a b = ap No (one_break each lines n m a b)

-- so the verdict that is found is the one that holds
abbrev pub OneVerdict : Type 0
OneVerdict = (lines : List (List ℕ)) (v w : Verdict) → IsVerdict v lines → IsVerdict w lines → v ≡ w

pub found_yes : OneVerdict → (lines : List (List ℕ)) (r : Result Verdict NoMemory) → IfOk r (λ v. IsVerdict v lines) → AreLawful lines
    → IfOk r (λ v. v ≡ Yes (length lines))
found_yes one lines (Ok v) is are = one lines v (Yes (length lines)) is (refl, are)
found_yes one lines (Err refused) is are = tt

pub found_no : OneVerdict → (lines : List (List ℕ)) (r : Result Verdict NoMemory) → IfOk r (λ v. IsVerdict v lines) → (n : ℕ) → BreaksAt n lines
    → IfOk r (λ v. v ≡ No n)
found_no one lines (Ok v) is n breaks = one lines v (No n) is breaks
found_no one lines (Err refused) is n breaks = tt
