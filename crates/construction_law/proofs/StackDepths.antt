-- How deep construction stacks are: where one is given anew, and behind a push and the pop that takes it back.
use Rattle.std.proofs.Common.{◌≡◌, ℕ, zero, suc, ◌+◌, ◌≤◌, List, [], ◌∷◌, length, Option, Some, refl, ap, ◌∙◌, arith}
use Rattle.construction.specs.Stacks.{stack_of, with_stack, grown, pushed, popped}

abbrev pub Stacks : Type 0
Stacks = List (List (Option ℕ))

-- how many entries the construction stack of a definition has
abbrev pub deep : ℕ → Stacks → ℕ
deep d stacks = length (stack_of d stacks)

-- each stack has as many entries as this says for its definition
abbrev pub AreDeep : (ℕ → ℕ) → Stacks → Type 0
AreDeep depths stacks = (d : ℕ) → deep d stacks ≡ depths d

-- a stack is given anew, as deep as it was
pub given_anew : (e d : ℕ) (entries : List (Option ℕ)) (stacks : Stacks) → length entries ≡ deep d stacks → deep e (with_stack d entries stacks) ≡ deep e stacks
given_anew e d entries [] same = refl
given_anew zero zero entries (s ∷ stacks) same = same
given_anew zero (suc d) entries (s ∷ stacks) same = refl
given_anew (suc e) zero entries (s ∷ stacks) same = refl
given_anew (suc e) (suc d) entries (s ∷ stacks) same = given_anew e d entries stacks same

-- one at the definition itself, and nothing at the others
abbrev one_at : ℕ → ℕ → ℕ
one_at zero zero = 1
one_at zero (suc e) = 0
one_at (suc d) zero = 0
one_at (suc d) (suc e) = one_at d e

-- one entry more for a definition
abbrev pub one_more : ℕ → (ℕ → ℕ) → ℕ → ℕ
one_more d depths e = one_at d e + depths e

-- a push, where the stacks have grown up to its place
pushed_on : (d e n : ℕ) (stacks : Stacks) → deep e (with_stack d (Some n ∷ stack_of d stacks) (grown (suc d) stacks)) ≡ one_at d e + deep e stacks
pushed_on zero zero n [] = omega arith
pushed_on zero zero n (s ∷ stacks) = omega arith
pushed_on zero (suc e) n [] = omega arith
pushed_on zero (suc e) n (s ∷ stacks) = omega arith
pushed_on (suc d) zero n [] = omega arith
pushed_on (suc d) zero n (s ∷ stacks) = omega arith
pushed_on (suc d) (suc e) n [] = pushed_on d e n []
pushed_on (suc d) (suc e) n (s ∷ stacks) = pushed_on d e n stacks

pub push_deepens : (d n : ℕ) (depths : ℕ → ℕ) (stacks : Stacks) → AreDeep depths stacks → AreDeep (one_more d depths) (pushed d n stacks)
push_deepens d n depths stacks h e =
    let place : d + 1 ≡ suc d = omega arith in
    ap (λ k. deep e (with_stack d (Some n ∷ stack_of d stacks) (grown k stacks))) place ∙ pushed_on d e n stacks ∙ ap (λ k. one_at d e + k) (h e)

-- a pop, where there is an entry
popped_from : (d e : ℕ) (stacks : Stacks) → one_at d e ≤ deep e stacks → one_at d e + deep e (popped d stacks) ≡ deep e stacks
popped_from d e [] some = omega arith
popped_from zero zero ([] ∷ stacks) some = absurd (omega arith)
popped_from zero zero ((entry ∷ entries) ∷ stacks) some = omega arith
popped_from zero (suc e) (s ∷ stacks) some = omega arith
popped_from (suc d) zero (s ∷ stacks) some = omega arith
popped_from (suc d) (suc e) (s ∷ stacks) some = popped_from d e stacks some

pub pop_takes_back : (d : ℕ) (depths : ℕ → ℕ) (stacks : Stacks) → AreDeep (one_more d depths) stacks → AreDeep depths (popped d stacks)
pop_takes_back d depths stacks h e =
    let more = h e in
    let less = popped_from d e stacks (omega (arith, more)) in
    omega (arith, more, less)
