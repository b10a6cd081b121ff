-- Stacks side by side.
use Rattle.std.proofs.Common.{◌≡◌, ◌+◌, ◌≤◌, ◌<◌, ℕ, zero, suc, List, [], ◌∷◌, ◌++◌, Option, Some, None, length, get_or, refl, ap, sym, ◌∙◌, arith}
use Rattle.std.specs.Prelude.{slice_set}
use Rattle.std.proofs.lemmas.List.{get_or-set_same, length-set, set-get_or}
use Rattle.std.proofs.lemmas.Option.{slice_get-get_or}
use Rattle.construction.specs.Stacks.{grown, marked, or_no_entries, pushed, stack_of, with_marker, with_stack}

-- the stack in a place
stack_of-read : (d : ℕ) (stacks : List (List (Option ℕ))) (s : List (Option ℕ)) → d < length stacks → s ≡ get_or stacks d s → stack_of d stacks ≡ s
stack_of-read d stacks s lt read = ap or_no_entries (slice_get-get_or stacks d s lt) ∙ sym read

-- a stack given anew
stack_of-same : (d : ℕ) (s : List (Option ℕ)) (stacks : List (List (Option ℕ))) → d < length stacks → stack_of d (with_stack d s stacks) ≡ s
stack_of-same d s stacks lt =
    stack_of-read d (with_stack d s stacks) s (omega (arith, length-set stacks d s)) (sym (get_or-set_same stacks d s s lt))

-- the others stay
pub stack_of-others : (e d : ℕ) (s : List (Option ℕ)) (stacks : List (List (Option ℕ))) → ¬ (e ≡ d) → stack_of e (with_stack d s stacks) ≡ stack_of e stacks
stack_of-others e d s [] other = refl
stack_of-others zero zero s (t ∷ stacks) other = absurd (other refl)
stack_of-others zero (suc d) s (t ∷ stacks) other = refl
stack_of-others (suc e) zero s (t ∷ stacks) other = refl
stack_of-others (suc e) (suc d) s (t ∷ stacks) other = stack_of-others e d s stacks (λ same. other (ap suc same))

-- empty stacks more

pub grown-push : (count : ℕ) (stacks : List (List (Option ℕ))) → length stacks < count → grown count (stacks ++ [] ∷ []) ≡ grown count stacks
grown-push zero stacks lt = absurd (omega arith)
grown-push (suc count) [] lt = refl
grown-push (suc count) (s ∷ stacks) lt = ap (λ rest. s ∷ rest) (grown-push count stacks (omega arith))

pub grown-all : (count : ℕ) (stacks : List (List (Option ℕ))) → count ≤ length stacks → grown count stacks ≡ stacks
grown-all zero stacks le = refl
grown-all (suc count) [] le = absurd (omega arith)
grown-all (suc count) (s ∷ stacks) le = ap (λ rest. s ∷ rest) (grown-all count stacks (omega arith))

stack_of-grown : (e count : ℕ) (stacks : List (List (Option ℕ))) → stack_of e (grown count stacks) ≡ stack_of e stacks
stack_of-grown e zero stacks = refl
stack_of-grown zero (suc count) [] = refl
stack_of-grown (suc e) (suc count) [] = stack_of-grown e count []
stack_of-grown zero (suc count) (s ∷ stacks) = refl
stack_of-grown (suc e) (suc count) (s ∷ stacks) = stack_of-grown e count stacks

pub stack_of-push : (e : ℕ) (stacks : List (List (Option ℕ))) → stack_of e (stacks ++ [] ∷ []) ≡ stack_of e stacks
stack_of-push zero [] = refl
stack_of-push (suc e) [] = refl
stack_of-push zero (s ∷ stacks) = refl
stack_of-push (suc e) (s ∷ stacks) = stack_of-push e stacks

-- the stack in a place of more stacks is changed: s becomes t

module _ (d : ℕ) (old more : List (List (Option ℕ))) (s t : List (Option ℕ)) (lt : d < length more) (grows : more ≡ grown (d + 1) old)
    (read : s ≡ get_or more d s) where
  was : s ≡ stack_of d old
  was = sym (stack_of-read d more s lt read) ∙ ap (stack_of d) grows ∙ stack_of-grown d (d + 1) old

  pub pushes : (n : ℕ) → t ≡ Some n ∷ s → slice_set more d t ≡ pushed d n old
  pushes n is = ap (slice_set more d) (is ∙ ap (λ rest. Some n ∷ rest) was) ∙ ap (with_stack d (Some n ∷ stack_of d old)) grows

  pub pushes-stack : (n : ℕ) → t ≡ Some n ∷ s → stack_of d (slice_set more d t) ≡ Some n ∷ stack_of d old
  pushes-stack n is = stack_of-same d t more lt ∙ is ∙ ap (λ rest. Some n ∷ rest) was

  pub pushes-others : (e : ℕ) → ¬ (e ≡ d) → stack_of e (slice_set more d t) ≡ stack_of e old
  pushes-others e other = stack_of-others e d t more other ∙ ap (stack_of e) grows ∙ stack_of-grown e (d + 1) old

-- a stack that stays, given anew in its place
pub stays : (old more : List (List (Option ℕ))) (d : ℕ) (s t : List (Option ℕ)) → s ≡ get_or more d s → t ≡ s → ((e : ℕ) → stack_of e more ≡ stack_of e old)
    → (e : ℕ) → stack_of e (slice_set more d t) ≡ stack_of e old
stays old more d s t read is same e =
    ap (stack_of e) (ap (slice_set more d) (is ∙ read) ∙ set-get_or more d s) ∙ same e

-- a stack that is changed in its place: s becomes t

pub read-of : (d : ℕ) (stacks : List (List (Option ℕ))) (s : List (Option ℕ)) → d < length stacks → s ≡ get_or stacks d s → s ≡ stack_of d stacks
read-of d stacks s lt read = sym (stack_of-read d stacks s lt read)

module _ (change : List (Option ℕ) → List (Option ℕ)) (d : ℕ) (stacks : List (List (Option ℕ))) (s t : List (Option ℕ)) (lt : d < length stacks)
    (read : s ≡ get_or stacks d s) (is : t ≡ change s) where
  pub changes : slice_set stacks d t ≡ with_stack d (change (stack_of d stacks)) stacks
  changes = ap (slice_set stacks d) (is ∙ ap change (read-of d stacks s lt read))

  pub changes-stack : stack_of d (slice_set stacks d t) ≡ change (stack_of d stacks)
  changes-stack = stack_of-same d t stacks lt ∙ is ∙ ap change (read-of d stacks s lt read)

-- the marker takes the place of an element that stands last in a stack
pub marks : (d : ℕ) (stacks : List (List (Option ℕ))) (s t : List (Option ℕ)) → d < length stacks → s ≡ get_or stacks d s → t ≡ marked s
    → slice_set stacks d t ≡ with_marker d (stack_of d stacks) stacks
marks d stacks s t lt read is = go s read is ∙ ap (λ entries. with_marker d entries stacks) (sym (stack_of-read d stacks s lt read))
  where
    go : (s : List (Option ℕ)) → s ≡ get_or stacks d s → t ≡ marked s → slice_set stacks d t ≡ with_marker d s stacks
    go [] read is = ap (slice_set stacks d) (is ∙ read) ∙ set-get_or stacks d []
    go (None ∷ entries) read is = ap (slice_set stacks d) (is ∙ read) ∙ set-get_or stacks d (None ∷ entries)
    go (Some n ∷ entries) read is = ap (slice_set stacks d) is
