-- Which elements are form-associated custom ones, where the rows and the definitions of a page change.
use Rattle.std.proofs.Common.{◌≡◌, ◌≢◌, ℕ, zero, suc, ◌+◌, ◌-◌, ◌<◌, ◌==◌, Bool, true, false, not, ◌&&◌, ◌||◌, cond, List, [], ◌∷◌, ◌++◌, length, Option}
use Rattle.std.proofs.Common.{Some, None, refl, sym, ap, ◌∙◌, subst, inl, inr, arith, length-append}
use Rattle.std.specs.Prelude.{filter, slice_get}
use Rattle.std.specs.List.{range_with_len}
use Rattle.std.specs.Option.{option_and_then}
use Rattle.std.proofs.lemmas.Bool.{cases_eq}
use Rattle.std.proofs.lemmas.Bool.Decides.{nat_tests}
use Rattle.std.proofs.lemmas.List.{length-set}
use Rattle.ce_base.proofs.Places.{slice_get-append_front}
use Rattle.node_trees.specs.Paths.{is_among}
use Rattle.node_trees.proofs.Absent.{is_among-filter}
use Rattle.ce_registry.specs.declared.definition.Definition.{Definition}
use Rattle.form_owner.specs.Touches.{with_associated}
use Rattle.form_owner.proofs.Rows.{filter-members, range-more}
use Rattle.ce_algorithms.specs.Page.{Element, uncustomized}
use Rattle.ce_algorithms.specs.Forms.{associated_in, is_associated_in, is_form_associated}
use Rattle.telling_law.proofs.Differences.{range-among}
use Rattle.ce_page.specs.Rows.{definition_in, redefined}
use Rattle.ce_page.proofs.RowLemmas.{definition_in-new, definition_in-other}

-- it goes by the definition in the element's row

abbrev associated_by : List Definition → Option ℕ → Bool
associated_by definitions d = is_form_associated (option_and_then (slice_get definitions) d)

pub same_rows : (definitions : List Definition) (old new : List Element) → length new ≡ length old → ((i : ℕ) → definition_in new i ≡ definition_in old i)
    → associated_in new definitions ≡ associated_in old definitions
same_rows definitions old new long same =
    ap (λ n. filter (is_associated_in new definitions) (range_with_len 1 n)) long
    ∙ filter-members (is_associated_in new definitions) (is_associated_in old definitions) (range_with_len 1 (length old))
    (λ n _. ap (associated_by definitions) (same (n - 1)))

-- a row put behind the others

past : (elements : List Element) → definition_in elements (length elements) ≡ None
past [] = refl
past (e ∷ elements) = past elements

filter-last : (p : ℕ → Bool) (xs : List ℕ) (x : ℕ) → p x ≡ false → filter p (xs ++ x ∷ []) ≡ filter p xs
filter-last p [] x other = ap (λ b. cond b (x ∷ []) []) other
filter-last p (y ∷ ys) x other = ap (λ v. cond (p y) (y ∷ v) v) (filter-last p ys x other)

pub row_behind : (definitions : List Definition) (elements : List Element)
    → associated_in (elements ++ uncustomized ∷ []) definitions ≡ associated_in elements definitions
row_behind definitions elements =
    ap (λ n. filter (is_associated_in (elements ++ uncustomized ∷ []) definitions) (range_with_len 1 n)) (length-append elements (uncustomized ∷ []))
    ∙ filter-members (is_associated_in (elements ++ uncustomized ∷ []) definitions) (is_associated_in elements definitions)
    (range_with_len 1 (length elements + 1)) (λ n _. ap (associated_by definitions) (definition_in-new elements (n - 1)))
    ∙ ap (filter (is_associated_in elements definitions)) (range-more 1 (length elements))
    ∙ filter-last (is_associated_in elements definitions) (range_with_len 1 (length elements)) (1 + length elements) none
  where
    place : 1 + length elements - 1 ≡ length elements
    place = omega arith

    none : is_associated_in elements definitions (1 + length elements) ≡ false
    none = ap (λ i. associated_by definitions (definition_in elements i)) place ∙ ap (associated_by definitions) (past elements)

-- a definition put behind the others

pub definition_behind : (definitions : List Definition) (x : Definition) (elements : List Element)
    → ((i d : ℕ) → definition_in elements i ≡ Some d → d < length definitions)
    → associated_in elements (definitions ++ x ∷ []) ≡ associated_in elements definitions
definition_behind definitions x elements given =
    filter-members (is_associated_in elements (definitions ++ x ∷ [])) (is_associated_in elements definitions) (range_with_len 1 (length elements))
    (λ n _. by_definition (n - 1) (definition_in elements (n - 1)) refl)
  where
    by_definition : (i : ℕ) (d : Option ℕ) → definition_in elements i ≡ d → associated_by (definitions ++ x ∷ []) d ≡ associated_by definitions d
    by_definition i None is = refl
    by_definition i (Some d) is = ap is_form_associated (slice_get-append_front definitions (x ∷ []) d (given i d is))

-- numbers that are among others

among_below : (a n m : ℕ) → m < a → is_among m (range_with_len a n) ≡ false
among_below a zero m lt = refl
among_below a (suc n) m lt =
    let other : (a == m) ≡ false = grind (arith, nat_tests) in
    ap (λ v. v || is_among m (range_with_len (a + 1) n)) other ∙ among_below (a + 1) n m (omega (arith, lt))

-- a row past the others is none of a form-associated custom element
has_row : (definitions : List Definition) (elements : List Element) (i : ℕ) → associated_by definitions (definition_in elements i) ≡ true → i < length elements
has_row definitions [] i is = absurd (differ is)
  where
    differ : false ≡ true → ⊥
    differ e = cc
has_row definitions (e ∷ elements) zero is = omega arith
has_row definitions (e ∷ elements) (suc i) is = let h = has_row definitions elements i is in omega (arith, h)

-- a node is among them where its row says so
pub is_associated_at : (definitions : List Definition) (elements : List Element) (n : ℕ) → 0 < n
    → is_among n (associated_in elements definitions) ≡ is_associated_in elements definitions n
is_associated_at definitions elements n low =
    is_among-filter (is_associated_in elements definitions) n (range_with_len 1 (length elements)) ∙ by_test (is_associated_in elements definitions n) refl
  where
    by_test : (b : Bool) → is_associated_in elements definitions n ≡ b → (b && is_among n (range_with_len 1 (length elements))) ≡ b
    by_test false is = refl
    by_test true is = let lt = has_row definitions elements (n - 1) is in range-among 1 (length elements) n (omega (arith, low)) (omega (arith, lt, low))

-- the row of n given another definition, or none

module _ (definitions : List Definition) (elements : List Element) (n : ℕ) (d : Option ℕ) (low : 0 < n) where
  abbrev now : ℕ → Bool
  now = is_associated_in (redefined elements n d) definitions

  abbrev before : ℕ → Bool
  before = is_associated_in elements definitions

  abbrev numbers : List ℕ
  numbers = range_with_len 1 (length elements)

  long : length (redefined elements n d) ≡ length elements
  long = length-set elements (n - 1) _

  elsewhere : (m : ℕ) → 0 < m → n ≢ m → now m ≡ before m
  elsewhere m above apart = ap (associated_by definitions) (definition_in-other elements (n - 1) (m - 1) _ (λ e. apart (omega (arith, e, low, above))))

  listed : (m : ℕ) → is_among m (associated_in (redefined elements n d) definitions) ≡ (now m && is_among m numbers)
  listed m = is_among-filter now m (range_with_len 1 (length (redefined elements n d))) ∙ ap (λ k. now m && is_among m (range_with_len 1 k)) long

  there : now n ≡ true → is_among n numbers ≡ true
  there on = let lt = has_row definitions (redefined elements n d) (n - 1) on in
      range-among 1 (length elements) n (omega (arith, low)) (omega (arith, lt, low, long))

  apart_stays : (m : ℕ) → n ≢ m → (now m && is_among m numbers) ≡ (before m && is_among m numbers)
  apart_stays zero apart =
      let none : is_among 0 numbers ≡ false = among_below 1 (length elements) 0 (omega arith) in
      ap (λ v. now 0 && v) none ∙ nothing (now 0) (before 0) ∙ sym (ap (λ v. before 0 && v) none)
    where
      nothing : (a b : Bool) → (a && false) ≡ (b && false)
      nothing true true = refl
      nothing true false = refl
      nothing false true = refl
      nothing false false = refl
  apart_stays (suc m) apart = ap (λ v. v && is_among (suc m) numbers) (elsewhere (suc m) (omega arith) apart)

  marked : (on : Bool) → on ≡ now n → (m : ℕ) → is_among m (with_associated n on (associated_in elements definitions)) ≡ (now m && is_among m numbers)
  marked true is m = elim (cases_eq n m) [
    | inl e ↦
        let here : (n == m) ≡ true = grind (arith, nat_tests) in
        ap (λ v. v || is_among m (associated_in elements definitions)) here
        ∙ subst (λ k. true ≡ (now k && is_among k numbers)) e (sym (ap (λ v. v && is_among n numbers) (sym is) ∙ there (sym is)))
    | inr ne ↦
        let other : (n == m) ≡ false = grind (arith, nat_tests) in
        ap (λ v. v || is_among m (associated_in elements definitions)) other ∙ is_among-filter before m numbers ∙ sym (apart_stays m ne)
  ]
  marked false is m = is_among-filter (λ k. not (k == n)) m (associated_in elements definitions) ∙ elim (cases_eq n m) [
    | inl e ↦
        let here : (m == n) ≡ true = grind (arith, nat_tests) in
        ap (λ v. not v && is_among m (associated_in elements definitions)) here
        ∙ subst (λ k. false ≡ (now k && is_among k numbers)) e (sym (ap (λ v. v && is_among n numbers) (sym is)))
    | inr ne ↦
        let other : (m == n) ≡ false = grind (arith, nat_tests) in
        ap (λ v. not v && is_among m (associated_in elements definitions)) other ∙ is_among-filter before m numbers ∙ sym (apart_stays m ne)
  ]

  -- which are form-associated, as the owner table has it
  pub redefined_members : (on : Bool) → on ≡ now n → (m : ℕ)
      → is_among m (associated_in (redefined elements n d) definitions) ≡ is_among m (with_associated n on (associated_in elements definitions))
  redefined_members on is m = listed m ∙ sym (marked on is m)
