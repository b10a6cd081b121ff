-- Bytes cut at a byte, and bytes in which it stands nowhere.
use Rattle.std.proofs.Common.{◌≡◌, ℕ, Bool, true, false, cond, List, [], ◌∷◌, ◌++◌, Option, Some, None, refl, ap, arith, ◌≢◌}
use Rattle.std.proofs.lemmas.Bool.{eqb-true, ne_eqb, eqb-false}
use Rattle.std.proofs.lemmas.List.Elements.{All-from_recursion, recursion_from_All}
use Rattle.std.specs.List.{AllByRecursion}
use Rattle.std.specs.Prelude.{nat_eq}
use Rattle.body_grammars.specs.Bodies.{HasNo}
use Rattle.body_grammars.specs.Cuts.{behind, cut_at, onto, lacks, no_cut}

abbrev pub Free : ℕ → List ℕ → Type 0
Free c bytes = AllByRecursion (λ b. nat_eq b c ≡ false) bytes

pub free_both : (c : ℕ) (xs ys : List ℕ) → Free c xs → Free c ys → Free c (xs ++ ys)
free_both c [] ys one two = two
free_both c (x ∷ xs) ys one two = (one.0, free_both c xs ys one.1 two)

pub cut_again : (c : ℕ) (before behind : List ℕ) → Free c before → cut_at c (before ++ c ∷ behind) ≡ Some (before, behind)
unfolding cut_at
cut_again c [] behind free = let same : nat_eq c c ≡ true = (grind arith) in rw same refl
cut_again c (b ∷ before) behind free = rw (free.0, cut_again c before behind free.1) refl

abbrev pub Joined : ℕ → List ℕ → Option (List ℕ × List ℕ) → Type 0
Joined c bytes None = Unit {0}
Joined c bytes (Some (before, behind)) = bytes ≡ before ++ c ∷ behind

joined_onto : (c b : ℕ) (bytes : List ℕ) (o : Option (List ℕ × List ℕ)) → Joined c bytes o → Joined c (b ∷ bytes) (onto (b ∷ []) o)
joined_onto c b bytes None joined = tt
joined_onto c b bytes (Some (before, behind)) joined = ap (λ (l : List ℕ). b ∷ l) joined

joined_step : (c b : ℕ) (bytes : List ℕ) (t : Bool) → nat_eq b c ≡ t → Joined c bytes (cut_at c bytes)
    → Joined c (b ∷ bytes) (cond t (Some ([], bytes)) (onto (b ∷ []) (cut_at c bytes)))
joined_step c b bytes true same joined = ap (λ (x : ℕ). x ∷ bytes) (eqb-true b c same)
joined_step c b bytes false differ joined = joined_onto c b bytes (cut_at c bytes) joined

pub cut_joined : (c : ℕ) (bytes : List ℕ) → Joined c bytes (cut_at c bytes)
unfolding cut_at
cut_joined c [] = tt
cut_joined c (b ∷ bytes) = joined_step c b bytes (nat_eq b c) refl (cut_joined c bytes)

-- the byte stands nowhere in the text, by recursion
abbrev NoneIs : ℕ → List ℕ → Type 0
NoneIs c text = AllByRecursion (λ b. b ≢ c) text

none_from_free : (c : ℕ) (text : List ℕ) → Free c text → NoneIs c text
none_from_free c [] free = tt
none_from_free c (b ∷ text) free = (eqb-false b c free.0, none_from_free c text free.1)

free_from_none : (c : ℕ) (text : List ℕ) → NoneIs c text → Free c text
free_from_none c [] none = tt
free_from_none c (b ∷ text) none = (ne_eqb b c none.0, free_from_none c text none.1)

pub no_from_free : (c : ℕ) (text : List ℕ) → Free c text → HasNo c text
no_from_free c text free = All-from_recursion (λ b. b ≢ c) text (none_from_free c text free)

pub free_from_no : (c : ℕ) (text : List ℕ) → HasNo c text → Free c text
free_from_no c text none = free_from_none c text (recursion_from_All (λ b. b ≢ c) text none)

pub free_parts : (c : ℕ) (xs ys : List ℕ) → Free c (xs ++ ys) → Free c xs × Free c ys
free_parts c [] ys free = (tt, free)
free_parts c (x ∷ xs) ys free = let more = free_parts c xs ys free.1 in ((free.0, more.0), more.1)

abbrev pub Before : ℕ → Option (List ℕ × List ℕ) → Type 0
Before c None = Unit {0}
Before c (Some (before, behind)) = Free c before

before_onto : (c b : ℕ) (o : Option (List ℕ × List ℕ)) → nat_eq b c ≡ false → Before c o → Before c (onto (b ∷ []) o)
before_onto c b None differ free = tt
before_onto c b (Some (before, behind)) differ free = (differ, free)

before_step : (c b : ℕ) (bytes : List ℕ) (t : Bool) → nat_eq b c ≡ t → Before c (cut_at c bytes)
    → Before c (cond t (Some ([], bytes)) (onto (b ∷ []) (cut_at c bytes)))
before_step c b bytes true same free = tt
before_step c b bytes false differ free = before_onto c b (cut_at c bytes) differ free

pub cut_before : (c : ℕ) (bytes : List ℕ) → Before c (cut_at c bytes)
unfolding cut_at
cut_before c [] = tt
cut_before c (b ∷ bytes) = before_step c b bytes (nat_eq b c) refl (cut_before c bytes)

cut_none_free : (c : ℕ) (text : List ℕ) → cut_at c text ≡ None → Free c text
unfolding cut_at
cut_none_free c [] is = tt
cut_none_free c (b ∷ text) is = none_step c b text (nat_eq b c) (cut_at c text) refl (cut_none_free c text) refl is
  where
    none_step : (c b : ℕ) (text : List ℕ) (t : Bool) (o : Option (List ℕ × List ℕ)) → nat_eq b c ≡ t → (cut_at c text ≡ None → Free c text) → cut_at c text ≡ o
        → cond t (Some ([], text)) (onto (b ∷ []) o) ≡ None → Free c (b ∷ text)
    none_step c b text true o same more at is = absurd cc
    none_step c b text false None differ more at is = (differ, more at)
    none_step c b text false (Some x) differ more at is = absurd cc

free_cut_none : (c : ℕ) (text : List ℕ) → Free c text → cut_at c text ≡ None
unfolding cut_at
free_cut_none c [] free = refl
free_cut_none c (b ∷ text) free = rw (free.0, free_cut_none c text free.1) refl

pub lacks_free : (c : ℕ) (text : List ℕ) → lacks c text ≡ true → Free c text
lacks_free c text is = cut_none_free c text (no_cut_none (cut_at c text) is)
  where
    no_cut_none : (o : Option (List ℕ × List ℕ)) → no_cut o ≡ true → o ≡ None
    no_cut_none None is = refl
    no_cut_none (Some x) is = absurd cc

pub free_lacks : (c : ℕ) (text : List ℕ) → Free c text → lacks c text ≡ true
free_lacks c text free = ap no_cut (free_cut_none c text free)
