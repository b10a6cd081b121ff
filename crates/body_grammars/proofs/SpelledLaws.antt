-- The text that bytes spell is the one that is read of them.
use Rattle.std.proofs.Common.{◌≡◌, ◌<◌, ℕ, ◌+◌, Bool, true, false, ◌&&◌, cond, List, [], ◌∷◌, ◌++◌, Option, Some, None, refl, sym, ap, subst, arith, inl, inr}
use Rattle.std.proofs.Common.{◌*◌}
use Rattle.std.proofs.lemmas.Bool.{and_parts, ltb-true, eqb-true, lt-ltb, not-true, ne_eqb}
use Rattle.std.specs.Char.{digit_value}
use Rattle.std.specs.Prelude.{nat_lt, nat_eq}
use Rattle.body_grammars.specs.Bodies.{is_bare, IsSpelling, Spells}
use Rattle.body_grammars.specs.Escapes.{bare, escaped, unspell}
use Rattle.body_grammars.specs.Gives.{then_one}
use Rattle.body_grammars.specs.declared.spelled.InEscape.{InEscape}
use Rattle.body_grammars.specs.declared.spelled.InEscape.TheVariants.{Outside, AfterPercent, AfterDigit}
use Rattle.body_grammars.proofs.CutLaws.{Free, free_both}
use Rattle.body_grammars.proofs.GivesLaws.{one_some}

abbrev Said : InEscape → List ℕ → List ℕ → Type 0
Said Outside text bytes = Spells text bytes
Said AfterPercent text bytes = Spells text (37 ∷ bytes)
Said (AfterDigit high) text bytes = Spells text (37 ∷ high ∷ bytes)

bare_spells : (b c : ℕ) (p t : Bool) → is_bare b ≡ t → nat_eq b 43 ≡ p → cond p (Some 32) (cond t (Some b) None) ≡ Some c → IsSpelling c (b ∷ [])
bare_spells b c true t bare plus is = let same : c ≡ 32 = (cc) in inr (inl (same, ap (λ (x : ℕ). x ∷ []) (eqb-true b 43 plus)))
bare_spells b c false true bare plus is = let same : b ≡ c = (cc) in inl (subst (λ (x : ℕ). is_bare x ≡ true) same bare, ap (λ (x : ℕ). x ∷ []) same)
bare_spells b c false false bare plus is = absurd cc

digits_spell : (high low c : ℕ) (t : Bool) → (nat_lt (digit_value high) 16 && nat_lt (digit_value low) 16) ≡ t
    → cond t (Some (16 * digit_value high + digit_value low)) None ≡ Some c → IsSpelling c (37 ∷ high ∷ low ∷ [])
digits_spell high low c true are is =
    let both = and_parts (nat_lt (digit_value high) 16) (nat_lt (digit_value low) 16) are in
    let same : c ≡ 16 * digit_value high + digit_value low = (cc) in
    inr (inr (high, low, ltb-true (digit_value high) 16 both.0, ltb-true (digit_value low) 16 both.1, same, refl))
digits_spell high low c false are is = absurd cc

spelled_put : (cell bytes text : List ℕ) (x : Option ℕ) → ((c : ℕ) → x ≡ Some c → IsSpelling c cell)
    → ((rest : List ℕ) → unspell bytes Outside ≡ Some rest → Spells rest bytes) → then_one x (unspell bytes Outside) ≡ Some text → Spells text (cell ++ bytes)
spelled_put cell bytes text x spelled others is =
    let (c, rest, is_c, is_rest, joined) = one_some x (unspell bytes Outside) text is in
    subst (λ (t : List ℕ). Spells t (cell ++ bytes)) (sym joined) (cell, bytes, spelled c is_c, others rest is_rest, refl)

spelled_outside : (b : ℕ) (bytes text : List ℕ) (t : Bool) → nat_eq b 37 ≡ t → (unspell bytes AfterPercent ≡ Some text → Spells text (37 ∷ bytes))
    → ((rest : List ℕ) → unspell bytes Outside ≡ Some rest → Spells rest bytes)
    → cond t (unspell bytes AfterPercent) (then_one (bare b) (unspell bytes Outside)) ≡ Some text → Spells text (b ∷ bytes)
spelled_outside b bytes text true percent escape others is = subst (λ (x : ℕ). Spells text (x ∷ bytes)) (sym (eqb-true b 37 percent)) (escape is)
spelled_outside b bytes text false differ escape others is =
    spelled_put (b ∷ []) bytes text (bare b) (λ c e. bare_spells b c (nat_eq b 43) (is_bare b) refl refl e) others is

pub spelled_said : (bytes : List ℕ) (s : InEscape) (text : List ℕ) → unspell bytes s ≡ Some text → Said s text bytes
unfolding unspell
spelled_said [] Outside text is = let e : [] ≡ text = (cc) in subst (λ (t : List ℕ). Spells t []) e refl
spelled_said [] AfterPercent text is = absurd cc
spelled_said [] (AfterDigit high) text is = absurd cc
spelled_said (b ∷ bytes) Outside text is =
    spelled_outside b bytes text (nat_eq b 37) refl (spelled_said bytes AfterPercent text) (spelled_said bytes Outside) is
spelled_said (b ∷ bytes) AfterPercent text is = spelled_said bytes (AfterDigit b) text is
spelled_said (b ∷ bytes) (AfterDigit high) text is =
    spelled_put (37 ∷ high ∷ b ∷ []) bytes text (escaped high b)
    (λ c e. digits_spell high b c (nat_lt (digit_value high) 16 && nat_lt (digit_value b) 16) refl e) (spelled_said bytes Outside) is

record IsNone (b : ℕ) : Type 0 where
  pub ampersand : nat_eq b 38 ≡ false
  pub plus : nat_eq b 43 ≡ false
  pub equals : nat_eq b 61 ≡ false
  pub percent : nat_eq b 37 ≡ false

bare_is_none : (b : ℕ) → is_bare b ≡ true → IsNone b
bare_is_none b is =
    let p4 = and_parts _ _ is in
    let p3 = and_parts _ _ p4.0 in
    let p2 = and_parts _ _ p3.0 in
    let p1 = and_parts _ _ p2.0 in
    record { ampersand = not-true _ p1.1; plus = not-true _ p2.1; equals = not-true _ p3.1; percent = not-true _ p4.1 }

one_again : (c : ℕ) (cell rest text : List ℕ) → IsSpelling c cell → unspell rest Outside ≡ Some text → unspell (cell ++ rest) Outside ≡ Some (c ∷ text)
unfolding unspell
one_again c cell rest text (inl (is, e)) others = let none = bare_is_none c is in rw (e, is, none.percent, none.plus, others) refl
one_again c cell rest text (inr (inl (is, e))) others = rw (e, is, others) refl
one_again c cell rest text (inr (inr (high, low, h, l, is, e))) others = rw (e, lt-ltb (digit_value high) 16 h, lt-ltb (digit_value low) 16 l, others, is) refl

pub said_again : (text bytes : List ℕ) → Spells text bytes → unspell bytes Outside ≡ Some text
unfolding unspell
said_again [] bytes e = rw e refl
said_again (c ∷ text) bytes (cell, rest, spelling, others, joined) = rw joined (one_again c cell rest text spelling (said_again text rest others))

digit_free : (c d : ℕ) → digit_value d < 16 → (digit_value c < 16 → ⊥) → nat_eq d c ≡ false
digit_free c d small big = ne_eqb d c (λ e. big (subst (λ (x : ℕ). digit_value x < 16) e small))

spelling_free : (c : ℕ) (cell : List ℕ) → IsSpelling c cell → Free 38 cell × Free 61 cell
spelling_free c cell (inl (is, e)) = let none = bare_is_none c is in rw e ((none.ampersand, tt), (none.equals, tt))
spelling_free c cell (inr (inl (is, e))) = rw e ((refl, tt), (refl, tt))
spelling_free c cell (inr (inr (high, low, h, l, is, e))) =
    rw e (
      (refl, (digit_free 38 high h (λ s. omega (arith, s)), (digit_free 38 low l (λ s. omega (arith, s)), tt))),
      (refl, (digit_free 61 high h (λ s. omega (arith, s)), (digit_free 61 low l (λ s. omega (arith, s)), tt))),
    )

pub spelled_free : (text bytes : List ℕ) → Spells text bytes → Free 38 bytes × Free 61 bytes
spelled_free [] bytes e = rw e (tt, tt)
spelled_free (c ∷ text) bytes (cell, rest, spelling, others, joined) =
    let one = spelling_free c cell spelling in
    let more = spelled_free text rest others in
    rw joined (free_both 38 cell rest one.0 more.0, free_both 61 cell rest one.1 more.1)
