use Rattle.std.proofs.Common.{◌≡◌, ◌<◌, ◌^◌, ℕ, true, Option, Some, ap, sym, subst, ◌∙◌, refl}
use Rattle.std.specs.Prelude.{IfSome}
use Rattle.std.specs.Str.Parse.{digits_value}
use Rattle.ce_base.specs.Digits.{is_numeral}
use Rattle.ce_base.proofs.DigitLaws.{numeral_parses, numeral_small}
use Rattle.ce_base.proofs.digits.number_in.Goals as goal

pub returns-clause-number : goal.returns-clause-number
returns-clause-number c =
    let is : is_numeral c.args.text.now ≡ true = ap is_numeral (sym c.as_bytes.ensures.value) ∙ (sym c.is_numeral.ensures ∙ c.if-not-is_numeral.false) in
    rw (c.ok.ensures.value, numeral_parses c.args.text.now c.parse.result is c.parse.ensures.value.0, is) refl

pub returns-clause-small : goal.returns-clause-small
returns-clause-small c =
    let is : is_numeral c.args.text.now ≡ true = ap is_numeral (sym c.as_bytes.ensures.value) ∙ (sym c.is_numeral.ensures ∙ c.if-not-is_numeral.false) in
    let P : Option ℕ → Type 0 = λ o. IfSome o (λ number. number < 10 ^ 9) in
    let given : c.ok.result ≡ Some (digits_value 10 c.args.text.now) =
    rw (c.ok.ensures.value, numeral_parses c.args.text.now c.parse.result is c.parse.ensures.value.0) refl in
    subst P (sym given) (numeral_small c.args.text.now is)
