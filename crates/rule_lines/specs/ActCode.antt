-- How the logic stores an act: what stands around it, from the outside in, and the innermost one.
use Rattle.std.specs.Prelude.{◌≡◌, ℕ, zero, suc, Bool, List, [], ◌∷◌, Option, Some, None, ◌⊎◌, refl}
use Rattle.std.proofs.Common.{ap, inl, inr}
use Rattle.std.specs.Coded.{Coded, code_by, coded×, coded⊎, coded_bool, coded_list, coded_option, coded_ℕ}
use Rattle.rule_tokens.specs.contracts.operand.Operand as operand
use Rattle.rule_tokens.specs.contracts.operand.Val as val
use Rattle.rule_tokens.specs.declared.operand.Operand.{Operand}
use Rattle.rule_tokens.specs.declared.operand.Val.{Val}
use Rattle.rule_lines.specs.contracts.op.Op as op
use Rattle.rule_lines.specs.declared.op.Op.{Op}
use Rattle.rule_lines.specs.Acts.{Act, Both, Log, Super, Return, Throw, Bump, Keep, Try, If}

-- None for `try`
abbrev pub Around : Type 0
Around = Option (Bool × (Val × Val))

abbrev pub Inner : Type 0
Inner = Op ⊎ (List Val ⊎ (Option Operand ⊎ (Val ⊎ (Val ⊎ ℕ))))

abbrev pub arounds : Act → List Around
arounds (Try a) = None ∷ arounds a
arounds (If equal left right a) = Some (equal, (left, right)) ∷ arounds a
arounds _ = []

abbrev pub innermost : Act → Inner
innermost (Both x) = inl x
innermost (Log vals) = inr (inl vals)
innermost (Return at) = inr (inr (inl at))
innermost (Throw v) = inr (inr (inr (inl v)))
innermost (Keep v) = inr (inr (inr (inr (inl v))))
innermost Super = inr (inr (inr (inr (inr 0))))
innermost Bump = inr (inr (inr (inr (inr 1))))
innermost (Try a) = innermost a
innermost (If equal left right a) = innermost a

abbrev pub inner_act : Inner → Act
inner_act (inl x) = Both x
inner_act (inr (inl vals)) = Log vals
inner_act (inr (inr (inl at))) = Return at
inner_act (inr (inr (inr (inl v)))) = Throw v
inner_act (inr (inr (inr (inr (inl v))))) = Keep v
inner_act (inr (inr (inr (inr (inr zero))))) = Super
inner_act (inr (inr (inr (inr (inr (suc n)))))) = Bump

abbrev pub put_around : List Around → Act → Act
put_around [] a = a
put_around (None ∷ more) a = Try (put_around more a)
put_around (Some test ∷ more) a = If test.0 test.1.0 test.1.1 (put_around more a)

pub act_back : (a : Act) → put_around (arounds a) (inner_act (innermost a)) ≡ a
act_back (Both x) = refl
act_back (Log vals) = refl
act_back Super = refl
act_back (Return at) = refl
act_back (Throw v) = refl
act_back Bump = refl
act_back (Keep v) = refl
act_back (Try a) = ap Try (act_back a)
act_back (If equal left right a) = ap (If equal left right) (act_back a)

abbrev pub act_code : Coded Act
act_code =
    code_by (List Around × Inner)
    (coded× (coded_list (coded_option (coded× coded_bool (coded× val.the_row.coded val.the_row.coded))))
    (coded⊎ op.the_row.coded (coded⊎ (coded_list val.the_row.coded)
    (coded⊎ (coded_option operand.the_row.coded) (coded⊎ val.the_row.coded (coded⊎ val.the_row.coded coded_ℕ))))))
    (λ a. (arounds a, innermost a)) (λ p. put_around p.0 (inner_act p.1)) act_back
