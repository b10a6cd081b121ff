-- What has no action within is written by its front.
use Rattle.std.proofs.Common.{◌≡◌, ℕ, Bool, Box, Global, List, refl}
use Rattle.rule_tokens.specs.declared.callback.CallName.{CallName}
use Rattle.rule_tokens.specs.declared.operand.Val.{Val}
use Rattle.rule_lines.specs.Acts.{act_of, part_of}
use Rattle.rule_lines.specs.declared.action.Action.{Action}
use Rattle.rule_lines.specs.declared.action.Action.TheVariants as code
use Rattle.rule_lines.specs.declared.line.ClassPart.{ClassPart}
use Rattle.rule_lines.specs.declared.line.ClassPart.TheVariants as parts
use Rattle.rule_writer.specs.Canon.{act_tokens, part_tokens}
use Rattle.rule_writer.specs.Fronts.{act_front, part_front}

pub whole_act : (a : Action) → ((x : Box Action Global) → a ≡ code.Try x → ⊥)
    → ((equal : Bool) (left right : Val) (x : Box Action Global) → a ≡ code.If equal left right x → ⊥) → act_front (act_of a) ≡ act_tokens (act_of a)
whole_act (code.Both op) not_try not_if = refl
whole_act (code.Log vals) not_try not_if = refl
whole_act code.Super not_try not_if = refl
whole_act (code.Return place) not_try not_if = refl
whole_act (code.Throw val) not_try not_if = refl
whole_act code.Bump not_try not_if = refl
whole_act (code.Keep val) not_try not_if = refl
whole_act (code.Try' p a) not_try not_if = absurd (not_try _ refl)
whole_act (code.If' equal left right p a) not_try not_if = absurd (not_if equal left right _ refl)

pub whole_part : (part : ClassPart) → ((class : List ℕ) (call : CallName) (action : Action) → part ≡ parts.On class call action → ⊥)
    → part_front (part_of part) ≡ part_tokens (part_of part)
whole_part (parts.Class name) not_on = refl
whole_part (parts.On class call action) not_on = absurd (not_on class call action refl)
whole_part (parts.Has class call) not_on = refl
whole_part (parts.Observe class names) not_on = refl
whole_part (parts.Associate class) not_on = refl
whole_part (parts.DisableShadow class) not_on = refl
whole_part (parts.DisableInternals class) not_on = refl
