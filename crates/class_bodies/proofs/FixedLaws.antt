-- An operation that names no value is fixed as it stands.
use Rattle.std.proofs.Common.{◌≡◌, ℕ, List, Option, refl}
use Rattle.ce_base.specs.declared.flags.Flags.{Flags}
use Rattle.rule_tokens.specs.declared.operand.Operand.{Operand}
use Rattle.rule_tokens.specs.declared.operand.Val.{Val}
use Rattle.rule_lines.specs.declared.op.Op.{Op}
use Rattle.rule_lines.specs.declared.op.Op.TheVariants as ops
use Rattle.ce_algorithms.specs.State.{Memory}
use Rattle.ce_algorithms.specs.Values.{Args, fixed}

pub fixed_whole : (memory : Memory) (args : Args) (op : Op)
    → ((node : Operand) (name : List ℕ) (value : Val) → op ≡ ops.SetAttr node name value → ⊥)
    → ((node : Operand) (value : Val) (saved : Option Val) → op ≡ ops.FormValue node value saved → ⊥)
    → ((node : Operand) (flags : Flags) (message : Val) → op ≡ ops.Validity node flags message → ⊥)
    → ((node : Operand) (message : Val) → op ≡ ops.Custom node message → ⊥)
    → ((node : Operand) (value : Val) → op ≡ ops.Value node value → ⊥)
    → fixed memory args op ≡ op
fixed_whole memory args (ops.Create var local is within) not_attr not_form_value not_validity not_custom not_value = refl
fixed_whole memory args (ops.New var class) not_attr not_form_value not_validity not_custom not_value = refl
fixed_whole memory args (ops.MakeText var chars within) not_attr not_form_value not_validity not_custom not_value = refl
fixed_whole memory args (ops.Shadow var host) not_attr not_form_value not_validity not_custom not_value = refl
fixed_whole memory args (ops.Append parent child) not_attr not_form_value not_validity not_custom not_value = refl
fixed_whole memory args (ops.Before parent child before) not_attr not_form_value not_validity not_custom not_value = refl
fixed_whole memory args (ops.Remove parent child) not_attr not_form_value not_validity not_custom not_value = refl
fixed_whole memory args (ops.Detach child) not_attr not_form_value not_validity not_custom not_value = refl
fixed_whole memory args (ops.SetAttr at name value) not_attr not_form_value not_validity not_custom not_value = absurd (not_attr at name value refl)
fixed_whole memory args (ops.DelAttr at name) not_attr not_form_value not_validity not_custom not_value = refl
fixed_whole memory args (ops.Clone var at deep) not_attr not_form_value not_validity not_custom not_value = refl
fixed_whole memory args (ops.Adopt within at) not_attr not_form_value not_validity not_custom not_value = refl
fixed_whole memory args (ops.Define name class base) not_attr not_form_value not_validity not_custom not_value = refl
fixed_whole memory args (ops.Upgrade at) not_attr not_form_value not_validity not_custom not_value = refl
fixed_whole memory args (ops.Reset form) not_attr not_form_value not_validity not_custom not_value = refl
fixed_whole memory args (ops.Internals at) not_attr not_form_value not_validity not_custom not_value = refl
fixed_whole memory args (ops.FormValue at value saved) not_attr not_form_value not_validity not_custom not_value = absurd (not_form_value at value saved refl)
fixed_whole memory args (ops.FormList at entries) not_attr not_form_value not_validity not_custom not_value = refl
fixed_whole memory args (ops.FormNull at) not_attr not_form_value not_validity not_custom not_value = refl
fixed_whole memory args (ops.Validity at flags message) not_attr not_form_value not_validity not_custom not_value = absurd (not_validity at flags message refl)
fixed_whole memory args (ops.StateAdd at word) not_attr not_form_value not_validity not_custom not_value = refl
fixed_whole memory args (ops.StateDelete at word) not_attr not_form_value not_validity not_custom not_value = refl
fixed_whole memory args (ops.StateClear at) not_attr not_form_value not_validity not_custom not_value = refl
fixed_whole memory args (ops.Custom at message) not_attr not_form_value not_validity not_custom not_value = absurd (not_custom at message refl)
fixed_whole memory args (ops.Value at value) not_attr not_form_value not_validity not_custom not_value = absurd (not_value at value refl)
fixed_whole memory args (ops.Check at on) not_attr not_form_value not_validity not_custom not_value = refl
fixed_whole memory args (ops.Choose at on) not_attr not_form_value not_validity not_custom not_value = refl
fixed_whole memory args (ops.Submit form) not_attr not_form_value not_validity not_custom not_value = refl
fixed_whole memory args (ops.Request form submitter) not_attr not_form_value not_validity not_custom not_value = refl
fixed_whole memory args (ops.Ask word at name) not_attr not_form_value not_validity not_custom not_value = refl
fixed_whole memory args (ops.Let var at) not_attr not_form_value not_validity not_custom not_value = refl
