-- The tokens of a form are those that the table gives.
use Rattle.std.proofs.Common.{◌≡◌, ◌≤◌, ◌<◌, ℕ, zero, suc, length, arith, true, false, List, [], ◌∷◌, ◌++◌, Some, None, refl, sym, ap, ◌∙◌}
use Rattle.rule_lines.specs.declared.ask_word.AskWord.TheVariants as asks
use Rattle.rule_lines.specs.declared.op.Op.TheVariants as ops
use Rattle.rule_tokens.specs.declared.token.Token.{Token}
use Rattle.rule_lines.specs.declared.read_as.ReadAs.{ReadAs}
use Rattle.rule_lines.specs.Canon.{canon_within}
use Rattle.rule_reader.specs.declared.form.Leaf.{Leaf}
use Rattle.rule_reader.specs.declared.form.Leaf.TheVariants as leaves
use Rattle.rule_reader.specs.declared.form.Wrap.{Wrap}
use Rattle.rule_reader.specs.declared.form.Wrap.TheVariants as wraps
use Rattle.rule_reader.specs.AsRead.{leaf_as_read, wrap_as_read, wraps_as_read, form_as_read}
use Rattle.rule_writer.specs.Canon.{leaf_tokens, wrap_tokens, wraps_tokens}
use Rattle.rule_writer.specs.Laws.{FormsAreCanonical}

leaf_canon : (n : ℕ) (leaf : Leaf) → canon_within (suc n) (leaf_as_read leaf) ≡ leaf_tokens leaf
leaf_canon n (leaves.Both (ops.Create var local is_value document)) = refl
leaf_canon n (leaves.Both (ops.New var class)) = refl
leaf_canon n (leaves.Both (ops.MakeText var chars document)) = refl
leaf_canon n (leaves.Both (ops.Shadow var host)) = refl
leaf_canon n (leaves.Both (ops.Append parent place)) = refl
leaf_canon n (leaves.Both (ops.Before parent place before)) = refl
leaf_canon n (leaves.Both (ops.Remove parent place)) = refl
leaf_canon n (leaves.Both (ops.Detach place)) = refl
leaf_canon n (leaves.Both (ops.Clone var place deep)) = refl
leaf_canon n (leaves.Both (ops.Adopt document place)) = refl
leaf_canon n (leaves.Both (ops.Let var place)) = refl
leaf_canon n (leaves.Doc var) = refl
leaf_canon n (leaves.Both (ops.SetAttr place name val)) = refl
leaf_canon n (leaves.Both (ops.DelAttr place name)) = refl
leaf_canon n (leaves.Both (ops.Define name class base)) = refl
leaf_canon n (leaves.Both (ops.Upgrade place)) = refl
leaf_canon n (leaves.Both (ops.Internals place)) = refl
leaf_canon n (leaves.Both (ops.FormValue place val saved)) = refl
leaf_canon n (leaves.Both (ops.FormNull place)) = refl
leaf_canon n (leaves.Both (ops.Validity place flags message)) = refl
leaf_canon n (leaves.Both (ops.Custom place message)) = refl
leaf_canon n (leaves.Both (ops.Reset form)) = refl
leaf_canon n (leaves.Both (ops.Value place val)) = refl
leaf_canon n (leaves.Both (ops.Check place true)) = refl
leaf_canon n (leaves.Both (ops.Check place false)) = refl
leaf_canon n (leaves.Both (ops.Choose place true)) = refl
leaf_canon n (leaves.Both (ops.Choose place false)) = refl
leaf_canon n (leaves.Both (ops.Submit form)) = refl
leaf_canon n (leaves.Both (ops.Request form submitter)) = refl
leaf_canon n leaves.Super = refl
leaf_canon n (leaves.Return place) = refl
leaf_canon n (leaves.Throw val) = refl
leaf_canon n leaves.Bump = refl
leaf_canon n (leaves.Keep val) = refl
leaf_canon n (leaves.Class name) = refl
leaf_canon n (leaves.Has class call) = refl
leaf_canon n (leaves.Associate class) = refl
leaf_canon n (leaves.UserEdit place val) = refl
leaf_canon n (leaves.UserCheck place true) = refl
leaf_canon n (leaves.UserCheck place false) = refl
leaf_canon n (leaves.UserChoose place true) = refl
leaf_canon n (leaves.UserChoose place false) = refl
leaf_canon n (leaves.UserReset form) = refl
leaf_canon n (leaves.UserRestore place val) = refl
leaf_canon n (leaves.UserAutofill place val) = refl
leaf_canon n (leaves.UserPress place) = refl
leaf_canon n (leaves.Both (ops.StateAdd place word)) = refl
leaf_canon n (leaves.Both (ops.StateDelete place word)) = refl
leaf_canon n (leaves.Both (ops.StateClear place)) = refl
leaf_canon n (leaves.Both (ops.FormList place entries)) = refl
leaf_canon n (leaves.Both (ops.Ask asks.Attr place None)) = refl
leaf_canon n (leaves.Both (ops.Ask asks.Attr place (Some name))) = refl
leaf_canon n (leaves.Both (ops.Ask asks.Parent place name)) = refl
leaf_canon n (leaves.Both (ops.Ask asks.Kids place name)) = refl
leaf_canon n (leaves.Both (ops.Ask asks.State place name)) = refl
leaf_canon n (leaves.Both (ops.Ask asks.Owner place name)) = refl
leaf_canon n (leaves.Both (ops.Ask asks.Controls place name)) = refl
leaf_canon n (leaves.Both (ops.Ask asks.Disabled place name)) = refl
leaf_canon n (leaves.Both (ops.Ask asks.Candidate place name)) = refl
leaf_canon n (leaves.Both (ops.Ask asks.Valid place name)) = refl
leaf_canon n (leaves.Both (ops.Ask asks.Message place name)) = refl
leaf_canon n (leaves.Both (ops.Ask asks.Value place name)) = refl
leaf_canon n (leaves.Both (ops.Ask asks.Saved place name)) = refl
leaf_canon n (leaves.Both (ops.Ask asks.Checked place name)) = refl
leaf_canon n (leaves.Both (ops.Ask asks.States place name)) = refl
leaf_canon n (leaves.Log []) = refl
leaf_canon n (leaves.Log (v ∷ vals)) = refl
leaf_canon n (leaves.Observe class []) = refl
leaf_canon n (leaves.Observe class (name ∷ names)) = refl
leaf_canon n (leaves.DisableShadow class) = refl
leaf_canon n (leaves.DisableInternals class) = refl

wrap_canon : (n : ℕ) (w : Wrap) (gs : List ReadAs) → canon_within (suc n) (wrap_as_read w ++ gs) ≡ wrap_tokens w ++ canon_within n gs
wrap_canon n (wraps.On class call) gs = refl
wrap_canon n wraps.Try gs = refl
wrap_canon n (wraps.If true left right) gs = refl
wrap_canon n (wraps.If false left right) gs = refl

-- an action is shorter than what stands around it with it
wrap_long : (w : Wrap) (gs : List ReadAs) → length gs < length (wrap_as_read w ++ gs)
wrap_long (wraps.On class call) gs = omega arith
wrap_long wraps.Try gs = omega arith
wrap_long (wraps.If equal left right) gs = omega arith

-- what holds within one more holds within the length
long_enough : (gs : List ReadAs) (ts : List Token) → ((n : ℕ) → canon_within (suc n) gs ≡ ts) → (n : ℕ) → length gs ≤ n → canon_within n gs ≡ ts
long_enough [] ts same zero small = same zero
long_enough (g ∷ gs) ts same zero small = absurd (omega (arith, small))
long_enough gs ts same (suc n) small = same n

wraps_canon : (ws : List Wrap) (leaf : Leaf) (n : ℕ) → length (wraps_as_read ws (leaf_as_read leaf)) ≤ n
    → canon_within n (wraps_as_read ws (leaf_as_read leaf)) ≡ wraps_tokens ws (leaf_tokens leaf)
wraps_canon [] leaf n small = long_enough (leaf_as_read leaf) (leaf_tokens leaf) (λ m. leaf_canon m leaf) n small
wraps_canon (w ∷ ws) leaf zero small = absurd (omega (arith, small, wrap_long w (wraps_as_read ws (leaf_as_read leaf))))
wraps_canon (w ∷ ws) leaf (suc n) small =
    wrap_canon n w (wraps_as_read ws (leaf_as_read leaf))
    ∙ ap (λ (ts : List Token). wrap_tokens w ++ ts) (wraps_canon ws leaf n (omega (arith, small, wrap_long w (wraps_as_read ws (leaf_as_read leaf)))))

pub forms_canonical : FormsAreCanonical
forms_canonical f = sym (wraps_canon f.wraps f.leaf (length (form_as_read f)) (omega arith))
