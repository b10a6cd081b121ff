-- A callback is the same as another where their words are.
use Rattle.std.proofs.Common.{◌≡◌, true, Some, refl, sym, ap, ◌∙◌}
use Rattle.std.proofs.lemmas.Slice.Eq.{bytes_eq-Decides}
use Rattle.rule_tokens.specs.Callbacks.{call_named, call_word}
use Rattle.rule_tokens.specs.declared.callback.CallName.{CallName}
use Rattle.rule_tokens.proofs.CallNames.{call_again}
use Rattle.ce_algorithms.specs.Body.{same_call}

pub same_is : (a b : CallName) → same_call a b ≡ true → a ≡ b
same_is a b h =
    let words : call_word a ≡ call_word b = (bytes_eq-Decides (call_word a) (call_word b)).0 h in
    let both : Some a ≡ Some b = sym (call_again a) ∙ ap call_named words ∙ call_again b in
    cc

pub same_self : (a : CallName) → same_call a a ≡ true
same_self a = (bytes_eq-Decides (call_word a) (call_word a)).1 refl
