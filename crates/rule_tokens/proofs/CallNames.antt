-- Callbacks are told by their words.
use Rattle.std.proofs.Common.{◌≡◌, Some, refl}
use Rattle.std.specs.Str.{chars}
use Rattle.rule_tokens.specs.Callbacks.{call_named, call_word}
use Rattle.rule_tokens.specs.declared.callback.CallName.{CallName}
use Rattle.rule_tokens.specs.declared.callback.CallName.TheVariants as calls

pub call_again : (call : CallName) → call_named (call_word call) ≡ Some call
unfolding chars
call_again calls.Constructor = refl
call_again call = refl
