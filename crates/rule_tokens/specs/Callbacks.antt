-- The names of callbacks.
use Rattle.std.specs.Prelude.{ℕ, Bool, List, [], ◌∷◌, Option, Some, None, if◌then◌else◌, codes}
use Rattle.std.specs.Str.{bytes_eq}
use Rattle.rule_tokens.specs.declared.callback.CallName.{CallName}
use Rattle.rule_tokens.specs.declared.callback.CallName.TheVariants.{Constructor, Connected, Disconnected, Adopted, Attribute}
use Rattle.rule_tokens.specs.declared.callback.CallName.TheVariants.{FormAssociated, FormDisabled, FormReset, FormStateRestore}

-- the word of each
abbrev pub call_word : CallName → List ℕ
call_word Constructor = codes "constructor"
call_word Connected = codes "connected"
call_word Disconnected = codes "disconnected"
call_word Adopted = codes "adopted"
call_word Attribute = codes "attribute"
call_word FormAssociated = codes "formAssociated"
call_word FormDisabled = codes "formDisabled"
call_word FormReset = codes "formReset"
call_word FormStateRestore = codes "formStateRestore"

-- all of them
abbrev pub all_calls : List CallName
all_calls = Constructor ∷ Connected ∷ Disconnected ∷ Adopted ∷ Attribute ∷ FormAssociated ∷ FormDisabled ∷ FormReset ∷ FormStateRestore ∷ []

-- the first that passes
abbrev pub first_with : {A : Type 0} → (A → Bool) → List A → Option A
first_with test [] = None
first_with test (x ∷ xs) = if test x then Some x else first_with test xs

-- the callback with this word
abbrev pub call_named : List ℕ → Option CallName
call_named word = first_with (λ call. bytes_eq word (call_word call)) all_calls
