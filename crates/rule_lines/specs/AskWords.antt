-- The words of what can be asked.
use Rattle.std.specs.Prelude.{ℕ, List, [], ◌∷◌, Option, codes}
use Rattle.std.specs.Str.{bytes_eq}
use Rattle.rule_tokens.specs.Callbacks.{first_with}
use Rattle.rule_lines.specs.declared.ask_word.AskWord.{AskWord}
use Rattle.rule_lines.specs.declared.ask_word.AskWord.TheVariants.{Attr, Parent, Kids, State, Owner, Controls, Disabled}
use Rattle.rule_lines.specs.declared.ask_word.AskWord.TheVariants.{Candidate, Valid, Message, Value, Saved, Checked, States}

-- the word of each
abbrev pub ask_word : AskWord → List ℕ
ask_word Attr = codes "attr"
ask_word Parent = codes "parent"
ask_word Kids = codes "kids"
ask_word State = codes "state"
ask_word Owner = codes "owner"
ask_word Controls = codes "controls"
ask_word Disabled = codes "disabled"
ask_word Candidate = codes "candidate"
ask_word Valid = codes "valid"
ask_word Message = codes "message"
ask_word Value = codes "value"
ask_word Saved = codes "saved"
ask_word Checked = codes "checked"
ask_word States = codes "states"

-- all of them
abbrev pub all_words : List AskWord
all_words = Attr ∷ Parent ∷ Kids ∷ State ∷ Owner ∷ Controls ∷ Disabled ∷ Candidate ∷ Valid ∷ Message ∷ Value ∷ Saved ∷ Checked ∷ States ∷ []

-- what is asked by this word
abbrev pub ask_named : List ℕ → Option AskWord
ask_named word = first_with (λ asked. bytes_eq word (ask_word asked)) all_words
