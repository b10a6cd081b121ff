-- The first words of forms.
use Rattle.std.specs.Prelude.{ℕ, List, [], ◌∷◌, Option, None, if◌then◌else◌}
use Rattle.std.specs.Str.{bytes_eq}
use Rattle.rule_tokens.specs.declared.token.Token.{Token}
use Rattle.rule_tokens.specs.Callbacks.{first_with}
use Rattle.rule_lines.specs.declared.word.Word.{Word}
use Rattle.rule_lines.specs.declared.word.Word.TheVariants as words
use Rattle.rule_lines.specs.FixedWords.{spelling}

-- the words that forms begin with
abbrev pub first_words : List Word
first_words =
    words.Create
    ∷ words.New
    ∷ words.Text
    ∷ words.Shadow
    ∷ words.Append
    ∷ words.Before
    ∷ words.Remove
    ∷ words.Detach
    ∷ words.SetAttr
    ∷ words.DelAttr
    ∷ words.Clone
    ∷ words.Adopt
    ∷ words.Define
    ∷ words.Upgrade
    ∷ words.Reset
    ∷ words.Internals
    ∷ words.FormValue
    ∷ words.FormList
    ∷ words.FormNull
    ∷ words.Validity
    ∷ words.State
    ∷ words.Custom
    ∷ words.Value
    ∷ words.Check
    ∷ words.Choose
    ∷ words.Submit
    ∷ words.Request
    ∷ words.Ask
    ∷ words.Let
    ∷ words.Log
    ∷ words.Super
    ∷ words.Return
    ∷ words.Throw
    ∷ words.Bump
    ∷ words.Keep
    ∷ words.Try
    ∷ words.If
    ∷ words.Class
    ∷ words.On
    ∷ words.Has
    ∷ words.Observe
    ∷ words.Associate
    ∷ words.Disable
    ∷ words.Doc
    ∷ words.User
    ∷ []

-- the one of these words with this text
abbrev pub word_in : List Word → List ℕ → Option Word
word_in some text = first_with (λ word. bytes_eq text (spelling word)) some

-- the form's first word with this text
abbrev pub first_named : List ℕ → Option Word
first_named text = word_in first_words text

-- the form's first word that the bare token is
abbrev pub first_word : Token → Option Word
first_word t = if t.quoted then None else first_named t.text
