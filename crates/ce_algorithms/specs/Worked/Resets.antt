-- Worked scripts for resets, and for states that come back.
use Rattle.rule_lines.specs.Acts.{Associate, Both, Bump, Class, Command, Declares, Has, If, Log, On, Return, Said, Throw}
use Rattle.rule_lines.specs.declared.ask_word.AskWord.TheVariants.{Checked, Value as ValueWord}
use Rattle.rule_lines.specs.declared.line.Cmd.TheVariants.{Both as Performs, UserAutofill, UserCheck, UserReset, UserRestore}
use Rattle.rule_lines.specs.declared.op.Op.TheVariants.{Append, Ask, Choose, Clone, Create, Define, DelAttr, Detach, Reset, SetAttr, Value}
use Rattle.rule_tokens.specs.declared.callback.CallName.TheVariants.{Connected as ConnectedName, FormAssociated as FormAssociatedName}
use Rattle.rule_tokens.specs.declared.callback.CallName.TheVariants.{FormReset as FormResetName, FormStateRestore as FormStateRestoreName}
use Rattle.rule_tokens.specs.declared.operand.Operand.TheVariants.{Doc, This, Variable}
use Rattle.rule_tokens.specs.declared.operand.Val.TheVariants.{Count, First, Fixed, Second}
use Rattle.rule_tokens.specs.declared.refused.Bad.{Bad}
use Rattle.std.specs.Prelude.{List, None, Ok, Result, [], codes, false, true, ◌∷◌}

-- a form that is reset by the user and by a script, with the trace
abbrev pub traced : List (Result Said Bad)
traced =
    Ok (Command (Performs (Create (codes "h") (codes "html") None None)))
    ∷ Ok (Command (Performs (Append Doc (Variable (codes "h")))))
    ∷ Ok (Command (Performs (Create (codes "f") (codes "form") None None)))
    ∷ Ok (Command (Performs (Append (Variable (codes "h")) (Variable (codes "f")))))
    ∷ Ok (Command (Performs (Create (codes "e") (codes "x-a") None None)))
    ∷ Ok (Command (Performs (Append (Variable (codes "f")) (Variable (codes "e")))))
    ∷ Ok (Declares (Class (codes "A")))
    ∷ Ok (Declares (Associate (codes "A")))
    ∷ Ok (Declares (Has (codes "A") ConnectedName))
    ∷ Ok (Declares (Has (codes "A") FormResetName))
    ∷ Ok (Declares (Has (codes "A") FormAssociatedName))
    ∷ Ok (Command (Performs (Define (codes "x-a") (codes "A") None)))
    ∷ Ok (Command (UserReset (Variable (codes "f"))))
    ∷ Ok (Command (Performs (Reset (Variable (codes "f")))))
    ∷ []

-- a reset of radio buttons
abbrev pub radios : List (Result Said Bad)
radios =
    Ok (Command (Performs (Create (codes "h") (codes "html") None None)))
    ∷ Ok (Command (Performs (Append Doc (Variable (codes "h")))))
    ∷ Ok (Command (Performs (Create (codes "f") (codes "form") None None)))
    ∷ Ok (Command (Performs (Append (Variable (codes "h")) (Variable (codes "f")))))
    ∷ Ok (Command (Performs (Create (codes "i") (codes "input") None None)))
    ∷ Ok (Command (Performs (SetAttr (Variable (codes "i")) (codes "type") (Fixed (codes "radio")))))
    ∷ Ok (Command (Performs (SetAttr (Variable (codes "i")) (codes "name") (Fixed (codes "r")))))
    ∷ Ok (Command (Performs (SetAttr (Variable (codes "i")) (codes "checked") (Fixed []))))
    ∷ Ok (Command (Performs (Append (Variable (codes "f")) (Variable (codes "i")))))
    ∷ Ok (Command (Performs (Clone (codes "j") (Variable (codes "i")) false)))
    ∷ Ok (Command (Performs (Append (Variable (codes "f")) (Variable (codes "j")))))
    ∷ Ok (Command (Performs (Ask Checked (Variable (codes "i")) None)))
    ∷ Ok (Command (Performs (Ask Checked (Variable (codes "j")) None)))
    ∷ Ok (Command (UserCheck (Variable (codes "i")) true))
    ∷ Ok (Command (Performs (Ask Checked (Variable (codes "j")) None)))
    ∷ Ok (Command (UserReset (Variable (codes "f"))))
    ∷ Ok (Command (Performs (Ask Checked (Variable (codes "j")) None)))
    ∷ []

-- all controls are cleared before one is told, and callbacks that throw
abbrev pub form : List (Result Said Bad)
form =
    Ok (Declares (Class (codes "A")))
    ∷ Ok (Declares (Associate (codes "A")))
    ∷ Ok (Declares (On (codes "A") FormResetName (Both (Ask ValueWord (Variable (codes "i")) None))))
    ∷ Ok (Declares (On (codes "A") FormResetName (Throw (Fixed (codes "r")))))
    ∷ Ok (Declares (On (codes "A") FormResetName (Bump)))
    ∷ Ok (Command (Performs (Define (codes "x-a") (codes "A") None)))
    ∷ Ok (Command (Performs (Create (codes "f") (codes "form") None None)))
    ∷ Ok (Command (Performs (Create (codes "b") (codes "x-a") None None)))
    ∷ Ok (Command (Performs (Append (Variable (codes "f")) (Variable (codes "b")))))
    ∷ Ok (Command (Performs (Create (codes "i") (codes "input") None None)))
    ∷ Ok (Command (Performs (Append (Variable (codes "f")) (Variable (codes "i")))))
    ∷ Ok (Command (Performs (Create (codes "s") (codes "select") None None)))
    ∷ Ok (Command (Performs (Append (Variable (codes "f")) (Variable (codes "s")))))
    ∷ Ok (Command (Performs (Create (codes "o") (codes "option") None None)))
    ∷ Ok (Command (Performs (SetAttr (Variable (codes "o")) (codes "value") (Fixed (codes "o")))))
    ∷ Ok (Command (Performs (Append (Variable (codes "s")) (Variable (codes "o")))))
    ∷ Ok (Command (Performs (Create (codes "p") (codes "option") None None)))
    ∷ Ok (Command (Performs (SetAttr (Variable (codes "p")) (codes "value") (Fixed (codes "p")))))
    ∷ Ok (Command (Performs (Append (Variable (codes "s")) (Variable (codes "p")))))
    ∷ Ok (Command (Performs (Create (codes "a") (codes "x-a") None None)))
    ∷ Ok (Command (Performs (Append (Variable (codes "f")) (Variable (codes "a")))))
    ∷ Ok (Command (Performs (Value (Variable (codes "i")) (Fixed (codes "v")))))
    ∷ Ok (Command (Performs (Choose (Variable (codes "p")) true)))
    ∷ Ok (Command (Performs (Ask ValueWord (Variable (codes "s")) None)))
    ∷ Ok (Command (Performs (Reset (Variable (codes "f")))))
    ∷ Ok (Command (Performs (Ask ValueWord (Variable (codes "s")) None)))
    ∷ Ok (Command (Performs (Reset (Variable (codes "i")))))
    ∷ []

-- a callback that takes out an element that waits, and resets the form again
abbrev pub within : List (Result Said Bad)
within =
    Ok (Declares (Class (codes "A")))
    ∷ Ok (Declares (Associate (codes "A")))
    ∷ Ok (Declares (Has (codes "A") FormAssociatedName))
    ∷ Ok (Declares (On (codes "A") FormResetName (If true Count (Fixed (codes "1")) (Return None))))
    ∷ Ok (Declares (On (codes "A") FormResetName (Bump)))
    ∷ Ok (Declares (On (codes "A") FormResetName (Both (Detach (Variable (codes "b"))))))
    ∷ Ok (Declares (On (codes "A") FormResetName (Both (Reset (Variable (codes "f"))))))
    ∷ Ok (Declares (On (codes "A") FormResetName (Log ((Fixed (codes "end")) ∷ []))))
    ∷ Ok (Command (Performs (Define (codes "x-a") (codes "A") None)))
    ∷ Ok (Command (Performs (Create (codes "f") (codes "form") None None)))
    ∷ Ok (Command (Performs (Create (codes "a") (codes "x-a") None None)))
    ∷ Ok (Command (Performs (Append (Variable (codes "f")) (Variable (codes "a")))))
    ∷ Ok (Command (Performs (Create (codes "b") (codes "x-a") None None)))
    ∷ Ok (Command (Performs (Append (Variable (codes "f")) (Variable (codes "b")))))
    ∷ Ok (Command (Performs (Create (codes "c") (codes "x-a") None None)))
    ∷ Ok (Command (Performs (Append (Variable (codes "f")) (Variable (codes "c")))))
    ∷ Ok (Command (UserReset (Variable (codes "f"))))
    ∷ []

-- states that come back or are filled in, and who ignores them
abbrev pub restored : List (Result Said Bad)
restored =
    Ok (Declares (Class (codes "A")))
    ∷ Ok (Declares (Associate (codes "A")))
    ∷ Ok (Declares (On (codes "A") FormStateRestoreName (Log (First ∷ Second ∷ []))))
    ∷ Ok (Declares (On (codes "A") FormStateRestoreName (Both (SetAttr This (codes "disabled") First))))
    ∷ Ok (Command (Performs (Define (codes "x-a") (codes "A") None)))
    ∷ Ok (Command (Performs (Create (codes "a") (codes "x-a") None None)))
    ∷ Ok (Command (UserRestore (Variable (codes "a")) (codes "s")))
    ∷ Ok (Command (UserAutofill (Variable (codes "a")) (codes "t")))
    ∷ Ok (Command (Performs (DelAttr (Variable (codes "a")) (codes "disabled"))))
    ∷ Ok (Command (UserAutofill (Variable (codes "a")) (codes "t")))
    ∷ Ok (Command (Performs (Create (codes "d") (codes "div") None None)))
    ∷ Ok (Command (UserRestore (Variable (codes "d")) (codes "s")))
    ∷ Ok (Command (UserReset (Variable (codes "d"))))
    ∷ []
