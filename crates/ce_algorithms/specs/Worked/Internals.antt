-- Worked scripts for internals.
use Rattle.rule_lines.specs.Acts.{Associate, Both, Class, Command, Declares, DisableInternals, Has, On, Said, Super, Try}
use Rattle.rule_lines.specs.declared.ask_word.AskWord.TheVariants.{Saved, State as StateWord, States, Value as ValueWord}
use Rattle.rule_lines.specs.declared.line.Cmd.TheVariants.{Both as Performs, UserRestore}
use Rattle.rule_lines.specs.declared.op.Op.TheVariants.{Append, Ask, Clone, Create, Define, FormList}
use Rattle.rule_lines.specs.declared.op.Op.TheVariants.{FormNull, FormValue, Internals, StateAdd, StateClear, StateDelete}
use Rattle.rule_tokens.specs.declared.callback.CallName.TheVariants.{Constructor as ConstructorName, FormStateRestore as FormStateRestoreName}
use Rattle.rule_tokens.specs.declared.operand.Operand.TheVariants.{Doc, This, Variable}
use Rattle.rule_tokens.specs.declared.operand.Val.TheVariants.{Fixed}
use Rattle.rule_tokens.specs.declared.refused.Bad.{Bad}
use Rattle.std.specs.Prelude.{List, None, Ok, Result, Some, [], codes, false, ◌∷◌}

-- who gets internals and who does not, a custom state, and a state that comes back
abbrev pub refused : List (Result Said Bad)
refused =
    Ok (Declares (Class (codes "A")))
    ∷ Ok (Declares (Associate (codes "A")))
    ∷ Ok (Declares (Has (codes "A") FormStateRestoreName))
    ∷ Ok (Command (Performs (Define (codes "x-a") (codes "A") None)))
    ∷ Ok (Command (Performs (Create (codes "d") (codes "div") None None)))
    ∷ Ok (Command (Performs (Internals (Variable (codes "d")))))
    ∷ Ok (Command (Performs (Create (codes "e") (codes "x-a") None None)))
    ∷ Ok (Command (Performs (FormValue (Variable (codes "e")) (Fixed (codes "v")) None)))
    ∷ Ok (Command (Performs (Internals (Variable (codes "e")))))
    ∷ Ok (Command (Performs (Internals (Variable (codes "e")))))
    ∷ Ok (Command (Performs (StateAdd (Variable (codes "e")) (codes "hi"))))
    ∷ Ok (Command (Performs (Ask States (Variable (codes "e")) None)))
    ∷ Ok (Declares (Class (codes "B")))
    ∷ Ok (Command (Performs (Define (codes "x-b") (codes "B") None)))
    ∷ Ok (Command (Performs (Create (codes "f") (codes "x-b") None None)))
    ∷ Ok (Command (Performs (Internals (Variable (codes "f")))))
    ∷ Ok (Command (Performs (FormValue (Variable (codes "f")) (Fixed (codes "v")) None)))
    ∷ Ok (Command (UserRestore (Variable (codes "e")) (codes "s1")))
    ∷ []

-- submission values, their states, and custom states
abbrev pub values : List (Result Said Bad)
values =
    Ok (Declares (Class (codes "A")))
    ∷ Ok (Declares (Associate (codes "A")))
    ∷ Ok (Command (Performs (Define (codes "x-a") (codes "A") None)))
    ∷ Ok (Command (Performs (Create (codes "e") (codes "x-a") None None)))
    ∷ Ok (Command (Performs (Ask Saved (Variable (codes "e")) None)))
    ∷ Ok (Command (Performs (Internals (Variable (codes "e")))))
    ∷ Ok (Command (Performs (Ask ValueWord (Variable (codes "e")) None)))
    ∷ Ok (Command (Performs (FormValue (Variable (codes "e")) (Fixed (codes "a")) (Some (Fixed (codes "b"))))))
    ∷ Ok (Command (Performs (Ask Saved (Variable (codes "e")) None)))
    ∷ Ok (Command (Performs (FormValue (Variable (codes "e")) (Fixed (codes "c")) None)))
    ∷ Ok (Command (Performs (Ask Saved (Variable (codes "e")) None)))
    ∷ Ok (Command (Performs (FormList (Variable (codes "e")) ((record { name = codes "n"; value = codes "v" }) ∷ []))))
    ∷ Ok (Command (Performs (Ask ValueWord (Variable (codes "e")) None)))
    ∷ Ok (Command (Performs (FormNull (Variable (codes "e")))))
    ∷ Ok (Command (Performs (Ask Saved (Variable (codes "e")) None)))
    ∷ Ok (Command (Performs (StateAdd (Variable (codes "e")) (codes "s"))))
    ∷ Ok (Command (Performs (StateAdd (Variable (codes "e")) (codes "t"))))
    ∷ Ok (Command (Performs (StateAdd (Variable (codes "e")) (codes "s"))))
    ∷ Ok (Command (Performs (StateDelete (Variable (codes "e")) (codes "s"))))
    ∷ Ok (Command (Performs (StateAdd (Variable (codes "e")) (codes "s"))))
    ∷ Ok (Command (Performs (Ask States (Variable (codes "e")) None)))
    ∷ Ok (Command (Performs (StateClear (Variable (codes "e")))))
    ∷ Ok (Command (Performs (Ask States (Variable (codes "e")) None)))
    ∷ []

-- internals that constructors attach, in an upgrade, a creation and a clone
abbrev pub attached : List (Result Said Bad)
attached =
    Ok (Declares (Class (codes "A")))
    ∷ Ok (Declares (Associate (codes "A")))
    ∷ Ok (Declares (On (codes "A") ConstructorName (Try (Both (Internals This)))))
    ∷ Ok (Declares (On (codes "A") ConstructorName (Super)))
    ∷ Ok (Declares (On (codes "A") ConstructorName (Both (Internals This))))
    ∷ Ok (Declares (On (codes "A") ConstructorName (Both (FormValue This (Fixed (codes "v")) None))))
    ∷ Ok (Declares (On (codes "A") ConstructorName (Both (Ask StateWord This None))))
    ∷ Ok (Command (Performs (Create (codes "h") (codes "html") None None)))
    ∷ Ok (Command (Performs (Append Doc (Variable (codes "h")))))
    ∷ Ok (Command (Performs (Create (codes "e") (codes "x-a") None None)))
    ∷ Ok (Command (Performs (Append (Variable (codes "h")) (Variable (codes "e")))))
    ∷ Ok (Command (Performs (Internals (Variable (codes "e")))))
    ∷ Ok (Command (Performs (Define (codes "x-a") (codes "A") None)))
    ∷ Ok (Command (Performs (Ask ValueWord (Variable (codes "e")) None)))
    ∷ Ok (Command (Performs (Create (codes "f") (codes "x-a") None None)))
    ∷ Ok (Declares (Class (codes "B")))
    ∷ Ok (Declares (Associate (codes "B")))
    ∷ Ok (Declares (DisableInternals (codes "B")))
    ∷ Ok (Command (Performs (Define (codes "x-b") (codes "B") None)))
    ∷ Ok (Command (Performs (Create (codes "g") (codes "x-b") None None)))
    ∷ Ok (Command (Performs (Internals (Variable (codes "g")))))
    ∷ Ok (Command (Performs (Clone (codes "c") (Variable (codes "e")) false)))
    ∷ Ok (Command (Performs (Ask States (Variable (codes "c")) None)))
    ∷ []
