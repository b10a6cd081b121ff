-- Worked scripts for form owners and disabled states.
use Rattle.rule_lines.specs.Acts.{Associate, Class, Command, Declares, Has, Said}
use Rattle.rule_lines.specs.declared.ask_word.AskWord.TheVariants.{Disabled as DisabledWord, Owner}
use Rattle.rule_lines.specs.declared.line.Cmd.TheVariants.{Both as Performs}
use Rattle.rule_lines.specs.declared.op.Op.TheVariants.{Append, Ask, Before, Create, Define, DelAttr, Detach, Remove, SetAttr}
use Rattle.rule_tokens.specs.declared.callback.CallName.TheVariants.{FormAssociated as FormAssociatedName, FormDisabled as FormDisabledName}
use Rattle.rule_tokens.specs.declared.operand.Operand.TheVariants.{Doc, Variable}
use Rattle.rule_tokens.specs.declared.operand.Val.TheVariants.{Fixed}
use Rattle.rule_tokens.specs.declared.refused.Bad.{Bad}
use Rattle.std.specs.Prelude.{List, None, Ok, Result, [], codes, ◌∷◌}

-- form owners by a `form` attribute, and where its form comes and goes
abbrev pub owner : List (Result Said Bad)
owner =
    Ok (Command (Performs (Create (codes "h") (codes "html") None None)))
    ∷ Ok (Command (Performs (Append Doc (Variable (codes "h")))))
    ∷ Ok (Command (Performs (Create (codes "f") (codes "form") None None)))
    ∷ Ok (Command (Performs (Append (Variable (codes "h")) (Variable (codes "f")))))
    ∷ Ok (Declares (Class (codes "A")))
    ∷ Ok (Declares (Associate (codes "A")))
    ∷ Ok (Declares (Has (codes "A") FormAssociatedName))
    ∷ Ok (Command (Performs (Define (codes "x-a") (codes "A") None)))
    ∷ Ok (Command (Performs (Create (codes "e") (codes "x-a") None None)))
    ∷ Ok (Command (Performs (Append (Variable (codes "f")) (Variable (codes "e")))))
    ∷ Ok (Command (Performs (SetAttr (Variable (codes "e")) (codes "form") (Fixed (codes "g")))))
    ∷ Ok (Command (Performs (Ask Owner (Variable (codes "e")) None)))
    ∷ Ok (Command (Performs (Create (codes "g") (codes "form") None None)))
    ∷ Ok (Command (Performs (SetAttr (Variable (codes "g")) (codes "id") (Fixed (codes "g")))))
    ∷ Ok (Command (Performs (Append (Variable (codes "h")) (Variable (codes "g")))))
    ∷ Ok (Command (Performs (Create (codes "p") (codes "p") None None)))
    ∷ Ok (Command (Performs (SetAttr (Variable (codes "p")) (codes "id") (Fixed (codes "g")))))
    ∷ Ok (Command (Performs (Before (Variable (codes "h")) (Variable (codes "p")) (Variable (codes "f")))))
    ∷ Ok (Command (Performs (Remove (Variable (codes "h")) (Variable (codes "p")))))
    ∷ Ok (Command (Performs (DelAttr (Variable (codes "g")) (codes "id"))))
    ∷ Ok (Command (Performs (DelAttr (Variable (codes "e")) (codes "form"))))
    ∷ Ok (Command (Performs (Detach (Variable (codes "f")))))
    ∷ []

-- a fieldset that is disabled, and its legends
abbrev pub disabled : List (Result Said Bad)
disabled =
    Ok (Declares (Class (codes "A")))
    ∷ Ok (Declares (Associate (codes "A")))
    ∷ Ok (Declares (Has (codes "A") FormDisabledName))
    ∷ Ok (Command (Performs (Define (codes "x-a") (codes "A") None)))
    ∷ Ok (Command (Performs (Create (codes "f") (codes "fieldset") None None)))
    ∷ Ok (Command (Performs (Create (codes "l") (codes "legend") None None)))
    ∷ Ok (Command (Performs (Create (codes "m") (codes "legend") None None)))
    ∷ Ok (Command (Performs (Create (codes "e") (codes "x-a") None None)))
    ∷ Ok (Command (Performs (Append (Variable (codes "f")) (Variable (codes "l")))))
    ∷ Ok (Command (Performs (Append (Variable (codes "f")) (Variable (codes "m")))))
    ∷ Ok (Command (Performs (Append (Variable (codes "m")) (Variable (codes "e")))))
    ∷ Ok (Command (Performs (SetAttr (Variable (codes "f")) (codes "disabled") (Fixed []))))
    ∷ Ok (Command (Performs (Append (Variable (codes "l")) (Variable (codes "e")))))
    ∷ Ok (Command (Performs (Remove (Variable (codes "f")) (Variable (codes "l")))))
    ∷ Ok (Command (Performs (Append (Variable (codes "m")) (Variable (codes "e")))))
    ∷ Ok (Command (Performs (Before (Variable (codes "f")) (Variable (codes "l")) (Variable (codes "m")))))
    ∷ Ok (Command (Performs (Ask DisabledWord (Variable (codes "e")) None)))
    ∷ []

-- form owners and disabled states: told at its turn, and after the walk
abbrev pub owner_disabled : List (Result Said Bad)
owner_disabled =
    Ok (Declares (Class (codes "A")))
    ∷ Ok (Declares (Associate (codes "A")))
    ∷ Ok (Declares (Has (codes "A") FormAssociatedName))
    ∷ Ok (Declares (Has (codes "A") FormDisabledName))
    ∷ Ok (Command (Performs (Define (codes "x-a") (codes "A") None)))
    ∷ Ok (Command (Performs (Create (codes "h") (codes "html") None None)))
    ∷ Ok (Command (Performs (Append Doc (Variable (codes "h")))))
    ∷ Ok (Command (Performs (Create (codes "d") (codes "div") None None)))
    ∷ Ok (Command (Performs (Append (Variable (codes "h")) (Variable (codes "d")))))
    ∷ Ok (Command (Performs (Create (codes "f") (codes "form") None None)))
    ∷ Ok (Command (Performs (SetAttr (Variable (codes "f")) (codes "id") (Fixed (codes "g")))))
    ∷ Ok (Command (Performs (Append (Variable (codes "d")) (Variable (codes "f")))))
    ∷ Ok (Command (Performs (Create (codes "e") (codes "x-a") None None)))
    ∷ Ok (Command (Performs (SetAttr (Variable (codes "e")) (codes "form") (Fixed (codes "g")))))
    ∷ Ok (Command (Performs (Append (Variable (codes "h")) (Variable (codes "e")))))
    ∷ Ok (Command (Performs (Detach (Variable (codes "d")))))
    ∷ Ok (Command (Performs (Append (Variable (codes "d")) (Variable (codes "e")))))
    ∷ Ok (Command (Performs (Append (Variable (codes "f")) (Variable (codes "e")))))
    ∷ Ok (Command (Performs (Append (Variable (codes "h")) (Variable (codes "d")))))
    ∷ Ok (Command (Performs (SetAttr (Variable (codes "f")) (codes "id") (Fixed (codes "k")))))
    ∷ Ok (Command (Performs (DelAttr (Variable (codes "e")) (codes "form"))))
    ∷ Ok (Command (Performs (Create (codes "o") (codes "fieldset") None None)))
    ∷ Ok (Command (Performs (SetAttr (Variable (codes "o")) (codes "disabled") (Fixed []))))
    ∷ Ok (Command (Performs (Append (Variable (codes "f")) (Variable (codes "o")))))
    ∷ Ok (Command (Performs (Append (Variable (codes "o")) (Variable (codes "e")))))
    ∷ Ok (Command (Performs (Detach (Variable (codes "f")))))
    ∷ Ok (Command (Performs (Ask Owner (Variable (codes "e")) None)))
    ∷ Ok (Command (Performs (Ask DisabledWord (Variable (codes "e")) None)))
    ∷ []
