-- Worked scripts for submissions.
use Rattle.std.specs.Prelude.{List, Some, None, Ok, Result, [], codes, false, ◌∷◌}
use Rattle.rule_tokens.specs.declared.callback.CallName.TheVariants.{Attribute as AttributeName, Constructor as ConstructorName, FormReset as FormResetName}
use Rattle.rule_tokens.specs.declared.operand.Operand.TheVariants.{Doc, This, Variable}
use Rattle.rule_tokens.specs.declared.operand.Val.TheVariants.{Fixed, Third}
use Rattle.rule_tokens.specs.declared.refused.Bad.{Bad}
use Rattle.rule_lines.specs.Acts.{Associate, Both, Class, Command, Declares, Observe, On, Said, Super}
use Rattle.rule_lines.specs.declared.line.Cmd.TheVariants.{Both as Performs, UserEdit, UserPress}
use Rattle.rule_lines.specs.declared.op.Op.TheVariants.{Append, Clone, Create, Define, Detach, FormValue, Internals, Request, SetAttr, Submit}

-- a form that is submitted by a call, requested with submitters, and pressed; a call does not ask for validity
abbrev pub requests : List (Result Said Bad)
requests =
    Ok (Command (Performs (Create (codes "h") (codes "html") None None)))
    ∷ Ok (Command (Performs (Append Doc (Variable (codes "h")))))
    ∷ Ok (Command (Performs (Create (codes "f") (codes "form") None None)))
    ∷ Ok (Command (Performs (Append (Variable (codes "h")) (Variable (codes "f")))))
    ∷ Ok (Command (Performs (Create (codes "a") (codes "input") None None)))
    ∷ Ok (Command (Performs (SetAttr (Variable (codes "a")) (codes "name") (Fixed (codes "a")))))
    ∷ Ok (Command (Performs (SetAttr (Variable (codes "a")) (codes "required") (Fixed []))))
    ∷ Ok (Command (Performs (Append (Variable (codes "f")) (Variable (codes "a")))))
    ∷ Ok (Command (Performs (Clone (codes "b") (Variable (codes "a")) false)))
    ∷ Ok (Command (Performs (SetAttr (Variable (codes "b")) (codes "readonly") (Fixed []))))
    ∷ Ok (Command (Performs (Append (Variable (codes "f")) (Variable (codes "b")))))
    ∷ Ok (Command (Performs (Create (codes "s") (codes "button") None None)))
    ∷ Ok (Command (Performs (Append (Variable (codes "f")) (Variable (codes "s")))))
    ∷ Ok (Command (Performs (Submit (Variable (codes "f")))))
    ∷ Ok (Command (Performs (Request (Variable (codes "f")) None)))
    ∷ Ok (Command (Performs (SetAttr (Variable (codes "s")) (codes "formnovalidate") (Fixed []))))
    ∷ Ok (Command (Performs (Request (Variable (codes "f")) (Some (Variable (codes "s"))))))
    ∷ Ok (Command (Performs (Request (Variable (codes "f")) (Some (Variable (codes "a"))))))
    ∷ Ok (Command (UserEdit (Variable (codes "a")) (codes "x")))
    ∷ Ok (Command (Performs (Request (Variable (codes "f")) None)))
    ∷ Ok (Command (Performs (Detach (Variable (codes "s")))))
    ∷ Ok (Command (Performs (Request (Variable (codes "f")) (Some (Variable (codes "s"))))))
    ∷ Ok (Command (Performs (SetAttr (Variable (codes "s")) (codes "disabled") (Fixed []))))
    ∷ Ok (Command (UserPress (Variable (codes "s"))))
    ∷ Ok (Command (Performs (Detach (Variable (codes "f")))))
    ∷ Ok (Command (Performs (Request (Variable (codes "f")) None)))
    ∷ Ok (Command (UserPress (Variable (codes "a"))))
    ∷ []

-- a callback that changes what its element submits, and submits the form; the button, and the one that resets
abbrev pub within : List (Result Said Bad)
within =
    Ok (Declares (Class (codes "A")))
    ∷ Ok (Declares (Observe (codes "A") (codes "k" ∷ [])))
    ∷ Ok (Declares (Associate (codes "A")))
    ∷ Ok (Declares (On (codes "A") ConstructorName Super))
    ∷ Ok (Declares (On (codes "A") ConstructorName (Both (Internals This))))
    ∷ Ok (Declares (On (codes "A") AttributeName (Both (FormValue This Third None))))
    ∷ Ok (Declares (On (codes "A") AttributeName (Both (Submit (Variable (codes "f"))))))
    ∷ Ok (Declares (On (codes "A") FormResetName (Both (FormValue This (Fixed (codes "none")) None))))
    ∷ Ok (Command (Performs (Define (codes "x-a") (codes "A") None)))
    ∷ Ok (Command (Performs (Create (codes "h") (codes "html") None None)))
    ∷ Ok (Command (Performs (Append Doc (Variable (codes "h")))))
    ∷ Ok (Command (Performs (Create (codes "f") (codes "form") None None)))
    ∷ Ok (Command (Performs (SetAttr (Variable (codes "f")) (codes "method") (Fixed (codes "post")))))
    ∷ Ok (Command (Performs (Append (Variable (codes "h")) (Variable (codes "f")))))
    ∷ Ok (Command (Performs (Create (codes "e") (codes "x-a") None None)))
    ∷ Ok (Command (Performs (SetAttr (Variable (codes "e")) (codes "name") (Fixed (codes "e")))))
    ∷ Ok (Command (Performs (Append (Variable (codes "f")) (Variable (codes "e")))))
    ∷ Ok (Command (Performs (Create (codes "b") (codes "button") None None)))
    ∷ Ok (Command (Performs (SetAttr (Variable (codes "b")) (codes "name") (Fixed (codes "go")))))
    ∷ Ok (Command (Performs (Append (Variable (codes "f")) (Variable (codes "b")))))
    ∷ Ok (Command (Performs (Create (codes "r") (codes "input") None None)))
    ∷ Ok (Command (Performs (SetAttr (Variable (codes "r")) (codes "type") (Fixed (codes "reset")))))
    ∷ Ok (Command (Performs (Append (Variable (codes "f")) (Variable (codes "r")))))
    ∷ Ok (Command (Performs (SetAttr (Variable (codes "e")) (codes "k") (Fixed (codes "1")))))
    ∷ Ok (Command (Performs (SetAttr (Variable (codes "e")) (codes "k") (Fixed (codes "2")))))
    ∷ Ok (Command (UserPress (Variable (codes "b"))))
    ∷ Ok (Command (UserPress (Variable (codes "r"))))
    ∷ Ok (Command (UserPress (Variable (codes "b"))))
    ∷ Ok (Command (Performs (SetAttr (Variable (codes "f")) (codes "action") (Fixed (codes "mailto:a")))))
    ∷ Ok (Command (Performs (Submit (Variable (codes "f")))))
    ∷ []
