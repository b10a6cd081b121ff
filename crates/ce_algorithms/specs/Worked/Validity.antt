-- Worked scripts for constraint validation.
use Rattle.form_controls.specs.Internals.{flags_of, no_flags}
use Rattle.rule_lines.specs.Acts.{Associate, Class, Command, Declares, Said}
use Rattle.rule_lines.specs.declared.ask_word.AskWord.TheVariants.{Candidate, Message, Valid}
use Rattle.rule_lines.specs.declared.line.Cmd.TheVariants.{Both as Performs, UserEdit}
use Rattle.rule_lines.specs.declared.op.Op.TheVariants.{Append, Ask, Create, Custom, Define, Internals, SetAttr, Validity, Value}
use Rattle.rule_tokens.specs.declared.operand.Operand.TheVariants.{Variable}
use Rattle.rule_tokens.specs.declared.operand.Val.TheVariants.{Fixed}
use Rattle.rule_tokens.specs.declared.refused.Bad.{Bad}
use Rattle.std.specs.Prelude.{List, None, Ok, Result, [], codes, false, true, ◌∷◌}

-- a text that is missing, too short, too long, and has a custom message; a user's value counts, a script's does not
abbrev pub texts : List (Result Said Bad)
texts =
    Ok (Command (Performs (Create (codes "f") (codes "form") None None)))
    ∷ Ok (Command (Performs (Create (codes "a") (codes "input") None None)))
    ∷ Ok (Command (Performs (SetAttr (Variable (codes "a")) (codes "required") (Fixed []))))
    ∷ Ok (Command (Performs (Append (Variable (codes "f")) (Variable (codes "a")))))
    ∷ Ok (Command (Performs (Ask Valid (Variable (codes "a")) None)))
    ∷ Ok (Command (UserEdit (Variable (codes "a")) (0xF0 ∷ 0x9F ∷ 0x98 ∷ 0x80 ∷ [])))
    ∷ Ok (Command (Performs (SetAttr (Variable (codes "a")) (codes "minlength") (Fixed (codes "3")))))
    ∷ Ok (Command (Performs (Ask Valid (Variable (codes "a")) None)))
    ∷ Ok (Command (Performs (SetAttr (Variable (codes "a")) (codes "maxlength") (Fixed (codes "1")))))
    ∷ Ok (Command (Performs (Ask Valid (Variable (codes "a")) None)))
    ∷ Ok (Command (Performs (Value (Variable (codes "a")) (Fixed (codes "abcd")))))
    ∷ Ok (Command (Performs (Ask Valid (Variable (codes "a")) None)))
    ∷ Ok (Command (Performs (Custom (Variable (codes "a")) (Fixed (codes "no good")))))
    ∷ Ok (Command (Performs (Ask Valid (Variable (codes "a")) None)))
    ∷ Ok (Command (Performs (Ask Message (Variable (codes "a")) None)))
    ∷ Ok (Command (Performs (SetAttr (Variable (codes "a")) (codes "readonly") (Fixed []))))
    ∷ Ok (Command (Performs (Ask Candidate (Variable (codes "a")) None)))
    ∷ Ok (Command (Performs (Ask Valid (Variable (codes "a")) None)))
    ∷ Ok (Command (Performs (Custom (Variable (codes "f")) (Fixed (codes "no")))))
    ∷ []

-- an element's own flags, which want internals, and a message where one is set
abbrev pub internals : List (Result Said Bad)
internals =
    Ok (Declares (Class (codes "A")))
    ∷ Ok (Declares (Associate (codes "A")))
    ∷ Ok (Command (Performs (Define (codes "x-a") (codes "A") None)))
    ∷ Ok (Command (Performs (Create (codes "e") (codes "x-a") None None)))
    ∷ Ok (Command (Performs (Validity (Variable (codes "e"))
    (flags_of (true ∷ false ∷ false ∷ true ∷ false ∷ false ∷ false ∷ false ∷ false ∷ false ∷ [])) (Fixed (codes "fill in")))))
    ∷ Ok (Command (Performs (Ask Valid (Variable (codes "e")) None)))
    ∷ Ok (Command (Performs (Internals (Variable (codes "e")))))
    ∷ Ok (Command (Performs
    (Validity (Variable (codes "e")) (flags_of (true ∷ false ∷ false ∷ true ∷ false ∷ false ∷ false ∷ false ∷ false ∷ false ∷ [])) (Fixed []))))
    ∷ Ok (Command (Performs (Validity (Variable (codes "e"))
    (flags_of (true ∷ false ∷ false ∷ true ∷ false ∷ false ∷ false ∷ false ∷ false ∷ false ∷ [])) (Fixed (codes "fill in")))))
    ∷ Ok (Command (Performs (Ask Valid (Variable (codes "e")) None)))
    ∷ Ok (Command (Performs (Ask Message (Variable (codes "e")) None)))
    ∷ Ok (Command (Performs (Validity (Variable (codes "e")) no_flags (Fixed (codes "gone")))))
    ∷ Ok (Command (Performs (Ask Valid (Variable (codes "e")) None)))
    ∷ Ok (Command (Performs (Ask Message (Variable (codes "e")) None)))
    ∷ Ok (Command (Performs (Create (codes "f") (codes "x-a") None None)))
    ∷ []
