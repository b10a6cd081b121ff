-- Worked scripts for controls.
use Rattle.rule_lines.specs.Acts.{Command, Said}
use Rattle.rule_lines.specs.declared.ask_word.AskWord.TheVariants.{Checked, Value as ValueWord}
use Rattle.rule_lines.specs.declared.line.Cmd.TheVariants.{Both as Performs, UserCheck, UserChoose, UserEdit}
use Rattle.rule_lines.specs.declared.op.Op.TheVariants.{Append, Ask, Check, Choose, Clone, Create, MakeText, SetAttr, Value}
use Rattle.rule_tokens.specs.declared.operand.Operand.TheVariants.{Doc, Variable}
use Rattle.rule_tokens.specs.declared.operand.Val.TheVariants.{Fixed}
use Rattle.rule_tokens.specs.declared.refused.Bad.{Bad}
use Rattle.std.specs.Prelude.{List, None, Ok, Result, [], codes, false, true, ◌∷◌}

-- radio buttons of a group, as they are inserted, cloned and set
abbrev pub radios : List (Result Said Bad)
radios =
    Ok (Command (Performs (Create (codes "h") (codes "html") None None)))
    ∷ Ok (Command (Performs (Append Doc (Variable (codes "h")))))
    ∷ Ok (Command (Performs (Create (codes "a") (codes "input") None None)))
    ∷ Ok (Command (Performs (SetAttr (Variable (codes "a")) (codes "type") (Fixed (codes "radio")))))
    ∷ Ok (Command (Performs (SetAttr (Variable (codes "a")) (codes "name") (Fixed (codes "n")))))
    ∷ Ok (Command (Performs (SetAttr (Variable (codes "a")) (codes "checked") (Fixed []))))
    ∷ Ok (Command (Performs (Append (Variable (codes "h")) (Variable (codes "a")))))
    ∷ Ok (Command (Performs (Clone (codes "b") (Variable (codes "a")) false)))
    ∷ Ok (Command (Performs (Append (Variable (codes "h")) (Variable (codes "b")))))
    ∷ Ok (Command (Performs (Ask Checked (Variable (codes "a")) None)))
    ∷ Ok (Command (Performs (Ask Checked (Variable (codes "b")) None)))
    ∷ Ok (Command (Performs (Check (Variable (codes "a")) true)))
    ∷ Ok (Command (Performs (Ask Checked (Variable (codes "b")) None)))
    ∷ Ok (Command (Performs (SetAttr (Variable (codes "b")) (codes "disabled") (Fixed []))))
    ∷ Ok (Command (UserCheck (Variable (codes "b")) true))
    ∷ Ok (Command (Performs (Ask Checked (Variable (codes "a")) None)))
    ∷ Ok (Command (Performs (Check (Variable (codes "h")) true)))
    ∷ []

-- the value of a textarea: its texts, what the user sets, and what a clone takes over
abbrev pub texts : List (Result Said Bad)
texts =
    Ok (Command (Performs (Create (codes "t") (codes "textarea") None None)))
    ∷ Ok (Command (Performs (MakeText (codes "x") (97 ∷ 13 ∷ 10 ∷ 98 ∷ 13 ∷ 99 ∷ []) None)))
    ∷ Ok (Command (Performs (Append (Variable (codes "t")) (Variable (codes "x")))))
    ∷ Ok (Command (Performs (Ask ValueWord (Variable (codes "t")) None)))
    ∷ Ok (Command (UserEdit (Variable (codes "t")) (112 ∷ 13 ∷ 10 ∷ 113 ∷ [])))
    ∷ Ok (Command (Performs (Clone (codes "u") (Variable (codes "t")) false)))
    ∷ Ok (Command (Performs (Ask ValueWord (Variable (codes "u")) None)))
    ∷ Ok (Command (Performs (SetAttr (Variable (codes "u")) (codes "readonly") (Fixed []))))
    ∷ Ok (Command (UserEdit (Variable (codes "u")) (codes "z")))
    ∷ Ok (Command (Performs (Value (Variable (codes "u")) (Fixed (codes "z")))))
    ∷ Ok (Command (Performs (Ask ValueWord (Variable (codes "u")) None)))
    ∷ Ok (Command (Performs (Ask ValueWord (Variable (codes "t")) None)))
    ∷ []

-- the value of a select: its options, and which of them is chosen
abbrev pub options : List (Result Said Bad)
options =
    Ok (Command (Performs (Create (codes "s") (codes "select") None None)))
    ∷ Ok (Command (Performs (Create (codes "o") (codes "option") None None)))
    ∷ Ok (Command (Performs (Create (codes "p") (codes "option") None None)))
    ∷ Ok (Command (Performs (SetAttr (Variable (codes "p")) (codes "value") (Fixed (codes "v")))))
    ∷ Ok (Command (Performs (Append (Variable (codes "s")) (Variable (codes "o")))))
    ∷ Ok (Command (Performs (Append (Variable (codes "s")) (Variable (codes "p")))))
    ∷ Ok (Command (Performs (MakeText (codes "y") (codes "  two   words ") None)))
    ∷ Ok (Command (Performs (Append (Variable (codes "o")) (Variable (codes "y")))))
    ∷ Ok (Command (Performs (Ask ValueWord (Variable (codes "s")) None)))
    ∷ Ok (Command (Performs (Choose (Variable (codes "p")) true)))
    ∷ Ok (Command (Performs (Ask ValueWord (Variable (codes "s")) None)))
    ∷ Ok (Command (Performs (SetAttr (Variable (codes "o")) (codes "selected") (Fixed []))))
    ∷ Ok (Command (Performs (Choose (Variable (codes "p")) false)))
    ∷ Ok (Command (Performs (Ask ValueWord (Variable (codes "s")) None)))
    ∷ Ok (Command (UserChoose (Variable (codes "o")) true))
    ∷ Ok (Command (Performs (SetAttr (Variable (codes "s")) (codes "disabled") (Fixed []))))
    ∷ Ok (Command (UserChoose (Variable (codes "p")) true))
    ∷ Ok (Command (Performs (Value (Variable (codes "s")) (Fixed (codes "z")))))
    ∷ []
