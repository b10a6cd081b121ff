-- The table of forms, one row a form.
use Rattle.std.specs.Prelude.{[], ◌∷◌, Some, None}
use Rattle.rule_lines.specs.declared.read_as.Kind.{Kind}
use Rattle.rule_lines.specs.declared.read_as.Kind.TheVariants as kinds
use Rattle.rule_lines.specs.declared.keyword.Keyword.{Keyword}
use Rattle.rule_lines.specs.declared.keyword.Keyword.TheVariants as keywords
use Rattle.rule_lines.specs.declared.word.Word.TheVariants as words
use Rattle.rule_lines.specs.Grammar.{Key, Wants, End, One, Pick, Keys, Maybe, Many, Pairs, Inner, Rows, LastRow, Row}

abbrev key : Keyword → Kind → Key
key word kind = record { word = word; operand = Some kind }

abbrev mark : Keyword → Key
mark word = record { word = word; operand = None }

abbrev on_off : Wants
on_off = Pick (Row words.On End (LastRow words.Off End))

abbrev pub ask_rows : Rows
ask_rows =
    Row words.Attr (One kinds.Node (One kinds.Chars End))
    (Row words.Parent (One kinds.Node End)
    (Row words.Kids (One kinds.Node End)
    (Row words.State (One kinds.Node End)
    (Row words.Owner (One kinds.Node End)
    (Row words.Controls (One kinds.Node End)
    (Row words.Disabled (One kinds.Node End)
    (Row words.Candidate (One kinds.Node End)
    (Row words.Valid (One kinds.Node End)
    (Row words.Message (One kinds.Node End)
    (Row words.Value (One kinds.Node End)
    (Row words.Saved (One kinds.Node End)
    (Row words.Checked (One kinds.Node End)
    (LastRow words.States (One kinds.Node End))))))))))))))

abbrev pub user_rows : Rows
user_rows =
    Row words.Edit (One kinds.Node (One kinds.Value End))
    (Row words.Check (One kinds.Node on_off)
    (Row words.Choose (One kinds.Node on_off)
    (Row words.Reset (One kinds.Node End)
    (Row words.Restore (One kinds.Node (One kinds.Value End))
    (Row words.Autofill (One kinds.Node (One kinds.Value End))
    (LastRow words.Press (One kinds.Node End)))))))

abbrev pub state_rows : Rows
state_rows = Row words.Add (One kinds.Chars End) (Row words.Delete (One kinds.Chars End) (LastRow words.Clear End))

abbrev compared : Wants
compared = One kinds.Value (One kinds.Value (Pick (LastRow words.Colon Inner)))

abbrev pub forms : Rows
forms =
    Row words.Create (One kinds.Variable (One kinds.Chars (Keys (key keywords.Is kinds.Chars ∷ key keywords.In kinds.Node ∷ []))))
    (Row words.New (One kinds.Variable (One kinds.Class End))
    (Row words.Text (One kinds.Variable (One kinds.Chars (Keys (key keywords.In kinds.Node ∷ []))))
    (Row words.Shadow (One kinds.Variable (One kinds.Node End))
    (Row words.Append (One kinds.Node (One kinds.Node End))
    (Row words.Before (One kinds.Node (One kinds.Node (One kinds.Node End)))
    (Row words.Remove (One kinds.Node (One kinds.Node End))
    (Row words.Detach (One kinds.Node End)
    (Row words.SetAttr (One kinds.Node (One kinds.Chars (One kinds.Value End)))
    (Row words.DelAttr (One kinds.Node (One kinds.Chars End))
    (Row words.Clone (One kinds.Variable (One kinds.Node (Keys (mark keywords.Deep ∷ []))))
    (Row words.Adopt (One kinds.Node (One kinds.Node End))
    (Row words.Define (One kinds.Chars (One kinds.Class (Keys (key keywords.Extends kinds.Chars ∷ []))))
    (Row words.Upgrade (One kinds.Node End)
    (Row words.Reset (One kinds.Node End)
    (Row words.Internals (One kinds.Node End)
    (Row words.FormValue (One kinds.Node (One kinds.Value (Keys (key keywords.State kinds.Value ∷ []))))
    (Row words.FormList (One kinds.Node (Pairs 32 kinds.Chars))
    (Row words.FormNull (One kinds.Node End)
    (Row words.Validity (One kinds.Node (One kinds.Flags (One kinds.Value End)))
    (Row words.State (One kinds.Node (Pick state_rows))
    (Row words.Custom (One kinds.Node (One kinds.Value End))
    (Row words.Value (One kinds.Node (One kinds.Value End))
    (Row words.Check (One kinds.Node on_off)
    (Row words.Choose (One kinds.Node on_off)
    (Row words.Submit (One kinds.Node End)
    (Row words.Request (One kinds.Node (Maybe kinds.Node))
    (Row words.Ask (Pick ask_rows)
    (Row words.Let (One kinds.Variable (One kinds.Node End))
    (Row words.Log (One kinds.Value (Many 7 kinds.Value))
    (Row words.Super End
    (Row words.Return (Maybe kinds.Node)
    (Row words.Throw (One kinds.Value End)
    (Row words.Bump End
    (Row words.Keep (One kinds.Value End)
    (Row words.Try Inner
    (Row words.If (Pick (Row words.Eq compared (LastRow words.Ne compared)))
    (Row words.Class (One kinds.Class End)
    (Row words.On (One kinds.Class (One kinds.Callback (Pick (LastRow words.Colon Inner))))
    (Row words.Has (One kinds.Class (One kinds.Callback End))
    (Row words.Observe (One kinds.Class (One kinds.Chars (Many 15 kinds.Chars)))
    (Row words.Associate (One kinds.Class End)
    (Row words.Disable (One kinds.Class (Pick (Row words.Shadow End (LastRow words.Internals End))))
    (Row words.Doc (One kinds.Variable End)
    (LastRow words.User (Pick user_rows)))))))))))))))))))))))))))))))))))))))))))))
