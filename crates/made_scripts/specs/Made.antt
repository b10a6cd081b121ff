-- The made script of a number: one form-associated custom element, so many of it in a form, and a submission.
use Rattle.std.specs.Prelude.{ℕ, zero, suc, ◌+◌, ◌*◌, List, [], ◌∷◌, ◌++◌, codes}
use Rattle.std.specs.Fmt.{decimal}
use Rattle.std.specs.List.{flat_map}

-- the lines before the first element: the class with its bodies, its definition, and the form
unfoldable pub first_lines : List (List ℕ)
first_lines =
    codes "class A"
    ∷ codes "associate A"
    ∷ codes "observe A k"
    ∷ codes "on A constructor : super"
    ∷ codes "on A constructor : internals this"
    ∷ codes "on A attribute : formvalue this @3"
    ∷ codes "has A formAssociated"
    ∷ codes "define x-a A"
    ∷ codes "create $h html"
    ∷ codes "append doc $h"
    ∷ codes "create $f form"
    ∷ codes "append $h $f"
    ∷ []

-- the lines of the element of this number
unfoldable pub element_lines : ℕ → List (List ℕ)
element_lines number =
    codes "create $e x-a"
    ∷ codes "setattr $e name n"
    ∷ (codes "setattr $e k " ++ decimal number)
    ∷ codes "append $f $e"
    ∷ []

-- the lines of so many elements, from the one of this number on
abbrev pub elements_from : ℕ → ℕ → List (List ℕ)
elements_from number zero = []
elements_from number (suc count) = element_lines number ++ elements_from (number + 1) count

-- the last line
unfoldable pub submit_line : List ℕ
submit_line = codes "submit $f"

-- the lines of the made script of n, without their line feeds
unfoldable pub made_lines : ℕ → List (List ℕ)
made_lines n = first_lines ++ elements_from 1 n ++ submit_line ∷ []

-- lines as one text, each with a line feed behind it
unfoldable pub joined : List (List ℕ) → List ℕ
joined lines = flat_map (λ line. line ++ 10 ∷ []) lines

-- the made script of n
unfoldable pub made_script : ℕ → List ℕ
made_script n = joined (made_lines n)

-- how many lines it has
abbrev pub line_count : ℕ → ℕ
line_count n = 13 + 4 * n
