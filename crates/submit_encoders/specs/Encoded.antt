-- What is put of an entry list, and what its encoding answers.
use Rattle.std.specs.Prelude.{◌≡◌, ℕ, true, false, List, ◌++◌, codes, Result, Ok, Err}
use Rattle.ce_base.specs.declared.entries.Entry.{Entry}
use Rattle.form_submission.specs.Encodings.{escaped, is_broken_by, multipart}
use Rattle.form_submission.specs.LineEnds.{newline}
use Rattle.submit_encoders.specs.declared.refused.PartRefused.{PartRefused}
use Rattle.submit_encoders.specs.declared.refused.PartRefused.TheVariants.{Occurs, NoMemory}

-- what stands before the value in a part
abbrev pub part_head : List ℕ → List ℕ → List ℕ
part_head boundary name =
    codes "--" ++ boundary ++ newline
    ++ codes "Content-Disposition: form-data; name=\"" ++ escaped name ++ codes "\"" ++ newline
    ++ newline

-- the body, unless the boundary stands in a name or a value; memory can be refused where it does not
abbrev pub Encodes : Result (List ℕ) PartRefused → List Entry → List ℕ → Type 0
Encodes (Ok body) entries boundary = (is_broken_by entries boundary ≡ false) × (body ≡ multipart entries boundary)
Encodes (Err Occurs) entries boundary = is_broken_by entries boundary ≡ true
Encodes (Err NoMemory) entries boundary = is_broken_by entries boundary ≡ false
