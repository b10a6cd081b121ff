-- What was written, as it is read back.
use Rattle.ce_base.specs.declared.entries.Entry.{Entry}
use Rattle.ce_base.specs.Texts.{entry}
use Rattle.form_submission.specs.Encodings.{escaped}
use Rattle.form_submission.specs.LineEnds.{with_full_newlines}

-- the entry with its line ends as they are sent
abbrev pub as_sent : Entry → Entry
as_sent e = entry (with_full_newlines e.name) (with_full_newlines e.value)

-- the entry as a multipart body has it: its name escaped, and the line ends of its value as they are sent
abbrev pub as_part : Entry → Entry
as_part e = entry (escaped e.name) (with_full_newlines e.value)
