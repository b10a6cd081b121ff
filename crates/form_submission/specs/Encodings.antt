-- Entry lists as text (HTML Standard, sections "URL-encoded form data", "Multipart form data", "Plain text form data"; RFC 7578).
use Rattle.std.specs.Prelude.{ℕ, Bool, ◌&&◌, ◌||◌, ◌==◌, nat_le, length, if◌then◌else◌, List, [], ◌∷◌, ◌++◌, codes, map, flat_map, nat_eq}
use Rattle.std.specs.Char.{is_ascii_alphanumeric}
use Rattle.std.specs.List.{list_all, list_any, starts_with}
use Rattle.ce_base.specs.declared.entries.Entry.{Entry}
use Rattle.form_urlencoded.specs.Form.{extend_pairs}
use Rattle.form_controls.specs.Texts.{carriage_return, line_feed, is_empty}
use Rattle.form_submission.specs.LineEnds.{newline, with_full_newlines}

-- application/x-www-form-urlencoded

-- "convert to a list of name-value pairs"
abbrev pub pair_of : Entry → List ℕ × List ℕ
pair_of e = (with_full_newlines e.name, with_full_newlines e.value)

-- (URL Standard, section "application/x-www-form-urlencoded serializing")
abbrev pub urlencoded : List Entry → List ℕ
urlencoded entries = extend_pairs [] (map pair_of entries)

-- text/plain

abbrev pub plain_line : Entry → List ℕ
plain_line e = with_full_newlines e.name ++ codes "=" ++ with_full_newlines e.value ++ newline

abbrev pub plain : List Entry → List ℕ
plain entries = flat_map plain_line entries

-- multipart/form-data

-- in a name a line feed, a carriage return and a quote
abbrev pub escaped_byte : ℕ → List ℕ
escaped_byte b =
    if b == line_feed then codes "%0A"
    else if b == carriage_return then codes "%0D"
    else if b == 34 then codes "%22"
    else b ∷ []

abbrev pub escaped : List ℕ → List ℕ
escaped name = flat_map escaped_byte (with_full_newlines name)

-- what may be a boundary here: 1 to 70 ASCII letters and digits (RFC 2046, section 5.1.1, allows some signs too)
abbrev pub is_boundary : List ℕ → Bool
is_boundary text = nat_le 1 (length text) && nat_le (length text) 70 && list_all is_ascii_alphanumeric text

abbrev pub part : List ℕ → Entry → List ℕ
part boundary e =
    codes "--" ++ boundary ++ newline
    ++ codes "Content-Disposition: form-data; name=\"" ++ escaped e.name ++ codes "\"" ++ newline
    ++ newline
    ++ with_full_newlines e.value ++ newline

-- a part for each entry, and the line that closes
abbrev pub multipart : List Entry → List ℕ → List ℕ
multipart entries boundary = flat_map (part boundary) entries ++ codes "--" ++ boundary ++ codes "--" ++ newline

-- a boundary that is none

-- the text stands somewhere in the bytes
abbrev pub occurs : List ℕ → List ℕ → Bool
occurs text [] = is_empty text
occurs text (b ∷ bytes) = starts_with nat_eq (b ∷ bytes) text || occurs text bytes

-- it stands in a name or a value, as the entry list has them (RFC 7578, section 4.1)
abbrev pub is_broken_by : List Entry → List ℕ → Bool
is_broken_by entries boundary = list_any (λ (e : Entry). occurs boundary e.name || occurs boundary e.value) entries
