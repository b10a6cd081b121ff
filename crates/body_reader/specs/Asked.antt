-- What type of body the words of a call ask for.
use Rattle.std.specs.Prelude.{ℕ, ◌&&◌, if◌then◌else◌, List, [], ◌∷◌, Option, Some, None, bytes_eq, codes}
use Rattle.form_submission.specs.Encodings.{is_boundary}
use Rattle.body_reader.specs.declared.body_type.BodyType.{BodyType}
use Rattle.body_reader.specs.declared.body_type.BodyType.TheVariants.{Urlencoded, Plain, Multipart}

-- one word names a type
abbrev pub asked_by_one : List ℕ → Option BodyType
asked_by_one word =
    if bytes_eq word (codes "urlencoded") then Some Urlencoded
    else if bytes_eq word (codes "plain") then Some Plain
    else None

-- two name a type and its boundary
abbrev pub asked_by_two : List ℕ → List ℕ → Option BodyType
asked_by_two word boundary = if bytes_eq word (codes "multipart") && is_boundary boundary then Some (Multipart boundary) else None

-- none: the words are refused
abbrev pub asked : List (List ℕ) → Option BodyType
asked [] = Some Urlencoded
asked (word ∷ []) = asked_by_one word
asked (word ∷ boundary ∷ []) = asked_by_two word boundary
asked (word ∷ boundary ∷ next ∷ words) = None
