-- A multipart body, read.
use Rattle.std.specs.Prelude.{◌≡◌, ℕ, ◌+◌, ◌-◌, zero, suc, Bool, true, false, ◌&&◌, if◌then◌else◌, Option, Some, None, Result, Ok, Err}
use Rattle.std.specs.Prelude.{List, [], ◌∷◌, ◌++◌, codes, drop, length, take}
use Rattle.std.specs.Borrow.{Bor}
use Rattle.form_submission.specs.LineEnds.{newline}
use Rattle.ce_base.specs.declared.entries.Entry.{Entry}
use Rattle.body_grammars.specs.declared.refused.BodyRefused.{BodyRefused}
use Rattle.body_grammars.specs.declared.refused.BodyRefused.TheVariants.{NotABody, NoMemory}
use Rattle.body_grammars.specs.Gives.{with_front, then_one, paired}
use Rattle.body_grammars.specs.Cuts.{cut_at, behind, cut_text, lacks, only_utf8}

abbrev pub before_name : List ℕ
before_name = newline ++ codes "Content-Disposition: form-data; name=\""

abbrev pub behind_name : List ℕ
behind_name = newline ++ newline

abbrev pub dashes : List ℕ
dashes = newline ++ codes "--"

abbrev pub cut_quote : Option (List ℕ) → Option (List ℕ × List ℕ)
cut_quote None = None
cut_quote (Some bytes) = cut_at 34 bytes

-- the name, and what follows its quote
abbrev pub name_cut : List ℕ → Option (List ℕ × List ℕ)
name_cut bytes = cut_quote (behind before_name bytes)

abbrev pub kept_if : Option (List ℕ) → List ℕ → Option (List ℕ)
kept_if None text = None
kept_if (Some end) text = Some text

-- what stands before the line end and the dashes at the end
abbrev pub before_dashes : List ℕ → Option (List ℕ)
before_dashes text = kept_if (behind dashes (drop (length text - 4) text)) (take (length text - 4) text)

abbrev pub and_rest : Option (List ℕ) → List ℕ → Option (List ℕ × List ℕ)
and_rest None rest = None
and_rest (Some value) rest = Some (value, rest)

abbrev pub cut_dashes : Option (List ℕ × List ℕ) → Option (List ℕ × List ℕ)
cut_dashes None = None
cut_dashes (Some (text, rest)) = and_rest (before_dashes text) rest

abbrev pub cut_boundary : List ℕ → Option (List ℕ) → Option (List ℕ × List ℕ)
cut_boundary boundary None = None
cut_boundary boundary (Some bytes) = cut_dashes (cut_text boundary bytes)

-- the value, and what follows the boundary behind it
abbrev pub value_cut : List ℕ → List ℕ → Option (List ℕ × List ℕ)
value_cut boundary bytes = cut_boundary boundary (behind behind_name bytes)

abbrev pub name_text : List ℕ → Option (List ℕ)
name_text name = if lacks 13 name && lacks 10 name then only_utf8 name else None

abbrev pub entry_and : Option Entry → List ℕ → Option (Entry × List ℕ)
entry_and None rest = None
entry_and (Some e) rest = Some (e, rest)

abbrev pub part_of_value : List ℕ → Option (List ℕ × List ℕ) → Option (Entry × List ℕ)
part_of_value name None = None
part_of_value name (Some (value, rest)) = entry_and (paired (name_text name) (only_utf8 value)) rest

abbrev pub part_of_name : List ℕ → Option (List ℕ × List ℕ) → Option (Entry × List ℕ)
part_of_name boundary None = None
part_of_name boundary (Some (name, rest)) = part_of_value name (value_cut boundary rest)

-- behind a boundary: the entry of a part, and what follows the next boundary
unfoldable pub read_part : List ℕ → List ℕ → Option (Entry × List ℕ)
read_part boundary bytes = part_of_name boundary (name_cut bytes)

-- the last line, behind a boundary
abbrev pub closing : List ℕ
closing = codes "--" ++ newline

abbrev pub is_end : Option (List ℕ) → Bool
is_end None = false
is_end (Some []) = true
is_end (Some (b ∷ rest)) = false

abbrev pub then_parts : Option (Entry × List ℕ) → (List ℕ → Option (List Entry)) → Option (List Entry)
then_parts None more = None
then_parts (Some (e, rest)) more = then_one (Some e) (more rest)

-- the parts behind a boundary, n of them at most
unfoldable pub read_tail : ℕ → List ℕ → List ℕ → Option (List Entry)
read_tail zero boundary bytes = None
read_tail (suc n) boundary bytes =
    if is_end (behind closing bytes) then Some [] else then_parts (read_part boundary bytes) (read_tail n boundary)

abbrev pub tail_behind : List ℕ → Option (List ℕ) → Option (List Entry)
tail_behind boundary None = None
tail_behind boundary (Some rest) = read_tail (length rest + 1) boundary rest

abbrev pub behind_dashes : List ℕ → Option (List ℕ) → Option (List ℕ)
behind_dashes boundary None = None
behind_dashes boundary (Some rest) = behind boundary rest

abbrev pub multipart_entries : List ℕ → List ℕ → Option (List Entry)
multipart_entries boundary bytes = tail_behind boundary (behind_dashes boundary (behind (codes "--") bytes))

abbrev pub see_part : {A : Type 0} → A × Bor (List ℕ) → A × List ℕ
see_part (e, rest) = (e, rest.now)

-- a step of the loop
abbrev pub IsAddedPart : List ℕ → List Entry → List ℕ → List Entry → Result (Bor (List ℕ)) BodyRefused → Type 0
IsAddedPart boundary old bytes new (Ok rest) =
    (more : List ℕ → Option (List Entry)) → with_front old (then_parts (read_part boundary bytes) more) ≡ with_front new (more rest.now)
IsAddedPart boundary old bytes new (Err NotABody) = read_part boundary bytes ≡ None
IsAddedPart boundary old bytes new (Err NoMemory) = Unit {0}
