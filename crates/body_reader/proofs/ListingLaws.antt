-- A listing that is written an entry at a time.
use Rattle.std.proofs.Common.{◌≡◌, ◌<◌, ◌+◌, ℕ, List, [], ◌∷◌, ◌++◌, length, take, drop, get_or, sym, ap, ◌∙◌, append_assoc, append-nil}
use Rattle.std.proofs.KnownBytes.{Appends-trans}
use Rattle.std.proofs.lemmas.List.{take_more, take-append-drop}
use Rattle.std.proofs.lemmas.List.Concat.{flat_map-append}
use Rattle.std.specs.Io.KnownBytes.{Appends}
use Rattle.std.specs.declared.option.Option.{Option}
use Rattle.ce_base.specs.Outside.{AppendsPart}
use Rattle.ce_base.specs.declared.entries.Entry.{Entry}
use Rattle.body_reader.specs.Listing.{entry_line, listing}

-- the listing of one entry more
one_more : (list : List Entry) (i : ℕ) (e : Entry) → i < length list → e ≡ get_or list i e → listing (take (i + 1) list) ≡ listing (take i list) ++ entry_line e
one_more list i e small is =
    ap listing (take_more list i e small)
    ∙ (flat_map-append entry_line (take i list) (get_or list i e ∷ [])
    ∙ ap (λ (l : List ℕ). listing (take i list) ++ l) (append-nil (entry_line (get_or list i e)) ∙ ap entry_line (sym is)))

-- the whole listing, cut behind a front of the line of an entry
cut_listing : (list : List Entry) (i : ℕ) (e : Entry) (part more : List ℕ) → i < length list → e ≡ get_or list i e → part ++ more ≡ entry_line e
    → (listing (take i list) ++ part) ++ (more ++ listing (drop (i + 1) list)) ≡ listing list
cut_listing list i e part more small is cut =
    let first = listing (take i list) in
    let rest = listing (drop (i + 1) list) in
    append_assoc first part (more ++ rest)
    ∙ (ap (λ (l : List ℕ). first ++ l) (sym (append_assoc part more rest) ∙ ap (λ (l : List ℕ). l ++ rest) cut)
    ∙ (sym (append_assoc first (entry_line e) rest)
    ∙ (ap (λ (l : List ℕ). l ++ rest) (sym (one_more list i e small is))
    ∙ (sym (flat_map-append entry_line (take (i + 1) list) (drop (i + 1) list)) ∙ ap listing (take-append-drop (i + 1) list)))))

-- a front of the line of an entry, behind those of the entries before it
pub wrote_front : (list : List Entry) (i : ℕ) (e : Entry) (old mid new : Option (List ℕ)) → i < length list → e ≡ get_or list i e
    → Appends old mid (listing (take i list)) → AppendsPart mid new (entry_line e) → AppendsPart old new (listing list)
wrote_front list i e old mid new small is before (part, (more, cut), wrote) = (
  listing (take i list) ++ part,
  (more ++ listing (drop (i + 1) list), cut_listing list i e part more small is cut),
  Appends-trans old mid new (listing (take i list)) part before wrote,
)
