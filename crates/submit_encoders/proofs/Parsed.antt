-- What is written urlencoded parses as the list, with its line ends as they are sent.
use Rattle.std.proofs.Common.{◌≡◌, List, map, All}
use Rattle.std.proofs.lemmas.List.Elements.{All-map, All-weaker}
use Rattle.form_urlencoded.specs.Form.{parse}
use Rattle.form_urlencoded.proofs.FormLemmas.{IsBytePair, round_trip}
use Rattle.ce_base.specs.declared.entries.Entry.{Entry}
use Rattle.ce_base.specs.Texts.{HasTexts}
use Rattle.form_submission.specs.Encodings.{pair_of, urlencoded}
use Rattle.form_submission.specs.LineEnds.{with_full_newlines}
use Rattle.form_submission.proofs.Characters.{bytes-IsUtf8}
use Rattle.form_submission.proofs.Texts.{IsUtf8-with_full_newlines}

pair_of-bytes : (e : Entry) → HasTexts e → IsBytePair (pair_of e)
pair_of-bytes e are = (
  bytes-IsUtf8 (with_full_newlines e.name) (IsUtf8-with_full_newlines e.name are.0),
  bytes-IsUtf8 (with_full_newlines e.value) (IsUtf8-with_full_newlines e.value are.1),
)

pub urlencoded_back : (entries : List Entry) → All HasTexts entries → parse (urlencoded entries) ≡ map pair_of entries
urlencoded_back entries are =
    round_trip (map pair_of entries) (All-map IsBytePair pair_of entries (All-weaker HasTexts (λ e. IsBytePair (pair_of e)) pair_of-bytes entries are))
