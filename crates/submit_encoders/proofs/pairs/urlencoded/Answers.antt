-- The body parses as the list, with its line ends as they are sent, since the names and values of a list are texts.
use Rattle.std.proofs.Common.{◌≡◌, List, ℕ, map}
use Rattle.std.proofs.lemmas.Result.{IfOk-weaker}
use Rattle.form_urlencoded.specs.Form.{parse}
use Rattle.form_submission.specs.Encodings.{pair_of, urlencoded as urlencoded_body}
use Rattle.submit_encoders.proofs.Parsed.{urlencoded_back}
use Rattle.submit_encoders.proofs.pairs.urlencoded.Goals as goal

pub returns-clause-parses : goal.returns-clause-parses
returns-clause-parses c =
    IfOk-weaker c.serialized.result (λ (body : List ℕ). body ≡ urlencoded_body c.args.list.now) (λ (body : List ℕ). parse body ≡ map pair_of c.args.list.now)
    (λ (body : List ℕ) same. rw same (urlencoded_back c.args.list.now c.as_slice.ensures.texts))
    (rw (← c.as_slice.ensures.same) c.serialized.ensures)
