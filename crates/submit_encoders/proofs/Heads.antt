-- What stands before the value in a part, put piece by piece.
use Rattle.std.proofs.Common.{◌≡◌, ℕ, List, [], ◌∷◌, ◌++◌, append_assoc, codes}
use Rattle.form_submission.specs.Encodings.{escaped}
use Rattle.submit_encoders.specs.Encoded.{part_head}

-- behind a body the pieces, as they are put
abbrev with_pieces : List ℕ → List ℕ → List ℕ → List ℕ
with_pieces body boundary name =
    body
    ++ codes "--"
    ++ boundary
    ++ (13 ∷ 10 ∷ codes "Content-Disposition: form-data; name=\"")
    ++ escaped name
    ++ (34 ∷ 13 ∷ 10 ∷ 13 ∷ 10 ∷ [])

pub pieces_are_head : (body boundary name : List ℕ) → with_pieces body boundary name ≡ body ++ part_head boundary name
pieces_are_head body boundary name = simp append_assoc
