-- A piece more of a line is written.
use Rattle.std.proofs.Common.{◌≡◌, ◌<◌, ◌+◌, ℕ, suc, List, [], ◌∷◌, ◌++◌, length, get_or, drop, refl, sym, ap, subst, ◌∙◌, append_assoc, add-one, drop-cons}
use Rattle.rule_tokens.specs.declared.token.Token.{Token}
use Rattle.rule_tokens.specs.Spaced.{spaced, written}
use Rattle.rule_lines.specs.Clean.{AreTexts}
use Rattle.rule_writer.specs.declared.piece.Piece.{Piece}
use Rattle.rule_writer.specs.Pieces.{all_pieces, piece_tokens}

spaced_append : (a b : List Token) → spaced (a ++ b) ≡ spaced a ++ spaced b
spaced_append [] b = refl
spaced_append (t ∷ a) b = ap (λ (l : List ℕ). 32 ∷ l)
    (ap (λ (l : List ℕ). written t ++ l) (spaced_append a b) ∙ sym (append_assoc (written t) (spaced a) (spaced b)))

texts_append : (a b : List Token) → AreTexts a → AreTexts b → AreTexts (a ++ b)
texts_append [] b first second = second
texts_append (t ∷ a) b first second = (first.0, texts_append a b first.1 second)

-- the pieces from one on are this piece and those behind it
from_piece : (ps : List Piece) (i : ℕ) (p : Piece) → i < length ps → p ≡ get_or ps i p → drop i ps ≡ p ∷ drop (i + 1) ps
from_piece ps i p within is = rw add-one (drop-cons ps i p within ∙ ap (λ (x : Piece). x ∷ drop (suc i) ps) (sym is))

pub wrote_piece : (old out now : List ℕ) (ps : List Piece) (i : ℕ) (p : Piece) → i < length ps → p ≡ get_or ps i p
    → out ++ spaced (all_pieces (drop i ps)) ≡ old ++ spaced (all_pieces ps) → now ≡ out ++ spaced (piece_tokens p)
    → now ++ spaced (all_pieces (drop (i + 1) ps)) ≡ old ++ spaced (all_pieces ps)
wrote_piece old out now ps i p within is before wrote =
    let others = all_pieces (drop (i + 1) ps) in
    ap (λ (l : List ℕ). l ++ spaced others) wrote
    ∙ (append_assoc out (spaced (piece_tokens p)) (spaced others)
    ∙ (ap (λ (l : List ℕ). out ++ l) (sym (spaced_append (piece_tokens p) others))
    ∙ (ap (λ (l : List Piece). out ++ spaced (all_pieces l)) (sym (from_piece ps i p within is)) ∙ before)))

pub texts_piece : (ps : List Piece) (i : ℕ) (p : Piece) → i < length ps → p ≡ get_or ps i p → (AreTexts (all_pieces (drop i ps)) → AreTexts (all_pieces ps))
    → AreTexts (piece_tokens p) → AreTexts (all_pieces (drop (i + 1) ps)) → AreTexts (all_pieces ps)
texts_piece ps i p within is before first others =
    before (subst (λ (l : List Piece). AreTexts (all_pieces l)) (sym (from_piece ps i p within is))
    (texts_append (piece_tokens p) (all_pieces (drop (i + 1) ps)) first others))
