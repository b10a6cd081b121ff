use Rattle.std.proofs.Common.{◌≡◌, ◌++◌, drop, string_bytes}
use Rattle.rule_tokens.specs.Spaced.{spaced}
use Rattle.rule_writer.specs.Pieces.{all_pieces}
use Rattle.rule_lines.specs.Clean.{AreTexts}
use Rattle.rule_writer.proofs.piece.put_all.Given as goal

abbrev pub invariant-loop-piece : goal.invariant-loop-piece
invariant-loop-piece l =
    (string_bytes l.out ++ spaced (all_pieces (drop l.piece-index l.pieces)) ≡ string_bytes l.initial.out ++ spaced (all_pieces l.pieces))
    × (AreTexts (all_pieces (drop l.piece-index l.pieces)) → AreTexts (all_pieces l.pieces))
