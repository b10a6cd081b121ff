use Rattle.rule_writer.proofs.PieceLaws.{texts_piece, wrote_piece}
use Rattle.rule_writer.proofs.piece.put_all.Goals as goal

pub loop-piece-preserved : goal.loop-piece-preserved
loop-piece-preserved c = (
  wrote_piece _ _ _ c.args.pieces.now c.loop-piece.piece-index c.piece-item.result c.loop-piece-test.true c.piece-item.is c.loop-piece.invariant.0
      c.in_ok-put.ensures.text,
  texts_piece c.args.pieces.now c.loop-piece.piece-index c.piece-item.result c.loop-piece-test.true c.piece-item.is c.loop-piece.invariant.1
      c.in_ok-put.ensures.utf8,
)
