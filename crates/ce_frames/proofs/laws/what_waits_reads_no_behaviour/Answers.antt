-- each clause is a lemma
use Rattle.ce_frames.proofs.BlindTurns.{went_blind, threw_blind, over_blind}
use Rattle.ce_frames.proofs.laws.what_waits_reads_no_behaviour.Goals as goal

pub returns : goal.returns
returns c = record {
  went = λ f given bs s goes. (went_blind f given goes).same bs s;
  threw = λ f x bs s catches. (threw_blind f x catches).same bs s;
  over = λ f bs s. (over_blind f).same bs s;
  went_classes = λ f given s goes. (went_blind f given goes).classes s;
  threw_classes = λ f x s catches. (threw_blind f x catches).classes s;
  over_classes = λ f s. (over_blind f).classes s;
}
