use Rattle.event_reader.proofs.GuessLaws.{guessed}
use Rattle.event_reader.proofs.guessing.guess.Goals as goal

pub returns-clause-only : goal.returns-clause-only
returns-clause-only c = guessed c.texts_are_guessed.ensures c.args.bytes.now c.guess_of.result c.guess_of.ensures.reads
