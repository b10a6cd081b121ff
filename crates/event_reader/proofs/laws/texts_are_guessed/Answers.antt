use Rattle.event_reader.proofs.EventLaws.{texts_guessed}
use Rattle.event_reader.proofs.laws.texts_are_guessed.Goals as goal

pub returns : goal.returns
returns c = texts_guessed (record {
  read = c.what_is_written_is_read.ensures;
  text = c.what_is_written_is_text.ensures;
  named = c.flags_are_read.ensures.named;
})
