use Rattle.rule_script.proofs.writing.below_writing.Goals as goal

pub returns : goal.returns
returns c = record {
  read = c.below.ensures;
  written = c.what_is_written_is_read.ensures;
  canonical = c.canonical_tokens_are_spelled.ensures;
  clean = c.canonical_tokens_are_clean.ensures;
  forms = c.forms_are_canonical.ensures;
}
