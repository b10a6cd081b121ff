use Rattle.rule_script.proofs.reading.below.Goals as goal

pub returns : goal.returns
returns c = record {
  answered = c.lines_are_answered.ensures.answered;
  said = c.lines_are_answered.ensures.read;
  once = c.a_line_says_one_thing.ensures;
  forms = c.forms_are_read.ensures;
  spelled = c.what_is_spelled_is_read.ensures;
  apart = c.faults_are_apart.ensures;
  table = c.lines_are_read_by_the_table.ensures;
  tell = c.operands_tell_forms.ensures;
}
