use Rattle.std.proofs.Common.{append_assoc}
use Rattle.ce_lines.proofs.calls.put_form_disabled.Goals as goal

pub returns : goal.returns
returns c = simp append_assoc (simp (c.truth_word.ensures, c.in_ok-put_call.ensures, append_assoc) at c.put.ensures)
