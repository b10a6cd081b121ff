use Rattle.form_owner.proofs.looks.note_looks.Goals as goal

pub returns : goal.returns
returns c = λ i was. c.in_ok-note_new.ensures i (c.note_touched.ensures i was)
