use Rattle.form_owner.proofs.Minding.{Minding}
use Rattle.form_owner.proofs.texts.mind_all.Given as goal

abbrev pub invariant-loop-number : goal.invariant-loop-number
invariant-loop-number l = Minding l.initial.number-iterator l.number-iterator l.initial.looks l.looks
