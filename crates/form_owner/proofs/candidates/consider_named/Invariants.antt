use Rattle.form_owner.specs.Candidates.{Considers, is_concerned}
use Rattle.form_owner.proofs.Considering.{is_passed}
use Rattle.form_owner.proofs.candidates.consider_named.Given as goal

abbrev pub invariant-loop-number : goal.invariant-loop-number
invariant-loop-number l = Considers l.tree (is_concerned l.tree l.rows) (is_passed l.initial.number-iterator l.number-iterator) l.initial.found l.found
