use Rattle.rule_writer.proofs.FrontLaws.{whole_act}
use Rattle.rule_writer.proofs.action.+put_action.Goals as goal

-- no action stands within
pub returns-in_default : goal.returns-in_default
returns-in_default t c = rw (← whole_act c.args.action.now c.in_default.not-Try c.in_default.not-If, ← c.front_of.ensures) c.in_ok-put_phrase.ensures
