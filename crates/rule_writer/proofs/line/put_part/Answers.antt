use Rattle.rule_writer.proofs.FrontLaws.{whole_part}
use Rattle.rule_writer.proofs.line.put_part.Goals as goal

-- no action stands within
pub returns-in_default : goal.returns-in_default
returns-in_default c = rw (← whole_part c.args.part.now c.in_default.not-On, ← c.part_phrase.ensures) c.in_ok-put_phrase.ensures
