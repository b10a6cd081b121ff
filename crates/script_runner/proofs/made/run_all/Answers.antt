use Rattle.std.proofs.Common.{ap, arith, length, ◌∙◌}
use Rattle.script_runner.specs.Sitting.{Sitting}
use Rattle.script_runner.proofs.MadeLaws.{made_short, made_text, made_fuel, made_end}
use Rattle.script_runner.proofs.made.run_all.Goals as goal

pub run_made_lines-requires-clause-room : goal.run_made_lines-requires-clause-room
run_made_lines-requires-clause-room c =
    omega (arith, ap (λ (s : Sitting). s.line) c.in_ok-session.ensures, ap length c.of.ensures, made_short c.args.count c.ranges.count.fits)

pub returns-clause-figures : goal.returns-clause-figures
returns-clause-figures c = made_text c.args.options c.args.count c.ranges.count.fits _ _ _
    (rw (c.in_ok-session.ensures, c.of.ensures, c.requires) at c.in_ok-session-2.ensures.ran)

pub returns-clause-left : goal.returns-clause-left
returns-clause-left c = c.fuel_left-left.ensures
    ∙ made_fuel c.args.options c.args.count c.ranges.count.fits _ _ _ (rw (c.in_ok-session.ensures, c.of.ensures, c.requires) at c.in_ok-session-2.ensures.ran)

pub returns-clause-spent : goal.returns-clause-spent
returns-clause-spent c = c.is_fuel_spent.ensures
    ∙ made_end c.args.options c.args.count c.ranges.count.fits _ _ _ (rw (c.in_ok-session.ensures, c.of.ensures, c.requires) at c.in_ok-session-2.ensures.ran)
