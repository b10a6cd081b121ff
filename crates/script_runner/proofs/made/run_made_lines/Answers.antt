use Rattle.script_runner.proofs.MadeLaws.{made_one, made_spent}
use Rattle.script_runner.proofs.made.run_made_lines.Goals as goal

pub returns-in-Ok-default-FuelSpent : goal.returns-in-Ok-default-FuelSpent
returns-in-Ok-default-FuelSpent c =
    let gives = rw c.in-Ok-Some.field-0-is at c.in-Ok-Some.ensures.next in
    let now = c.in-Ok-default-FuelSpent.ensures in
    let did = rw (c.as_bytes.ensures.value, c.as_str.ensures) at now.ran in
    let bad = rw (c.as_bytes.ensures.value, c.as_str.ensures) at now.bad in
    record { ran = made_spent _ _ _ _ _ _ _ _ _ _ c.loop-line.invariant gives _ did now.empty now.trace now.number bad c.in-Ok-default-FuelSpent.field-0-1-is }

pub loop-line-preserved : goal.loop-line-preserved
loop-line-preserved c =
    let gives = rw c.in-Ok-Some.field-0-is at c.in-Ok-Some.ensures.next in
    let now = c.in-Ok-default-Replied.ensures in
    let did = rw (c.as_bytes.ensures.value, c.as_str.ensures) at now.ran in
    let bad = rw (c.as_bytes.ensures.value, c.as_str.ensures) at now.bad in
    made_one _ _ _ _ _ _ _ _ _ _ c.loop-line.invariant gives _ did now.empty now.trace now.number bad c.in-Ok-default-Replied.field-0-1-is
