use Rattle.page_runner.specs.Ending.{end_status}
use Rattle.page_runner.specs.Status.TheVariants.{Usage, WriteFault}
use Rattle.cepage_c.proofs.NumberLaws.{more_room_only, numbered, numbered_with, usage_only}
use Rattle.cepage_c.proofs.cepage_run.Goals as goal

pub returns-clause-usage : goal.returns-clause-usage
returns-clause-usage c = λ is. c.run_in_memory-status.ensures.usage (usage_only _ _ c.number.ensures is)

pub returns-clause-refused : goal.returns-clause-refused
returns-clause-refused c = λ none.
    let said = c.run_in_memory-status.ensures.refused none in
    (numbered _ _ c.number.ensures Usage said.0, said.1, said.2)

pub returns-clause-whole : goal.returns-clause-whole
returns-clause-whole c = λ set said fits.
    numbered_with _ _ c.number.ensures (end_status set c.args.script.now) (c.run_in_memory-status.ensures.whole set said fits)

pub returns-clause-longer : goal.returns-clause-longer
returns-clause-longer c = λ set said long. numbered_with _ _ c.number.ensures WriteFault (c.run_in_memory-status.ensures.longer set said long)

pub returns-clause-more_room : goal.returns-clause-more_room
returns-clause-more_room c = λ set said is. c.run_in_memory-status.ensures.more_room set said (more_room_only _ _ c.number.ensures is)
