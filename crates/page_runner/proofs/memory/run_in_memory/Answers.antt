use Rattle.std.proofs.Common.{◌≡◌, ◌<◌, ◌⊎◌, length, subst}
use Rattle.command_words.specs.declared.words.Options.{Options}
use Rattle.script_runner.specs.declared.status.Status.TheVariants.{WriteFault, NoMemory}
use Rattle.page_runner.specs.Ending.{script_transcript}
use Rattle.page_runner.proofs.MemoryLaws.{more_room_only, no_usage, none_is_some, same_some}
use Rattle.page_runner.proofs.memory.run_in_memory.Goals as goal

pub returns-in-Ok-None-clause-longer : goal.returns-in-Ok-None-clause-longer
returns-in-Ok-None-clause-longer c = λ set said long. absurd (none_is_some _ _ set c.in-Ok-None.ensures c.in-Ok-None.field-0-is said)

pub returns-in-Ok-Some-clause-usage : goal.returns-in-Ok-Some-clause-usage
returns-in-Ok-Some-clause-usage c = λ is.
    absurd (no_usage c.in-Ok-Some.options c.args.script.now _ _ _ _ c.run_into.ensures.whole c.run_into.ensures.longer is)

pub returns-in-Ok-Some-clause-longer : goal.returns-in-Ok-Some-clause-longer
returns-in-Ok-Some-clause-longer c = λ set said.
    let script = c.args.script.now in
    let result = c.run_into.result in
    let room = length c.args.out.now in
    let P : Options → Type 0 = λ s. room < length (script_transcript s script) → ((result.0 ≡ WriteFault) × (result.1 ≡ room)) ⊎ (result.0 ≡ NoMemory) in
    subst P (same_some _ _ set c.in-Ok-Some.options c.in-Ok-Some.ensures c.in-Ok-Some.field-0-is said) c.run_into.ensures.longer

pub returns-in-Ok-Some-clause-more_room : goal.returns-in-Ok-Some-clause-more_room
returns-in-Ok-Some-clause-more_room c = λ set said is.
    let script = c.args.script.now in
    let P : Options → Type 0 = λ s. length c.args.out.now < length (script_transcript s script) in
    let here : P c.in-Ok-Some.options = more_room_only c.in-Ok-Some.options script _ _ _ _ c.run_into.ensures.whole is in
    subst P (same_some _ _ set c.in-Ok-Some.options c.in-Ok-Some.ensures c.in-Ok-Some.field-0-is said) here
