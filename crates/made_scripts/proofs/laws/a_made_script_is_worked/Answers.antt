use Rattle.std.proofs.Common.{refl}
use Rattle.std.specs.Fmt.{digits}
use Rattle.made_scripts.specs.Made.{first_lines, element_lines, submit_line, made_lines, joined, made_script}
use Rattle.made_scripts.proofs.laws.a_made_script_is_worked.Goals as goal

pub returns : goal.returns
unfolding first_lines element_lines submit_line made_lines joined made_script digits
returns c = refl
