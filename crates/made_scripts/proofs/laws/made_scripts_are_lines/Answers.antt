use Rattle.made_scripts.proofs.LineLaws.{no_line_feed, lines_short, cut_back}
use Rattle.made_scripts.proofs.MadeLaws.{length-made_lines}
use Rattle.made_scripts.proofs.laws.made_scripts_are_lines.Goals as goal

pub returns-clause-count : goal.returns-clause-count
returns-clause-count c = length-made_lines

pub returns-clause-clean : goal.returns-clause-clean
returns-clause-clean c = no_line_feed

pub returns-clause-cut : goal.returns-clause-cut
returns-clause-cut c = cut_back

pub returns-clause-short : goal.returns-clause-short
returns-clause-short c = lines_short
