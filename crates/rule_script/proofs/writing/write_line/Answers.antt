use Rattle.rule_lines.specs.Acts.{line_of}
use Rattle.rule_script.proofs.WriteLaws.{each_text, is_canonical, written_reads, written_spells}
use Rattle.rule_script.proofs.writing.write_line.Goals as goal
use Rattle.rule_script.specs.Canonical.{IsCanonical, ReadsAgain, SpellsWithin}

pub returns-clause-text : goal.returns-clause-text
returns-clause-text c = let x = line_of c.args.line.now in
    each_text (IsCanonical x) x c.as_line.result
    (λ text is utf8 texts. is_canonical c.below_writing.ensures x text is) c.as_line.ensures.text c.as_line.ensures.utf8 c.as_line.ensures.texts

pub returns-clause-spells : goal.returns-clause-spells
returns-clause-spells c = let x = line_of c.args.line.now in
    each_text (SpellsWithin x) x c.as_line.result
    (written_spells c.below_writing.ensures x c.requires) c.as_line.ensures.text c.as_line.ensures.utf8 c.as_line.ensures.texts

pub returns-clause-reads : goal.returns-clause-reads
returns-clause-reads c = let x = line_of c.args.line.now in
    each_text (ReadsAgain x) x c.as_line.result
    (written_reads c.below_writing.ensures x c.requires) c.as_line.ensures.text c.as_line.ensures.utf8 c.as_line.ensures.texts
