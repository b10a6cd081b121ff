use Rattle.std.proofs.Common.{◌∙◌, arith}
use Rattle.std.proofs.lemmas.Str.{encode_ascii}
use Rattle.rule_lines.specs.Acts.{line_of}
use Rattle.rule_writer.proofs.LineLaws.{no_tokens}
use Rattle.rule_writer.proofs.line.as_line.Goals as goal
use Rattle.rule_writer.specs.Canon.{said_tokens}

pub returns-in-None-clause-text : goal.returns-in-None-clause-text
returns-in-None-clause-text c =
    rw (no_tokens (said_tokens (line_of c.args.line.now)) (λ rest e.
    c.in-None.ensures.cases rest (c.as_str.ensures.value ∙ (c.in_ok-put_line.ensures.text ∙ rw (c.new-out.ensures.bytes, encode_ascii 32 (omega arith)) e))))
    c.of.ensures
