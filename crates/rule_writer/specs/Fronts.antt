-- The canonical tokens up to the action within, and all where there is none.
use Rattle.std.specs.Prelude.{List}
use Rattle.rule_tokens.specs.declared.token.Token.{Token}
use Rattle.rule_lines.specs.Acts.{Act, Part}
use Rattle.rule_lines.specs.Acts as acts
use Rattle.rule_reader.specs.declared.form.Wrap.TheVariants as wraps
use Rattle.rule_writer.specs.Canon.{act_tokens, part_tokens, wrap_tokens}

abbrev pub act_front : Act → List Token
act_front (acts.Try act) = wrap_tokens wraps.Try
act_front (acts.If equal left right act) = wrap_tokens (wraps.If equal left right)
act_front act = act_tokens act

abbrev pub part_front : Part → List Token
part_front (acts.On class call act) = wrap_tokens (wraps.On class call)
part_front part = part_tokens part
