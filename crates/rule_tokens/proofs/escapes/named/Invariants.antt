use Rattle.std.proofs.Common.{◌≡◌, ◌<◌, ◌^◌, drop}
use Rattle.rule_tokens.specs.Escapes.{hex_from}
use Rattle.rule_tokens.proofs.escapes.named.Given as goal

abbrev pub invariant-loop-d : goal.invariant-loop-d
invariant-loop-d l = record { same : hex_from l.code (drop l.d-index l.digits) ≡ hex_from 0 l.digits; fits : l.code < 16 ^ l.d-index }
