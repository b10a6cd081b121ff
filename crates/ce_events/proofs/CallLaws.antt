-- The line of a callback says what its reaction is for.
use Rattle.std.proofs.Common.{◌≡◌, Some, None, refl, sym, ap}
use Rattle.std.specs.Option.{option_and_then}
use Rattle.reaction_queue.specs.declared.reaction.Reaction.TheVariants.{Upgrade}
use Rattle.ce_events.specs.Calls.{SaysItsCall, call_of}

pub says_its_call : SaysItsCall
says_its_call (Upgrade d) n e is = absurd (let x : None ≡ Some e = is in cc)
says_its_call r n e is = (_, refl, ap (option_and_then call_of) (sym is))
