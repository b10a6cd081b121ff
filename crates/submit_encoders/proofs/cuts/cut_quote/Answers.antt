use Rattle.std.proofs.Common.{arith}
use Rattle.std.proofs.lemmas.Str.Pattern.{split_parts}
use Rattle.submit_encoders.proofs.Quotes.{cuts_quote}
use Rattle.submit_encoders.proofs.cuts.cut_quote.Goals as goal

pub returns : goal.returns
returns c = cuts_quote c.args.text.now c.split_once.result (split_parts 34 c.args.text.now c.split_once.result c.split_once.ensures.cases (omega arith))
