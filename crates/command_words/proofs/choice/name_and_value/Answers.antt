use Rattle.std.proofs.Common.{arith}
use Rattle.std.proofs.lemmas.Str.Pattern.{split_once_first}
use Rattle.command_words.proofs.SignLaws.{splits}
use Rattle.command_words.proofs.choice.name_and_value.Goals as goal

pub returns : goal.returns
returns c = splits c.args.word.now c.split_once.result (split_once_first 61 c.args.word.now c.split_once.result c.split_once.ensures.cases (omega arith))
