use Rattle.std.proofs.Common.{refl}
use Rattle.std.specs.Str.{is_utf8, chars}
use Rattle.std.proofs.Math.Utf8.{encode}
use Rattle.body_grammars.specs.Cuts.{behind, cut_at, cut_text}
use Rattle.body_grammars.specs.Escapes.{unspell}
use Rattle.body_grammars.specs.ReadParts.{read_part, read_tail}
use Rattle.body_grammars.specs.ReadPlain.{plain_entries}
use Rattle.body_grammars.specs.ReadUrl.{read_parts}
use Rattle.body_grammars.proofs.worked.worked_bodies.Goals as goal

pub returns-clause-spelled : goal.returns-clause-spelled
unfolding cut_at read_parts unspell is_utf8 chars encode
returns-clause-spelled c = refl

pub returns-clause-not_utf8 : goal.returns-clause-not_utf8
unfolding cut_at read_parts unspell is_utf8 chars encode
returns-clause-not_utf8 c = refl

pub returns-clause-plain : goal.returns-clause-plain
unfolding cut_at plain_entries is_utf8 chars encode
returns-clause-plain c = refl

pub returns-clause-multipart : goal.returns-clause-multipart
unfolding cut_at behind cut_text read_part read_tail is_utf8 chars encode
returns-clause-multipart c = refl

pub returns-clause-none_sent : goal.returns-clause-none_sent
unfolding cut_at behind cut_text read_part read_tail is_utf8 chars encode
returns-clause-none_sent c = refl

pub returns-clause-unfinished : goal.returns-clause-unfinished
unfolding cut_at behind cut_text read_part read_tail is_utf8 chars encode
returns-clause-unfinished c = refl
