-- The characters of a text.
use Rattle.std.proofs.lemmas.Str.{chars_from_encodes}

pub ruleset char_lists = (chars_from_encodes)
