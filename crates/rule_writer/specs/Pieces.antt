-- The canonical tokens of the pieces of a line.
use Rattle.std.specs.Prelude.{List, [], ◌∷◌, ◌++◌, map}
use Rattle.rule_tokens.specs.declared.token.Token.{Token}
use Rattle.rule_lines.specs.Canon.{all_tokens, keyed, tokens_of}
use Rattle.rule_lines.specs.declared.read_as.ReadAs.TheVariants as read_as
use Rattle.rule_reader.specs.AsRead.{mark, pairs, part}
use Rattle.rule_writer.specs.declared.piece.Phrase.{Phrase}
use Rattle.rule_writer.specs.declared.piece.Phrase.TheVariants as phrases
use Rattle.rule_writer.specs.declared.piece.Piece.{Piece}
use Rattle.rule_writer.specs.declared.piece.Piece.TheVariants as pieces

abbrev pub piece_tokens : Piece → List Token
piece_tokens (pieces.Word word) = tokens_of (read_as.Word word)
piece_tokens (pieces.Variable name) = tokens_of (read_as.Variable name.now)
piece_tokens (pieces.Node place) = tokens_of (read_as.Node place.now)
piece_tokens (pieces.Class name) = tokens_of (read_as.Class name.now)
piece_tokens (pieces.Chars text) = tokens_of (read_as.Chars text.now)
piece_tokens (pieces.Value val) = tokens_of (read_as.Value val.now)
piece_tokens (pieces.Flags raised) = tokens_of (read_as.Flags raised.now)
piece_tokens (pieces.Callback call) = tokens_of (read_as.Callback call)
piece_tokens (pieces.MaybeNode place) = tokens_of (part read_as.Node place.now)
piece_tokens (pieces.MaybeChars text) = tokens_of (part read_as.Chars text.now)
piece_tokens (pieces.KeyedChars word text) = keyed word (part read_as.Chars text.now)
piece_tokens (pieces.KeyedNode word place) = keyed word (part read_as.Node place.now)
piece_tokens (pieces.KeyedValue word val) = keyed word (part read_as.Value val.now)
piece_tokens (pieces.Marked word there) = keyed word (mark there)
piece_tokens (pieces.AllValues vals) = all_tokens (map read_as.Value vals.now)
piece_tokens (pieces.AllChars texts) = all_tokens (map read_as.Chars texts.now)
piece_tokens (pieces.AllEntries entries) = all_tokens (pairs entries.now)

abbrev pub all_pieces : List Piece → List Token
all_pieces [] = []
all_pieces (p ∷ ps) = piece_tokens p ++ all_pieces ps

-- of a word, and the pieces behind it
abbrev pub phrase_tokens : Phrase → List Token
phrase_tokens (phrases.Alone word) = all_pieces (pieces.Word word ∷ [])
phrase_tokens (phrases.One word first) = all_pieces (pieces.Word word ∷ first ∷ [])
phrase_tokens (phrases.Two word first second) = all_pieces (pieces.Word word ∷ first ∷ second ∷ [])
phrase_tokens (phrases.Three word first second third) = all_pieces (pieces.Word word ∷ first ∷ second ∷ third ∷ [])
phrase_tokens (phrases.Four word first second third fourth) = all_pieces (pieces.Word word ∷ first ∷ second ∷ third ∷ fourth ∷ [])
