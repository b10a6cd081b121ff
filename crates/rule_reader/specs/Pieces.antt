-- A line, read piece by piece: what stands around its action, and the form in it.
use Rattle.std.specs.Prelude.{ℕ, zero, suc, ◌+◌, List, [], ◌∷◌, ◌++◌, length, Result, Ok, Err, if◌then◌else◌}
use Rattle.rule_tokens.specs.declared.refused.Bad.{Bad}
use Rattle.rule_tokens.specs.declared.refused.Bad.TheVariants.{Arity}
use Rattle.rule_tokens.specs.declared.token.Token.{Token}
use Rattle.rule_tokens.specs.Gives.{◌>>=◌, or_word}
use Rattle.rule_reader.specs.declared.form.Leaf.{Leaf}
use Rattle.rule_reader.specs.declared.form.Wrap.{Wrap}
use Rattle.rule_reader.specs.declared.pieces.Form.{Form}
use Rattle.rule_reader.specs.declared.pieces.Piece.{Piece}
use Rattle.rule_reader.specs.declared.pieces.Piece.TheVariants.{Around, Within}
use Rattle.rule_reader.specs.Around.{is_wrap, wrap_of}
use Rattle.rule_reader.specs.First.{first_word}
use Rattle.rule_reader.specs.Leaves.{leaf_of}
use Rattle.rule_reader.specs.Takes.{next}

abbrev pub form : List Wrap → Leaf → Form
form around leaf = record { wraps = around; leaf = leaf }

-- one piece: what stands around an action and the action's tokens, or a form without an action
unfoldable pub piece_at : List Token → Result (Piece × List Token) Bad
piece_at ts = do
  first ← next ts
  word ← or_word (first_word first.0)
  if is_wrap word then (wrap_of word first.1 >>= λ w. Ok (Around w.0, w.1)) else (leaf_of word first.1 >>= λ leaf. Ok (Within leaf, []))

-- the same, with more around it
abbrev pub around : List Wrap → Result Form Bad → Result Form Bad
around ws read = read >>= λ f. Ok (form (ws ++ f.wraps) f.leaf)

-- a piece, and what the tokens after it say
abbrev pub joined : Piece → Result Form Bad → Result Form Bad
joined (Around w) read = around (w ∷ []) read
joined (Within leaf) read = Ok (form [] leaf)

-- each piece takes a token at least, so one more than there are tokens is never reached
unfoldable pub form_at : ℕ → List Token → Result Form Bad
form_at zero ts = Err Arity
form_at (suc n) ts = piece_at ts >>= λ p. joined p.0 (form_at n p.1)

-- what the tokens of a line say
abbrev pub form_of : List Token → Result Form Bad
form_of ts = form_at (length ts + 1) ts
