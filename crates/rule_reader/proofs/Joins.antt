-- One more piece of a line.
use Rattle.std.proofs.Common.{◌≡◌, ℕ, zero, suc, ◌-◌, ◌<◌, List, [], ◌∷◌, ◌++◌, Result, Ok, Err, refl, sym, ap, ◌∙◌, append_assoc, arith}
use Rattle.std.proofs.lemmas.List.{append-nil}
use Rattle.rule_tokens.specs.declared.refused.Bad.{Bad}
use Rattle.rule_tokens.specs.declared.refused.Bad.TheVariants.{Arity}
use Rattle.rule_tokens.specs.declared.refused.LineRefused.{LineRefused}
use Rattle.rule_tokens.specs.declared.refused.LineRefused.TheVariants as refused
use Rattle.rule_tokens.specs.declared.token.Token.{Token}
use Rattle.rule_tokens.specs.Gives.{Fails}
use Rattle.rule_reader.specs.declared.form.Leaf.{Leaf}
use Rattle.rule_reader.specs.declared.form.Wrap.{Wrap}
use Rattle.rule_reader.specs.declared.pieces.Form.{Form}
use Rattle.rule_reader.specs.declared.pieces.Piece.TheVariants.{Around, Within}
use Rattle.rule_reader.specs.Pieces.{form, around, piece_at, form_at}

around_around : (ws : List Wrap) (w : Wrap) (read : Result Form Bad) → around ws (around (w ∷ []) read) ≡ around (ws ++ w ∷ []) read
around_around ws w (Ok f) = ap (λ (all : List Wrap). Ok (form all f.leaf)) (sym (append_assoc ws (w ∷ []) f.wraps))
around_around ws w (Err e) = refl

pub one_around : (ws : List Wrap) (n : ℕ) (ts rest : List Token) (w : Wrap) → 0 < n → piece_at ts ≡ Ok (Around w, rest)
    → around ws (form_at n ts) ≡ around (ws ++ w ∷ []) (form_at (n - 1) rest)
unfolding form_at
one_around ws zero ts rest w lt e = absurd (omega arith)
one_around ws (suc n) ts rest w lt e = let k : suc n - 1 ≡ n = omega arith in rw (k, e) (around_around ws w (form_at n rest))

pub one_within : (ws : List Wrap) (n : ℕ) (ts rest : List Token) (leaf : Leaf) → 0 < n → piece_at ts ≡ Ok (Within leaf, rest)
    → around ws (form_at n ts) ≡ Ok (form ws leaf)
unfolding form_at
one_within ws zero ts rest leaf lt e = absurd (omega arith)
one_within ws (suc n) ts rest leaf lt e = rw e (ap (λ (all : List Wrap). Ok (form all leaf)) (append-nil ws))

pub one_fault : (ws : List Wrap) (n : ℕ) (ts : List Token) (b : Bad) → 0 < n → piece_at ts ≡ Err b → around ws (form_at n ts) ≡ Err b
unfolding form_at
one_fault ws zero ts b lt e = absurd (omega arith)
one_fault ws (suc n) ts b lt e = rw e refl

pub none_left : (ws : List Wrap) (n : ℕ) (ts : List Token) → n ≡ 0 → around ws (form_at n ts) ≡ Err Arity
unfolding form_at
none_left ws zero ts e = refl
none_left ws (suc n) ts e = absurd (omega arith)

pub fails : (e : LineRefused) (ws : List Wrap) (n : ℕ) (ts : List Token) (total : Result Form Bad) → 0 < n → Fails e (piece_at ts)
    → around ws (form_at n ts) ≡ total → Fails e total
fails refused.NoMemory ws n ts total lt failed so_far = tt
fails (refused.Bad b) ws n ts total lt failed so_far = sym so_far ∙ one_fault ws n ts b lt failed

pub ruleset join_steps = (one_around, one_within, one_fault, none_left)
