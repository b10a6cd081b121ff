-- What is read is spelled, and what is spelled is read.
use Rattle.std.proofs.Common.{◌≡◌, ℕ, Bool, true, false, cond, List, Option, Some, None, Result, Ok, Err, refl, sym, ap, subst, ◌∙◌}
use Rattle.rule_tokens.specs.declared.refused.Bad.{Bad}
use Rattle.rule_tokens.specs.declared.refused.Bad.TheVariants as bad
use Rattle.rule_tokens.specs.declared.token.Token.{Token}
use Rattle.rule_tokens.specs.Gives.{◌>>=◌}
use Rattle.rule_tokens.specs.Laws.{IsAnswer}
use Rattle.rule_tokens.specs.Tokens.{tokens_of}
use Rattle.rule_lines.specs.Acts.{Said, Blank}
use Rattle.rule_lines.specs.Read.{Reads}
use Rattle.rule_lines.specs.Spells.{Spelled}
use Rattle.rule_reader.specs.declared.pieces.Form.{Form}
use Rattle.rule_reader.specs.AsRead.{form_as_read}
use Rattle.rule_reader.specs.Pieces.{form_of}
use Rattle.rule_script.specs.Place.{said_of, is_barred, or_place, placed}
use Rattle.rule_script.specs.Reading.{reading, said_by}
use Rattle.rule_script.specs.Spells.{SpellsForm, SpellsBy, Spells}
use Rattle.rule_script.specs.Below.{Below}

-- ---- a form that may stand where it stands

abbrev says : Said → Result Said Bad
says x = Ok x

or_place_ok : (o : Option Said) (x : Said) → or_place o ≡ Ok x → o ≡ Some x
or_place_ok None x e = absurd cc
or_place_ok (Some y) x e = let same : y ≡ x = cc in ap Some same

pub placed_ok : (f : Form) (x : Said) → placed f ≡ Ok x → (is_barred f ≡ false) × (said_of f ≡ Some x)
placed_ok f x e = at (is_barred f) refl e
  where
    at : (b : Bool) → is_barred f ≡ b → cond b (Err bad.Place) (or_place (said_of f)) ≡ Ok x → (is_barred f ≡ false) × (said_of f ≡ Some x)
    at true is read = absurd cc
    at false is read = (is, or_place_ok (said_of f) x read)

placed_again : (f : Form) (x : Said) → is_barred f ≡ false → said_of f ≡ Some x → placed f ≡ Ok x
placed_again f x free said = rw (free, said) refl

-- ---- the form of tokens

abbrev reads_as : Form → Reads
reads_as f = Ok (form_as_read f)

-- what is read of the form is what its tokens spell
pub form_spelled : Below → (ts : List Token) (f : Form) → form_of ts ≡ Ok f → Spelled ts (form_as_read f)
form_spelled below ts f is = (below.spelled ts (form_as_read f)).1 (below.table ts ∙ ap (λ (r : Result Form Bad). r >>= λ g. reads_as g) is)

-- tokens that spell a form are read as it
pub spelled_form : Below → (ts : List Token) (f : Form) → Spelled ts (form_as_read f) → form_of ts ≡ Ok f
spelled_form below ts f spelled = at (form_of ts) (sym (below.table ts) ∙ (below.spelled ts (form_as_read f)).0 spelled)
  where
    at : (r : Result Form Bad) → (r >>= λ g. reads_as g) ≡ Ok (form_as_read f) → r ≡ Ok f
    at (Ok g) e = let same : form_as_read g ≡ form_as_read f = cc in ap Ok (below.tell g f same)
    at (Err b) e = absurd cc

-- ---- a line

tokens_found : Below → (ts : List Token) (x : Said) → (form_of ts >>= placed) ≡ Ok x → SpellsForm ts x
tokens_found below ts x e = at (form_of ts) refl e
  where
    at : (r : Result Form Bad) → form_of ts ≡ r → (r >>= placed) ≡ Ok x → SpellsForm ts x
    at (Ok f) is read = let stands = placed_ok f x read in record { form = f; spelled = form_spelled below ts f is; free = stands.0; says = stands.1 }
    at (Err b) is read = absurd cc

by_found : Below → (o : Option (List Token)) (x : Said) → said_by o ≡ Ok x → SpellsBy o x
by_found below None x e = let same : Blank ≡ x = cc in sym same
by_found below (Some ts) x e = tokens_found below ts x e

-- what is read is spelled
pub found : Below → (limit : ℕ) (bytes : List ℕ) (x : Said) → reading limit bytes ≡ Ok x → Spells limit bytes x
unfolding reading
found below limit bytes x e = at (tokens_of limit bytes) refl e
  where
    at : (r : Result (Option (List Token)) Bad) → tokens_of limit bytes ≡ r → (r >>= said_by) ≡ Ok x → Spells limit bytes x
    at (Ok o) is read = record { tokens = o; laid_out = subst (IsAnswer limit bytes) is (below.answered limit bytes); spelled = by_found below o x read }
    at (Err b) is read = absurd cc

by_read : Below → (o : Option (List Token)) (x : Said) → SpellsBy o x → said_by o ≡ Ok x
by_read below None x same = ap says (sym same)
by_read below (Some ts) x s = rw (spelled_form below ts s.form s.spelled) (placed_again s.form x s.free s.says)

-- what is spelled is read, so a line spells one thing at most
pub only : Below → (limit : ℕ) (bytes : List ℕ) (x : Said) → Spells limit bytes x → reading limit bytes ≡ Ok x
unfolding reading
only below limit bytes x s = rw (below.said limit bytes s.tokens s.laid_out) (by_read below s.tokens x s.spelled)
