-- Lists of texts and of numbers, one more at a time.
use Rattle.std.proofs.Common.{◌≡◌, ℕ, List, [], ◌∷◌, ◌++◌, sym, subst}
use Rattle.std.specs.Str.{IsUtf8}
use Rattle.event_reader.specs.IsEvent.{AreNumbers, AreTexts, IsNumber}

more_texts : (texts : List (List ℕ)) (text : List ℕ) → AreTexts texts → IsUtf8 text → AreTexts (texts ++ text ∷ [])
more_texts [] text are is = (is, tt)
more_texts (t ∷ ts) text are is = (are.0, more_texts ts text are.1 is)

pub pushed_texts : (old new : List (List ℕ)) (text : List ℕ) → new ≡ old ++ text ∷ [] → AreTexts old → IsUtf8 text → AreTexts new
pushed_texts old new text e are is = subst AreTexts (sym e) (more_texts old text are is)

more_numbers : (ns : List ℕ) (n : ℕ) → AreNumbers ns → IsNumber n → AreNumbers (ns ++ n ∷ [])
more_numbers [] n are fits = (fits, tt)
more_numbers (m ∷ ns) n are fits = (are.0, more_numbers ns n are.1 fits)

pub pushed_numbers : (old new : List ℕ) (n : ℕ) → new ≡ old ++ n ∷ [] → AreNumbers old → IsNumber n → AreNumbers new
pushed_numbers old new n e are fits = subst AreNumbers (sym e) (more_numbers old n are fits)
