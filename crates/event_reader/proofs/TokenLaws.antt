-- The tokens of parts of a line.
use Rattle.std.proofs.Common.{◌≡◌, ◌≢◌, ℕ, ◌^◌, ◌<◌, Bool, true, false, List, [], ◌∷◌, ◌++◌, Option, Some, None, refl, ◌∙◌, append_assoc}
use Rattle.std.specs.Prelude.{codes}
use Rattle.std.specs.Fmt.{decimal}
use Rattle.std.specs.List.{list_all}
use Rattle.std.proofs.lemmas.List.{append-nil}
use Rattle.std.proofs.lemmas.List.Folds.{list_all-append}
use Rattle.rule_tokens.specs.declared.token.Token.{Token}
use Rattle.rule_tokens.specs.Spaced.{AreClean, IsClean, is_bare_byte, spaced as spaced_tokens, written}
use Rattle.ce_events.specs.Text.{node, node_or_null, spaced, spaced_nodes, text_or_null}
use Rattle.event_reader.specs.IsEvent.{AreNumbers, AreTexts, IsNumber, IsNumberOrNone, IsTextOrNone}
use Rattle.event_reader.specs.Parts.{node_in, node_or_none, nodes_of, text_or_none, texts_of}
use Rattle.event_reader.proofs.NumberLaws.{number_back, number_bare, number_begins}

abbrev pub bare : List ℕ → Token
bare text = record { quoted = false; text = text }

abbrev pub quoted : List ℕ → Token
quoted text = record { quoted = true; text = text }

-- parts with a space between them

pub three_spaced : (a b c : List ℕ) → a ++ codes " " ++ b ++ codes " " ++ c ≡ a ++ 32 ∷ (b ++ 32 ∷ (c ++ []))
three_spaced a b c = simp (append_assoc, append-nil)

pub four_spaced : (a b c d : List ℕ) → a ++ codes " " ++ b ++ codes " " ++ c ++ codes " " ++ d ≡ a ++ 32 ∷ (b ++ 32 ∷ (c ++ 32 ∷ (d ++ [])))
four_spaced a b c d = simp (append_assoc, append-nil)

-- ---- words and numbers

abbrev pub is_word_text : List ℕ → Bool
is_word_text [] = false
is_word_text (b ∷ bs) = list_all is_bare_byte (b ∷ bs)

pub word_clean : (word : List ℕ) → is_word_text word ≡ true → IsClean (bare word)
word_clean [] is = absurd cc
word_clean (b ∷ bs) is = ((λ e. cc), is)

number_some : (n : ℕ) → n < 2 ^ 64 → (rest : List ℕ) → (decimal n ++ rest) ≢ []
number_some n fits rest e = let clash : false ≡ true = rw e at (number_begins n fits rest).0 in cc

pub number_clean : (n : ℕ) → IsNumber n → IsClean (bare (decimal n))
number_clean n fits = ((λ e. number_some n fits [] (append-nil (decimal n) ∙ e)), number_bare n fits)

pub line_clean : (n : ℕ) → IsNumber n → IsClean (bare (decimal n ++ 58 ∷ []))
line_clean n fits = (number_some n fits (58 ∷ []), rw (list_all-append is_bare_byte (decimal n) (58 ∷ []), number_bare n fits) refl)

pub node_clean : (n : ℕ) → IsNumber n → IsClean (bare (node n))
node_clean n fits = ((λ e. cc), number_bare n fits)

pub node_back : (n : ℕ) → IsNumber n → node_in (node n) ≡ n
node_back n fits = number_back n fits

-- ---- a node or none, a text or none

abbrev pub text_token : Option (List ℕ) → Token
text_token None = bare (codes "null")
text_token (Some text) = quoted text

pub text_written : (text : Option (List ℕ)) → written (text_token text) ≡ text_or_null text
text_written None = refl
text_written (Some text) = refl

pub text_clean : (text : Option (List ℕ)) → IsTextOrNone text → IsClean (text_token text)
text_clean None is = word_clean (codes "null") refl
text_clean (Some text) is = is

pub text_back : (text : Option (List ℕ)) → text_or_none (text_token text) ≡ text
text_back None = refl
text_back (Some text) = refl

pub node_or_null_clean : (n : Option ℕ) → IsNumberOrNone n → IsClean (bare (node_or_null n))
node_or_null_clean None is = word_clean (codes "null") refl
node_or_null_clean (Some n) is = node_clean n is

pub node_or_null_back : (n : Option ℕ) → IsNumberOrNone n → node_or_none (node_or_null n) ≡ n
node_or_null_back None is = refl
node_or_null_back (Some n) is = rw (number_back n is) refl

-- ---- lists

abbrev pub text_tokens : List (List ℕ) → List Token
text_tokens [] = []
text_tokens (text ∷ texts) = quoted text ∷ text_tokens texts

pub texts_written : (texts : List (List ℕ)) → spaced texts ≡ spaced_tokens (text_tokens texts)
texts_written [] = refl
texts_written (text ∷ texts) = rw (texts_written texts) refl

pub texts_clean : (texts : List (List ℕ)) → AreTexts texts → AreClean (text_tokens texts)
texts_clean [] are = tt
texts_clean (text ∷ texts) are = (are.0, texts_clean texts are.1)

pub texts_back : (texts : List (List ℕ)) → texts_of (text_tokens texts) ≡ texts
texts_back [] = refl
texts_back (text ∷ texts) = rw (texts_back texts) refl

abbrev pub node_tokens : List ℕ → List Token
node_tokens [] = []
node_tokens (n ∷ ns) = bare (node n) ∷ node_tokens ns

pub nodes_written : (ns : List ℕ) → spaced_nodes ns ≡ spaced_tokens (node_tokens ns)
nodes_written [] = refl
nodes_written (n ∷ ns) = rw (nodes_written ns) refl

pub nodes_clean : (ns : List ℕ) → AreNumbers ns → AreClean (node_tokens ns)
nodes_clean [] are = tt
nodes_clean (n ∷ ns) are = (node_clean n are.0, nodes_clean ns are.1)

pub nodes_back : (ns : List ℕ) → AreNumbers ns → nodes_of (node_tokens ns) ≡ ns
nodes_back [] are = refl
nodes_back (n ∷ ns) are = rw (number_back n are.0, nodes_back ns are.1) refl
