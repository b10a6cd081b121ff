-- A line is refused for the first case that holds.
use Rattle.std.proofs.Common.{◌≡◌, ℕ, Bool, true, false, cond, List, [], ◌∷◌, Option, Some, None, Result, Ok, Err, refl, ap, subst, ◌∙◌, inl, inr}
use Rattle.std.specs.Str.{chars}
use Rattle.rule_tokens.specs.declared.refused.Bad.{Bad}
use Rattle.rule_tokens.specs.declared.refused.Bad.TheVariants.{Long, Utf8, Quote, Escape, Word, Arity, Place}
use Rattle.rule_tokens.specs.declared.token.Token.{Token}
use Rattle.rule_tokens.specs.Cases.{SaysLine, FirstOf, ReadsTo, RefusedFor as LexicallyRefused}
use Rattle.rule_tokens.specs.Gives.{◌>>=◌}
use Rattle.rule_tokens.specs.Laws.{IsAnswer as LexicalAnswer}
use Rattle.rule_tokens.specs.Tokens.{tokens_of}
use Rattle.rule_lines.specs.Acts.{Said}
use Rattle.rule_lines.specs.Laws.{IsAnswer}
use Rattle.rule_lines.specs.Read.{Reads, read_tokens}
use Rattle.rule_lines.specs.Whole.{IsForm, HasWrongWord, HasWrongNumber}
use Rattle.rule_reader.specs.declared.pieces.Form.{Form}
use Rattle.rule_reader.specs.AsRead.{form_as_read}
use Rattle.rule_reader.specs.Pieces.{form_of}
use Rattle.rule_script.specs.Cases.{HasTokens, IsMisplaced, WrongWord, Case, RefusedFor}
use Rattle.rule_script.specs.Place.{said_of, is_barred, or_place, placed}
use Rattle.rule_script.specs.Reading.{reading, said_by}
use Rattle.rule_script.specs.Below.{Below}
use Rattle.rule_script.proofs.SpellLaws.{form_spelled}

-- ---- lexical faults come first

lexical_first : (limit : ℕ) (bytes : List ℕ) (b : Bad) → LexicallyRefused limit bytes b → RefusedFor limit bytes b
lexical_first limit bytes b (inl long) = inl long
lexical_first limit bytes b (inr (n0, inl utf8)) = inr (n0, inl utf8)
lexical_first limit bytes b (inr (n0, inr (n1, inl quote))) = inr (n0, inr (n1, inl quote))
lexical_first limit bytes b (inr (n0, inr (n1, inr (n2, inl escape)))) = inr (n0, inr (n1, inr (n2, inl escape)))
lexical_first limit bytes b (inr (n0, inr (n1, inr (n2, inr (n3, inl word))))) = inr (n0, inr (n1, inr (n2, inr (n3, inl (word.0, inl word.1)))))
lexical_first limit bytes b (inr (n0, inr (n1, inr (n2, inr (n3, inr (n4, none)))))) = absurd none

-- ---- a line whose tokens have no lexical fault

module _ (below : Below) (limit : ℕ) (bytes : List ℕ) (ts : List Token) (to : ReadsTo limit bytes (Some ts)) where
  -- the line has no other tokens
  same_tokens : (us : List Token) → SaysLine (chars bytes) (Some us) → us ≡ ts
  same_tokens us says =
      let other : ReadsTo limit bytes (Some us) = record { short = to.short; utf8 = to.utf8; faultless = to.faultless; says = says } in
      let same : Some us ≡ Some ts = below.once limit bytes (Some us) (Some ts) other to in
      cc

  not_so : (AreSo : List Token → Type 0) → (AreSo ts → ⊥) → HasTokens bytes AreSo → ⊥
  not_so AreSo not (us, (says, so)) = not (subst AreSo (same_tokens us says) so)

  word_first : HasWrongWord IsForm ts → RefusedFor limit bytes Word
  word_first wrong = inr (to.faultless.0, inr (to.faultless.1.0, inr (to.faultless.1.1.0, inr (to.faultless.1.1.1.0, inl (refl, inr (ts, (to.says, wrong)))))))

  no_word : (HasWrongWord IsForm ts → ⊥) → WrongWord limit bytes → ⊥
  no_word not (inl lexical) = to.faultless.1.1.1.1.0 lexical
  no_word not (inr has) = not_so (HasWrongWord IsForm) not has

  behind_words : (b : Bad) → (HasWrongWord IsForm ts → ⊥) → FirstOf (Case limit bytes) (Arity ∷ Place ∷ []) b → RefusedFor limit bytes b
  behind_words b not more = inr (to.faultless.0, inr (to.faultless.1.0, inr (to.faultless.1.1.0, inr (to.faultless.1.1.1.0, inr (no_word not, more)))))

  number_first : HasWrongNumber IsForm ts → RefusedFor limit bytes Arity
  number_first wrong = behind_words Arity (λ word. (below.apart ts).word_number word wrong) (inl (refl, (ts, (to.says, wrong))))

  place_first : IsForm ts → IsMisplaced ts → RefusedFor limit bytes Place
  place_first form wrong =
      behind_words Place (λ word. (below.apart ts).form_word form word)
      (inr (not_so (HasWrongNumber IsForm) (λ number. (below.apart ts).form_number form number), inl (refl, (ts, (to.says, wrong)))))

  -- the tokens are no form
  no_form : (b : Bad) → read_tokens ts ≡ Err b → RefusedFor limit bytes b
  no_form b is = by b (subst (IsAnswer ts) is (below.forms ts))
    where
      by : (b : Bad) → IsAnswer ts (Err b) → RefusedFor limit bytes b
      by Word wrong = word_first wrong
      by Arity wrong = number_first wrong
      by Long none = absurd none
      by Utf8 none = absurd none
      by Quote none = absurd none
      by Escape none = absurd none
      by Place none = absurd none

  -- the tokens are a form
  is_form : (f : Form) → form_of ts ≡ Ok f → IsForm ts
  is_form f is = let same : read_tokens ts ≡ Ok (form_as_read f) =
      below.table ts ∙ ap (λ (r : Result Form Bad). r >>= λ g. Ok (form_as_read g)) is in subst (IsAnswer ts) same (below.forms ts)

  misplaced : (f : Form) (b : Bad) → form_of ts ≡ Ok f → placed f ≡ Err b → RefusedFor limit bytes b
  misplaced f b is wrong = at (is_barred f) (said_of f) refl refl wrong
    where
      at : (barred : Bool) (o : Option Said) → is_barred f ≡ barred → said_of f ≡ o → cond barred (Err Place) (or_place o) ≡ Err b → RefusedFor limit bytes b
      at true o barred says e = let same : Place ≡ b =
          cc in subst (RefusedFor limit bytes) same (place_first (is_form f is) (record { form = f; spelled = form_spelled below ts f is; wrong = inr barred }))
      at false None barred says e = let same : Place ≡ b =
          cc in subst (RefusedFor limit bytes) same (place_first (is_form f is) (record { form = f; spelled = form_spelled below ts f is; wrong = inl says }))
      at false (Some x) barred says e = absurd cc

  tokens_refused : (b : Bad) → (form_of ts >>= placed) ≡ Err b → RefusedFor limit bytes b
  tokens_refused b e = at (form_of ts) refl e
    where
      at : (r : Result Form Bad) → form_of ts ≡ r → (r >>= placed) ≡ Err b → RefusedFor limit bytes b
      at (Ok f) is wrong = misplaced f b is wrong
      at (Err c) is wrong = let same : c ≡ b =
          cc in no_form b (below.table ts ∙ (ap (λ (r : Result Form Bad). r >>= λ g. Ok (form_as_read g)) is ∙ ap (λ (x : Bad). failed x) same))
        where
          failed : Bad → Reads
          failed x = Err x

-- ---- a line

-- what is refused is refused for the first case that holds
pub line_refused : Below → (limit : ℕ) (bytes : List ℕ) (b : Bad) → reading limit bytes ≡ Err b → RefusedFor limit bytes b
unfolding reading
line_refused below limit bytes b e = at (tokens_of limit bytes) refl e
  where
    at : (r : Result (Option (List Token)) Bad) → tokens_of limit bytes ≡ r → (r >>= said_by) ≡ Err b → RefusedFor limit bytes b
    at (Ok None) is wrong = absurd cc
    at (Ok (Some ts)) is wrong = tokens_refused below limit bytes ts (subst (LexicalAnswer limit bytes) is (below.answered limit bytes)) b wrong
    at (Err c) is wrong = let same : c ≡ b =
        cc in subst (RefusedFor limit bytes) same (lexical_first limit bytes c (subst (LexicalAnswer limit bytes) is (below.answered limit bytes)))
