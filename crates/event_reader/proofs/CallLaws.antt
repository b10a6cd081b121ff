-- The lines of callbacks that start.
use Rattle.std.proofs.Common.{◌≡◌, ℕ, Bool, true, false, List, [], ◌∷◌, ◌++◌, Option, Some, refl, ap, ◌∙◌, append_assoc}
use Rattle.std.specs.Prelude.{codes}
use Rattle.std.specs.Fmt.{decimal}
use Rattle.std.specs.Str.{IsUtf8}
use Rattle.std.proofs.lemmas.List.{append-nil}
use Rattle.reaction_queue.specs.declared.reaction.Mode.{Mode}
use Rattle.reaction_queue.specs.declared.reaction.Mode.TheVariants.{Restore, Autocomplete}
use Rattle.rule_tokens.specs.declared.token.Token.{Token}
use Rattle.rule_tokens.specs.Quoted.{in_quotes}
use Rattle.rule_tokens.specs.Spaced.{AreClean, IsClean, as_line, spaced as spaced_tokens}
use Rattle.ce_events.specs.declared.event.Event.{Event}
use Rattle.ce_events.specs.declared.event.Event.TheVariants.{Connected, Disconnected, Adopted, Attribute, FormAssociated, FormDisabled, FormReset}
use Rattle.ce_events.specs.declared.event.Event.TheVariants.{FormStateRestore}
use Rattle.ce_events.specs.Text.{call, event_text, mode, node, node_or_null, text_or_null}
use Rattle.event_reader.specs.Calls.{call_by, mode_named}
use Rattle.event_reader.specs.IsEvent.{IsNumber, IsNumberOrNone, IsTextOrNone}
use Rattle.event_reader.specs.Reading.{class_in, event_of}
use Rattle.event_reader.proofs.Told.{IsTold}
use Rattle.event_reader.proofs.TokenLaws.{bare, quoted, three_spaced, word_clean, node_clean, node_back, text_token, text_written, text_clean, text_back}
use Rattle.event_reader.proofs.TokenLaws.{node_or_null_clean, node_or_null_back}

abbrev call_tokens : ℕ → List ℕ → List Token → List Token
call_tokens n word ts = bare (codes "call") ∷ bare (node n) ∷ bare word ∷ ts

call_line : (n : ℕ) (word : List ℕ) (ts : List Token) (rest : List ℕ) → rest ≡ word ++ spaced_tokens ts → call n rest ≡ as_line (call_tokens n word ts)
call_line n word ts rest is = ap (λ (l : List ℕ). codes "call #" ++ l) (append_assoc (decimal n) (codes " ") rest)
    ∙ ap (λ (l : List ℕ). codes "call #" ++ (decimal n ++ 32 ∷ l)) is

call_clean : (n : ℕ) (word : List ℕ) (ts : List Token) → IsNumber n → IsClean (bare word) → AreClean ts → AreClean (call_tokens n word ts)
call_clean n word ts fits word_is rest = (word_clean (codes "call") refl, (node_clean n fits, (word_is, rest)))

call_read : (n : ℕ) (word : List ℕ) (ts : List Token) → IsNumber n → event_of (call_tokens n word ts) ≡ call_by n word ts
call_read n word ts fits = rw (node_back n fits) refl

-- a callback by its word and its arguments
told_call : (e : Event) (n : ℕ) (word : List ℕ) (ts : List Token) (rest : List ℕ) → IsNumber n → event_text e ≡ call n rest → rest ≡ word ++ spaced_tokens ts
    → IsClean (bare word) → AreClean ts → call_by n word ts ≡ Some e → IsTold e
told_call e n word ts rest fits text is word_is clean read = record {
  tokens = call_tokens n word ts;
  line = text ∙ call_line n word ts rest is;
  clean = call_clean n word ts fits word_is clean;
  begins = (refl, refl);
  no_class = ap class_in text;
  other = e;
  read = call_read n word ts fits ∙ read;
  same = refl;
  step = refl;
}

pub told_connected : (n : ℕ) → IsNumber n → IsTold (Connected n)
told_connected n fits = told_call (Connected n) n (codes "connected") [] (codes "connected") fits refl refl (word_clean (codes "connected") refl) tt refl

pub told_disconnected : (n : ℕ) → IsNumber n → IsTold (Disconnected n)
told_disconnected n fits = told_call (Disconnected n) n (codes "disconnected") [] (codes "disconnected") fits refl refl
    (word_clean (codes "disconnected") refl) tt refl

pub told_form_reset : (n : ℕ) → IsNumber n → IsTold (FormReset n)
told_form_reset n fits = told_call (FormReset n) n (codes "formReset") [] (codes "formReset") fits refl refl (word_clean (codes "formReset") refl) tt refl

pub told_adopted : (n old new : ℕ) → IsNumber n → IsNumber old → IsNumber new → IsTold (Adopted n old new)
told_adopted n old new fits old_fits new_fits =
    told_call (Adopted n old new) n (codes "adopted") (bare (node old) ∷ bare (node new) ∷ []) (codes "adopted " ++ node old ++ codes " " ++ node new) fits refl
    (simp (append_assoc, append-nil)) (word_clean (codes "adopted") refl) (node_clean old old_fits, (node_clean new new_fits, tt))
    (rw (node_back old old_fits, node_back new new_fits) refl)

pub told_attribute : (n : ℕ) (name : List ℕ) (old new : Option (List ℕ)) → IsNumber n → IsUtf8 name → IsTextOrNone old → IsTextOrNone new
    → IsTold (Attribute n name old new)
told_attribute n name old new fits name_is old_is new_is =
    told_call (Attribute n name old new) n (codes "attribute") (quoted name ∷ text_token old ∷ text_token new ∷ []) _ fits refl
    (rw (text_written old, text_written new)
    (ap (λ (l : List ℕ). codes "attribute " ++ l) (three_spaced (in_quotes name) (text_or_null old) (text_or_null new))))
    (word_clean (codes "attribute") refl) (name_is, (text_clean old old_is, (text_clean new new_is, tt)))
    (rw (text_back old, text_back new) refl)

pub told_form_associated : (n : ℕ) (form : Option ℕ) → IsNumber n → IsNumberOrNone form → IsTold (FormAssociated n form)
told_form_associated n form fits form_fits =
    told_call (FormAssociated n form) n (codes "formAssociated") (bare (node_or_null form) ∷ []) (codes "formAssociated " ++ node_or_null form) fits refl
    (simp append-nil) (word_clean (codes "formAssociated") refl) (node_or_null_clean form form_fits, tt)
    (rw (node_or_null_back form form_fits) refl)

pub told_form_disabled : (n : ℕ) (disabled : Bool) → IsNumber n → IsTold (FormDisabled n disabled)
told_form_disabled n true fits =
    told_call (FormDisabled n true) n (codes "formDisabled") (bare (codes "true") ∷ []) (codes "formDisabled true") fits refl refl
    (word_clean (codes "formDisabled") refl) (word_clean (codes "true") refl, tt) refl
told_form_disabled n false fits =
    told_call (FormDisabled n false) n (codes "formDisabled") (bare (codes "false") ∷ []) (codes "formDisabled false") fits refl refl
    (word_clean (codes "formDisabled") refl) (word_clean (codes "false") refl, tt) refl

mode_clean : (why : Mode) → IsClean (bare (mode why))
mode_clean Restore = word_clean (codes "restore") refl
mode_clean Autocomplete = word_clean (codes "autocomplete") refl

mode_back : (why : Mode) → mode_named (mode why) ≡ why
mode_back Restore = refl
mode_back Autocomplete = refl

pub told_form_state_restore : (n : ℕ) (text : List ℕ) (why : Mode) → IsNumber n → IsUtf8 text → IsTold (FormStateRestore n text why)
told_form_state_restore n text why fits text_is =
    told_call (FormStateRestore n text why) n (codes "formStateRestore") (quoted text ∷ bare (mode why) ∷ []) _ fits refl
    (simp (append_assoc, append-nil)) (word_clean (codes "formStateRestore") refl) (text_is, (mode_clean why, tt))
    (rw (mode_back why) refl)
