-- What is read of a line is what the table of forms gives.
use Rattle.std.proofs.Common.{◌≡◌, ℕ, zero, suc, ◌+◌, Bool, true, false, List, [], ◌∷◌, length, Option, Some, Result, Ok, Err, if◌then◌else◌, refl, sym, ap}
use Rattle.std.proofs.Common.{◌∙◌, arith}
use Rattle.std.specs.Str.{bytes_eq}
use Rattle.rule_tokens.specs.declared.refused.Bad.{Bad}
use Rattle.rule_tokens.specs.declared.token.Token.{Token}
use Rattle.rule_tokens.specs.Gives.{◌>>=◌, with_front, or_word}
use Rattle.rule_lines.specs.Read.{Reads, read_row, read_within, read_tokens}
use Rattle.rule_lines.specs.Rows.{forms}
use Rattle.rule_lines.specs.FixedWords.{spelling}
use Rattle.rule_lines.specs.declared.word.Word.{Word}
use Rattle.rule_lines.specs.declared.word.Word.TheVariants as words
use Rattle.rule_reader.specs.declared.form.Leaf.{Leaf}
use Rattle.rule_reader.specs.declared.form.Wrap.{Wrap}
use Rattle.rule_reader.specs.declared.form.Wrap.TheVariants as wraps
use Rattle.rule_reader.specs.declared.pieces.Form.{Form}
use Rattle.rule_reader.specs.declared.pieces.Piece.{Piece}
use Rattle.rule_reader.specs.declared.pieces.Piece.TheVariants.{Around, Within}
use Rattle.rule_reader.specs.Around.{on_of, if_of, is_wrap, wrap_of}
use Rattle.rule_reader.specs.First.{first_word}
use Rattle.rule_reader.specs.AsRead.{leaf_as_read, wrap_as_read, form_as_read}
use Rattle.rule_reader.specs.Leaves.{leaf_of}
use Rattle.rule_reader.specs.Pieces.{around, joined, piece_at, form_at, form_of}
use Rattle.rule_reader.specs.Attributes.{set_attr_of, del_attr_of}
use Rattle.rule_reader.specs.Bodies.{log_of, base_call_of, return_form_of, throw_of, bump_of, keep_of}
use Rattle.rule_reader.specs.Classes.{class_of, has_of, observe_of, associate_of, disable_of}
use Rattle.rule_reader.specs.Controls.{reset_of, value_of, check_of, choose_of, submit_of, request_of, ask_of}
use Rattle.rule_reader.specs.CustomElements.{define_of, upgrade_of}
use Rattle.rule_reader.specs.Internals.{internals_of, form_value_of, form_list_of, form_null_of, validity_of, state_of, custom_of}
use Rattle.rule_reader.specs.Tree.{create_of, new_of, make_text_of, shadow_of, append_of, before_of, remove_of, detach_of, clone_of, adopt_of, let_variable_of}
use Rattle.rule_reader.specs.Tree.{doc_of}
use Rattle.rule_reader.specs.Users.{user_of}
use Rattle.rule_reader.proofs.Same.{assoc, shows}
use Rattle.rule_reader.proofs.SameForms.{same_create, same_new, same_make_text, same_shadow, same_append, same_before, same_remove, same_detach, same_set_attr}
use Rattle.rule_reader.proofs.SameForms.{same_del_attr, same_clone, same_adopt, same_define, same_upgrade, same_reset, same_internals, same_form_value}
use Rattle.rule_reader.proofs.SameForms.{same_form_null, same_validity, same_custom, same_value, same_check, same_choose, same_submit, same_request}
use Rattle.rule_reader.proofs.SameForms.{same_let_variable, same_base_call, same_return_form, same_throw, same_bump, same_keep, same_class, same_has}
use Rattle.rule_reader.proofs.SameForms.{same_associate, same_doc}
use Rattle.rule_reader.proofs.SameRest.{same_form_list, same_state, same_log, same_observe, same_disable, same_user}
use Rattle.rule_reader.proofs.SameAround.{same_ask, same_on, same_if, then_action}

abbrev step : ℕ → Piece × List Token → Result Form Bad
step n p = joined p.0 (form_at n p.1)

abbrev last : Result Leaf Bad → Result (Piece × List Token) Bad
last read = read >>= λ leaf. Ok (Within leaf, [])

abbrev not_last : Result (Wrap × List Token) Bad → Result (Piece × List Token) Bad
not_last read = read >>= λ w. Ok (Around w.0, w.1)

leafed : (n : ℕ) (r : Result Leaf Bad) → shows leaf_as_read r ≡ shows form_as_read (last r >>= step n)
leafed n (Ok leaf) = refl
leafed n (Err b) = refl

inside : (w : Wrap) (r : Result Form Bad) → with_front (wrap_as_read w) (shows form_as_read r) ≡ shows form_as_read (around (w ∷ []) r)
inside w (Ok f) = refl
inside w (Err b) = refl

wrapped : (n : ℕ) → ((us : List Token) → read_within n us ≡ shows form_as_read (form_at n us)) → (r : Result (Wrap × List Token) Bad)
    → (r >>= then_action (read_within n)) ≡ shows form_as_read (not_last r >>= step n)
wrapped n ih (Ok w) = ap (with_front (wrap_as_read w.0)) (ih w.1) ∙ inside w.0 (form_at n w.1)
wrapped n ih (Err b) = refl

abbrev piece_of : Word → List Token → Result (Piece × List Token) Bad
piece_of word ts = if is_wrap word then not_last (wrap_of word ts) else last (leaf_of word ts)

abbrev goes_on : ℕ → List Token → Word → Result Form Bad
goes_on n ts word = piece_of word ts >>= step n

row_word : (b : Bool) (x y : Reads) (w : Word) (o : Option Word) (k : Word → Result Form Bad) → x ≡ shows form_as_read (k w)
    → y ≡ shows form_as_read (or_word o >>= k) → (if b then x else y) ≡ shows form_as_read (or_word (if b then Some w else o) >>= k)
row_word true x y w o k p q = p
row_word false x y w o k p q = q

abbrev token : Bool → List ℕ → Token
token q w = record { quoted = q; text = w }

first_row : (n : ℕ) → ((us : List Token) → read_within n us ≡ shows form_as_read (form_at n us)) → (q : Bool) (w : List ℕ) (ts : List Token)
    → read_row (read_within n) forms (token q w) ts ≡ shows form_as_read (or_word (first_word (token q w)) >>= goes_on n ts)
first_row n ih true w ts = refl
first_row n ih false w ts = row_word (bytes_eq w (spelling words.Create)) _ _ words.Create _ (goes_on n ts)
    (same_create (read_within n) ts ∙ leafed n (create_of ts))
    (row_word (bytes_eq w (spelling words.New)) _ _ words.New _ (goes_on n ts) (same_new (read_within n) ts ∙ leafed n (new_of ts))
    (row_word (bytes_eq w (spelling words.Text)) _ _ words.Text _ (goes_on n ts) (same_make_text (read_within n) ts ∙ leafed n (make_text_of ts))
    (row_word (bytes_eq w (spelling words.Shadow)) _ _ words.Shadow _ (goes_on n ts) (same_shadow (read_within n) ts ∙ leafed n (shadow_of ts))
    (row_word (bytes_eq w (spelling words.Append)) _ _ words.Append _ (goes_on n ts) (same_append (read_within n) ts ∙ leafed n (append_of ts))
    (row_word (bytes_eq w (spelling words.Before)) _ _ words.Before _ (goes_on n ts) (same_before (read_within n) ts ∙ leafed n (before_of ts))
    (row_word (bytes_eq w (spelling words.Remove)) _ _ words.Remove _ (goes_on n ts) (same_remove (read_within n) ts ∙ leafed n (remove_of ts))
    (row_word (bytes_eq w (spelling words.Detach)) _ _ words.Detach _ (goes_on n ts) (same_detach (read_within n) ts ∙ leafed n (detach_of ts))
    (row_word (bytes_eq w (spelling words.SetAttr)) _ _ words.SetAttr _ (goes_on n ts) (same_set_attr (read_within n) ts ∙ leafed n (set_attr_of ts))
    (row_word (bytes_eq w (spelling words.DelAttr)) _ _ words.DelAttr _ (goes_on n ts) (same_del_attr (read_within n) ts ∙ leafed n (del_attr_of ts))
    (row_word (bytes_eq w (spelling words.Clone)) _ _ words.Clone _ (goes_on n ts) (same_clone (read_within n) ts ∙ leafed n (clone_of ts))
    (row_word (bytes_eq w (spelling words.Adopt)) _ _ words.Adopt _ (goes_on n ts) (same_adopt (read_within n) ts ∙ leafed n (adopt_of ts))
    (row_word (bytes_eq w (spelling words.Define)) _ _ words.Define _ (goes_on n ts) (same_define (read_within n) ts ∙ leafed n (define_of ts))
    (row_word (bytes_eq w (spelling words.Upgrade)) _ _ words.Upgrade _ (goes_on n ts) (same_upgrade (read_within n) ts ∙ leafed n (upgrade_of ts))
    (row_word (bytes_eq w (spelling words.Reset)) _ _ words.Reset _ (goes_on n ts) (same_reset (read_within n) ts ∙ leafed n (reset_of ts))
    (row_word (bytes_eq w (spelling words.Internals)) _ _ words.Internals _ (goes_on n ts) (same_internals (read_within n) ts ∙ leafed n (internals_of ts))
    (row_word (bytes_eq w (spelling words.FormValue)) _ _ words.FormValue _ (goes_on n ts) (same_form_value (read_within n) ts ∙ leafed n (form_value_of ts))
    (row_word (bytes_eq w (spelling words.FormList)) _ _ words.FormList _ (goes_on n ts) (same_form_list (read_within n) ts ∙ leafed n (form_list_of ts))
    (row_word (bytes_eq w (spelling words.FormNull)) _ _ words.FormNull _ (goes_on n ts) (same_form_null (read_within n) ts ∙ leafed n (form_null_of ts))
    (row_word (bytes_eq w (spelling words.Validity)) _ _ words.Validity _ (goes_on n ts) (same_validity (read_within n) ts ∙ leafed n (validity_of ts))
    (row_word (bytes_eq w (spelling words.State)) _ _ words.State _ (goes_on n ts) (same_state (read_within n) ts ∙ leafed n (state_of ts))
    (row_word (bytes_eq w (spelling words.Custom)) _ _ words.Custom _ (goes_on n ts) (same_custom (read_within n) ts ∙ leafed n (custom_of ts))
    (row_word (bytes_eq w (spelling words.Value)) _ _ words.Value _ (goes_on n ts) (same_value (read_within n) ts ∙ leafed n (value_of ts))
    (row_word (bytes_eq w (spelling words.Check)) _ _ words.Check _ (goes_on n ts) (same_check (read_within n) ts ∙ leafed n (check_of ts))
    (row_word (bytes_eq w (spelling words.Choose)) _ _ words.Choose _ (goes_on n ts) (same_choose (read_within n) ts ∙ leafed n (choose_of ts))
    (row_word (bytes_eq w (spelling words.Submit)) _ _ words.Submit _ (goes_on n ts) (same_submit (read_within n) ts ∙ leafed n (submit_of ts))
    (row_word (bytes_eq w (spelling words.Request)) _ _ words.Request _ (goes_on n ts) (same_request (read_within n) ts ∙ leafed n (request_of ts))
    (row_word (bytes_eq w (spelling words.Ask)) _ _ words.Ask _ (goes_on n ts) (same_ask (read_within n) ts ∙ leafed n (ask_of ts))
    (row_word (bytes_eq w (spelling words.Let)) _ _ words.Let _ (goes_on n ts) (same_let_variable (read_within n) ts ∙ leafed n (let_variable_of ts))
    (row_word (bytes_eq w (spelling words.Log)) _ _ words.Log _ (goes_on n ts) (same_log (read_within n) ts ∙ leafed n (log_of ts))
    (row_word (bytes_eq w (spelling words.Super)) _ _ words.Super _ (goes_on n ts) (same_base_call (read_within n) ts ∙ leafed n (base_call_of ts))
    (row_word (bytes_eq w (spelling words.Return)) _ _ words.Return _ (goes_on n ts) (same_return_form (read_within n) ts ∙ leafed n (return_form_of ts))
    (row_word (bytes_eq w (spelling words.Throw)) _ _ words.Throw _ (goes_on n ts) (same_throw (read_within n) ts ∙ leafed n (throw_of ts))
    (row_word (bytes_eq w (spelling words.Bump)) _ _ words.Bump _ (goes_on n ts) (same_bump (read_within n) ts ∙ leafed n (bump_of ts))
    (row_word (bytes_eq w (spelling words.Keep)) _ _ words.Keep _ (goes_on n ts) (same_keep (read_within n) ts ∙ leafed n (keep_of ts))
    (row_word (bytes_eq w (spelling words.Try)) _ _ words.Try _ (goes_on n ts) (wrapped n ih (Ok (wraps.Try, ts)))
    (row_word (bytes_eq w (spelling words.If)) _ _ words.If _ (goes_on n ts) (same_if (read_within n) ts ∙ wrapped n ih (if_of ts))
    (row_word (bytes_eq w (spelling words.Class)) _ _ words.Class _ (goes_on n ts) (same_class (read_within n) ts ∙ leafed n (class_of ts))
    (row_word (bytes_eq w (spelling words.On)) _ _ words.On _ (goes_on n ts) (same_on (read_within n) ts ∙ wrapped n ih (on_of ts))
    (row_word (bytes_eq w (spelling words.Has)) _ _ words.Has _ (goes_on n ts) (same_has (read_within n) ts ∙ leafed n (has_of ts))
    (row_word (bytes_eq w (spelling words.Observe)) _ _ words.Observe _ (goes_on n ts) (same_observe (read_within n) ts ∙ leafed n (observe_of ts))
    (row_word (bytes_eq w (spelling words.Associate)) _ _ words.Associate _ (goes_on n ts) (same_associate (read_within n) ts ∙ leafed n (associate_of ts))
    (row_word (bytes_eq w (spelling words.Disable)) _ _ words.Disable _ (goes_on n ts) (same_disable (read_within n) ts ∙ leafed n (disable_of ts))
    (row_word (bytes_eq w (spelling words.Doc)) _ _ words.Doc _ (goes_on n ts) (same_doc (read_within n) ts ∙ leafed n (doc_of ts))
    (row_word (bytes_eq w (spelling words.User)) _ _ words.User _ (goes_on n ts) (same_user (read_within n) ts ∙ leafed n (user_of ts))
    (refl)))))))))))))))))))))))))))))))))))))))))))))

within : (n : ℕ) (ts : List Token) → read_within n ts ≡ shows form_as_read (form_at n ts)
unfolding form_at piece_at
within zero ts = refl
within (suc n) [] = refl
within (suc n) (t ∷ ts) = first_row n (λ us. within n us) t.quoted t.text ts
    ∙ ap (shows form_as_read) (sym (assoc (or_word (first_word t)) (λ word. piece_of word ts) (step n)))

pub table : (ts : List Token) → read_tokens ts ≡ (form_of ts >>= λ f. Ok (form_as_read f))
table ts = let e : length ts + 1 ≡ suc (length ts) = omega arith in ap (λ (n : ℕ). read_within n ts) (sym e) ∙ within (length ts + 1) ts
