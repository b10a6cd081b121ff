-- The lines of submissions.
use Rattle.std.proofs.Common.{◌≡◌, ℕ, List, [], ◌∷◌, ◌++◌, Some, refl, ap, ◌∙◌, append_assoc}
use Rattle.std.specs.Prelude.{codes}
use Rattle.std.specs.Fmt.{decimal}
use Rattle.std.specs.Str.{IsUtf8}
use Rattle.std.proofs.lemmas.List.{append-nil}
use Rattle.rule_tokens.specs.declared.token.Token.{Token}
use Rattle.rule_tokens.specs.Spaced.{AreClean, IsClean, as_line, spaced as spaced_tokens}
use Rattle.ce_events.specs.declared.event.Cause.{Cause}
use Rattle.ce_events.specs.declared.event.Cause.TheVariants.{Disconnected as NotConnected, Invalid, Dialog, Url, Scheme, Size, Boundary}
use Rattle.ce_events.specs.declared.event.Event.{Event}
use Rattle.ce_events.specs.declared.event.Event.TheVariants.{SubmitGet, SubmitPost, SubmitBlocked}
use Rattle.ce_events.specs.Text.{cause, event_text, node, submit}
use Rattle.event_reader.specs.IsEvent.{IsCause, IsNumber}
use Rattle.event_reader.specs.Reading.{class_in, event_of}
use Rattle.event_reader.specs.Submissions.{cause_of, submit_by}
use Rattle.event_reader.proofs.Told.{IsTold}
use Rattle.event_reader.proofs.TokenLaws.{bare, quoted, word_clean, node_clean, node_back, node_tokens, nodes_written, nodes_clean, nodes_back}

abbrev submit_tokens : ℕ → List ℕ → List Token → List Token
submit_tokens n word ts = bare (codes "submit") ∷ bare (node n) ∷ bare word ∷ ts

submit_line : (n : ℕ) (word : List ℕ) (ts : List Token) (rest : List ℕ) → rest ≡ word ++ spaced_tokens ts → submit n rest ≡ as_line (submit_tokens n word ts)
submit_line n word ts rest is =
    ap (λ (l : List ℕ). codes "submit #" ++ l) (append_assoc (decimal n) (codes " ") rest) ∙ ap (λ (l : List ℕ). codes "submit #" ++ (decimal n ++ 32 ∷ l)) is

submit_read : (n : ℕ) (word : List ℕ) (ts : List Token) → IsNumber n → event_of (submit_tokens n word ts) ≡ submit_by n word ts
submit_read n word ts fits = rw (node_back n fits) refl

told_submit : (e : Event) (n : ℕ) (word : List ℕ) (ts : List Token) (rest : List ℕ) → IsNumber n → event_text e ≡ submit n rest
    → rest ≡ word ++ spaced_tokens ts → IsClean (bare word) → AreClean ts → submit_by n word ts ≡ Some e → IsTold e
told_submit e n word ts rest fits text is word_is clean read = record {
  tokens = submit_tokens n word ts;
  line = text ∙ submit_line n word ts rest is;
  clean = (word_clean (codes "submit") refl, (node_clean n fits, (word_is, clean)));
  begins = (refl, refl);
  no_class = ap class_in text;
  other = e;
  read = submit_read n word ts fits ∙ read;
  same = refl;
  step = refl;
}

pub told_get : (n : ℕ) (url : List ℕ) → IsNumber n → IsUtf8 url → IsTold (SubmitGet n url)
told_get n url fits url_is = told_submit (SubmitGet n url) n (codes "get") (quoted url ∷ []) _ fits refl
    (simp (append_assoc, append-nil)) (word_clean (codes "get") refl) (url_is, tt) refl

pub told_post : (n : ℕ) (url media body : List ℕ) → IsNumber n → IsUtf8 url → IsUtf8 media → IsUtf8 body → IsTold (SubmitPost n url media body)
told_post n url media body fits url_is media_is body_is =
    told_submit (SubmitPost n url media body) n (codes "post") (quoted url ∷ quoted media ∷ quoted body ∷ []) _ fits refl
    (simp (append_assoc, append-nil)) (word_clean (codes "post") refl) (url_is, (media_is, (body_is, tt))) refl

-- ---- what blocks

abbrev cause_tokens : Cause → List Token
cause_tokens NotConnected = bare (codes "disconnected") ∷ []
cause_tokens (Invalid ns) = bare (codes "invalid") ∷ node_tokens ns
cause_tokens Dialog = bare (codes "dialog") ∷ []
cause_tokens Url = bare (codes "url") ∷ []
cause_tokens Scheme = bare (codes "scheme") ∷ []
cause_tokens Size = bare (codes "size") ∷ []
cause_tokens Boundary = bare (codes "boundary") ∷ []

cause_written : (why : Cause) → 32 ∷ cause why ≡ spaced_tokens (cause_tokens why)
cause_written NotConnected = refl
cause_written (Invalid ns) = rw (nodes_written ns) refl
cause_written Dialog = refl
cause_written Url = refl
cause_written Scheme = refl
cause_written Size = refl
cause_written Boundary = refl

cause_clean : (why : Cause) → IsCause why → AreClean (cause_tokens why)
cause_clean NotConnected is = (word_clean (codes "disconnected") refl, tt)
cause_clean (Invalid ns) is = (word_clean (codes "invalid") refl, nodes_clean ns is)
cause_clean Dialog is = (word_clean (codes "dialog") refl, tt)
cause_clean Url is = (word_clean (codes "url") refl, tt)
cause_clean Scheme is = (word_clean (codes "scheme") refl, tt)
cause_clean Size is = (word_clean (codes "size") refl, tt)
cause_clean Boundary is = (word_clean (codes "boundary") refl, tt)

cause_back : (why : Cause) → IsCause why → cause_of (cause_tokens why) ≡ Some why
cause_back NotConnected is = refl
cause_back (Invalid ns) is = rw (nodes_back ns is) refl
cause_back Dialog is = refl
cause_back Url is = refl
cause_back Scheme is = refl
cause_back Size is = refl
cause_back Boundary is = refl

pub told_blocked : (n : ℕ) (why : Cause) → IsNumber n → IsCause why → IsTold (SubmitBlocked n why)
told_blocked n why fits is = told_submit (SubmitBlocked n why) n (codes "blocked") (cause_tokens why) (codes "blocked " ++ cause why) fits refl
    (ap (λ (l : List ℕ). codes "blocked" ++ l) (cause_written why)) (word_clean (codes "blocked") refl) (cause_clean why is)
    (rw (cause_back why is) refl)
