-- The replies of lines.
use Rattle.std.proofs.Common.{◌≡◌, ℕ, true, false, List, [], ◌∷◌, ◌++◌, Some, None, refl, ap, ◌∙◌, append_assoc, arith}
use Rattle.std.specs.Prelude.{codes, nat_eq}
use Rattle.std.specs.Char.{is_ascii_digit}
use Rattle.std.specs.Fmt.{decimal}
use Rattle.std.specs.Option.{option_map}
use Rattle.std.proofs.lemmas.Bool.Decides.{nat_tests}
use Rattle.std.proofs.lemmas.List.{append-nil}
use Rattle.ce_base.specs.declared.fault.Fault.{Fault}
use Rattle.ce_base.specs.declared.fault.Fault.TheVariants.{TypeError, ReferenceError, SyntaxError, NotSupportedError, HierarchyRequestError, NotFoundError}
use Rattle.ce_base.specs.declared.fault.Fault.TheVariants.{InvalidCharacterError, UserThrow}
use Rattle.rule_tokens.specs.declared.refused.Bad.{Bad}
use Rattle.rule_tokens.specs.declared.refused.Bad.TheVariants.{Long, Utf8, Quote, Escape, Word, Arity, Place}
use Rattle.rule_tokens.specs.declared.token.Token.{Token}
use Rattle.rule_tokens.specs.Laws.{FlagsAreNamed}
use Rattle.rule_tokens.specs.Spaced.{AreClean, IsClean, as_line, spaced as spaced_tokens}
use Rattle.ce_events.specs.declared.event.Answer.{Answer}
use Rattle.ce_events.specs.declared.event.Answer.TheVariants.{Null, One, Many, Node as NodeAnswer, Nodes, Texts, State, Truth, Raised}
use Rattle.ce_events.specs.declared.event.Event.{Event}
use Rattle.ce_events.specs.declared.event.Event.TheVariants.{Fine, Gave, Answered, Ignored, Threw, WasBad}
use Rattle.ce_events.specs.Step.{Replies, step_of}
use Rattle.ce_events.specs.Text.{answer, bad_word, event_text, fault, node, reply}
use Rattle.event_reader.specs.IsEvent.{IsAnswer, IsFault, IsNumber}
use Rattle.event_reader.specs.Parts.{begins_number, fault_of}
use Rattle.event_reader.specs.Reading.{class_in, event_of}
use Rattle.event_reader.specs.Replies.{bad_named, replied, reply_of}
use Rattle.event_reader.proofs.AnswerLaws.{answer_tokens, told_answer}
use Rattle.event_reader.proofs.NumberLaws.{line_back, number_begins}
use Rattle.event_reader.proofs.Told.{IsTold}
use Rattle.event_reader.proofs.TokenLaws.{bare, quoted, word_clean, line_clean, node_clean, node_back}

-- ---- faults

abbrev pub fault_tokens : Fault → List Token
fault_tokens (UserThrow text) = bare (codes "user") ∷ quoted text ∷ []
fault_tokens f = bare (fault f) ∷ []

pub fault_written : (f : Fault) → 32 ∷ fault f ≡ spaced_tokens (fault_tokens f)
fault_written TypeError = refl
fault_written ReferenceError = refl
fault_written SyntaxError = refl
fault_written NotSupportedError = refl
fault_written HierarchyRequestError = refl
fault_written NotFoundError = refl
fault_written InvalidCharacterError = refl
fault_written (UserThrow text) = simp (append_assoc, append-nil)

pub fault_clean : (f : Fault) → IsFault f → AreClean (fault_tokens f)
fault_clean TypeError is = (word_clean (codes "TypeError") refl, tt)
fault_clean ReferenceError is = (word_clean (codes "ReferenceError") refl, tt)
fault_clean SyntaxError is = (word_clean (codes "SyntaxError") refl, tt)
fault_clean NotSupportedError is = (word_clean (codes "NotSupportedError") refl, tt)
fault_clean HierarchyRequestError is = (word_clean (codes "HierarchyRequestError") refl, tt)
fault_clean NotFoundError is = (word_clean (codes "NotFoundError") refl, tt)
fault_clean InvalidCharacterError is = (word_clean (codes "InvalidCharacterError") refl, tt)
fault_clean (UserThrow text) is = (word_clean (codes "user") refl, (is, tt))

pub fault_back : (f : Fault) → fault_of (fault_tokens f) ≡ Some f
fault_back TypeError = refl
fault_back ReferenceError = refl
fault_back SyntaxError = refl
fault_back NotSupportedError = refl
fault_back HierarchyRequestError = refl
fault_back NotFoundError = refl
fault_back InvalidCharacterError = refl
fault_back (UserThrow text) = refl

-- ---- replies

abbrev reply_tokens : ℕ → List Token → List Token
reply_tokens line ts = bare (decimal line ++ 58 ∷ []) ∷ ts

reply_line : (line : ℕ) (rest : List ℕ) → reply line rest ≡ (decimal line ++ 58 ∷ []) ++ 32 ∷ rest
reply_line line rest = simp append_assoc

reply_read : (line : ℕ) (ts : List Token) → IsNumber line → event_of (reply_tokens line ts) ≡ reply_of line ts
reply_read line ts fits = rw ((number_begins line fits (58 ∷ [])).0, line_back line fits) refl

digit_apart : (b : ℕ) → is_ascii_digit b ≡ true → nat_eq 99 b ≡ false
digit_apart b is = grind (arith, nat_tests)

-- what begins with a digit is the line of no constructor
class_of_number : (bs : List ℕ) → begins_number bs ≡ true → class_in bs ≡ None
class_of_number [] is = refl
class_of_number (b ∷ bs) is = rw (digit_apart b is) refl

no_class_by : (bytes : List ℕ) (line : ℕ) (rest : List ℕ) → IsNumber line → bytes ≡ reply line rest → class_in bytes ≡ None
no_class_by bytes line rest fits text =
    let begins : begins_number (decimal line ++ (codes ": " ++ rest)) ≡ true = (number_begins line fits (codes ": " ++ rest)).0 in
    ap class_in (text ∙ append_assoc (decimal line) (codes ": ") rest) ∙ class_of_number (decimal line ++ (codes ": " ++ rest)) begins

told_reply : (e other : Event) (line : ℕ) (ts : List Token) (rest : List ℕ) → IsNumber line → event_text e ≡ reply line rest → 32 ∷ rest ≡ spaced_tokens ts
    → AreClean ts → reply_of line ts ≡ Some other → event_text other ≡ event_text e → step_of other ≡ step_of e → IsTold e
told_reply e other line ts rest fits text is clean read same step = record {
  tokens = reply_tokens line ts;
  line = text ∙ (reply_line line rest ∙ ap (λ (l : List ℕ). (decimal line ++ 58 ∷ []) ++ l) is);
  clean = (line_clean line fits, clean);
  begins = (refl, (number_begins line fits (58 ∷ [])).1);
  no_class = no_class_by (event_text e) line rest fits text;
  other = other;
  read = reply_read line ts fits ∙ read;
  same = same;
  step = step;
}

pub told_fine : (line : ℕ) → IsNumber line → IsTold (Fine line)
told_fine line fits = told_reply (Fine line) (Fine line) line (bare (codes "ok") ∷ []) (codes "ok") fits refl refl
    (word_clean (codes "ok") refl, tt) refl refl refl

pub told_ignored : (line : ℕ) → IsNumber line → IsTold (Ignored line)
told_ignored line fits = told_reply (Ignored line) (Ignored line) line (bare (codes "ignored") ∷ []) (codes "ignored") fits refl refl
    (word_clean (codes "ignored") refl, tt) refl refl refl

pub told_gave : (line n : ℕ) → IsNumber line → IsNumber n → IsTold (Gave line n)
told_gave line n fits n_fits =
    told_reply (Gave line n) (Gave line n) line (bare (node n) ∷ []) (node n) fits refl (simp append-nil) (node_clean n n_fits, tt)
    (rw (node_back n n_fits) refl) refl refl

pub told_threw : (line : ℕ) (f : Fault) → IsNumber line → IsFault f → IsTold (Threw line f)
told_threw line f fits is = told_reply (Threw line f) (Threw line f) line (bare (codes "throw") ∷ fault_tokens f) (codes "throw " ++ fault f) fits refl
    (ap (λ (l : List ℕ). 32 ∷ (codes "throw" ++ l)) (fault_written f)) (word_clean (codes "throw") refl, fault_clean f is)
    (rw (fault_back f) refl) refl refl

bad_clean : (b : Bad) → IsClean (bare (bad_word b))
bad_clean Long = word_clean (codes "long") refl
bad_clean Utf8 = word_clean (codes "utf8") refl
bad_clean Quote = word_clean (codes "quote") refl
bad_clean Escape = word_clean (codes "escape") refl
bad_clean Word = word_clean (codes "word") refl
bad_clean Arity = word_clean (codes "arity") refl
bad_clean Place = word_clean (codes "place") refl

bad_back : (b : Bad) → bad_named (bad_word b) ≡ Some b
bad_back Long = refl
bad_back Utf8 = refl
bad_back Quote = refl
bad_back Escape = refl
bad_back Word = refl
bad_back Arity = refl
bad_back Place = refl

pub told_was_bad : (line : ℕ) (b : Bad) → IsNumber line → IsTold (WasBad line b)
told_was_bad line b fits = told_reply (WasBad line b) (WasBad line b) line (bare (codes "bad") ∷ bare (bad_word b) ∷ []) (codes "bad " ++ bad_word b) fits refl
    (simp append-nil) (word_clean (codes "bad") refl, (bad_clean b, tt)) (rw (bad_back b) refl) refl refl

-- ---- answers

replied_text : (line : ℕ) (a : Answer) → event_text (replied line a) ≡ reply line (answer a)
replied_text line Null = refl
replied_text line (One text) = refl
replied_text line Many = refl
replied_text line (NodeAnswer n) = refl
replied_text line (Nodes ns) = refl
replied_text line (Texts texts) = refl
replied_text line (State s) = refl
replied_text line (Truth b) = refl
replied_text line (Raised flags) = refl

replied_step : (line : ℕ) (a : Answer) → step_of (replied line a) ≡ Replies
replied_step line Null = refl
replied_step line (One text) = refl
replied_step line Many = refl
replied_step line (NodeAnswer n) = refl
replied_step line (Nodes ns) = refl
replied_step line (Texts texts) = refl
replied_step line (State s) = refl
replied_step line (Truth b) = refl
replied_step line (Raised flags) = refl

-- the tokens of an answer with a space before each
abbrev AreSpaced : List Token → Type 0
AreSpaced ts = 32 ∷ as_line ts ≡ spaced_tokens ts

answer_spaced : (a : Answer) (l : ℕ) (b : Answer) → reply_of l (answer_tokens a) ≡ Some (replied l b) → AreSpaced (answer_tokens a)
answer_spaced a l b read = spaced_by (answer_tokens a) read where
  spaced_by : (ts : List Token) → reply_of l ts ≡ Some (replied l b) → AreSpaced ts
  spaced_by [] e = absurd cc
  spaced_by (t ∷ ts) e = refl

pub told_answered : FlagsAreNamed → (line : ℕ) (a : Answer) → IsNumber line → IsAnswer a → IsTold (Answered line a)
told_answered named line a fits is =
    let told = told_answer named a is in
    let read : reply_of line (answer_tokens a) ≡ Some (replied line told.other) = told.replied line ∙ ap (option_map (replied line)) told.read in
    told_reply (Answered line a) (replied line told.other) line (answer_tokens a) (answer a) fits refl
    (ap (λ (l : List ℕ). 32 ∷ l) told.line ∙ answer_spaced a line told.other read) told.clean read
    (replied_text line told.other ∙ ap (reply line) told.same) (replied_step line told.other)
