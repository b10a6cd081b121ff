-- The text of an event is guessed as an event with this text.
use Rattle.std.proofs.Common.{◌≡◌, ℕ, List, [], ◌∷◌, ◌++◌, length, Option, Some, Ok, refl, sym, ap, ◌∙◌, subst, arith}
use Rattle.std.specs.Prelude.{codes}
use Rattle.std.specs.Option.{option_map}
use Rattle.std.specs.Str.{IsUtf8}
use Rattle.std.proofs.lemmas.Str.{is_utf8-from_IsUtf8}
use Rattle.ce_base.specs.declared.fault.Fault.{Fault}
use Rattle.rule_tokens.specs.declared.token.Token.{Token}
use Rattle.rule_tokens.specs.Laws.{FlagsAreNamed}
use Rattle.rule_tokens.specs.Spaced.{WrittenIsRead, WrittenIsText, as_line, spaced as spaced_tokens}
use Rattle.rule_tokens.specs.Tokens.{tokens_of}
use Rattle.ce_events.specs.declared.event.Answer.{Answer}
use Rattle.ce_events.specs.declared.event.Event.{Event}
use Rattle.ce_events.specs.declared.event.Event.TheVariants.{Construct, Connected, Disconnected, Adopted, Attribute, FormAssociated, FormDisabled, FormReset}
use Rattle.ce_events.specs.declared.event.Event.TheVariants.{FormStateRestore, Logged, Caught, Reported, Asked, SubmitGet, SubmitPost, SubmitBlocked, Fine}
use Rattle.ce_events.specs.declared.event.Event.TheVariants.{Gave, Answered, Ignored, Threw, WasBad, FuelLine, QueueOpened, Enqueued, DrainBegun, Started}
use Rattle.ce_events.specs.declared.event.Event.TheVariants.{Finished, Dropped, QueueClosed, UpgradeBegun, UpgradeDone, UpgradeThrew}
use Rattle.ce_events.specs.Text.{event_text}
use Rattle.event_reader.specs.Answers.{answer_of}
use Rattle.event_reader.specs.Guessed.{IsTextGuessed, TextsAreGuessed}
use Rattle.event_reader.specs.IsEvent.{AreTexts, IsAnswer, IsFault}
use Rattle.event_reader.specs.Reading.{class_in, construct_or, event_in, guess}
use Rattle.event_reader.proofs.AnswerLaws.{answer_tokens, told_answer}
use Rattle.event_reader.proofs.CallLaws.{told_connected, told_disconnected, told_form_reset, told_adopted, told_attribute, told_form_associated}
use Rattle.event_reader.proofs.CallLaws.{told_form_disabled, told_form_state_restore}
use Rattle.event_reader.proofs.ReplyLaws.{fault_tokens, fault_written, fault_clean, fault_back, told_fine, told_ignored, told_gave, told_threw, told_was_bad}
use Rattle.event_reader.proofs.ReplyLaws.{told_answered}
use Rattle.event_reader.proofs.SubmissionLaws.{told_get, told_post, told_blocked}
use Rattle.event_reader.proofs.Told.{IsTold}
use Rattle.event_reader.proofs.TokenLaws.{bare, word_clean, text_tokens, texts_written, texts_clean, texts_back}
use Rattle.event_reader.proofs.TraceLaws.{told_opened, told_drain, told_started, told_finished, told_dropped, told_closed, told_up, told_done}
use Rattle.event_reader.proofs.TraceLaws.{told_upgrade_threw, told_enqueued}

-- the laws of the tokens
pub record Below : Type 0 where
  pub read : WrittenIsRead
  pub text : WrittenIsText
  pub named : FlagsAreNamed

-- ---- a constructor that starts

class_read : (class : List ℕ) → IsUtf8 class → class_in (codes "construct " ++ class) ≡ Some class
class_read class utf8 = rw (is_utf8-from_IsUtf8 class utf8) refl

guessed_class : (class : List ℕ) → IsUtf8 class → IsTextGuessed (Construct class)
unfolding guess
guessed_class class utf8 = record {
  other = Construct class;
  read = ap (λ (o : Option (List ℕ)). construct_or o (event_in (tokens_of (length (codes "construct " ++ class)) (codes "construct " ++ class))))
      (class_read class utf8);
  same = refl;
  step = refl;
}

-- ---- a line of tokens

tokens_read : Below → (e : Event) (told : IsTold e) → tokens_of (length (event_text e)) (event_text e) ≡ Ok (Some told.tokens)
tokens_read below e told =
    let P : List ℕ → Type 0 = λ bs. tokens_of (length bs) bs ≡ Ok (Some told.tokens) in
    subst P (sym told.line) (below.read (length (as_line told.tokens)) told.tokens told.clean told.begins (below.text told.tokens told.clean) (omega arith))

guessed_by : Below → (e : Event) → IsTold e → IsTextGuessed e
unfolding guess
guessed_by below e told =
    let none = told.no_class in
    let is : event_in (tokens_of (length (event_text e)) (event_text e)) ≡ Some told.other = ap event_in (tokens_read below e told) ∙ told.read in
    record { other = told.other; read = rw (none, is) refl; same = told.same; step = told.step }

-- ---- what bodies do, what is reported, and the end of the fuel

told_logged : (texts : List (List ℕ)) → AreTexts texts → IsTold (Logged texts)
told_logged texts are = record {
  tokens = bare (codes "log") ∷ text_tokens texts;
  line = ap (λ (l : List ℕ). codes "log" ++ l) (texts_written texts);
  clean = (word_clean (codes "log") refl, texts_clean texts are);
  begins = (refl, refl);
  no_class = refl;
  other = Logged texts;
  read = rw (texts_back texts) refl;
  same = refl;
  step = refl;
}

told_caught : (f : Fault) → IsFault f → IsTold (Caught f)
told_caught f is = record {
  tokens = bare (codes "caught") ∷ fault_tokens f;
  line = ap (λ (l : List ℕ). codes "caught" ++ l) (fault_written f);
  clean = (word_clean (codes "caught") refl, fault_clean f is);
  begins = (refl, refl);
  no_class = refl;
  other = Caught f;
  read = rw (fault_back f) refl;
  same = refl;
  step = refl;
}

told_reported : (f : Fault) → IsFault f → IsTold (Reported f)
told_reported f is = record {
  tokens = bare (codes "report") ∷ fault_tokens f;
  line = ap (λ (l : List ℕ). codes "report" ++ l) (fault_written f);
  clean = (word_clean (codes "report") refl, fault_clean f is);
  begins = (refl, refl);
  no_class = refl;
  other = Reported f;
  read = rw (fault_back f) refl;
  same = refl;
  step = refl;
}

asked_line : (ts : List Token) (a : Answer) → answer_of ts ≡ Some a → codes "ask " ++ as_line ts ≡ codes "ask" ++ spaced_tokens ts
asked_line [] a e = absurd cc
asked_line (t ∷ ts) a e = refl

told_asked : FlagsAreNamed → (a : Answer) → IsAnswer a → IsTold (Asked a)
told_asked named a is =
    let told = told_answer named a is in
    record {
      tokens = bare (codes "ask") ∷ answer_tokens a;
      line = ap (λ (l : List ℕ). codes "ask " ++ l) told.line ∙ asked_line (answer_tokens a) told.other told.read;
      clean = (word_clean (codes "ask") refl, told.clean);
      begins = (refl, refl);
      no_class = refl;
      other = Asked told.other;
      read = ap (option_map Asked) told.read;
      same = ap (λ (l : List ℕ). codes "ask " ++ l) told.same;
      step = refl;
    }

told_fuel : IsTold FuelLine
told_fuel = record {
  tokens = bare (codes "fuel") ∷ [];
  line = refl;
  clean = (word_clean (codes "fuel") refl, tt);
  begins = (refl, refl);
  no_class = refl;
  other = FuelLine;
  read = refl;
  same = refl;
  step = refl;
}

-- ---- each event

pub texts_guessed : Below → TextsAreGuessed
texts_guessed below (Construct class) is = guessed_class class is
texts_guessed below (Connected n) is = guessed_by below (Connected n) (told_connected n is)
texts_guessed below (Disconnected n) is = guessed_by below (Disconnected n) (told_disconnected n is)
texts_guessed below (Adopted n old new) is = guessed_by below (Adopted n old new) (told_adopted n old new is.0 is.1 is.2)
texts_guessed below (Attribute n name old new) is = guessed_by below (Attribute n name old new) (told_attribute n name old new is.0 is.1 is.2 is.3)
texts_guessed below (FormAssociated n form) is = guessed_by below (FormAssociated n form) (told_form_associated n form is.0 is.1)
texts_guessed below (FormDisabled n disabled) is = guessed_by below (FormDisabled n disabled) (told_form_disabled n disabled is)
texts_guessed below (FormReset n) is = guessed_by below (FormReset n) (told_form_reset n is)
texts_guessed below (FormStateRestore n text why) is = guessed_by below (FormStateRestore n text why) (told_form_state_restore n text why is.0 is.1)
texts_guessed below (Logged texts) is = guessed_by below (Logged texts) (told_logged texts is)
texts_guessed below (Caught f) is = guessed_by below (Caught f) (told_caught f is)
texts_guessed below (Reported f) is = guessed_by below (Reported f) (told_reported f is)
texts_guessed below (Asked a) is = guessed_by below (Asked a) (told_asked below.named a is)
texts_guessed below (SubmitGet n url) is = guessed_by below (SubmitGet n url) (told_get n url is.0 is.1)
texts_guessed below (SubmitPost n url media body) is = guessed_by below (SubmitPost n url media body) (told_post n url media body is.0 is.1 is.2 is.3)
texts_guessed below (SubmitBlocked n why) is = guessed_by below (SubmitBlocked n why) (told_blocked n why is.0 is.1)
texts_guessed below (Fine line) is = guessed_by below (Fine line) (told_fine line is)
texts_guessed below (Gave line n) is = guessed_by below (Gave line n) (told_gave line n is.0 is.1)
texts_guessed below (Answered line a) is = guessed_by below (Answered line a) (told_answered below.named line a is.0 is.1)
texts_guessed below (Ignored line) is = guessed_by below (Ignored line) (told_ignored line is)
texts_guessed below (Threw line f) is = guessed_by below (Threw line f) (told_threw line f is.0 is.1)
texts_guessed below (WasBad line bad) is = guessed_by below (WasBad line bad) (told_was_bad line bad is)
texts_guessed below FuelLine is = guessed_by below FuelLine told_fuel
texts_guessed below (QueueOpened q) is = guessed_by below (QueueOpened q) (told_opened q is)
texts_guessed below (Enqueued r n w q) is = guessed_by below (Enqueued r n w q) (told_enqueued r n w q is.0 is.1 is.2)
texts_guessed below (DrainBegun q) is = guessed_by below (DrainBegun q) (told_drain q is)
texts_guessed below (Started r) is = guessed_by below (Started r) (told_started r is)
texts_guessed below (Finished r) is = guessed_by below (Finished r) (told_finished r is)
texts_guessed below (Dropped r) is = guessed_by below (Dropped r) (told_dropped r is)
texts_guessed below (QueueClosed q) is = guessed_by below (QueueClosed q) (told_closed q is)
texts_guessed below (UpgradeBegun n) is = guessed_by below (UpgradeBegun n) (told_up n is)
texts_guessed below (UpgradeDone n) is = guessed_by below (UpgradeDone n) (told_done n is)
texts_guessed below (UpgradeThrew n) is = guessed_by below (UpgradeThrew n) (told_upgrade_threw n is)
