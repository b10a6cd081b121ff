-- The lines of a trace.
use Rattle.std.proofs.Common.{◌≡◌, ℕ, List, [], ◌∷◌, ◌++◌, Some, refl, ap}
use Rattle.std.specs.Prelude.{codes}
use Rattle.std.specs.Fmt.{decimal}
use Rattle.std.proofs.lemmas.List.{append-nil}
use Rattle.rule_tokens.specs.Callbacks.{call_word}
use Rattle.rule_tokens.specs.declared.callback.CallName.{CallName}
use Rattle.rule_tokens.specs.declared.callback.CallName.TheVariants.{Constructor}
use Rattle.rule_tokens.specs.declared.callback.CallOrUpgrade.{CallOrUpgrade}
use Rattle.rule_tokens.specs.declared.callback.CallOrUpgrade.TheVariants.{Call, Upgrade}
use Rattle.rule_tokens.specs.declared.token.Token.{Token}
use Rattle.rule_tokens.specs.Spaced.{AreClean, IsClean, as_line}
use Rattle.ce_events.specs.declared.event.Event.{Event}
use Rattle.ce_events.specs.declared.event.Event.TheVariants.{QueueOpened, Enqueued, DrainBegun, Started, Finished, Dropped, QueueClosed, UpgradeBegun}
use Rattle.ce_events.specs.declared.event.Event.TheVariants.{UpgradeDone, UpgradeThrew}
use Rattle.ce_events.specs.Text.{event_text, node, what}
use Rattle.event_reader.specs.IsEvent.{IsNumber}
use Rattle.event_reader.specs.Parts.{node_in, number_in}
use Rattle.event_reader.specs.Reading.{class_in}
use Rattle.event_reader.specs.Traces.{trace_by, what_named}
use Rattle.event_reader.proofs.NumberLaws.{number_back}
use Rattle.event_reader.proofs.Told.{IsTold}
use Rattle.event_reader.proofs.TokenLaws.{bare, four_spaced, word_clean, number_clean, node_clean, node_back}

abbrev trace_tokens : List ℕ → List ℕ → List Token → List Token
trace_tokens word number ts = bare (codes "~") ∷ bare word ∷ bare number ∷ ts

told_trace : (e : Event) (word number : List ℕ) (ts : List Token) → event_text e ≡ as_line (trace_tokens word number ts) → IsClean (bare word)
    → IsClean (bare number) → AreClean ts → trace_by word (number_in number) (node_in number) ts ≡ Some e → IsTold e
told_trace e word number ts line word_is number_is clean read = record {
  tokens = trace_tokens word number ts;
  line = line;
  clean = (word_clean (codes "~") refl, (word_is, (number_is, clean)));
  begins = (refl, refl);
  no_class = ap class_in line;
  other = e;
  read = read;
  same = refl;
  step = refl;
}

pub told_opened : (q : ℕ) → IsNumber q → IsTold (QueueOpened q)
told_opened q fits = told_trace (QueueOpened q) (codes "open") (decimal q) [] (simp append-nil) (word_clean (codes "open") refl) (number_clean q fits) tt
    (rw (number_back q fits) refl)

pub told_drain : (q : ℕ) → IsNumber q → IsTold (DrainBegun q)
told_drain q fits = told_trace (DrainBegun q) (codes "drain") (decimal q) [] (simp append-nil) (word_clean (codes "drain") refl) (number_clean q fits) tt
    (rw (number_back q fits) refl)

pub told_started : (r : ℕ) → IsNumber r → IsTold (Started r)
told_started r fits = told_trace (Started r) (codes "start") (decimal r) [] (simp append-nil) (word_clean (codes "start") refl) (number_clean r fits) tt
    (rw (number_back r fits) refl)

pub told_finished : (r : ℕ) → IsNumber r → IsTold (Finished r)
told_finished r fits = told_trace (Finished r) (codes "finish") (decimal r) [] (simp append-nil) (word_clean (codes "finish") refl) (number_clean r fits) tt
    (rw (number_back r fits) refl)

pub told_dropped : (r : ℕ) → IsNumber r → IsTold (Dropped r)
told_dropped r fits = told_trace (Dropped r) (codes "drop") (decimal r) [] (simp append-nil) (word_clean (codes "drop") refl) (number_clean r fits) tt
    (rw (number_back r fits) refl)

pub told_closed : (q : ℕ) → IsNumber q → IsTold (QueueClosed q)
told_closed q fits = told_trace (QueueClosed q) (codes "close") (decimal q) [] (simp append-nil) (word_clean (codes "close") refl) (number_clean q fits) tt
    (rw (number_back q fits) refl)

pub told_up : (n : ℕ) → IsNumber n → IsTold (UpgradeBegun n)
told_up n fits = told_trace (UpgradeBegun n) (codes "up") (node n) [] (simp append-nil) (word_clean (codes "up") refl) (node_clean n fits) tt
    (rw (node_back n fits) refl)

pub told_done : (n : ℕ) → IsNumber n → IsTold (UpgradeDone n)
told_done n fits = told_trace (UpgradeDone n) (codes "done") (node n) [] (simp append-nil) (word_clean (codes "done") refl) (node_clean n fits) tt
    (rw (node_back n fits) refl)

pub told_upgrade_threw : (n : ℕ) → IsNumber n → IsTold (UpgradeThrew n)
told_upgrade_threw n fits = told_trace (UpgradeThrew n) (codes "threw") (node n) [] (simp append-nil) (word_clean (codes "threw") refl) (node_clean n fits) tt
    (rw (node_back n fits) refl)

-- ---- a reaction

call_clean : (name : CallName) → IsClean (bare (call_word name))
call_clean Constructor = word_clean (codes "constructor") refl
call_clean name = word_clean (call_word name) refl

what_clean : (w : CallOrUpgrade) → IsClean (bare (what w))
what_clean (Call name) = call_clean name
what_clean Upgrade = word_clean (codes "upgrade") refl

call_back : (name : CallName) → what_named (call_word name) ≡ Some (Call name)
call_back Constructor = refl
call_back name = refl

what_back : (w : CallOrUpgrade) → what_named (what w) ≡ Some w
what_back (Call name) = call_back name
what_back Upgrade = refl

pub told_enqueued : (r n : ℕ) (w : CallOrUpgrade) (q : ℕ) → IsNumber r → IsNumber n → IsNumber q → IsTold (Enqueued r n w q)
told_enqueued r n w q fits n_fits q_fits = told_trace (Enqueued r n w q) (codes "enq") (decimal r) (bare (node n) ∷ bare (what w) ∷ bare (decimal q) ∷ [])
    (ap (λ (l : List ℕ). codes "~ enq " ++ l) (four_spaced (decimal r) (node n) (what w) (decimal q))) (word_clean (codes "enq") refl) (number_clean r fits)
    (node_clean n n_fits, (what_clean w, (number_clean q q_fits, tt)))
    (rw (number_back r fits, node_back n n_fits, what_back w, number_back q q_fits) refl)
