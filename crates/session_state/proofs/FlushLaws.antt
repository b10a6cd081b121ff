-- A log that is written out, event by event.
use Rattle.std.proofs.Common.{◌≡◌, ◌<◌, ◌+◌, ℕ, suc, Bool, List, [], ◌∷◌, ◌++◌, length, get_or, take, drop, sym, ap, subst, ◌∙◌, append_assoc, append-nil}
use Rattle.std.proofs.Common.{take-append-drop, drop-cons}
use Rattle.std.proofs.lemmas.List.{take_more}
use Rattle.std.proofs.KnownBytes.{Appends-trans}
use Rattle.std.specs.Io.KnownBytes.{Appends}
use Rattle.std.specs.declared.option.Option.{Option}
use Rattle.ce_base.specs.Outside.{AppendsPart}
use Rattle.ce_events.specs.declared.event.Event.{Event}
use Rattle.ce_events.specs.Text.{shown, text}
use Rattle.ce_algorithms.proofs.Growth.{text-append}

-- one more event is written
pub wrote_event : (t : Bool) (h0 h h' : Option (List ℕ)) (log : List Event) (i : ℕ) (e : Event) → i < length log → e ≡ get_or log i e
    → Appends h0 h (text t (take i log)) → Appends h h' (shown t e) → Appends h0 h' (text t (take (i + 1) log))
wrote_event t h0 h h' log i e within is before more =
    let one : text t (take (i + 1) log) ≡ text t (take i log) ++ shown t e =
    ap (text t) (take_more log i e within ∙ ap (λ x. take i log ++ x ∷ []) (sym is))
    ∙ (text-append t (take i log) (e ∷ []) ∙ ap (λ l. text t (take i log) ++ l) (append-nil (shown t e))) in
    let P : List ℕ → Type 0 = λ l. Appends h0 h' l in
    subst P (sym one) (Appends-trans h0 h h' (text t (take i log)) (shown t e) before more)

-- a front of one more event is written
pub wrote_part_event : (t : Bool) (h0 h h' : Option (List ℕ)) (log : List Event) (i : ℕ) (e : Event) → i < length log → e ≡ get_or log i e
    → Appends h0 h (text t (take i log)) → AppendsPart h h' (shown t e) → AppendsPart h0 h' (text t log)
wrote_part_event t h0 h h' log i e within is before more =
    let rest = drop (suc i) log in
    let split : log ≡ take i log ++ e ∷ rest =
    sym (take-append-drop i log) ∙ ap (λ l. take i log ++ l) (drop-cons log i e within ∙ ap (λ x. x ∷ rest) (sym is)) in
    let whole : text t log ≡ text t (take i log) ++ (shown t e ++ text t rest) = ap (text t) split ∙ text-append t (take i log) (e ∷ rest) in
    let joined : (text t (take i log) ++ more.0) ++ (more.1.0 ++ text t rest) ≡ text t log =
    append_assoc (text t (take i log)) more.0 (more.1.0 ++ text t rest)
    ∙ (ap (λ l. text t (take i log) ++ l) (sym (append_assoc more.0 more.1.0 (text t rest)) ∙ ap (λ l. l ++ text t rest) more.1.1) ∙ sym whole) in
    (text t (take i log) ++ more.0, (more.1.0 ++ text t rest, joined), Appends-trans h0 h h' (text t (take i log)) more.0 before more.2)
