-- The parts of classes: what they change of the classes, and of the behaviours beside them.
use Rattle.std.proofs.Common.{◌≡◌, ℕ, Bool, true, false, List, [], ◌∷◌, ◌++◌, length, Some, refl, sym, ap, ◌∙◌}
use Rattle.std.specs.Prelude.{is_some, slice_get, slice_set}
use Rattle.ce_base.specs.declared.fault.Fault.{Fault}
use Rattle.ce_base.specs.declared.fault.Fault.TheVariants.{TypeError, NotSupportedError}
use Rattle.rule_tokens.specs.declared.callback.CallName.{CallName}
use Rattle.rule_lines.specs.Acts.{Act}
use Rattle.ce_registry.specs.declared.class_facts.ClassFacts.{ClassFacts}
use Rattle.ce_algorithms.specs.Steps.{Outcome, Goes, Throws, then_do, throw_if, change}
use Rattle.ce_algorithms.specs.State.{State, class_named, class_of, change_class, new_class, blank_memory}
use Rattle.ce_algorithms.specs.Parts.{add_class, open_class, change_open, change_facts, with_has, with_body}
use Rattle.ce_frames.specs.Places.{Behaviour}
use Rattle.ce_frames.specs.Whole.{whole, whole_in, IsBlind}
use Rattle.ce_frames.proofs.Wholes.{named_joined, class_frozen_joined, doing_joined, push_joined}
use Rattle.ce_frames.proofs.BlindSteps.{blind_give, blind_bind, blind_seq, blind_find_or, blind_throw_where, blind_change_class}

-- a class that is there

-- it is found by its name, and is not frozen
pub open_blind : (name : List ℕ) → IsBlind (open_class name)
open_blind name =
    blind_bind (blind_find_or (λ (s : State). class_named s.classes name) TypeError (λ bs s. named_joined s.classes bs name))
    (λ k. blind_seq (blind_throw_where (λ (s : State). (class_of s k).frozen) NotSupportedError (λ bs s. class_frozen_joined s bs k)) (blind_give k))

-- the parts that change only what is known of a class
pub facts_blind : (name : List ℕ) (f : ClassFacts → ClassFacts) → IsBlind (change_open name (change_facts f))
facts_blind name f = blind_bind (open_blind name) (λ k. blind_change_class k (change_facts f) (λ c b. refl))

-- a part that adds an action to a body of a class

-- how the class is opened in the whole state
opened_whole : (name : List ℕ) (bs : List Behaviour) (s : State) (o : Outcome State ℕ) → open_class name s ≡ o
    → open_class name (whole bs s) ≡ whole_in bs o
opened_whole name bs s o is = (open_blind name).same bs s ∙ ap (whole_in bs) is

-- it throws where that throws
pub on_throws : (name : List ℕ) (call : CallName) (action : Act) (bs : List Behaviour) (s t : State) (f : Fault) → open_class name s ≡ Throws f t
    → change_open name (with_body call action) (whole bs s) ≡ Throws f (whole bs t)
on_throws name call action bs s t f is =
    ap (λ o. then_do o (λ k. change_class k (with_body call action))) (opened_whole name bs s (Throws f t) is)

-- else the class has the callback, and its behaviour the action
pub on_joined : (name : List ℕ) (call : CallName) (action : Act) (bs : List Behaviour) (s t : State) (k : ℕ) (b : Behaviour)
    → open_class name s ≡ Goes k t → slice_get bs k ≡ Some b
    → change_open name (with_body call action) (whole bs s)
    ≡ Goes tt
    (whole (slice_set bs k (record b { bodies = b.bodies ++ (call, action) ∷ [] }))
    (record t { classes = slice_set t.classes k (change_facts (with_has call) (class_of t k)) }))
on_joined name call action bs s t k b is at =
    ap (λ o. then_do o (λ k. change_class k (with_body call action))) (opened_whole name bs s (Goes k t) is)
    ∙ ap (λ l. Goes tt (record t { classes = l })) (doing_joined t.classes bs k b call action at)

-- a new class

abbrev blank_behaviour : Behaviour
blank_behaviour = record { bodies = []; memory = blank_memory }

-- by whether there is one of its name
abbrev added_by : Bool → List ℕ → State → Outcome State (Unit {0})
added_by taken name s = then_do (throw_if taken NotSupportedError s) (λ _. change (λ s. record s { classes = s.classes ++ new_class name ∷ [] }))

-- how it is added to the whole state
added_whole : (name : List ℕ) (bs : List Behaviour) (s : State)
    → add_class name (whole bs s) ≡ added_by (is_some (class_named s.classes name)) name (whole bs s)
added_whole name bs s = ap (λ o. added_by (is_some o) name (whole bs s)) (named_joined s.classes bs name)

throws_by : (taken : Bool) (name : List ℕ) (bs : List Behaviour) (s t : State) (f : Fault) → added_by taken name s ≡ Throws f t
    → added_by taken name (whole bs s) ≡ Throws f (whole bs t)
throws_by true name bs s t f is = ap (whole_in bs) is
throws_by false name bs s t f is = absurd (let e : added_by false name s ≡ Throws f t = is in cc)

goes_by : (taken : Bool) (name : List ℕ) (bs : List Behaviour) (s t : State) → added_by taken name s ≡ Goes tt t → length s.classes ≡ length bs
    → added_by taken name (whole bs s) ≡ Goes tt (whole (bs ++ blank_behaviour ∷ []) t)
goes_by true name bs s t is each = absurd (let e : added_by true name s ≡ Goes tt t = is in cc)
goes_by false name bs s t is each =
    ap (λ l. Goes tt (record s { classes = l })) (sym (push_joined s.classes bs (new_class name) blank_behaviour each))
    ∙ ap (whole_in (bs ++ blank_behaviour ∷ [])) is

-- it throws where that throws
pub class_throws : (name : List ℕ) (bs : List Behaviour) (s t : State) (f : Fault) → add_class name s ≡ Throws f t
    → add_class name (whole bs s) ≡ Throws f (whole bs t)
class_throws name bs s t f is = added_whole name bs s ∙ throws_by (is_some (class_named s.classes name)) name bs s t f is

-- else there is a behaviour more, which does nothing and remembers nothing
pub class_joined : (name : List ℕ) (bs : List Behaviour) (s t : State) → add_class name s ≡ Goes tt t → length s.classes ≡ length bs
    → add_class name (whole bs s) ≡ Goes tt (whole (bs ++ record { bodies = []; memory = blank_memory } ∷ []) t)
class_joined name bs s t is each = added_whole name bs s ∙ goes_by (is_some (class_named s.classes name)) name bs s t is each
