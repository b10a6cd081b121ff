-- Turns that read nothing of what classes do and remember. One lemma for each way to make a turn, and then each turn.
use Rattle.std.proofs.Common.{◌≡◌, ℕ, Bool, true, false, List, [], ◌∷◌, length, Option, Some, None, Result, Ok, Err, refl, sym, ap, ◌∙◌}
use Rattle.std.specs.Prelude.{if◌then◌else◌}
use Rattle.ce_base.specs.declared.fault.Fault.{Fault}
use Rattle.ce_base.specs.declared.fault.Fault.TheVariants.{ReferenceError}
use Rattle.rule_tokens.specs.declared.callback.CallName.TheVariants.{Constructor}
use Rattle.ce_registry.specs.ClassFacts.{has_call}
use Rattle.ce_algorithms.specs.declared.deed.Deed.{Deed}
use Rattle.ce_algorithms.specs.declared.deed.Deed.TheVariants as deeds
use Rattle.ce_events.specs.declared.event.Event.TheVariants.{Construct, DrainBegun, QueueClosed}
use Rattle.ce_algorithms.specs.declared.given.Given.{Given}
use Rattle.ce_algorithms.specs.declared.given.Given.TheVariants.{Nothing, Node, Answers, Ignored}
use Rattle.ce_algorithms.specs.Steps.{Step, Outcome, Goes, Throws, Spent}
use Rattle.ce_algorithms.specs.Page.{Work, with_queues}
use Rattle.ce_algorithms.specs.Construction.{base_call, pop_construction}
use Rattle.ce_algorithms.specs.State.{State, class_of, log, logged, on_page}
use Rattle.ce_algorithms.specs.Values.{no_args}
use Rattle.ce_algorithms.specs.Body.{actions_of}
use Rattle.ce_algorithms.specs.Upgrade.{drop_reactions, upgrade_threw, upgrade_ends}
use Rattle.ce_algorithms.specs.Create.{fitting, upgrade_failed}
use Rattle.ce_algorithms.specs.Drain.{with_backup}
use Rattle.ce_algorithms.specs.Deeds.{is_reacting, IsStill}
use Rattle.ce_algorithms.specs.Perform.{gives_node, keep, named, steps}
use Rattle.ce_algorithms.specs.Session.{reply}
use Rattle.ce_frames.specs.Frames.{Frame, Replying, Checking, DrainingBackup, Naming, Stepping, Draining, InReaction, CreatingFit, CreatingExtended, Upgrading}
use Rattle.ce_frames.specs.Frames.{Constructing, InBody}
use Rattle.ce_frames.specs.Handing.{node_in}
use Rattle.ce_frames.specs.Rest.{Went, Threw, Over}
use Rattle.ce_frames.specs.Places.{Behaviour}
use Rattle.ce_frames.specs.Turned.{Turn, ended, turn_after, ◌>>=◌, ◌>>◌, hand_down, go_on, with_below, below, no_calls}
use Rattle.ce_frames.specs.ConstructTurns.{begin_body, construct_turn, fitting_given, created_turn, same_given, upgrade_result_turn, upgraded_turn}
use Rattle.ce_frames.specs.OperateTurns.{next_turn, pop_turn, steps_turn, deed_turn}
use Rattle.ce_frames.specs.DrainTurns.{next_backup_turn, checked_turn, check_turn}
use Rattle.ce_frames.specs.Turns.{turn}
use Rattle.ce_frames.specs.Whole.{whole, whole_in, whole_turned, state_in, IsBlind, IsBlindTurn, GoesBlind, CatchesBlind}
use Rattle.ce_frames.proofs.Wholes.{class_name_joined, class_facts_joined}
use Rattle.ce_frames.proofs.BlindSteps.{blind_steps, blind_give, blind_done, blind_throw, blind_settle, blind_read_page, blind_change_page, blind_log}
use Rattle.ce_frames.proofs.BlindSteps.{blind_set_variable, blind_on_page, blind_bind, blind_seq, blind_throw_if, blind_found, blind_attempt, blind_open_queue}
use Rattle.ce_frames.proofs.BlindSteps.{blind_pop_queue, still_blind}

-- where a turn has ended

ended_whole : (bs : List Behaviour) (o : Outcome State Given) → ended (whole_in bs o) ≡ whole_turned bs (ended o)
ended_whole bs (Goes given s) = refl
ended_whole bs (Throws f s) = refl
ended_whole bs (Spent s) = refl

ended_classes : (o : Outcome State Given) → length (ended o).state.classes ≡ length (state_in o).classes
ended_classes (Goes given s) = refl
ended_classes (Throws f s) = refl
ended_classes (Spent s) = refl

pub blind_down : {f : Step State Given} → IsBlind f → IsBlindTurn (hand_down f)
blind_down {f} h =
    record { same = λ bs s. ap ended (h.same bs s) ∙ ended_whole bs (f s); classes = λ s. ended_classes (f s) ∙ h.classes s }

pub blind_go_on : IsBlindTurn go_on
blind_go_on = blind_down (blind_give Nothing)

pub blind_below : (f : Frame) {t : Turn} → IsBlindTurn t → IsBlindTurn (below f t)
blind_below f {t} h = record { same = λ bs s. ap (with_below f) (h.same bs s); classes = λ s. h.classes s }

-- behind a step

after_whole : {A : Type 0} {k : A → Turn} (bs : List Behaviour) (o : Outcome State A) → ((a : A) → IsBlindTurn (k a))
    → turn_after (whole_in bs o) k ≡ whole_turned bs (turn_after o k)
after_whole bs (Goes a s) next = (next a).same bs s
after_whole bs (Throws f s) next = refl
after_whole bs (Spent s) next = refl

after_classes : {A : Type 0} {k : A → Turn} (o : Outcome State A) → ((a : A) → IsBlindTurn (k a))
    → length (turn_after o k).state.classes ≡ length (state_in o).classes
after_classes (Goes a s) next = (next a).classes s
after_classes (Throws f s) next = refl
after_classes (Spent s) next = refl

pub blind_turn_bind : {A : Type 0} {f : Step State A} {k : A → Turn} → IsBlind f → ((a : A) → IsBlindTurn (k a)) → IsBlindTurn (f >>= k)
blind_turn_bind {f} {k} h next =
    record {
      same = λ bs s. ap (λ o. turn_after o k) (h.same bs s) ∙ after_whole bs (f s) next;
      classes = λ s. after_classes (f s) next ∙ h.classes s;
    }

pub blind_turn_seq : {A : Type 0} {f : Step State A} {t : Turn} → IsBlind f → IsBlindTurn t → IsBlindTurn (f >> t)
blind_turn_seq {f} {t} h next =
    record {
      same = λ bs s. ap (λ o. turn_after o (λ _. t)) (h.same bs s) ∙ after_whole bs (f s) (λ _. next);
      classes = λ s. after_classes (f s) (λ _. next) ∙ h.classes s;
    }

pub blind_if_turn : {t u : Turn} (test : Bool) → IsBlindTurn t → IsBlindTurn u → IsBlindTurn (if test then t else u)
blind_if_turn true h k = h
blind_if_turn false h k = k

-- what a step of the page gives is handed down

pub blind_node : (f : Step Work ℕ) → IsBlindTurn (hand_down (gives_node (on_page f)))
blind_node f = blind_down (blind_bind (blind_on_page f) (λ n. blind_give (Node n)))

pub blind_page : (f : Step Work Given) → IsBlindTurn (hand_down (on_page f))
blind_page f = blind_down (blind_on_page f)

-- a variable is set

blind_keep : (var : Option (List ℕ)) (given : Given) → IsBlind (keep var given)
blind_keep None given = blind_done
blind_keep (Some var) Nothing = blind_done
blind_keep (Some var) (Node n) = blind_set_variable var n
blind_keep (Some var) (Answers a) = blind_done
blind_keep (Some var) Ignored = blind_done

pub blind_named : (var : Option (List ℕ)) (given : Given) → IsBlind (named var given)
blind_named var given = blind_seq (blind_keep var given) (blind_give given)

-- element queues

pub next_turn_blind : (queue : ℕ) (elements : List ℕ) (kept : Result Given Fault) → IsBlindTurn (next_turn queue elements kept)
next_turn_blind queue [] kept = blind_turn_seq (blind_log (QueueClosed queue)) (blind_down (blind_settle kept))
next_turn_blind queue (n ∷ ns) kept = blind_below (Draining queue (n ∷ ns) kept) blind_go_on

pub pop_turn_blind : (queue : ℕ) (kept : Result Given Fault) → IsBlindTurn (pop_turn queue kept)
pop_turn_blind queue kept =
    blind_turn_bind blind_pop_queue (λ elements. blind_turn_seq (blind_log (DrainBegun queue)) (next_turn_blind queue elements kept))

pub steps_turn_blind : {f : Step State Given} → IsBlind f → IsBlindTurn (steps_turn f)
unfolding steps_turn
steps_turn_blind h = blind_turn_bind blind_open_queue (λ queue. blind_turn_bind (blind_attempt h) (λ kept. pop_turn_blind queue kept))

pub next_backup_turn_blind : (elements : List ℕ) → IsBlindTurn (next_backup_turn elements)
next_backup_turn_blind [] = blind_turn_seq (blind_log (QueueClosed 0)) blind_go_on
next_backup_turn_blind (n ∷ ns) = blind_turn_seq (blind_change_page (with_queues (with_backup ns))) (blind_below (DrainingBackup n) blind_go_on)

checked_blind : (line : ℕ) (result : Result Given Fault) (elements : List ℕ) → IsBlindTurn (checked_turn line result elements)
checked_blind line result [] = blind_turn_seq (blind_log (reply line result)) blind_go_on
checked_blind line result (n ∷ ns) =
    blind_turn_seq (blind_log (DrainBegun 0)) (blind_below (Checking line result) (next_backup_turn_blind (n ∷ ns)))

pub check_turn_blind : (line : ℕ) (result : Result Given Fault) → IsBlindTurn (check_turn line result)
check_turn_blind line result = blind_turn_bind (blind_read_page (λ p. p.queues.backup)) (checked_blind line result)

-- deeds

still_turn : (deed : Deed) → IsStill deed
    → IsBlindTurn (if is_reacting deed then steps_turn (steps no_calls deed) else hand_down (steps no_calls deed))
still_turn deed still = blind_if_turn (is_reacting deed) (steps_turn_blind (still_blind no_calls deed still)) (blind_down (still_blind no_calls deed still))

-- a deed that constructs no class
pub deed_turn_blind : (deed : Deed) → IsStill deed → IsBlindTurn (deed_turn deed)
unfolding deed_turn
deed_turn_blind (deeds.Create local is document) still = absurd still
deed_turn_blind (deeds.New class) still = absurd still
deed_turn_blind (deeds.Define name class base) still = still_turn (deeds.Define name class base) still
deed_turn_blind (deeds.OnPage what) still = still_turn (deeds.OnPage what) still
deed_turn_blind (deeds.OnControls what) still = still_turn (deeds.OnControls what) still
deed_turn_blind (deeds.OnInternals what) still = still_turn (deeds.OnInternals what) still
deed_turn_blind (deeds.OnForms what) still = still_turn (deeds.OnForms what) still
deed_turn_blind (deeds.Submits what) still = still_turn (deeds.Submits what) still
deed_turn_blind (deeds.Ask word n name) still = still_turn (deeds.Ask word n name) still
deed_turn_blind (deeds.Let var n) still = still_turn (deeds.Let var n) still

-- constructions

blind_fitting : (local : List ℕ) (document n : ℕ) → IsBlind (fitting local document n)
blind_fitting local document n = search (blind_steps) depth 12

blind_fitting_given : (local : List ℕ) (document : ℕ) (given : Given) → IsBlind (fitting_given local document given)
blind_fitting_given local document Nothing = blind_throw _
blind_fitting_given local document (Node n) = blind_fitting local document n
blind_fitting_given local document (Answers a) = blind_throw _
blind_fitting_given local document Ignored = blind_throw _

blind_same_given : (n : ℕ) (given : Given) → IsBlind (same_given n given)
blind_same_given n Nothing = blind_throw _
blind_same_given n (Node m) = blind_throw_if _ _
blind_same_given n (Answers a) = blind_throw _
blind_same_given n Ignored = blind_throw _

pub created_turn_blind : (local : List ℕ) (document : ℕ) (result : Result ℕ Fault) → IsBlindTurn (created_turn local document result)
created_turn_blind local document (Ok n) = blind_down (blind_give (Node n))
created_turn_blind local document (Err x) = blind_down (search (blind_steps) depth 12)

blind_upgrade_failed : (n : ℕ) (x : Fault) → IsBlind (upgrade_failed n x)
blind_upgrade_failed n x = search (blind_steps) depth 12

blind_drop_reactions : (n : ℕ) → IsBlind (drop_reactions n)
blind_drop_reactions n = search (blind_steps) depth 12

blind_upgrade_threw : (n : ℕ) (x : Fault) → IsBlind (upgrade_threw n x)
blind_upgrade_threw n x = search (blind_steps, blind_drop_reactions) depth 12

blind_upgrade_ends : (n : ℕ) → IsBlind (upgrade_ends n)
blind_upgrade_ends n = search (blind_steps) depth 12

blind_upgrade_result : (n : ℕ) (result : Result (Unit {0}) Fault) → IsBlindTurn (upgrade_result_turn n result)
blind_upgrade_result n (Ok x) = blind_turn_seq (blind_upgrade_ends n) blind_go_on
blind_upgrade_result n (Err x) = blind_down (blind_seq (blind_upgrade_threw n x) (blind_give Nothing))

pub upgraded_turn_blind : (n d : ℕ) (result : Result (Unit {0}) Fault) → IsBlindTurn (upgraded_turn n d result)
upgraded_turn_blind n d result = blind_turn_seq (blind_on_page (pop_construction d)) (blind_upgrade_result n result)

-- a construction without a constructor of its own: its line, and the base call
base_turn : ℕ → List ℕ → Turn
base_turn class name = log (Construct name) >> hand_down (gives_node (on_page (base_call class)))

base_turn_blind : (class : ℕ) (name : List ℕ) → IsBlindTurn (base_turn class name)
unfolding base_turn
base_turn_blind class name = blind_turn_seq (blind_log (Construct name)) (blind_node (base_call class))

construct_is_base : (class : ℕ) (s : State) → has_call Constructor (class_of s class).facts.calls ≡ false
    → construct_turn class s ≡ base_turn class (class_of s class).name s
unfolding construct_turn base_turn
construct_is_base class s own =
    ap (λ t. (if t then below Constructing (begin_body class no_args None (actions_of Constructor (class_of s class).bodies))
    else hand_down (gives_node (on_page (base_call class)))) (logged (Construct (class_of s class).name) s)) own

-- a class is constructed that has no constructor of its own
pub construct_blind : (class : ℕ) (bs : List Behaviour) (s : State) → has_call Constructor (class_of s class).facts.calls ≡ false
    → construct_turn class (whole bs s) ≡ whole_turned bs (construct_turn class s)
construct_blind class bs s own =
    construct_is_base class (whole bs s) (ap (λ facts. has_call Constructor facts.calls) (class_facts_joined s bs class) ∙ own)
    ∙ ap (λ name. base_turn class name (whole bs s)) (class_name_joined s bs class)
    ∙ (base_turn_blind class (class_of s class).name).same bs s
    ∙ ap (whole_turned bs) (sym (construct_is_base class s own))

pub construct_classes : (class : ℕ) (s : State) → has_call Constructor (class_of s class).facts.calls ≡ false
    → length (construct_turn class s).state.classes ≡ length s.classes
construct_classes class s own =
    ap (λ t. length t.state.classes) (construct_is_base class s own) ∙ (base_turn_blind class (class_of s class).name).classes s

-- frames

-- with what was given
pub went_blind : (f : Frame) (given : Given) → GoesBlind f → IsBlindTurn (turn f (Went given))
unfolding turn
went_blind (Replying line) given goes = check_turn_blind line (Ok given)
went_blind (Checking line result) given goes = blind_turn_seq (blind_log _) blind_go_on
went_blind (DrainingBackup n) given goes = absurd goes
went_blind (Naming var) given goes = blind_down (blind_named (Some var) given)
went_blind (Stepping queue) given goes = pop_turn_blind queue (Ok given)
went_blind (Draining queue elements kept) given goes = absurd goes
went_blind (InReaction number) given goes = blind_turn_seq (blind_log _) blind_go_on
went_blind (CreatingFit local document) given goes =
    blind_turn_bind (blind_attempt (blind_fitting_given local document given)) (created_turn_blind local document)
went_blind (CreatingExtended n) given goes = blind_down (blind_give (Node n))
went_blind (Upgrading n d) given goes = blind_turn_bind (blind_attempt (blind_same_given n given)) (upgraded_turn_blind n d)
went_blind Constructing given goes = blind_down (blind_bind (blind_found (node_in given) ReferenceError) (λ n. blind_give (Node n)))
went_blind (InBody class args this guarded actions) given goes = absurd goes

-- with a fault
pub threw_blind : (f : Frame) (x : Fault) → CatchesBlind f → IsBlindTurn (turn f (Threw x))
unfolding turn
threw_blind (Replying line) x catches = check_turn_blind line (Err x)
threw_blind (Checking line result) x catches = blind_down (blind_throw x)
threw_blind (DrainingBackup n) x catches = blind_down (blind_throw x)
threw_blind (Naming var) x catches = blind_down (blind_throw x)
threw_blind (Stepping queue) x catches = pop_turn_blind queue (Err x)
threw_blind (Draining queue elements kept) x catches = blind_down (blind_throw x)
threw_blind (InReaction number) x catches = blind_turn_seq (blind_log _) (blind_turn_seq (blind_log _) blind_go_on)
threw_blind (CreatingFit local document) x catches = created_turn_blind local document (Err x)
threw_blind (CreatingExtended n) x catches = blind_turn_seq (blind_upgrade_failed n x) (blind_down (blind_give (Node n)))
threw_blind (Upgrading n d) x catches = upgraded_turn_blind n d (Err x)
threw_blind Constructing x catches = blind_down (blind_throw x)
threw_blind (InBody class args this true actions) x catches = absurd catches
threw_blind (InBody class args this false actions) x catches = blind_down (blind_throw x)

-- with the end of the session
pub over_blind : (f : Frame) → IsBlindTurn (turn f Over)
unfolding turn
over_blind f = record { same = λ bs s. refl; classes = λ s. refl }
