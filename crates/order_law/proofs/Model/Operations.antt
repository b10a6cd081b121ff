-- Operations keep the law, and give nodes: their operands are read, and then they are done.
use Rattle.std.proofs.Common.{◌≤◌, ℕ, zero, suc, true, List, [], ◌∷◌, ◌++◌, length, Option, Some, None, refl, inl, arith}
use Rattle.std.specs.Prelude.{not, slice_set, bytes_eq, Result, Ok, Err}
use Rattle.std.specs.Str.{str_to_ascii_lowercase}
use Rattle.std.specs.List.{position}
use Rattle.std.specs.List.{AllByRecursion as Each}
use Rattle.std.specs.Option.{option_to_list}
use Rattle.ce_base.specs.declared.custom_state.CustomState.TheVariants.{Failed, Undefined}
use Rattle.ce_base.specs.declared.fault.Fault.{Fault}
use Rattle.ce_base.specs.declared.fault.Fault.TheVariants.{TypeError, NotSupportedError, InvalidCharacterError}
use Rattle.element_names.specs.Names.{local_name}
use Rattle.rule_tokens.specs.declared.operand.Operand.{Operand}
use Rattle.rule_lines.specs.declared.line.Cmd.{Cmd}
use Rattle.rule_lines.specs.declared.line.Cmd.TheVariants as commands
use Rattle.rule_lines.specs.declared.op.Op.{Op}
use Rattle.rule_lines.specs.declared.op.Op.TheVariants as ops
use Rattle.ce_registry.specs.declared.definition.Definition.{Definition}
use Rattle.ce_registry.specs.Registry.{is_autonomous}
use Rattle.ce_algorithms.specs.declared.deed.Deed.{Deed}
use Rattle.ce_algorithms.specs.declared.deed.Deed.TheVariants as deeds
use Rattle.ce_algorithms.specs.declared.deed.PageDeed.{PageDeed}
use Rattle.ce_events.specs.declared.event.Event.TheVariants.{Reported}
use Rattle.ce_algorithms.specs.declared.given.Given.{Given}
use Rattle.ce_algorithms.specs.declared.given.Given.TheVariants.{Nothing, Node, Answers, Ignored}
use Rattle.ce_algorithms.specs.Steps.{Step, Outcome, Goes, Throws, Spent, then_do, ◌>>=◌, ◌>>◌, give, catch, catch_in}
use Rattle.ce_algorithms.specs.Page.{Work, element_of, definition_at}
use Rattle.ce_algorithms.specs.State.{State, View, logged, view, on_page, with_outcome, work_of, set_variable, put_variable, class_of}
use Rattle.ce_algorithms.specs.Calls.{Again}
use Rattle.ce_algorithms.specs.Operands.{node}
use Rattle.ce_algorithms.specs.Operands as operands
use Rattle.ce_algorithms.specs.Enqueue.{lookup_in}
use Rattle.ce_algorithms.specs.CreateLater.{make_in_state, first_state}
use Rattle.ce_algorithms.specs.Create.{is_no_element, is_unfit, fitting, create_failed, upgrade_failed, create_extended, create_defined, create_found}
use Rattle.ce_algorithms.specs.Upgrade.{upgrade}
use Rattle.ce_algorithms.specs.Construct.{construct}
use Rattle.ce_algorithms.specs.Drain.{reacting}
use Rattle.ce_algorithms.specs.Deeds.{resolve, resolve_user, variable, is_reacting_on_forms, is_reacting_on_page}
use Rattle.ce_algorithms.specs.Perform.{create_named, define_element, gives_nothing, gives_node, form_steps, page_steps, perform_deed, keep, kept, operate}
use Rattle.ce_algorithms.specs.Perform.{act_as_user}
use Rattle.order_law.specs.Law.{Lawful}
use Rattle.order_law.proofs.Model.Sound.{IsRow}
use Rattle.order_law.proofs.Model.Invariant.{Hold, InSteps, InHand, Known, nodes_of, HoldsIn, After}
use Rattle.order_law.proofs.Model.Hands.{with_hands, IsHeld, held_row, all_under, all_taken, take_in}
use Rattle.order_law.proofs.Model.Making.{failed_holds}
use Rattle.order_law.proofs.Model.Upgrades.{rest_row}
use Rattle.order_law.proofs.Model.Ending.{spent_lawful}
use Rattle.order_law.proofs.Model.Lines.{plain_holds, reported_plain}
use Rattle.order_law.proofs.Model.Steps.{came_back, at_work, Keeps}
use Rattle.order_law.proofs.Model.Giving.{none, one, given_nodes, AfterGives, Gives, let_go, gives_bind, gives_after, gives_seq, gives_give, gives_if}
use Rattle.order_law.proofs.Model.Giving.{gives_catch, gives_look, gives_page, gives_keeps, keeps_gives, FoundRows}
use Rattle.order_law.proofs.Model.Nodes.{AfterMade, made_at, state_gives}
use Rattle.order_law.proofs.Model.PageDeeds.{page_deed_nodes, control_gives, form_gives, internals_gives, page_gives, define_gives}
use Rattle.order_law.proofs.Model.Submitting.{submit_gives}
use Rattle.order_law.proofs.Model.Upgrading.{upgrade_after}
use Rattle.order_law.proofs.Model.Draining.{KeepsLaw, reacting_gives}
use Rattle.order_law.proofs.Model.Bodies.{keeps_plain, keeps_read, keeps_read_page, keeps_class, keeps_throw_if, keeps_throw_where, view_row, construct_gives}
use Rattle.order_law.proofs.Model.Bodies.{construct_for_keeps, body_keeps}

-- what an operation comes to

-- the numbers in a deed that have to be those of nodes
abbrev pub deed_nodes : Deed → List ℕ
deed_nodes (deeds.OnPage deed) = page_deed_nodes deed
deed_nodes (deeds.Let var n) = n ∷ []
deed_nodes deed = []

-- of a deed of no such nodes nothing is said
found_any : {A : Type 0} (rows : ℕ) (r : Result A Fault) (k : A → Result Deed Fault) → ((a : A) → FoundRows deed_nodes rows (k a)) →
    FoundRows deed_nodes rows (operands.◌>>=◌ r k)
found_any rows (Ok a) k n = n a
found_any rows (Err f) k n = tt

found_node : (rows : ℕ) (r : Result ℕ Fault) (k : ℕ → Result Deed Fault) → FoundRows one rows r →
    ((n : ℕ) → IsRow rows n → FoundRows deed_nodes rows (k n)) → FoundRows deed_nodes rows (operands.◌>>=◌ r k)
found_node rows (Ok n) k row next = next n row.0
found_node rows (Err f) k row next = tt

resolved : (rows : ℕ) (v : View) (op : Op) → ((operand : Operand) → FoundRows one rows (node v operand)) → FoundRows deed_nodes rows (resolve v op)
resolved rows v (ops.Append parent child) row =
    found_node rows (node v parent) _ (row parent) (λ p at_p. found_node rows (node v child) _ (row child) (λ n at_n. (at_p, (at_n, tt))))
resolved rows v (ops.Before parent child before) row =
    found_node rows (node v parent) _ (row parent)
    (λ p at_p. found_node rows (node v child) _ (row child) (λ n at_n. found_any rows (node v before) _ (λ b. (at_p, (at_n, tt)))))
resolved rows v (ops.Let var at) row = found_node rows (node v at) _ (row at) (λ n at_n. (at_n, tt))
resolved rows v op row = search found_any depth 8

resolved_user : (rows : ℕ) (v : View) (c : Cmd) → FoundRows deed_nodes rows (resolve_user v c)
resolved_user rows v (commands.UserEdit operand text) = search found_any depth 8
resolved_user rows v (commands.UserCheck operand on) = search found_any depth 8
resolved_user rows v (commands.UserChoose operand on) = search found_any depth 8
resolved_user rows v (commands.UserReset operand) = search found_any depth 8
resolved_user rows v (commands.UserRestore operand text) = search found_any depth 8
resolved_user rows v (commands.UserAutofill operand text) = search found_any depth 8
resolved_user rows v (commands.UserPress operand) = search found_any depth 8
resolved_user rows v c = tt

-- variables

set_nodes : (rows : ℕ) (vs : List (List ℕ × ℕ)) (i : ℕ) (v : List ℕ) (n : ℕ) → IsRow rows n → Each (IsRow rows) (nodes_of vs) →
    Each (IsRow rows) (nodes_of (slice_set vs i (v, n)))
set_nodes rows [] i v n row all = tt
set_nodes rows (b ∷ vs) zero v n row all = (row, all.1)
set_nodes rows (b ∷ vs) (suc i) v n row all = (all.0, set_nodes rows vs i v n row all.1)

more_nodes : (rows : ℕ) (vs : List (List ℕ × ℕ)) (v : List ℕ) (n : ℕ) → IsRow rows n → Each (IsRow rows) (nodes_of vs) →
    Each (IsRow rows) (nodes_of (vs ++ (v, n) ∷ []))
more_nodes rows [] v n row all = (row, tt)
more_nodes rows (b ∷ vs) v n row all = (all.0, more_nodes rows vs v n row all.1)

put_nodes : (rows : ℕ) (o : Option ℕ) (v : List ℕ) (n : ℕ) (vs : List (List ℕ × ℕ)) → IsRow rows n → Each (IsRow rows) (nodes_of vs) →
    Each (IsRow rows) (nodes_of (put_variable o v n vs))
put_nodes rows None v n vs row all = more_nodes rows vs v n row all
put_nodes rows (Some i) v n vs row all = set_nodes rows vs i v n row all

keeps_variable : {h : List Hold} (v : List ℕ) (n : ℕ) → IsHeld n h → Keeps h (set_variable v n)
keeps_variable {h} v n held = record {
  at = λ s k. record {
    holds = k.holds;
    notes = k.notes;
    rest = record {
      sound = k.rest.sound;
      named = put_nodes (length s.page.elements) (position (λ (b : List ℕ × ℕ). bytes_eq b.0 v) s.variables) v n s.variables
          (held_row n h s.log s.page held k.holds) k.rest.named;
    };
  };
}

keeps_kept : {h : List Hold} (var : Option (List ℕ)) (given : Given) → Each (λ n. IsHeld n h) (given_nodes given) → Keeps h (keep var given)
keeps_kept (Some var) (Node n) held = keeps_variable var n held.0
keeps_kept (Some var) Nothing held = record { at = λ s o. o }
keeps_kept (Some var) (Answers a) held = record { at = λ s o. o }
keeps_kept (Some var) Ignored held = record { at = λ s o. o }
keeps_kept None given held = record { at = λ s o. o }

pub kept_gives : {h : List Hold} {f : Step State Given} (var : Option (List ℕ)) → Gives given_nodes h f → Gives given_nodes h (kept var f)
kept_gives {h = h} var x = gives_bind x
    (λ given. gives_seq (keeps_kept var given (all_taken (given_nodes given) h)) (gives_give given (all_taken (given_nodes given) h)))

pub node_gives : {h : List Hold} {f : Step State ℕ} → Gives one h f → Gives given_nodes h (gives_node f)
node_gives x = gives_bind x (λ n. gives_give (Node n) (inl refl, tt))

nothing_gives : {h : List Hold} {f : Step State (Unit {0})} → Keeps h f → Gives given_nodes h (gives_nothing f)
nothing_gives x = gives_seq x (gives_give Nothing tt)

-- a new element, in the session
abbrev AfterMadeIn : List Hold → Outcome State ℕ → Type 0
AfterMadeIn h (Goes n s) = HoldsIn h s × Known s.page.elements n
AfterMadeIn h (Throws f s) = ⊥
AfterMadeIn h (Spent s) = Lawful s.log

made_in : (h : List Hold) (s : State) (o : Outcome Work ℕ) → HoldsIn h s → AfterMade (with_hands (nodes_of s.variables) h) s.log o →
    AfterMadeIn h (with_outcome o s)
made_in h s (Goes n w) k made = (came_back h s w made.holds, made.known)
made_in h s (Throws f w) k made = made
made_in h s (Spent w) k made = spent_lawful (with_hands (nodes_of s.variables) h) _ w.page made.holds

-- a fault of its upgrade is reported, and it is failed
failed_after : (n : ℕ) (f : Fault) (h : List Hold) (s : State) → 2 ≤ n → HoldsIn (InHand n ∷ h) s → After {A = Unit {0}} (InHand n ∷ h) (upgrade_failed n f s)
failed_after n f h s low k =
    let row = held_row n (InHand n ∷ h) s.log s.page (inl refl) k.holds in
    record {
      holds = failed_holds n (record (element_of s.page n) { state = Failed }) (InHand n ∷ h) (s.log ++ Reported f ∷ []) s.page
          (record { low = low; high = row.high }) refl refl (plain_holds (Reported f) (InHand n ∷ h) s.log s.page (reported_plain f) k.holds);
      notes = k.notes;
      rest = rest_row n (record (element_of s.page n) { state = Failed }) (logged (Reported f) s) k.rest;
    }

module _ (again : Again) (keeps : KeepsLaw again) where
  -- an operation with a queue
  queue_gives : (h : List Hold) (steps : Step State Given) → ((m : ℕ) → Gives given_nodes (InSteps m ∷ h) steps) → Gives given_nodes h (reacting again steps)
  queue_gives h steps n = reacting_gives again keeps (construct_for_keeps again keeps) (body_keeps again keeps) given_nodes h steps n

  -- a definition that extends an element
  upgraded_after : (n : ℕ) (m : ℕ) (h : List Hold) (o : Outcome State (Unit {0})) → 2 ≤ n → After (InHand n ∷ InSteps m ∷ h) o →
      AfterGives one (InHand n ∷ InSteps m ∷ h) (then_do (catch_in o (upgrade_failed n)) (λ _. give n))
  upgraded_after n m h (Goes a s) low k = (gives_give {nodes = one} {h = InHand n ∷ InSteps m ∷ h} n (inl refl, tt)).at s k
  upgraded_after n m h (Throws f s) low k =
      (gives_give {nodes = one} {h = InHand n ∷ InSteps m ∷ h} n (inl refl, tt)).at _ (failed_after n f (InSteps m ∷ h) s low k)
  upgraded_after n m h (Spent s) low k = k

  extended_then : (d m : ℕ) (h : List Hold) (o : Outcome State ℕ) → AfterMadeIn (InSteps m ∷ h) o →
      AfterGives one (InSteps m ∷ h) (then_do o (λ n. catch (upgrade again n d) (upgrade_failed n) >> give n))
  extended_then d m h (Goes n s) k =
      let known = k.1 in
      let held : HoldsIn (InHand n ∷ InSteps m ∷ h) s =
      take_in (n ∷ []) (InSteps m ∷ h) s (record { low = omega (arith, known.low); high = known.high }, tt) k.0 in
      let_go one (n ∷ []) (InSteps m ∷ h) _
      (upgraded_after n m h (upgrade again n d s) known.low
      (upgrade_after again n d (InHand n ∷ InSteps m ∷ h) s known tt (construct_for_keeps again keeps n d (InHand n ∷ InSteps m ∷ h)) held))
  extended_then d m h (Throws f s) k = absurd k
  extended_then d m h (Spent s) k = k

  extended_gives : (local : List ℕ) (is : Option (List ℕ)) (document d m : ℕ) (h : List Hold) →
      Gives one (InSteps m ∷ h) (create_extended again local is document d)
  extended_gives local is document d m h = record {
    at = λ s k. extended_then d m h (on_page (make_in_state local is document Undefined) s)
        (made_in (InSteps m ∷ h) s (make_in_state local is document Undefined (work_of s)) k
        (made_at local is document Undefined (with_hands (nodes_of s.variables) (InSteps m ∷ h)) s.log (work_of s) (at_work (InSteps m ∷ h) s k)));
  }

  -- an autonomous one
  fit_gives : (local : List ℕ) (document class : ℕ) (h : List Hold) → Gives one h (construct again class >>= (λ n. fitting local document n))
  fit_gives local document class h = gives_bind (construct_gives again keeps class h)
      (λ n. gives_seq (keeps_throw_where (λ (s : State). is_no_element s.page n) TypeError)
      (gives_seq (keeps_throw_where (λ (s : State). is_unfit s.page local document n) NotSupportedError) (gives_give n (inl refl, tt))))

  failed_gives : (local : List ℕ) (document : ℕ) (f : Fault) (h : List Hold) → Gives one h (create_failed local document f)
  failed_gives local document f h = gives_seq (keeps_plain (Reported f) (reported_plain f)) (gives_page (λ vs l. state_gives local None document Failed))

  defined_gives : (local : List ℕ) (is : Option (List ℕ)) (document d : ℕ) (x : Definition) (m : ℕ) (h : List Hold) →
      Gives one (InSteps m ∷ h) (create_defined again local is document d x)
  defined_gives local is document d x m h =
      gives_if (is_autonomous x) (gives_catch (fit_gives local document x.class (InSteps m ∷ h)) (λ f. failed_gives local document f (InSteps m ∷ h)))
      (extended_gives local is document d m h)

  found_gives : (local : List ℕ) (is : Option (List ℕ)) (document : ℕ) (d : Option ℕ) (m : ℕ) (h : List Hold) →
      Gives one (InSteps m ∷ h) (create_found again local is document d)
  found_gives local is document None m h = gives_page (λ vs l. state_gives local is document (first_state local is))
  found_gives local is document (Some d) m h = gives_after (keeps_read_page (λ p. definition_at p d)) (λ x. defined_gives local is document d x m h)

  create_gives : (name : List ℕ) (is : Option (List ℕ)) (document m : ℕ) (h : List Hold) → Gives one (InSteps m ∷ h) (create_named again name is document)
  create_gives name is document m h = gives_seq (keeps_throw_if (not (local_name name)) InvalidCharacterError)
      (gives_after (keeps_read_page (λ p. lookup_in p document (str_to_ascii_lowercase name) is))
      (λ d. found_gives (str_to_ascii_lowercase name) is document d m h))

  define_keeps : (name : List ℕ) (class : ℕ) (base : Option (List ℕ)) (h : List Hold) → Keeps h (define_element name class base)
  define_keeps name class base h = gives_keeps {nodes = none} (gives_after (keeps_read (λ s. class_of s class))
      (λ c. gives_seq (gives_keeps (gives_page (λ vs l. define_gives name class c.facts base)))
      (keeps_gives (keeps_class class (λ c. record c { frozen = true })))))

  on_page_gives : (deed : PageDeed) (h : List Hold) → Each (λ n. IsHeld n h) (page_deed_nodes deed) → Gives given_nodes h (on_page (page_steps deed))
  on_page_gives deed h held = gives_page (λ vs l. page_gives deed (all_under vs (page_deed_nodes deed) h held))

  -- a case for each deed
  deed_gives : (deed : Deed) (h : List Hold) → Each (λ n. IsHeld n h) (deed_nodes deed) → Gives given_nodes h (perform_deed again deed)
  deed_gives (deeds.Create local is document) h held =
      queue_gives h (gives_node (create_named again local is document)) (λ m. node_gives (create_gives local is document m h))
  deed_gives (deeds.New class) h held = node_gives (construct_gives again keeps class h)
  deed_gives (deeds.Define name class base) h held =
      queue_gives h (gives_nothing (define_element name class base)) (λ m. nothing_gives (define_keeps name class base (InSteps m ∷ h)))
  deed_gives (deeds.OnPage deed) h held =
      gives_if (is_reacting_on_page deed) (queue_gives h (on_page (page_steps deed)) (λ m. on_page_gives deed (InSteps m ∷ h) held)) (on_page_gives deed h held)
  deed_gives (deeds.OnControls deed) h held = gives_page (λ vs l. control_gives deed)
  deed_gives (deeds.OnInternals deed) h held = gives_page (λ vs l. internals_gives deed)
  deed_gives (deeds.OnForms deed) h held =
      gives_if (is_reacting_on_forms deed) (queue_gives h (on_page (form_steps deed)) (λ m. gives_page (λ vs l. form_gives deed)))
      (gives_page (λ vs l. form_gives deed))
  deed_gives (deeds.Submits what) h held = submit_gives what
  deed_gives (deeds.Ask word n name) h held = record { at = λ s k. (k, tt) }
  deed_gives (deeds.Let var n) h held = nothing_gives (keeps_variable var n held.0)

  pub operate_gives : (this : Option ℕ) (op : Op) (h : List Hold) → Each (λ n. IsHeld n h) (option_to_list this) → Gives given_nodes h (operate again this op)
  operate_gives this op h held =
      gives_bind {nodes = deed_nodes}
      (gives_look this (λ v. resolve v op) (λ s k. resolved (length s.page.elements) (view this s) op (λ operand. view_row h this operand s held k)))
      (λ deed. kept_gives (variable op) (deed_gives deed (with_hands (deed_nodes deed) h) (all_taken (deed_nodes deed) h)))

  pub act_as_user_gives : (c : Cmd) (h : List Hold) → Gives given_nodes h (act_as_user again c)
  act_as_user_gives c h = gives_bind {nodes = deed_nodes}
      (gives_look None (λ v. resolve_user v c) (λ s k. resolved_user (length s.page.elements) (view None s) c))
      (λ deed. deed_gives deed (with_hands (deed_nodes deed) h) (all_taken (deed_nodes deed) h))
