-- Bodies and constructors keep the law, whatever is suspended, and give nodes.
use Rattle.std.proofs.Common.{ℕ, zero, suc, Bool, true, false, List, [], ◌∷◌, Option, Some, None, refl, sym, ap, ◌∙◌, inl, arith}
use Rattle.std.specs.Prelude.{◌≡◌, if◌then◌else◌, is_some, map, not, ◌==◌, slice_get, length, ok_or, option_map, bytes_eq}
use Rattle.std.specs.List.{find}
use Rattle.ce_base.specs.declared.fault.Fault.{Fault}
use Rattle.ce_base.specs.declared.fault.Fault.TheVariants.{ReferenceError, TypeError, NotSupportedError, UserThrow}
use Rattle.rule_tokens.specs.declared.callback.CallName.TheVariants.{Constructor}
use Rattle.rule_tokens.specs.declared.operand.Operand.{Operand}
use Rattle.rule_tokens.specs.declared.operand.Operand.TheVariants.{Doc, This, Variable}
use Rattle.rule_lines.specs.Acts.{Act, Both, Log, Super, Return, Throw, Bump, Keep, Try, If}
use Rattle.ce_registry.specs.ClassFacts.{has_call}
use Rattle.ce_events.specs.declared.event.Event.{Event}
use Rattle.ce_events.specs.declared.event.Event.TheVariants.{Construct, Logged, Caught, Asked}
use Rattle.ce_algorithms.specs.declared.given.Given.{Given}
use Rattle.ce_algorithms.specs.declared.given.Given.TheVariants.{Nothing, Node, Answers, Ignored}
use Rattle.ce_algorithms.specs.Steps.{◌>>=◌, ◌>>◌, done, throw_if, throw_where, found, read}
use Rattle.ce_algorithms.specs.Construction.{base_call}
use Rattle.ce_base.specs.declared.custom_state.CustomState.TheVariants.{Precustomized}
use Rattle.std.specs.Option.{option_and_then}
use Rattle.std.specs.List.{AllByRecursion as Each}
use Rattle.std.specs.Option.{option_to_list}
use Rattle.ce_algorithms.specs.Page.{Page, Element, element_of, definition_of, definition_at, with_state}
use Rattle.ce_algorithms.specs.Upgrade.{is_shadow_refused, construct_class}
use Rattle.ce_algorithms.specs.State.{State, View, view, Class, value_of, log, on_page, change_page, spend, spend_from, class_of, change_class, read_page}
use Rattle.ce_algorithms.specs.Calls.{Again}
use Rattle.ce_algorithms.specs.Operands.{node}
use Rattle.ce_algorithms.specs.Values.{Args, no_args, text_of, fixed}
use Rattle.ce_algorithms.specs.Body.{Flow, Next, Ended, bumped, told, on_flow, returned, holds, act, body, actions_of}
use Rattle.ce_algorithms.specs.Construct.{construct, constructor_body, base_alone}
use Rattle.order_law.proofs.Model.Sound.{IsRow}
use Rattle.order_law.proofs.Model.Invariant.{Hold, InUpgrade, fits, nodes_of, Holds, HoldsIn, After}
use Rattle.order_law.proofs.Model.Reading.{line_tests}
use Rattle.order_law.proofs.Model.Upgrades.{says_row, rest_row}
use Rattle.order_law.proofs.Model.Hands.{with_hands, IsHeld, all_rows, all_under, all_taken}
use Rattle.order_law.proofs.Model.Ending.{spent_lawful}
use Rattle.order_law.proofs.Model.Lines.{Plain, plain_holds, construct_plain, caught_plain, asked_plain}
use Rattle.order_law.proofs.Model.Steps.{Keeps, keeps_bind, keeps_seq, keeps_throw}
use Rattle.order_law.proofs.Model.Giving.{one, given_nodes, Gives, gives_bind, gives_after, gives_seq, gives_give, gives_throw, gives_if, gives_catch}
use Rattle.order_law.proofs.Model.Giving.{gives_look, gives_keeps, gives_page, FoundRows}
use Rattle.order_law.proofs.Model.Nodes.{base_gives}
use Rattle.order_law.proofs.Model.Draining.{KeepsLaw, ConstructsKeep, BodiesKeep}
use Rattle.order_law.proofs.Model.Each.{each_map}

pub keeps_done : {h : List Hold} → Keeps h done
keeps_done = record { at = λ s o. o }

pub keeps_read : {A : Type 0} {h : List Hold} (f : State → A) → Keeps h (read f)
keeps_read f = record { at = λ s o. o }

pub keeps_read_page : {A : Type 0} {h : List Hold} (f : Page → A) → Keeps h (read_page f)
keeps_read_page f = record { at = λ s o. o }

pub keeps_plain : {h : List Hold} (e : Event) → Plain e → Keeps h (log e)
keeps_plain {h} e x = record { at = λ s k. record { holds = plain_holds e h s.log s.page x k.holds; notes = k.notes; rest = k.rest } }

logged_plain : (texts : List (List ℕ)) → Plain (Logged texts)
logged_plain texts = record { at = λ b o d. line_tests b (Logged texts) refl o d refl refl refl; is = λ b. refl }

pub keeps_spend : {h : List Hold} → Keeps h spend
keeps_spend {h} = record { at = λ s k. go s s.fuel k }
  where
    go : (s : State) (n : ℕ) → HoldsIn h s → After {A = Unit {0}} h (spend_from n s)
    go s zero k = spent_lawful h s.log s.page k.holds
    go s (suc n) k = record { holds = k.holds; notes = k.notes; rest = k.rest }

pub keeps_class : {h : List Hold} (k : ℕ) (f : Class → Class) → Keeps h (change_class k f)
keeps_class k f = record { at = λ s o. record { holds = o.holds; notes = o.notes; rest = o.rest } }

pub keeps_throw_if : {h : List Hold} (t : Bool) (f : Fault) → Keeps h (throw_if t f)
keeps_throw_if true f = keeps_throw f
keeps_throw_if false f = keeps_done

pub keeps_throw_where : {h : List Hold} (test : State → Bool) (f : Fault) → Keeps h (throw_where test f)
keeps_throw_where test f = keeps_bind (keeps_read test) (λ t. keeps_throw_if t f)

keeps_told : {h : List Hold} (given : Given) → Keeps h (told given)
keeps_told (Answers a) = keeps_plain (Asked a) (asked_plain a)
keeps_told Nothing = keeps_done
keeps_told (Node n) = keeps_done
keeps_told Ignored = keeps_done

-- the node that an operand names
pub node_row : (rows : ℕ) (v : View) (operand : Operand) → IsRow rows 1 → Each (IsRow rows) (option_to_list v.this) → Each (IsRow rows) (nodes_of v.variables) →
    FoundRows one rows (node v operand)
node_row rows v Doc first this named = (first, tt)
node_row rows v This first this named = go v.this this
  where
    go : (o : Option ℕ) → Each (IsRow rows) (option_to_list o) → FoundRows one rows (ok_or o ReferenceError)
    go None row = tt
    go (Some n) row = row
node_row rows v (Variable name) first this named = go v.variables named
  where
    go : (vs : List (List ℕ × ℕ)) → Each (IsRow rows) (nodes_of vs) → FoundRows one rows (ok_or (value_of vs name) TypeError)
    go [] named = tt
    go (b ∷ vs) named = at (bytes_eq b.0 name) (go vs named.1)
      where
        at : (t : Bool) → FoundRows one rows (ok_or (value_of vs name) TypeError) →
            FoundRows one rows (ok_or (option_map (λ (b : List ℕ × ℕ). b.1) (if t then Some b else find (λ (b : List ℕ × ℕ). bytes_eq b.0 name) vs)) TypeError)
        at true rest = (named.0, tt)
        at false rest = rest

first_row : (h : List Hold) (s : State) → HoldsIn h s → IsRow (length s.page.elements) 1
first_row h s k = let some = k.rest.sound.some in record { low = omega arith; high = omega (arith, some) }

-- in a view of a state
pub view_row : (h : List Hold) (this : Option ℕ) (operand : Operand) (s : State) → Each (λ n. IsHeld n h) (option_to_list this) → HoldsIn h s →
    FoundRows one (length s.page.elements) (node (view this s) operand)
view_row h this operand s held k =
    node_row (length s.page.elements) (view this s) operand (first_row h s k) (all_rows (option_to_list this) h s.log s.page held k.holds) k.rest.named

abbrev pub flow_nodes : Flow → List ℕ
flow_nodes (Next this) = option_to_list this
flow_nodes (Ended result) = option_to_list result

returned_gives : (h : List Hold) (this : Option ℕ) (o : Option Operand) → Each (λ n. IsHeld n h) (option_to_list this) → Gives flow_nodes h (returned this o)
returned_gives h this None held = gives_give (Ended this) held
returned_gives h this (Some operand) held =
    gives_bind {nodes = one} (gives_look this (λ v. node v operand) (λ s k. view_row h this operand s held k)) (λ n. gives_give (Ended (Some n)) (inl refl, tt))

-- a constructor under an upgrade begins

precustomized_holds : (n : ℕ) (h : List Hold) (l : List Event) (p : Page) → Holds (InUpgrade n ∷ h) l p →
    Holds (InUpgrade n ∷ h) l (with_state n Precustomized p)
precustomized_holds n h l p k =
    let b = k.book in
    let e : Element = record (element_of p n) { state = Precustomized } in
    record {
      book = b;
      reads = k.reads;
      over = k.over;
      dropping = k.dropping;
      queues = k.queues;
      elements = says_row b (InUpgrade n ∷ h) p n e k.elements.ongoing.0 (record {
        defined = each_map (λ w. fits w.what (definition_of p w.element) ≡ true) (λ w. w.element ≡ n
            → fits w.what (option_and_then (slice_get p.definitions) e.definition) ≡ true) b.waiting
            (λ w f is. sym (ap (λ m. fits w.what (definition_of p m)) is) ∙ f) k.elements.defined;
        unset = λ x. absurd (let y : false ≡ true = x in cc);
        upgraded = λ _. refl;
        thrown = λ m. (refl, (k.elements.thrown n m).1);
      }) k.elements;
    }

precustomized : (n : ℕ) (h : List Hold) → Keeps (InUpgrade n ∷ h) (change_page (with_state n Precustomized))
precustomized n h = record {
  at =
      λ s k. record {
        holds = precustomized_holds n h s.log s.page k.holds;
        notes = k.notes;
        rest = rest_row n (record (element_of s.page n) { state = Precustomized }) s k.rest;
      };
}

base : (class : ℕ) (h : List Hold) → Gives one h (on_page (base_call class))
base class h = gives_page (λ vs l. base_gives class)

module _ (again : Again) (keeps : KeepsLaw again) where
  act_gives : (class : ℕ) (args : Args) (this : Option ℕ) (a : Act) (h : List Hold) → Each (λ n. IsHeld n h) (option_to_list this)
      → Gives flow_nodes h (act again class args this a)
  act_gives class args this (Both op) h held =
      gives_after (keeps_read (λ s. (class_of s class).memory)) (λ memory. gives_bind (keeps.operates this (fixed memory args op) h held)
      (λ given. gives_seq (keeps_told given) (gives_give (Next this) (all_under (given_nodes given) (option_to_list this) h held))))
  act_gives class args this (Log vals) h held =
      gives_after (keeps_read (λ s. (class_of s class).memory))
      (λ memory. gives_seq (keeps_plain (Logged (map (text_of memory args) vals)) (logged_plain (map (text_of memory args) vals)))
      (gives_give (Next this) held))
  act_gives class args this Super h held =
      gives_bind (base class h) (λ n. gives_seq (keeps_throw_if (is_some this) ReferenceError) (gives_give (Next (Some n)) (inl refl, tt)))
  act_gives class args this (Return operand) h held = returned_gives h this operand held
  act_gives class args this (Throw val) h held =
      gives_after (keeps_read (λ s. (class_of s class).memory)) (λ memory. gives_throw (UserThrow (text_of memory args val)))
  act_gives class args this Bump h held =
      gives_seq (keeps_class class (λ c. record c { memory = record (c.memory) { count = bumped (c.memory).count } })) (gives_give (Next this) held)
  act_gives class args this (Keep val) h held =
      gives_after (keeps_read (λ s. (class_of s class).memory))
      (λ memory. gives_seq (keeps_class class (λ c. record c { memory = record (c.memory) { kept = text_of memory args val } })) (gives_give (Next this) held))
  act_gives class args this (Try action) h held =
      gives_catch (gives_seq keeps_spend (act_gives class args this action h held))
      (λ f. gives_seq (keeps_plain (Caught f) (caught_plain f)) (gives_give (Next this) held))
  act_gives class args this (If equal left right action) h held =
      gives_after (keeps_read (λ s. (class_of s class).memory))
      (λ memory. gives_if (holds equal (text_of memory args left) (text_of memory args right))
      (gives_seq keeps_spend (act_gives class args this action h held)) (gives_give (Next this) held))

  body_gives : (class : ℕ) (args : Args) (this : Option ℕ) (actions : List Act) (h : List Hold) → Each (λ n. IsHeld n h) (option_to_list this) →
      Gives option_to_list h (body again class args this actions)
  body_gives class args this [] h held = gives_give this held
  body_gives class args this (a ∷ rest) h held =
      gives_seq keeps_spend (gives_bind (act_gives class args this a h held) (λ flow. flows flow (λ next g held. body_gives class args next rest g held)))
    where
      flows : (flow : Flow) →
          ((next : Option ℕ) (g : List Hold) → Each (λ n. IsHeld n g) (option_to_list next) → Gives option_to_list g (body again class args next rest)) →
          Gives option_to_list (with_hands (flow_nodes flow) h) (on_flow (λ next. body again class args next rest) flow)
      flows (Next next) goes = goes next (with_hands (option_to_list next) h) (all_taken (option_to_list next) h)
      flows (Ended result) goes = gives_give result (all_taken (option_to_list result) h)

  alone_gives : (class : ℕ) (h : List Hold) → Gives option_to_list h (base_alone class)
  alone_gives class h = gives_bind (base class h) (λ n. gives_give (Some n) (inl refl, tt))

  result_gives : (h : List Hold) (o : Option ℕ) → Each (λ n. IsHeld n h) (option_to_list o) → Gives one h (found o ReferenceError)
  result_gives h None held = gives_throw ReferenceError
  result_gives h (Some n) held = gives_give n held

  -- the class as it is in this state
  construct_of : (class : ℕ) (k : Class) (h : List Hold) →
      Gives one h (log (Construct k.name) >> (constructor_body again class k >>= (λ result. found result ReferenceError)))
  construct_of class k h = gives_seq (keeps_plain (Construct k.name) (construct_plain k.name))
      (gives_bind {nodes = option_to_list} (gives_if (has_call Constructor k.facts.calls) (body_gives class no_args None (actions_of Constructor k.bodies) h tt)
      (alone_gives class h))
      (λ result. result_gives (with_hands (option_to_list result) h) result (all_taken (option_to_list result) h)))

  pub construct_gives : (class : ℕ) (h : List Hold) → Gives one h (construct again class)
  construct_gives class h = record { at = λ s o. (construct_of class (class_of s class) h).at s o }

  pub body_keeps : BodiesKeep again
  body_keeps class args this actions h held = gives_keeps (body_gives class args this actions h held)

  construct_class_keeps : (n d : ℕ) (h : List Hold) → Keeps (InUpgrade n ∷ h) (construct_class again n d)
  construct_class_keeps n d h =
      keeps_seq (keeps_throw_where (λ (s : State). is_shadow_refused s.page n d) NotSupportedError)
      (keeps_seq (precustomized n h)
      (keeps_bind (keeps_read_page (λ p. (definition_at p d).class)) (λ class. gives_keeps (construct_gives class (InUpgrade n ∷ h)))))

  pub construct_for_keeps : ConstructsKeep again
  construct_for_keeps n d h = keeps_bind (construct_class_keeps n d h) (λ result. keeps_throw_if (not (result == n)) TypeError)
