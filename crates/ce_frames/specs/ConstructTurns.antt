-- Turns of constructions, upgrades and creations (HTML Standard, sections "Upgrades", "HTML element constructors"; DOM
-- Standard, section "Interface Element", "create an element").
use Rattle.std.specs.Prelude.{ℕ, false, if◌then◌else◌, List, Option, Some, None, Result, Ok, Err}
use Rattle.ce_base.specs.declared.custom_state.CustomState.TheVariants.{Undefined, Precustomized}
use Rattle.ce_base.specs.declared.fault.Fault.{Fault}
use Rattle.ce_base.specs.declared.fault.Fault.TheVariants.{NotSupportedError, TypeError}
use Rattle.rule_tokens.specs.declared.callback.CallName.TheVariants.{Constructor}
use Rattle.rule_lines.specs.Acts.{Act}
use Rattle.ce_registry.specs.ClassFacts.{has_call}
use Rattle.ce_registry.specs.Registry.{is_autonomous}
use Rattle.ce_events.specs.declared.event.Event.TheVariants.{Construct, UpgradeBegun}
use Rattle.ce_algorithms.specs.declared.given.Given.{Given}
use Rattle.ce_algorithms.specs.declared.given.Given.TheVariants.{Node}
use Rattle.ce_algorithms.specs.Steps.{read, throw_where, Step, give, throw}
use Rattle.ce_algorithms.specs.Page.{with_state, state_of, definition_at}
use Rattle.ce_algorithms.specs.Enqueue.{lookup_in}
use Rattle.ce_algorithms.specs.CreateLater.{make_undefined, make_in_state}
use Rattle.ce_algorithms.specs.Construction.{base_call, pop_construction}
use Rattle.ce_algorithms.specs.State.{State, Class, class_of, log, on_page, read_page, change_page}
use Rattle.ce_algorithms.specs.Values.{Args, no_args}
use Rattle.ce_algorithms.specs.Body.{actions_of}
use Rattle.ce_algorithms.specs.Upgrade.{begin_upgrade, is_shadow_refused, is_upgradable, same_node, upgrade_threw, upgrade_ends}
use Rattle.ce_algorithms.specs.Create.{fitting, create_failed}
use Rattle.ce_algorithms.specs.Perform.{gives_node, gives_nothing}
use Rattle.ce_frames.specs.Frames.{CreatingFit, CreatingExtended, Upgrading, Constructing, InBody}
use Rattle.ce_frames.specs.Turned.{Turn, ◌>>=◌, ◌>>◌, hand_down, go_on, below, when_turn}

-- a body of a class begins
abbrev pub begin_body : ℕ → Args → Option ℕ → List Act → Turn
begin_body class args this actions = below (InBody class args this false actions) go_on

-- a constructor of the class's own, or the base call alone
abbrev pub constructor_turn : ℕ → Class → Turn
constructor_turn class k =
    if has_call Constructor k.facts.calls then below Constructing (begin_body class no_args None (actions_of Constructor k.bodies))
    else hand_down (gives_node (on_page (base_call class)))

-- a class is constructed
unfoldable pub construct_turn : ℕ → Turn
construct_turn class = do
  k ← read (λ s. class_of s class)
  log (Construct k.name)
  constructor_turn class k

-- the class of an element's definition is constructed, to upgrade the element
abbrev pub construct_for_turn : ℕ → ℕ → Turn
construct_for_turn n d = do
  throw_where (λ (s : State). is_shadow_refused s.page n d) NotSupportedError
  change_page (with_state n Precustomized)
  class ← read_page (λ p. (definition_at p d).class)
  construct_turn class

-- the steps before the construction, which runs above the upgrade's frame
abbrev pub upgrade_now_turn : ℕ → ℕ → Turn
upgrade_now_turn n d = do
  log (UpgradeBegun n)
  on_page (begin_upgrade n d)
  below (Upgrading n d) (construct_for_turn n d)

-- an element is upgraded; one that is failed, precustomized or custom is left as it is
unfoldable pub upgrade_turn : ℕ → ℕ → Turn
upgrade_turn n d = do
  state ← read_page (λ p. state_of p n)
  when_turn (is_upgradable state) (upgrade_now_turn n d)

-- a new element is upgraded, by a definition that extends an element
abbrev pub create_extended_turn : List ℕ → Option (List ℕ) → ℕ → ℕ → Turn
create_extended_turn local is document d = do
  n ← on_page (make_in_state local is document Undefined)
  below (CreatingExtended n) (upgrade_turn n d)

-- by what the look-up gave
abbrev pub create_found_turn : List ℕ → Option (List ℕ) → ℕ → Option ℕ → Turn
create_found_turn local is document None = hand_down (gives_node (on_page (make_undefined local is document)))
create_found_turn local is document (Some d) = do
  x ← read_page (λ p. definition_at p d)
  if is_autonomous x then below (CreatingFit local document) (construct_turn x.class) else create_extended_turn local is document d

-- an element is created synchronously
unfoldable pub create_turn : List ℕ → Option (List ℕ) → ℕ → Turn
create_turn local is document = do
  d ← read_page (λ p. lookup_in p document local is)
  create_found_turn local is document d

-- a construction has ended

-- what was constructed for a creation is tested
abbrev pub fitting_given : List ℕ → ℕ → Given → Step State ℕ
fitting_given local document (Node n) = fitting local document n
fitting_given local document given = throw TypeError

-- it is the answer; or the fault is reported, and a failed element is
abbrev pub created_turn : List ℕ → ℕ → Result ℕ Fault → Turn
created_turn local document (Ok n) = hand_down (give (Node n))
created_turn local document (Err x) = hand_down (gives_node (create_failed local document x))

-- what was constructed for an upgrade has to be the element itself
abbrev pub same_given : ℕ → Given → Step State (Unit {0})
same_given n (Node m) = same_node n m
same_given n given = throw TypeError

-- the element is custom; or the fault is thrown on
abbrev pub upgrade_result_turn : ℕ → Result (Unit {0}) Fault → Turn
upgrade_result_turn n (Ok x) = upgrade_ends n >> go_on
upgrade_result_turn n (Err x) = hand_down (gives_nothing (upgrade_threw n x))

-- in each case the construction stack loses its last entry
abbrev pub upgraded_turn : ℕ → ℕ → Result (Unit {0}) Fault → Turn
upgraded_turn n d result = do
  on_page (pop_construction d)
  upgrade_result_turn n result
