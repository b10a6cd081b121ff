-- Whole sessions.
use Rattle.std.proofs.Common.{◌≡◌, ℕ, zero, suc, ◌+◌, Bool, true, false, List, [], ◌∷◌, ◌++◌, ◌-◌, map, Option, Some, None, refl, sym, ap, inl, inr, ◌<◌, arith}
use Rattle.std.specs.Prelude.{Result, Ok, Err, is_some, slice_get, slice_set}
use Rattle.reaction_queue.specs.Queues.{waiting_at, no_queues, list_at}
use Rattle.ce_algorithms.specs.Page.{Element, element_of, or_uncustomized, uncustomized, blank_page}
use Rattle.order_law.proofs.Model.Reading.{reads_none}
use Rattle.ce_base.specs.declared.fault.Fault.TheVariants.{TypeError, NotSupportedError}
use Rattle.rule_tokens.specs.declared.refused.Bad.{Bad}
use Rattle.rule_lines.specs.Acts.{Part, On, Has, Observe, Associate, DisableShadow, DisableInternals, Said, Blank, Command, Declares}
use Rattle.rule_lines.specs.Acts.{Class as NewClass}
use Rattle.ce_events.specs.declared.event.Event.TheVariants.{WasBad}
use Rattle.ce_algorithms.specs.Steps.{Step, Outcome, Goes, Throws, Spent, then_do, ◌>>=◌, ◌>>◌, attempt_in, found, throw_where, throw_if, give, change}
use Rattle.ce_algorithms.specs.State.{State, Class, change_class, class_of, class_named, new_class}
use Rattle.ce_algorithms.specs.Model.{model}
use Rattle.ce_algorithms.specs.Parts.{part, add_class, change_open, change_facts, with_body, with_has, with_observed, associated, without_shadow}
use Rattle.ce_algorithms.specs.Parts.{without_internals}
use Rattle.ce_algorithms.specs.Session.{part_reply, run_line, run_lines, log_of, start}
use Rattle.order_law.specs.Law.{Lawful}
use Rattle.ce_algorithms.specs.declared.settings.Settings.{Settings}
use Rattle.order_law.specs.Book.{blank}
use Rattle.order_law.proofs.Model.Invariant.{told}
use Rattle.std.proofs.lemmas.Bool.{cases_eq}
use Rattle.std.proofs.lemmas.Bool.Decides.{nat_tests}
use Rattle.node_trees.specs.declared.kind.NodeKind.TheVariants.{Document}
use Rattle.node_trees.specs.Facts.{blank as blank_facts}
use Rattle.node_trees.specs.Trees.{single}
use Rattle.node_trees.specs.Nodes.{times}
use Rattle.order_law.proofs.Model.Sound.{IsRow, Sound}
use Rattle.order_law.proofs.Model.Sessions.{Rests, Ends, replied, replies, refuses, command_ends}

-- steps that leave a session at rest, whether they go on or throw
abbrev Stays : {A : Type 0} → Outcome State A → Type 0
Stays (Goes a s) = Rests s
Stays (Throws f s) = Rests s
Stays (Spent s) = ⊥

with_classes : (s : State) (ks : List Class) → Rests s → Rests (record s { classes = ks })
with_classes s ks r = record { holds = record { holds = r.holds.holds; notes = r.holds.notes; rest = r.holds.rest }; empty = r.empty }

opened_then : (o : Option ℕ) (f : Class → Class) (s : State) → Rests s →
    Stays ((found o TypeError >>= (λ k. throw_where (λ (s : State). (class_of s k).frozen) NotSupportedError >> give k) >>= (λ k. change_class k f)) s)
opened_then None f s r = r
opened_then (Some k) f s r = go (class_of s k).frozen
  where
    go : (t : Bool) → Stays (then_do (then_do (throw_if t NotSupportedError s) (λ _. give k)) (λ k. change_class k f))
    go true = r
    go false = with_classes s (slice_set s.classes k (f (class_of s k))) r

open_stays : (name : List ℕ) (f : Class → Class) (s : State) → Rests s → Stays (change_open name f s)
open_stays name f s r = opened_then (class_named s.classes name) f s r

add_stays : (name : List ℕ) (s : State) → Rests s → Stays (add_class name s)
add_stays name s r = go (is_some (class_named s.classes name))
  where
    go : (t : Bool) →
        Stays {A = Unit {0}} (then_do (throw_if t NotSupportedError s) (λ _. change (λ (s : State). record s { classes = s.classes ++ new_class name ∷ [] })))
    go true = r
    go false = with_classes s (s.classes ++ new_class name ∷ []) r

part_stays : (p : Part) (s : State) → Rests s → Stays (part p s)
part_stays (NewClass name) s r = add_stays name s r
part_stays (On name call action) s r = open_stays name (with_body call action) s r
part_stays (Has name call) s r = open_stays name (change_facts (with_has call)) s r
part_stays (Observe name names) s r = open_stays name (change_facts (with_observed names)) s r
part_stays (Associate name) s r = open_stays name (change_facts associated) s r
part_stays (DisableShadow name) s r = open_stays name (change_facts without_shadow) s r
part_stays (DisableInternals name) s r = open_stays name (change_facts without_internals) s r

part_then : (line : ℕ) (o : Outcome State (Unit {0})) → Stays o → Ends {A = Unit {0}} (then_do (attempt_in o) (part_reply line))
part_then line (Goes a s) r = r
part_then line (Throws f s) r = replied _ s (replies line (Err f)) r
part_then line (Spent s) r = absurd r

line_ends : (line : ℕ) (l : Result Said Bad) (s : State) → Rests s → Ends (run_line model line l s)
line_ends line (Ok Blank) s r = r
line_ends line (Ok (Command c)) s r = command_ends line c s r
line_ends line (Ok (Declares p)) s r = part_then line (part p s) (part_stays p s r)
line_ends line (Err bad) s r = replied (WasBad line bad) s (refuses line bad) r

lines_then : {A B : Type 0} (o : Outcome State A) (f : Step State B) → Ends o → ((s : State) → Rests s → Ends (f s)) → Ends (then_do o (λ _. f))
lines_then (Goes a s) f r n = n s r
lines_then (Throws x s) f r n = r
lines_then (Spent s) f r n = r

lines_end : (line : ℕ) (ls : List (Result Said Bad)) (s : State) → Rests s → Ends (run_lines model line ls s)
lines_end line [] s r = r
lines_end line (l ∷ ls) s r = lines_then (run_line model line l s) (run_lines model (line + 1) ls) (line_ends line l s r) (λ t q. lines_end (line + 1) ls t q)

ends_lawful : {A : Type 0} (o : Outcome State A) → Ends o → Lawful (log_of o)
ends_lawful (Goes a s) r = r.holds.holds.reads.lawful
ends_lawful (Throws f s) r = absurd r
ends_lawful (Spent s) r = r

-- the state before the first line
start_row : (n : ℕ) → element_of blank_page n ≡ uncustomized
start_row n = go (n - 1)
  where
    go : (i : ℕ) → or_uncustomized (slice_get (uncustomized ∷ []) i) ≡ uncustomized
    go zero = refl
    go (suc zero) = refl
    go (suc (suc i)) = refl

start_waits : (n : ℕ) → map told (waiting_at no_queues n) ≡ []
start_waits n = go (n - 1)
  where
    go : (i : ℕ) → map told (list_at i []) ≡ []
    go zero = refl
    go (suc i) = refl

start_sound : Sound (single 1 (blank_facts Document 1)) 1 []
start_sound = record {
  size = refl;
  some = omega arith;
  once = λ n row. once n (let low = row.low in let high = row.high in omega (arith, low, high));
  only = only;
  first = refl;
  stacked = tt;
}
  where
    once : (n : ℕ) → n ≡ 1 → times n (single 1 (blank_facts Document 1)) ≡ 1
    once n e = grind (arith, nat_tests)

    only : (n : ℕ) → 0 < times n (single 1 (blank_facts Document 1)) → IsRow 1 n
    only n there = elim (cases_eq 1 n) [
      | inl e ↦ record { low = omega (arith, e); high = omega (arith, e) }
      | inr ne ↦ absurd (let none : times n (single 1 (blank_facts Document 1)) ≡ 0 = grind (arith, nat_tests) in omega (arith, there, none))
    ]

start_rests : (settings : Settings) → Rests (start settings)
start_rests settings = record {
  holds = record {
    holds = record {
      book = blank;
      reads = reads_none blank;
      over = refl;
      dropping = refl;
      queues = record {
        numbers = refl;
        queues = refl;
        rising = tt;
        below = tt;
        waits = λ n. sym (start_waits n);
        brackets = refl;
        opens = refl;
        falls = tt;
        placed = tt;
        owed = inl refl;
      };
      elements = record {
        known = tt;
        defined = tt;
        unset = λ n _. ap (λ (e : Element). e.definition) (start_row n);
        upgraded = λ n m. absurd (let x : false ≡ true = m in cc);
        thrown = λ n m. absurd (let x : false ≡ true = m in cc);
        document = refl;
        ongoing = tt;
      };
    };
    notes = refl;
    rest = record { sound = start_sound; named = tt };
  };
  empty = refl;
}

-- the law: of each session from its first line on
pub session_lawful : (settings : Settings) (lines : List (Result Said Bad)) → Lawful (log_of (run_lines model 1 lines (start settings)))
session_lawful settings lines = ends_lawful (run_lines model 1 lines (start settings)) (lines_end 1 lines (start settings) (start_rests settings))
