-- Replies, levels, the model, commands.
use Rattle.std.proofs.Common.{◌≡◌, ℕ, zero, suc, true, false, List, [], ◌∷◌, Some, None, refl, sym, ap, ◌∙◌, subst}
use Rattle.std.specs.Prelude.{Bool, not, ◌&&◌, ◌||◌, Result, Ok, Err}
use Rattle.std.proofs.lemmas.Bool.{or_right}
use Rattle.ce_base.specs.declared.fault.Fault.{Fault}
use Rattle.rule_tokens.specs.declared.refused.Bad.{Bad}
use Rattle.rule_lines.specs.declared.line.Cmd.{Cmd}
use Rattle.rule_lines.specs.declared.line.Cmd.TheVariants as commands
use Rattle.ce_events.specs.declared.event.Event.{Event}
use Rattle.ce_events.specs.declared.event.Event.TheVariants.{Fine, Gave, Answered, Ignored as IgnoredLine, Threw, WasBad}
use Rattle.reaction_queue.specs.ElementQueues.{is_empty}
use Rattle.ce_algorithms.specs.declared.given.Given.{Given}
use Rattle.ce_algorithms.specs.declared.given.Given.TheVariants.{Nothing, Node, Answers, Ignored}
use Rattle.ce_algorithms.specs.Steps.{Outcome, Goes, Throws, Spent, then_do, ◌>>=◌, ◌>>◌, give, attempt, attempt_in}
use Rattle.ce_algorithms.specs.State.{State, log, logged, spend_from}
use Rattle.ce_algorithms.specs.Calls.{Again}
use Rattle.ce_algorithms.specs.Drain.{drain, drain_backup, checkpoint}
use Rattle.ce_algorithms.specs.Model.{level, run, model, clock}
use Rattle.ce_algorithms.specs.Session.{perform, reply, command}
use Rattle.order_law.specs.Book.{Book, blank}
use Rattle.order_law.specs.Lines.{is_reply}
use Rattle.order_law.specs.Clauses.{calls_once}
use Rattle.order_law.specs.After.{after}
use Rattle.order_law.specs.Law.{Lawful}
use Rattle.order_law.proofs.Model.Reading.{Reads, Tests, is_line, line_tests, tested, reads_append, reads_one}
use Rattle.order_law.proofs.Model.Invariant.{Hold, InDrain, HoldsIn, After}
use Rattle.order_law.proofs.Model.Ending.{at_rest, spent_lawful}
use Rattle.order_law.proofs.Model.Steps.{AfterCalm, Keeps}
use Rattle.order_law.proofs.Model.Giving.{gives_keeps, gives_page}
use Rattle.order_law.proofs.Model.Nodes.{document_gives}
use Rattle.order_law.proofs.Model.PageDeeds.{node_given}
use Rattle.order_law.proofs.Model.Draining.{KeepsLaw, AfterBackup, AfterRest, drain_after, backup_after, checkpoint_after}
use Rattle.order_law.proofs.Model.Bodies.{body_keeps, construct_for_keeps}
use Rattle.order_law.proofs.Model.Operations.{operate_gives, act_as_user_gives, kept_gives}

-- replies

pub record Replies (e : Event) : Type 0 where
  pub at : (b : Book) → b.over ≡ false → b.dropping ≡ None → b.owed ≡ false → b.brackets ≡ [] → b.waiting ≡ [] → Tests b e
  pub is : (b : Book) → b.brackets ≡ [] → after b e ≡ record b { dropping = None }

-- nothing waits, no bracket is open, and nothing is owed
reply_tests : (b : Book) (e : Event) → is_line b e ≡ true → calls_once b e ≡ true → b.over ≡ false → b.dropping ≡ None → b.owed ≡ false →
    b.brackets ≡ [] → b.waiting ≡ [] → Tests b e
reply_tests b e line calls over dropping owed brackets waiting = line_tests b e line over dropping calls
    (ap (λ t. not (is_reply e && t)) owed ∙ never (is_reply e)) (ap (λ bs. not (is_reply e) || (is_empty bs && is_empty b.waiting)) brackets
    ∙ ap (λ ws. not (is_reply e) || is_empty ws) waiting ∙ or_right (not (is_reply e)) true refl)
  where
    never : (t : Bool) → not (t && false) ≡ true
    never true = refl
    never false = refl

pub replies : (line : ℕ) (r : Result Given Fault) → Replies (reply line r)
replies line (Ok Nothing) = record { at = λ b. reply_tests b (Fine line) refl refl; is = λ b i. refl }
replies line (Ok Ignored) = record { at = λ b. reply_tests b (IgnoredLine line) refl refl; is = λ b i. refl }
replies line (Ok (Node n)) = record { at = λ b. reply_tests b (Gave line n) refl refl; is = λ b i. refl }
replies line (Ok (Answers a)) = record { at = λ b. reply_tests b (Answered line a) refl refl; is = λ b i. refl }
replies line (Err f) = record { at = λ b. reply_tests b (Threw line f) refl refl; is = λ b i. refl }

pub refuses : (line : ℕ) (bad : Bad) → Replies (WasBad line bad)
refuses line bad = record { at = λ b. reply_tests b (WasBad line bad) refl refl; is = λ b i. refl }

-- nothing is suspended, and nothing is in the backup element queue
pub record Rests (s : State) : Type 0 where
  pub holds : HoldsIn [] s
  pub empty : s.page.queues.backup ≡ []

pub replied : (e : Event) (s : State) → Replies e → Rests s → Rests (logged e s)
replied e s x r =
    let k = r.holds.holds in
    let z = at_rest s.log s.page r.empty k in
    let same : after k.book e ≡ k.book = x.is k.book k.queues.brackets ∙ ap (λ d. record (k.book) { dropping = d }) (sym k.dropping) in
    record {
      holds = record {
        holds = record {
          book = k.book;
          reads = reads_append blank s.log (e ∷ []) k.book k.book k.reads
              (subst (Reads k.book (e ∷ [])) same (reads_one k.book e (tested k.book e (x.at k.book k.over k.dropping z.1 k.queues.brackets z.0))));
          over = k.over;
          dropping = k.dropping;
          queues = k.queues;
          elements = k.elements;
        };
        notes = r.holds.notes;
        rest = r.holds.rest;
      };
      empty = r.empty;
    }

abbrev pub Ends : {A : Type 0} → Outcome State A → Type 0
Ends (Goes a s) = Rests s
Ends (Throws f s) = ⊥
Ends (Spent s) = Lawful s.log

given_calm : (h : List Hold) (o : Outcome State (Unit {0})) → AfterCalm h o → AfterCalm h (then_do o (λ _. give Nothing))
given_calm h (Goes a s) k = k
given_calm h (Throws f s) k = k
given_calm h (Spent s) k = k

given_backup : (o : Outcome State (Unit {0})) → AfterBackup o → AfterBackup (then_do o (λ _. give Nothing))
given_backup (Goes a s) k = k
given_backup (Throws f s) k = k
given_backup (Spent s) k = k

level_keeps : (again : Again) → KeepsLaw again → KeepsLaw (level again)
level_keeps again keeps = record {
  operates = λ this op h held. record { at = λ s k. (operate_gives again keeps this op h held).at s k };
  drains = λ ns q h s k. given_calm (InDrain q [] ∷ h) (drain again ns s)
      (drain_after again keeps (construct_for_keeps again keeps) (body_keeps again keeps) ns q h s k);
  backups = λ s k. given_backup (drain_backup again s) (backup_after again keeps (construct_for_keeps again keeps) (body_keeps again keeps) s k);
}

-- any number of levels
run_keeps : (n : ℕ) → KeepsLaw (run n)
run_keeps zero = record {
  operates = λ this op h held. record { at = λ s k. k.holds.reads.lawful };
  drains = λ ns q h s k. k.holds.reads.lawful;
  backups = λ s k. k.holds.reads.lawful;
}
run_keeps (suc n) =
    let l = level_keeps (run n) (run_keeps n) in
    record {
      operates = λ this op h held. record { at = λ s k. (l.operates this op h held).at s k };
      drains = λ ns q h s k. l.drains ns q h s k;
      backups = λ s k. l.backups s k;
    }

model_keeps : KeepsLaw model
unfolding model
model_keeps = record {
  operates = λ this op h held. record { at = λ s k. ((run_keeps (suc (clock s))).operates this op h held).at s k };
  drains = λ ns q h s k. (run_keeps (suc (clock s))).drains ns q h s k;
  backups = λ s k. (run_keeps (suc (clock s))).backups s k;
}

-- a command, whatever it performs
command_then : (line : ℕ) (r : Result Given Fault) (o : Outcome State (Unit {0})) → AfterRest o → Ends {A = Unit {0}} (then_do o (λ _. log (reply line r)))
command_then line r (Goes a s) k = replied (reply line r) s (replies line r) (record { holds = k.0; empty = k.1 })
command_then line r (Throws f s) k = k
command_then line r (Spent s) k = k

performed_then : (line : ℕ) (o : Outcome State Given) → After [] o → Ends {A = Unit {0}} (then_do (attempt_in o) (λ r. checkpoint model >> log (reply line r)))
performed_then line (Goes a s) k =
    command_then line (Ok a) (checkpoint model s)
    (checkpoint_after model model_keeps (construct_for_keeps model model_keeps) (body_keeps model model_keeps) s k)
performed_then line (Throws f s) k =
    command_then line (Err f) (checkpoint model s)
    (checkpoint_after model model_keeps (construct_for_keeps model model_keeps) (body_keeps model model_keeps) s k)
performed_then line (Spent s) k = k

-- what a command performs
performs : (c : Cmd) → Keeps [] (perform model c)
performs (commands.Both op) = gives_keeps (operate_gives model model_keeps None op [] tt)
performs (commands.Doc var) = gives_keeps (kept_gives (Some var) (gives_page (λ vs l. node_given document_gives)))
performs c = gives_keeps (act_as_user_gives model model_keeps c [])

pub command_ends : (line : ℕ) (c : Cmd) (s : State) → Rests s → Ends (command model line c s)
command_ends line c s r = go s.fuel
  where
    go : (n : ℕ) → Ends {A = Unit {0}} (then_do (spend_from n s) (λ _. attempt (perform model c) >>= (λ result. checkpoint model >> log (reply line result))))
    go zero = spent_lawful [] s.log s.page r.holds.holds
    go (suc n) = performed_then line (perform model c (record s { fuel = n }))
        ((performs c).at (record s { fuel = n }) (record { holds = r.holds.holds; notes = r.holds.notes; rest = r.holds.rest }))
