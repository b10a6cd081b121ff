-- Reactions, drains, reacting operations, the checkpoint.
use Rattle.std.proofs.Common.{◌≡◌, ℕ, ◌+◌, ◌<◌, Bool, true, false, List, [], ◌∷◌, ◌++◌, Option, Some, None, refl, sym, ap, ◌∙◌, subst, arith, inl}
use Rattle.std.specs.Prelude.{◌||◌, not}
use Rattle.std.specs.List.{AllByRecursion as Each}
use Rattle.std.specs.Option.{option_to_list}
use Rattle.rule_tokens.specs.declared.callback.CallName.{CallName}
use Rattle.rule_tokens.specs.declared.callback.CallOrUpgrade.{CallOrUpgrade}
use Rattle.rule_tokens.specs.declared.callback.CallOrUpgrade.TheVariants.{Call, Upgrade as IsUpgrade}
use Rattle.rule_lines.specs.Acts.{Act}
use Rattle.rule_lines.specs.declared.op.Op.{Op}
use Rattle.reaction_queue.specs.declared.reaction.Reaction.{Reaction}
use Rattle.reaction_queue.specs.declared.reaction.Reaction.TheVariants.{Upgrade}
use Rattle.reaction_queue.specs.Queues.{waiting_at, with_waiting, pushed_queue, popped_queue, current_elements}
use Rattle.reaction_queue.specs.Reactions.{what_of}
use Rattle.ce_registry.specs.declared.definition.Definition.{Definition}
use Rattle.ce_events.specs.declared.event.Event.TheVariants.{Started, Finished, Reported, QueueOpened, QueueClosed, DrainBegun}
use Rattle.ce_algorithms.specs.Steps.{Step, Outcome, Goes, Throws, Spent, then_do, ◌>>=◌, ◌>>◌, give, done, when, throw, read, catch_in, finally_in}
use Rattle.ce_algorithms.specs.Page.{definition_of, with_queues}
use Rattle.ce_algorithms.specs.State.{State, log, logged, change_page, class_of}
use Rattle.ce_algorithms.specs.Calls.{Again, Operate, DrainRest, DrainBackup}
use Rattle.ce_algorithms.specs.Values.{Args, args_of}
use Rattle.ce_algorithms.specs.Body.{body}
use Rattle.ce_algorithms.specs.Upgrade.{construct_for}
use Rattle.ce_algorithms.specs.Drain.{log_call, actions_for, call_defined, run_reaction, react, drain, drain_popped, reacting, with_backup, drain_backup}
use Rattle.ce_algorithms.specs.Drain.{drain_all_backup, checkpoint}
use Rattle.reaction_queue.specs.ElementQueues.{is_empty}
use Rattle.order_law.specs.Book.{Entry}
use Rattle.order_law.specs.Reads.{is_callback}
use Rattle.order_law.specs.Law.{Lawful}
use Rattle.order_law.proofs.Model.Invariant.{Hold, InSteps, InDrain, InReaction, InUpgrade, Known, fits, HoldsIn, After}
use Rattle.order_law.proofs.Model.Reactions.{opened_holds, drained_holds, started_holds, finished_holds}
use Rattle.order_law.proofs.Model.Ending.{closed_holds, skipped_holds, taken_holds, checkpoint_holds, checkpoint_closed}
use Rattle.order_law.proofs.Model.Lines.{plain_holds, reported_plain, call_line}
use Rattle.order_law.proofs.Model.Hands.{IsHeld, with_hands, take_in_below, hand_rows}
use Rattle.order_law.proofs.Model.Steps.{AfterCalm, Keeps, keeps_seq}
use Rattle.order_law.proofs.Model.Giving.{given_nodes, AfterGives, Gives, let_go}
use Rattle.order_law.proofs.Model.Upgrading.{upgrade_after}

-- a drain of the backup element queue leaves it empty
abbrev pub AfterBackup : {A : Type 0} → Outcome State A → Type 0
AfterBackup (Goes a s) = HoldsIn (InDrain 0 [] ∷ []) s × (s.page.queues.backup ≡ [])
AfterBackup (Throws f s) = ⊥
AfterBackup (Spent s) = Lawful s.log

-- the checkpoint leaves it empty, with nothing suspended
abbrev pub AfterRest : {A : Type 0} → Outcome State A → Type 0
AfterRest (Goes a s) = HoldsIn [] s × (s.page.queues.backup ≡ [])
AfterRest (Throws f s) = ⊥
AfterRest (Spent s) = Lawful s.log

-- what goes on again keeps the law: operations and drains whatever is suspended, the backup element queue in the checkpoint alone
pub record KeepsLaw (again : Again) : Type 0 where
  pub operates : (this : Option ℕ) (op : Op) (h : List Hold) → Each (λ n. IsHeld n h) (option_to_list this) → Gives given_nodes h (again (Operate this op))
  pub drains : (ns : List ℕ) (q : ℕ) (h : List Hold) (s : State) → HoldsIn (InDrain q ns ∷ h) s → AfterCalm (InDrain q [] ∷ h) (again (DrainRest ns) s)
  pub backups : (s : State) → HoldsIn (InDrain 0 [] ∷ []) s → AfterBackup (again DrainBackup s)

-- constructors keep the law under an upgrade
abbrev pub ConstructsKeep : Again → Type 0
ConstructsKeep again = (n d : ℕ) (h : List Hold) → Keeps (InUpgrade n ∷ h) (construct_for again n d)

-- bodies keep it, where `this` is a node at hand
abbrev pub BodiesKeep : Again → Type 0
BodiesKeep again =
    (class : ℕ) (args : Args) (this : Option ℕ) (actions : List Act) (h : List Hold) → Each (λ n. IsHeld n h) (option_to_list this)
    → Keeps h (body again class args this actions)

module _ (again : Again) (keeps : KeepsLaw again) (constructs : ConstructsKeep again) (bodies : BodiesKeep again) where
  rest_keeps : (n class : ℕ) (x : Reaction) (h : List Hold) → IsHeld n h →
      Keeps h (read (λ (s : State). class_of s class) >>= (λ k. body again class (args_of x) (Some n) (actions_for (what_of x) k.bodies) >> done))
  rest_keeps n class x h held = record {
    at = λ s k. (keeps_seq (bodies class (args_of x) (Some n) (actions_for (what_of x) (class_of s class).bodies) h (held, tt)) (record { at = λ t l. l })).at
        s k;
  }

  line_then : {A B : Type 0} (h : List Hold) (o : Outcome State A) (f : Step State B) → After h o → Keeps h f → After h (then_do o (λ _. f))
  line_then h (Goes a s) f o k = k.at s o
  line_then h (Throws x s) f o k = o
  line_then h (Spent s) f o k = o

  callback_after : (n : ℕ) (x : Reaction) (name : CallName) (is : what_of x ≡ Call name) (w : Entry) (h : List Hold) (s : State) → w.element ≡ n →
      w.what ≡ what_of x → fits (what_of x) (definition_of s.page n) ≡ true → HoldsIn (InReaction w false ∷ h) s →
      After {A = Unit {0}} (InReaction w true ∷ h) (call_defined again n x (definition_of s.page n) s)
  callback_after n x name is w h s at what fit k = go (definition_of s.page n) fit
    where
      go : (o : Option Definition) → fits (what_of x) o ≡ true → After {A = Unit {0}} (InReaction w true ∷ h) (call_defined again n x o s)
      go None fit = absurd (let y : fits (Call name) None ≡ true = sym (ap (λ t. fits t None) is) ∙ fit in let z : false ≡ true = y in cc)
      go (Some d) fit = line_then (InReaction w true ∷ h) (log_call n x s) _ (call_line n x name is h s w at what k)
          (rest_keeps n d.class x (InReaction w true ∷ h) (inl at))

  run_after : (n : ℕ) (x : Reaction) (w : Entry) (h : List Hold) (s : State) → w.element ≡ n → w.what ≡ what_of x →
      fits (what_of x) (definition_of s.page n) ≡ true → Known s.page.elements n → HoldsIn (InReaction w false ∷ h) s →
      After (InReaction w (is_callback (what_of x)) ∷ h) (run_reaction again n x s)
  run_after n (Upgrade d) w h s at what fit known k =
      upgrade_after again n d (InReaction w false ∷ h) s known (at, what) (constructs n d (InReaction w false ∷ h)) k
  run_after n x w h s at what fit known k = callback_after n x _ refl w h s at what fit k

  whole : (what : CallOrUpgrade) → is_callback what || not (is_callback what) ≡ true
  whole (Call name) = refl
  whole IsUpgrade = refl

  report_then : (w : Entry) (c : Bool) (g g' : List Hold) (o : Outcome State (Unit {0})) (next : Step State (Unit {0})) →
      c || not (is_callback w.what) ≡ true → After (InReaction w c ∷ g) o → ((s : State) → HoldsIn g s → AfterCalm g' (next s)) →
      AfterCalm g' (then_do (then_do (catch_in o (λ f. log (Reported f))) (λ _. log (Finished w.number))) (λ _. next))
  report_then w c g g' (Goes a s) next e k n =
      n (logged (Finished w.number) s) (record { holds = finished_holds w c g s.log s.page e k.holds; notes = k.notes; rest = k.rest })
  report_then w c g g' (Throws f s) next e k n = n (logged (Finished w.number) (logged (Reported f) s)) (record {
    holds = finished_holds w c g (s.log ++ Reported f ∷ []) s.page e (plain_holds (Reported f) (InReaction w c ∷ g) s.log s.page (reported_plain f) k.holds);
    notes = k.notes;
    rest = k.rest;
  })
  report_then w c g g' (Spent s) next e k n = k

  calm_done : {A : Type 0} (g : List Hold) (o : Outcome State A) → AfterCalm g o → AfterCalm {A = Unit {0}} g (then_do o (λ _. done))
  calm_done g (Goes a s) k = k
  calm_done g (Throws f s) k = k
  calm_done g (Spent s) k = k

  pub drain_after : (ns : List ℕ) (q : ℕ) (h : List Hold) (s : State) → HoldsIn (InDrain q ns ∷ h) s → AfterCalm (InDrain q [] ∷ h) (drain again ns s)
  drain_after [] q h s k = k
  drain_after (n ∷ ns) q h s k = go (waiting_at s.page.queues n) refl (λ l. drain_after ns q h s l)
    where
      go : (ws : List (ℕ × Reaction)) → waiting_at s.page.queues n ≡ ws → (HoldsIn (InDrain q ns ∷ h) s → AfterCalm (InDrain q [] ∷ h) (drain again ns s))
          → AfterCalm (InDrain q [] ∷ h)
          ((elim ws as (λ _. Step State (Unit {0}))
          [ [] ↦ drain again ns | w ∷ ws ↦ change_page (with_queues (with_waiting n ws)) >> (react again n w >> (again (DrainRest (n ∷ ns)) >> done)) ]) s)
      go [] e next = next (record { holds = skipped_holds q n ns h s.log s.page e k.holds; notes = k.notes; rest = k.rest })
      go (v ∷ ws) e next =
          let st = started_holds q n v.0 (n ∷ ns) v.1 ws h s.log s.page e k.holds in
          let w = st.0 in
          let t : State = logged (Started v.0) (record s { page = with_queues (with_waiting n ws) s.page }) in
          let held : HoldsIn (InReaction w false ∷ InDrain q (n ∷ ns) ∷ h) t = record { holds = st.6; notes = k.notes; rest = k.rest } in
          subst (λ r. AfterCalm (InDrain q [] ∷ h)
          (then_do (then_do (catch_in (run_reaction again n v.1 t) (λ f. log (Reported f))) (λ _. log (Finished r)))
          (λ _. again (DrainRest (n ∷ ns)) >> done))) st.1
          (report_then w (is_callback (what_of v.1)) (InDrain q (n ∷ ns) ∷ h) (InDrain q [] ∷ h) (run_reaction again n v.1 t)
          (again (DrainRest (n ∷ ns)) >> done)
          (ap (λ x. is_callback (what_of v.1) || not (is_callback x)) st.3 ∙ whole (what_of v.1))
          (run_after n v.1 w (InDrain q (n ∷ ns) ∷ h) t st.2 st.3 st.4 st.5 held)
          (λ u l. calm_done (InDrain q [] ∷ h) (again (DrainRest (n ∷ ns)) u) (keeps.drains (n ∷ ns) q h u l)))

  closed_then : (m : ℕ) (h : List Hold) (o : Outcome State (Unit {0})) → 0 < m → AfterCalm (InDrain m [] ∷ h) o →
      AfterCalm {A = Unit {0}} h (then_do o (λ _. log (QueueClosed m)))
  closed_then m h (Goes a s) lt k = record { holds = closed_holds m h s.log s.page lt k.holds; notes = k.notes; rest = k.rest }
  closed_then m h (Throws f s) lt k = k
  closed_then m h (Spent s) lt k = k

  popped_after : (m : ℕ) (h : List Hold) (s : State) → 0 < m → HoldsIn (InSteps m ∷ h) s → AfterCalm h (drain_popped again m s)
  popped_after m h s lt k =
      let es = current_elements s.page.queues in
      let t : State = logged (DrainBegun m) (record s { page = with_queues popped_queue s.page }) in
      closed_then m h (drain again es t) lt (drain_after es m h t (record { holds = drained_holds m h s.log s.page k.holds; notes = k.notes; rest = k.rest }))

  last_then : {A : Type 0} (nodes : A → List ℕ) (h : List Hold) (o : Outcome State (Unit {0})) (k : Step State A) → AfterCalm h o →
      ((s : State) → HoldsIn h s → AfterGives nodes h (k s)) → AfterGives nodes h (then_do o (λ _. k))
  last_then nodes h (Goes a s) k o n = n s o
  last_then nodes h (Throws f s) k o n = absurd o
  last_then nodes h (Spent s) k o n = o

  -- what the steps gave is kept in hand
  finish_after : {A : Type 0} (nodes : A → List ℕ) (m : ℕ) (h : List Hold) (o : Outcome State A) → 0 < m → AfterGives nodes (InSteps m ∷ h) o →
      AfterGives nodes h (finally_in o (drain_popped again m))
  finish_after nodes m h (Goes a s) lt k = let_go nodes (nodes a) h (finally_in (Goes a s) (drain_popped again m))
      (last_then nodes (with_hands (nodes a) h) (drain_popped again m s) (give a)
      (popped_after m (with_hands (nodes a) h) s lt (take_in_below (nodes a) m h s k.1 k.0)) (λ t l. (l, hand_rows (nodes a) h t.log t.page l.holds)))
  finish_after nodes m h (Throws f s) lt k = last_then nodes h (drain_popped again m s) (throw f) (popped_after m h s lt k) (λ t l. l)
  finish_after nodes m h (Spent s) lt k = k

  -- an operation with a queue, whose steps keep the law in it
  pub reacting_gives : {A : Type 0} (nodes : A → List ℕ) (h : List Hold) (steps : Step State A) → ((m : ℕ) → Gives nodes (InSteps m ∷ h) steps) →
      Gives nodes h (reacting again steps)
  reacting_gives nodes h steps n = record {
    at = λ s k. finish_after nodes (s.page.queues.pushed + 1) h
        (steps (logged (QueueOpened (s.page.queues.pushed + 1)) (record s { page = with_queues pushed_queue s.page }))) (omega arith)
        ((n (s.page.queues.pushed + 1)).at _ (record { holds = opened_holds h s.log s.page k.holds; notes = k.notes; rest = k.rest }));
  }

  -- the backup element queue
  backup_then : (o : Outcome State (Unit {0})) → AfterCalm (InDrain 0 [] ∷ []) o → AfterBackup {A = Unit {0}} (then_do o (λ _. again DrainBackup >> done))
  backup_then (Goes a s) k = go (again DrainBackup s) (keeps.backups s k)
    where
      go : {A : Type 0} (o : Outcome State A) → AfterBackup o → AfterBackup {A = Unit {0}} (then_do o (λ _. done))
      go (Goes a t) l = l
      go (Throws f t) l = l
      go (Spent t) l = l
  backup_then (Throws f s) k = k
  backup_then (Spent s) k = k

  pub backup_after : (s : State) → HoldsIn (InDrain 0 [] ∷ []) s → AfterBackup (drain_backup again s)
  backup_after s k = go s.page.queues.backup refl
    where
      go : (ns : List ℕ) → s.page.queues.backup ≡ ns →
          AfterBackup ((elim ns as (λ _. Step State (Unit {0}))
          [ [] ↦ done | n ∷ ns ↦ change_page (with_queues (with_backup ns)) >> (drain again (n ∷ []) >> (again DrainBackup >> done)) ]) s)
      go [] e = (k, e)
      go (n ∷ ns) e =
          let t : State = record s { page = with_queues (with_backup ns) s.page } in
          backup_then (drain again (n ∷ []) t)
          (drain_after (n ∷ []) 0 [] t (record { holds = taken_holds n ns s.log s.page e k.holds; notes = k.notes; rest = k.rest }))

  close_then : (o : Outcome State (Unit {0})) → AfterBackup o → AfterRest {A = Unit {0}} (then_do o (λ _. log (QueueClosed 0)))
  close_then (Goes a s) k = (record { holds = checkpoint_closed s.log s.page k.1 k.0.holds; notes = k.0.notes; rest = k.0.rest }, k.1)
  close_then (Throws f s) k = k
  close_then (Spent s) k = k

  pub checkpoint_after : (s : State) → HoldsIn [] s → AfterRest (checkpoint again s)
  checkpoint_after s k = go (is_empty s.page.queues.backup) s.page.queues.backup refl refl
    where
      empty : (ns : List ℕ) → is_empty ns ≡ true → ns ≡ []
      empty [] e = refl
      empty (n ∷ ns) e = absurd (let x : false ≡ true = e in cc)

      go : (t : Bool) (ns : List ℕ) → s.page.queues.backup ≡ ns → is_empty ns ≡ t →
          AfterRest (when (not t) (drain_all_backup again) s)
      go true ns b e = (k, b ∙ empty ns e)
      go false ns b e = close_then (drain_backup again (logged (DrainBegun 0) s))
          (backup_after (logged (DrainBegun 0) s) (record { holds = checkpoint_holds s.log s.page k.holds; notes = k.notes; rest = k.rest }))
