-- Lines that change no queue: plain ones, and those of callbacks.
use Rattle.std.proofs.Common.{◌≡◌, ℕ, true, false, List, [], ◌∷◌, ◌++◌, Some, None, refl, sym, ap, ◌∙◌, subst}
use Rattle.std.specs.Prelude.{◌&&◌}
use Rattle.std.proofs.lemmas.Bool.{eq-eqb}
use Rattle.ce_base.specs.declared.fault.Fault.{Fault}
use Rattle.rule_tokens.specs.declared.callback.CallName.{CallName}
use Rattle.rule_tokens.specs.declared.callback.CallOrUpgrade.TheVariants.{Call, Upgrade as IsUpgrade}
use Rattle.reaction_queue.specs.declared.reaction.Reaction.{Reaction}
use Rattle.reaction_queue.specs.declared.reaction.Reaction.TheVariants.{Upgrade}
use Rattle.reaction_queue.specs.Reactions.{what_of}
use Rattle.ce_events.specs.declared.event.Event.{Event}
use Rattle.ce_events.specs.declared.event.Event.TheVariants.{Construct, Caught, Reported, Asked}
use Rattle.ce_events.specs.declared.event.Answer.{Answer}
use Rattle.ce_algorithms.specs.Page.{Page}
use Rattle.order_law.specs.Book.{Entry, Reacting, Book, blank}
use Rattle.order_law.specs.Reads.{is_for}
use Rattle.order_law.specs.Clauses.{may_call}
use Rattle.order_law.specs.After.{marked, after}
use Rattle.order_law.proofs.Model.Reading.{Reads, Tests, line_tests, tested, reads_append, reads_one}
use Rattle.order_law.proofs.Model.Invariant.{Hold, InReaction, brackets_of, Holds, HoldsIn, After}
use Rattle.ce_algorithms.specs.State.{State, logged}
use Rattle.ce_algorithms.specs.Drain.{log_call}
use Rattle.ce_algorithms.proofs.CallNames.{same_self}

-- a line that the book does not keep
pub record Plain (e : Event) : Type 0 where
  pub at : (b : Book) → b.over ≡ false → b.dropping ≡ None → Tests b e
  pub is : (b : Book) → after b e ≡ record b { dropping = None }

pub plain_holds : (e : Event) (h : List Hold) (l : List Event) (p : Page) → Plain e → Holds h l p → Holds h (l ++ e ∷ []) p
plain_holds e h l p x k =
    let same : after k.book e ≡ k.book = x.is k.book ∙ ap (λ d. record (k.book) { dropping = d }) (sym k.dropping) in
    record {
      book = k.book;
      reads =
          reads_append blank l (e ∷ []) k.book k.book k.reads
          (subst (Reads k.book (e ∷ [])) same (reads_one k.book e (tested k.book e (x.at k.book k.over k.dropping))));
      over = k.over;
      dropping =
          k.dropping;
      queues = k.queues;
      elements = k.elements;
    }

pub construct_plain : (name : List ℕ) → Plain (Construct name)
construct_plain name = record { at = λ b o d. line_tests b (Construct name) refl o d refl refl refl; is = λ b. refl }

pub reported_plain : (f : Fault) → Plain (Reported f)
reported_plain f = record { at = λ b o d. line_tests b (Reported f) refl o d refl refl refl; is = λ b. refl }

pub caught_plain : (f : Fault) → Plain (Caught f)
caught_plain f = record { at = λ b o d. line_tests b (Caught f) refl o d refl refl refl; is = λ b. refl }

pub asked_plain : (a : Answer) → Plain (Asked a)
asked_plain a = record { at = λ b o d. line_tests b (Asked a) refl o d refl refl refl; is = λ b. refl }

-- the line of a callback
pub record CallLine (e : Event) (n : ℕ) (name : CallName) : Type 0 where
  pub at : (b : Book) → b.over ≡ false → b.dropping ≡ None → may_call (Some (n, name)) b.brackets ≡ true → Tests b e
  pub is : (b : Book) → after b e ≡ record b { brackets = marked (Some (n, name)) b.brackets; dropping = None }

pub called_holds : (e : Event) (w : Entry) (name : CallName) (h : List Hold) (l : List Event) (p : Page) → CallLine e w.element name →
    w.what ≡ Call name → Holds (InReaction w false ∷ h) l p → Holds (InReaction w true ∷ h) (l ++ e ∷ []) p
called_holds e w name h l p x what k =
    let b = k.book in
    let c : Book = record b { brackets = Reacting w true ∷ brackets_of h; dropping = None } in
    let may : may_call (Some (w.element, name)) b.brackets ≡ true =
    ap (may_call (Some (w.element, name))) k.queues.brackets ∙ ap (λ t. t && is_for w.what name) (eq-eqb w.element w.element refl)
    ∙ ap (λ t. is_for t name) what ∙ same_self name in
    let same : after b e ≡ c = x.is b ∙ ap (λ bs. record b { brackets = marked (Some (w.element, name)) bs; dropping = None }) k.queues.brackets in
    record {
      book = c;
      reads = reads_append blank l (e ∷ []) b c k.reads (subst (Reads b (e ∷ [])) same (reads_one b e (tested b e (x.at b k.over k.dropping may))));
      over = k.over;
      dropping = refl;
      queues = let q = k.queues in record {
        numbers = q.numbers;
        queues = q.queues;
        rising = q.rising;
        below = q.below;
        waits = q.waits;
        brackets = refl;
        opens = q.opens;
        falls = q.falls;
        placed = q.placed;
        owed = q.owed;
      };
      elements = let t = k.elements in
          record {
            known = t.known;
            defined = t.defined;
            unset = t.unset;
            upgraded = t.upgraded;
            thrown = t.thrown;
            document = t.document;
            ongoing = t.ongoing;
          };
    }

-- the line of each callback

call_at : (e : Event) (n : ℕ) (name : CallName) (h : List Hold) (s : State) (w : Entry) → CallLine e n name → w.element ≡ n → w.what ≡ Call name →
    HoldsIn (InReaction w false ∷ h) s → HoldsIn (InReaction w true ∷ h) (logged e s)
call_at e n name h s w x at what k =
    record { holds = called_holds e w name h s.log s.page (subst (λ m. CallLine e m name) (sym at) x) what k.holds; notes = k.notes; rest = k.rest }

pub call_line : (n : ℕ) (x : Reaction) (name : CallName) → what_of x ≡ Call name → (h : List Hold) (s : State) (w : Entry) → w.element ≡ n →
    w.what ≡ what_of x → HoldsIn (InReaction w false ∷ h) s → After {A = Unit {0}} (InReaction w true ∷ h) (log_call n x s)
call_line n (Upgrade d) name is h s w at what k = absurd (let x : IsUpgrade ≡ Call name = is in cc)
call_line n x name is h s w at what k =
    call_at _ n _ h s w (record { at = λ b o d may. line_tests b _ refl o d may refl refl; is = λ b. refl }) at what k
