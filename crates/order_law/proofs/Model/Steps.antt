-- Steps keep the law: those of a page with its notes, and those of a session.
use Rattle.std.proofs.Common.{◌≡◌, ℕ, zero, suc, ◌+◌, ◌-◌, ◌<◌, ◌≤◌, Bool, true, false, List, [], ◌∷◌, ◌++◌, length, map, Option, Some, None, refl, sym, ap}
use Rattle.std.proofs.Common.{◌∙◌, subst, arith, append_assoc, append-nil}
use Rattle.std.specs.Prelude.{slice_get}
use Rattle.std.specs.Option.{option_and_then}
use Rattle.std.proofs.lemmas.List.{map-append}
use Rattle.ce_base.specs.declared.fault.Fault.{Fault}
use Rattle.rule_tokens.specs.declared.callback.CallOrUpgrade.{CallOrUpgrade}
use Rattle.rule_tokens.specs.declared.callback.CallOrUpgrade.TheVariants.{Call, Upgrade as IsUpgrade}
use Rattle.reaction_queue.specs.declared.reaction.Reaction.{Reaction}
use Rattle.reaction_queue.specs.Queues.{Queues, enqueued, current_number as current_of, with_reaction, counted, appended_to, number_of}
use Rattle.reaction_queue.specs.Reactions.{what_of}
use Rattle.ce_registry.specs.declared.definition.Definition.{Definition}
use Rattle.ce_events.specs.declared.event.Event.{Event}
use Rattle.ce_events.specs.declared.event.Event.TheVariants.{Enqueued}
use Rattle.ce_algorithms.specs.Steps.{Step, Outcome, Goes, Throws, Spent, then_do, ◌>>=◌, ◌>>◌, give, done, throw, when, where_is, for_each, finally}
use Rattle.ce_algorithms.specs.Steps.{finally_in}
use Rattle.ce_algorithms.specs.Page.{Page, Work, Element, or_uncustomized, definition_of, with_queues, with_forest}
use Rattle.ce_algorithms.specs.Page as page
use Rattle.ce_algorithms.specs.Enqueue.{noted, enqueue, enqueue_callback, gives_reaction, has_callback, is_observed}
use Rattle.ce_algorithms.specs.State.{State, event_of, with_work, with_outcome, work_of, on_page}
use Rattle.ce_algorithms.specs.Construction.{with_stacks}
use Rattle.order_law.specs.Law.{Lawful}
use Rattle.node_trees.specs.Trees.{Trees}
use Rattle.order_law.proofs.Model.Forests.{Alike}
use Rattle.order_law.proofs.Model.Sound.{IsEntry, Sound, sound_apart, sound_alike, sound_stacks}
use Rattle.order_law.proofs.Model.Invariant.{Hold, Known, fits, nodes_of, Holds, HoldsIn, After}
use Rattle.order_law.proofs.Model.Hands.{with_hands, take_hands, drop_hands, hand_rows}
use Rattle.order_law.proofs.Model.Enqueuing.{enqueued_holds}
use Rattle.order_law.proofs.Model.Ending.{spent_lawful}
use Rattle.std.proofs.lemmas.Bool.{and_parts}
use Rattle.std.specs.List.{AllByRecursion as Each}
use Rattle.node_trees.proofs.Weights.{IsApart}

-- pages at work, behind a log, with what is known of the forest
pub record HoldsAt (q : Trees → Type 0) (h : List Hold) (l : List Event) (w : Work) : Type 0 where
  pub holds : Holds h (l ++ map event_of w.page.notes) w.page
  pub sound : Sound w.page.forest (length w.page.elements) w.page.stacks
  pub known : q w.page.forest

-- nothing is known
abbrev pub Any : Trees → Type 0
Any f = Unit {0}

abbrev pub AfterAt : {A : Type 0} → (Trees → Type 0) → List Hold → List Event → Outcome Work A → Type 0
AfterAt q h l (Goes a w) = HoldsAt q h l w
AfterAt q h l (Throws f w) = ⊥
AfterAt q h l (Spent w) = HoldsAt q h l w

-- a primitive that keeps it, and throws nothing
pub record KeepsAt {A : Type 0} (q : Trees → Type 0) (h : List Hold) (l : List Event) (f : Step Work A) : Type 0 where
  pub at : (w : Work) → HoldsAt q h l w → AfterAt q h l (f w)

at_then : {A B : Type 0} (q : Trees → Type 0) (h : List Hold) (l : List Event) (o : Outcome Work A) (k : A → Step Work B) → AfterAt q h l o →
    ((a : A) → KeepsAt q h l (k a)) → AfterAt q h l (then_do o k)
at_then q h l (Goes a w) k o n = (n a).at w o
at_then q h l (Throws f w) k o n = o
at_then q h l (Spent w) k o n = o

pub at_bind : {A B : Type 0} {q : Trees → Type 0} {h : List Hold} {l : List Event} {f : Step Work A} {k : A → Step Work B} → KeepsAt q h l f →
    ((a : A) → KeepsAt q h l (k a)) → KeepsAt q h l (f >>= k)
at_bind {q} {h} {l} {f} {k} x n = record { at = λ w o. at_then q h l (f w) k (x.at w o) n }

pub at_seq : {A B : Type 0} {q : Trees → Type 0} {h : List Hold} {l : List Event} {f : Step Work A} {g : Step Work B} → KeepsAt q h l f →
    KeepsAt q h l g → KeepsAt q h l (f >> g)
at_seq {q} {h} {l} {f} {g} x n = record { at = λ w o. at_then q h l (f w) (λ _. g) (x.at w o) (λ _. n) }

pub at_done : {q : Trees → Type 0} {h : List Hold} {l : List Event} → KeepsAt q h l done
at_done = record { at = λ w o. o }

pub at_each : {A : Type 0} {q : Trees → Type 0} {h : List Hold} {l : List Event} {f : A → Step Work (Unit {0})} (xs : List A) →
    ((a : A) → KeepsAt q h l (f a)) → KeepsAt q h l (for_each xs f)
at_each [] n = at_done
at_each (x ∷ xs) n = at_seq (n x) (at_each xs n)

-- a page whose elements, definitions and queues are the same
pub same_page : (h : List Hold) (l : List Event) (p q : Page) → p.elements ≡ q.elements → p.definitions ≡ q.definitions → p.queues ≡ q.queues →
    Holds h l p → Holds h l q
same_page h l p q e d s r = subst (λ (t : List Element × List Definition × Queues). Holds h l (record q { elements = t.0; definitions = t.1; queues = t.2 }))
    parts (record {
      book = r.book;
      reads = r.reads;
      over = r.over;
      dropping = r.dropping;
      queues = r.queues;
      elements = record {
        known = r.elements.known;
        defined = r.elements.defined;
        unset = r.elements.unset;
        upgraded = r.elements.upgraded;
        thrown = r.elements.thrown;
        document = r.elements.document;
        ongoing = r.elements.ongoing;
      };
    })
  where
    parts : ◌≡◌ {A = List Element × List Definition × Queues} (p.elements, p.definitions, p.queues) (q.elements, q.definitions, q.queues)
    parts = ap (λ y. (y, p.definitions, p.queues)) e ∙ ap (λ y. (q.elements, y, p.queues)) d ∙ ap (λ y. (q.elements, q.definitions, y)) s

-- the page's row of an element with a definition
defined_known : (h : List Hold) (l : List Event) (p : Page) (n : ℕ) (d : Definition) → definition_of p n ≡ Some d → Holds h l p → Known p.elements n
defined_known h l p n d is k = record { low = low n is; high = high (slice_get p.elements (n - 1)) refl }
  where
    row_of : Option Element → Option Definition
    row_of o = option_and_then (slice_get p.definitions) (or_uncustomized o).definition

    undefined : (n : ℕ) → n - 1 ≡ 0 → definition_of p n ≡ Some d → ⊥
    undefined n e is =
        let same : definition_of p n ≡ None =
        ap (λ i. row_of (slice_get p.elements i)) e ∙ ap (λ o. option_and_then (slice_get p.definitions) o) k.elements.document in
        let x : None ≡ Some d = sym same ∙ is in cc

    low : (n : ℕ) → definition_of p n ≡ Some d → 2 ≤ n
    low zero is = absurd (undefined 0 refl is)
    low (suc zero) is = absurd (undefined 1 refl is)
    low (suc (suc n)) is = omega arith

    high : (o : Option Element) → slice_get p.elements (n - 1) ≡ o → n ≤ length p.elements
    high None e = absurd (let x : None ≡ Some d = sym (ap row_of e) ∙ is in cc)
    high (Some r) e = within p.elements (n - 1) r e (low n is)
      where
        inside : {A : Type 0} (xs : List A) (i : ℕ) (x : A) → slice_get xs i ≡ Some x → i < length xs
        inside [] i x e = absurd (let y : None ≡ Some x = e in cc)
        inside (y ∷ xs) zero x e = omega arith
        inside (y ∷ xs) (suc i) x e = let r = inside xs i x e in omega (arith, r)

        within : (xs : List Element) (i : ℕ) (r : Element) → slice_get xs i ≡ Some r → 2 ≤ n → n ≤ length p.elements
        within xs i r f le = let t = inside p.elements (n - 1) (or_uncustomized (slice_get p.elements (n - 1))) (e ∙ ap Some (sym (ap or_uncustomized e))) in
            omega (arith, t, le)

-- an enqueue, with its note
note_line : (n : ℕ) (x : Reaction) (p : Page) →
    map event_of (noted n x (with_queues (enqueued n x) p)).notes
    ≡ map event_of p.notes ++ Enqueued (p.queues.reactions + 1) n (what_of x) (current_of p.queues) ∷ []
note_line n x p = map-append event_of p.notes
    (record { number = (enqueued n x p.queues).reactions; node = n; what = what_of x; queue = current_of (enqueued n x p.queues) } ∷ [])
    ∙ ap (λ (t : ℕ × ℕ). map event_of p.notes ++ Enqueued t.0 n (what_of x) t.1 ∷ []) (same p.queues.stack refl)
  where
    same : (os : _) → p.queues.stack ≡ os →
        ◌≡◌ {A = ℕ × ℕ} (
          (appended_to os n (with_reaction n x (counted p.queues))).reactions,
          current_of (appended_to os n (with_reaction n x (counted p.queues))),
        ) (p.queues.reactions + 1, number_of os)
    same [] e = ap (λ os. (p.queues.reactions + 1, number_of os)) e
    same (o ∷ os) e = refl

pub enqueue_at : (q : Trees → Type 0) (h : List Hold) (l : List Event) (n : ℕ) (x : Reaction) (w : Work) → Known w.page.elements n →
    fits (what_of x) (definition_of w.page n) ≡ true → HoldsAt q h l w → AfterAt q h l (enqueue n x w)
enqueue_at q h l n x w known fit k = go w.fuel
  where
    go : (fuel : ℕ) → AfterAt q h l (then_do (page.spend_from fuel w) (λ _. page.change_page (with_queues (enqueued n x)) >> page.change_page (noted n x)))
    go zero = k
    go (suc fuel) =
        let e = enqueued_holds n x h (l ++ map event_of w.page.notes) w.page known fit k.holds in
        let line = Enqueued (w.page.queues.reactions + 1) n (what_of x) (current_of w.page.queues) in
        let lines : (l ++ map event_of w.page.notes) ++ line ∷ [] ≡ l ++ map event_of (noted n x (with_queues (enqueued n x) w.page)).notes =
        append_assoc l (map event_of w.page.notes) (line ∷ []) ∙ ap (λ m. l ++ m) (sym (note_line n x w.page)) in
        let r = subst (λ m. Holds h m (with_queues (enqueued n x) w.page)) lines e in
        record {
          holds = same_page h (l ++ map event_of (noted n x (with_queues (enqueued n x) w.page)).notes) (with_queues (enqueued n x) w.page)
              (noted n x (with_queues (enqueued n x) w.page)) refl refl refl r;
          sound = k.sound;
          known = k.known;
        }

-- a callback is enqueued only where the definition has it
pub callback_at : {q : Trees → Type 0} {h : List Hold} {l : List Event} (n : ℕ) (x : Reaction) → KeepsAt q h l (enqueue_callback n x)
callback_at {q} {h} {l} n x = record { at = λ w k. go w k (definition_of w.page n) refl }
  where
    has : (what : CallOrUpgrade) (d : Definition) → has_callback what d ≡ true → fits what (Some d) ≡ true
    has (Call name) d t = t
    has IsUpgrade d t = refl

    go : (w : Work) → HoldsAt q h l w → (o : Option Definition) → definition_of w.page n ≡ o → AfterAt q h l (enqueue_callback n x w)
    go w k None is = subst (λ t. AfterAt q h l (when t (enqueue n x) w)) (sym (ap (λ o. gives_reaction o x) is)) k
    go w k (Some d) is = test (gives_reaction (Some d) x) refl
      where
        test : (t : Bool) → gives_reaction (Some d) x ≡ t → AfterAt q h l (enqueue_callback n x w)
        test true t = subst (λ t. AfterAt q h l (when t (enqueue n x) w)) (sym (ap (λ o. gives_reaction o x) is ∙ t))
            (enqueue_at q h l n x w (defined_known h (l ++ map event_of w.page.notes) w.page n d is k.holds)
            (ap (λ o. fits (what_of x) o) is ∙ has (what_of x) d (and_parts (has_callback (what_of x) d) (is_observed x d) t).0) k)
        test false t = subst (λ t. AfterAt q h l (when t (enqueue n x) w)) (sym (ap (λ o. gives_reaction o x) is ∙ t)) k

-- nothing is thrown
abbrev pub AfterCalm : {A : Type 0} → List Hold → Outcome State A → Type 0
AfterCalm h (Goes a s) = HoldsIn h s
AfterCalm h (Throws f s) = ⊥
AfterCalm h (Spent s) = Lawful s.log

pub calm_any : {A : Type 0} (h : List Hold) (o : Outcome State A) → AfterCalm h o → After h o
calm_any h (Goes a s) k = k
calm_any h (Throws f s) k = absurd k
calm_any h (Spent s) k = k

-- back in the session: what the variables hold was in hand
pub came_back : (h : List Hold) (s : State) (w : Work) → HoldsAt Any (with_hands (nodes_of s.variables) h) s.log w → HoldsIn h (with_work w s)
came_back h s w k = record {
  holds = same_page h (with_work w s).log w.page (with_work w s).page refl refl refl (drop_hands (nodes_of s.variables) h (with_work w s).log w.page k.holds);
  notes = refl;
  rest = record { sound = k.sound; named = hand_rows (nodes_of s.variables) h (with_work w s).log w.page k.holds };
}

pub back : {A : Type 0} (h : List Hold) (s : State) (o : Outcome Work A) → AfterAt Any (with_hands (nodes_of s.variables) h) s.log o →
    AfterCalm h (with_outcome o s)
back h s (Goes a w) k = came_back h s w k
back h s (Throws f w) k = k
back h s (Spent w) k = spent_lawful (with_hands (nodes_of s.variables) h) (s.log ++ map event_of w.page.notes) w.page k.holds

-- into the page
pub at_work : (h : List Hold) (s : State) → HoldsIn h s → HoldsAt Any (with_hands (nodes_of s.variables) h) s.log (work_of s)
at_work h s k = record {
  holds = take_hands (nodes_of s.variables) h (s.log ++ map event_of s.page.notes) s.page k.rest.named
      (subst (λ m. Holds h m s.page) (sym (ap (λ ns. s.log ++ map event_of ns) k.notes ∙ append-nil s.log)) k.holds);
  sound = k.rest.sound;
  known = tt;
}

pub at_when : {q : Trees → Type 0} {h : List Hold} {l : List Event} {f : Step Work (Unit {0})} (t : Bool) → KeepsAt q h l f → KeepsAt q h l (when t f)
at_when true k = k
at_when false k = at_done

pub at_where : {q : Trees → Type 0} {h : List Hold} {l : List Event} {f : Step Work (Unit {0})} (test : Work → Bool) → KeepsAt q h l f →
    KeepsAt q h l (where_is test f)
at_where {f} test k = record { at = λ w o. (at_when {f = f} (test w) k).at w o }

pub at_read : {A : Type 0} {q : Trees → Type 0} {h : List Hold} {l : List Event} (f : Page → A) → KeepsAt q h l (page.read_page f)
at_read f = record { at = λ w o. o }

-- steps where a test of the forest holds
pub at_where_forest : {q : Trees → Type 0} {h : List Hold} {l : List Event} {f : Step Work (Unit {0})} (test : Trees → Bool) →
    KeepsAt (λ t. (test t ≡ true) × q t) h l f → KeepsAt q h l (where_is (λ w. test w.page.forest) f)
at_where_forest {q} {h} {l} {f} test k = record { at = λ w o. go w o (test w.page.forest) refl }
  where
    known : (o : Outcome Work (Unit {0})) → AfterAt (λ t. (test t ≡ true) × q t) h l o → AfterAt q h l o
    known (Goes a w) o = record { holds = o.holds; sound = o.sound; known = o.known.1 }
    known (Throws f w) o = o
    known (Spent w) o = record { holds = o.holds; sound = o.sound; known = o.known.1 }

    go : (w : Work) → HoldsAt q h l w → (t : Bool) → test w.page.forest ≡ t → AfterAt q h l (when t f w)
    go w o true is = known (f w) (k.at w (record { holds = o.holds; sound = o.sound; known = (is, o.known) }))
    go w o false is = o

-- the construction stacks are given anew
pub stacks_hold : (q : Trees → Type 0) (h : List Hold) (l : List Event) (f : List (List (Option ℕ)) → List (List (Option ℕ))) (w : Work) →
    Each (Each (IsEntry (length w.page.elements))) (f w.page.stacks) → HoldsAt q h l w → HoldsAt q h l (record w { page = with_stacks f w.page })
stacks_hold q h l f w rows o = record {
  holds = same_page h (l ++ map event_of w.page.notes) w.page (with_stacks f w.page) refl refl refl o.holds;
  sound = sound_stacks w.page.forest (length w.page.elements) w.page.stacks (f w.page.stacks) rows o.sound;
  known = o.known;
}

pub at_stacks : {q : Trees → Type 0} {h : List Hold} {l : List Event} (f : List (List (Option ℕ)) → List (List (Option ℕ)))
    → ((w : Work) → HoldsAt q h l w → Each (Each (IsEntry (length w.page.elements))) (f w.page.stacks)) → KeepsAt q h l (page.change_page (with_stacks f))
at_stacks {q} {h} {l} f rows = record { at = λ w o. stacks_hold q h l f w (rows w o) o }

-- a change of the forest that keeps its nodes
pub forest_holds : (q r : Trees → Type 0) (h : List Hold) (l : List Event) (change : Trees → Trees) →
    ((f : Trees) → IsApart f → q f → Alike f (change f) × r (change f)) → (w : Work) → HoldsAt q h l w →
    HoldsAt r h l (record w { page = with_forest change w.page })
forest_holds q r h l change keeps w o =
    let k = keeps w.page.forest (sound_apart w.page.forest (length w.page.elements) w.page.stacks o.sound) o.known in
    record {
      holds = same_page h (l ++ map event_of w.page.notes) w.page (with_forest change w.page) refl refl refl o.holds;
      sound = sound_alike w.page.forest (change w.page.forest) (length w.page.elements) w.page.stacks k.0 o.sound;
      known = k.1;
    }

pub at_forest : {q : Trees → Type 0} {h : List Hold} {l : List Event} (change : Trees → Trees) →
    ((f : Trees) → IsApart f → q f → Alike f (change f) × q (change f)) → KeepsAt q h l (page.change_page (with_forest change))
at_forest {q} {h} {l} change keeps = record { at = λ w o. forest_holds q q h l change keeps w o }

-- steps of the session
pub record Keeps {A : Type 0} (h : List Hold) (f : Step State A) : Type 0 where
  pub at : (s : State) → HoldsIn h s → After h (f s)

pub keeps_page : {A : Type 0} {h : List Hold} {f : Step Work A} → ((vs : List ℕ) (l : List Event) → KeepsAt Any (with_hands vs h) l f) → Keeps h (on_page f)
keeps_page {h} {f} n = record {
  at =
      λ s k. calm_any h (on_page f s) (back h s (f (work_of s)) ((n (nodes_of s.variables) s.log).at (work_of s) (at_work h s k)));
}

keeps_then : {A B : Type 0} (h : List Hold) (o : Outcome State A) (k : A → Step State B) → After h o → ((a : A) → Keeps h (k a)) → After h (then_do o k)
keeps_then h (Goes a s) k o n = (n a).at s o
keeps_then h (Throws f s) k o n = o
keeps_then h (Spent s) k o n = o

pub keeps_bind : {A B : Type 0} {h : List Hold} {f : Step State A} {k : A → Step State B} → Keeps h f → ((a : A) → Keeps h (k a)) → Keeps h (f >>= k)
keeps_bind {h} {f} {k} x n = record { at = λ s o. keeps_then h (f s) k (x.at s o) n }

pub keeps_seq : {A B : Type 0} {h : List Hold} {f : Step State A} {g : Step State B} → Keeps h f → Keeps h g → Keeps h (f >> g)
keeps_seq {h} {f} {g} x n = record { at = λ s o. keeps_then h (f s) (λ _. g) (x.at s o) (λ _. n) }

pub keeps_give : {A : Type 0} {h : List Hold} (a : A) → Keeps h (give a)
keeps_give a = record { at = λ s o. o }

pub keeps_throw : {A : Type 0} {h : List Hold} (f : Fault) → Keeps {A = A} h (throw f)
keeps_throw f = record { at = λ s o. o }

finally_on : {A : Type 0} (h : List Hold) (o : Outcome State A) (last : Step State (Unit {0})) → After h o → Keeps h last → After h (finally_in o last)
finally_on h (Goes a s) last o k = (keeps_seq k (keeps_give a)).at s o
finally_on {A} h (Throws f s) last o k = let n : Keeps {A = A} h (last >> throw f) = keeps_seq k (keeps_throw f) in n.at s o
finally_on h (Spent s) last o k = o

pub keeps_finally : {A : Type 0} {h : List Hold} {f : Step State A} {last : Step State (Unit {0})} → Keeps h f → Keeps h last → Keeps h (finally f last)
keeps_finally {h} {f} {last} x k = record { at = λ s o. finally_on h (f s) last (x.at s o) k }
