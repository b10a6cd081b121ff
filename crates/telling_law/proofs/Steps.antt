-- Steps that tell a node of changes: a rule for each way to make a step.
use Rattle.std.proofs.Common.{◌≡◌, ℕ, zero, suc, Bool, true, false, if◌then◌else◌, List, [], ◌∷◌, ◌++◌, flat_map, refl, sym, ap, ◌∙◌, subst, append_assoc}
use Rattle.std.proofs.Common.{append-nil}
use Rattle.std.specs.List.{AllByRecursion}
use Rattle.reaction_queue.specs.declared.reaction.Reaction.{Reaction}
use Rattle.reaction_queue.specs.Queues.{enqueued}
use Rattle.ce_algorithms.specs.Steps.{Step, Outcome, Goes, Throws, Spent, then_do, ◌>>=◌, ◌>>◌, done, when, where_is, for_each}
use Rattle.ce_algorithms.specs.Page.{Page, Work, read_page, change_page, spend_from, with_queues, definition_of}
use Rattle.ce_algorithms.specs.Forms.{is_custom_form_associated}
use Rattle.ce_algorithms.specs.Enqueue.{gives_reaction, noted, enqueue, enqueue_callback}
use Rattle.telling_law.specs.Told.{is_form_reaction, told_at}
use Rattle.telling_law.proofs.Waiting.{news, enqueued_tells, no_news}

-- what form owners are read off stays as it is on this page
pub record Stays (q p : Page) : Type 0 where
  pub forest : p.forest ≡ q.forest
  pub elements : p.elements ≡ q.elements
  pub definitions : p.definitions ≡ q.definitions

-- of these reactions a first part was told
pub record Partly (had adds now : List Reaction) : Type 0 where
  pub given : List Reaction
  pub rest : List Reaction
  pub parts : given ++ rest ≡ adds
  pub told : now ≡ had ++ given

-- what the node j, which had been told this, is told in an outcome
abbrev pub After : Page → ℕ → List Reaction → List Reaction → Outcome Work (Unit {0}) → Type 0
After q j had adds (Goes a w) = Stays q w.page × (told_at w.page j ≡ had ++ adds)
After q j had adds (Throws f w) = ⊥
After q j had adds (Spent w) = Stays q w.page × Partly had adds (told_at w.page j)

-- a step tells j this, from each page on that stays as this one
pub record Tells (q : Page) (j : ℕ) (adds : List Reaction) (f : Step Work (Unit {0})) : Type 0 where
  pub at : (w : Work) → Stays q w.page → After q j (told_at w.page j) adds (f w)

pub tells_same : {q : Page} {j : ℕ} {adds more : List Reaction} {f : Step Work (Unit {0})} → adds ≡ more → Tells q j adds f → Tells q j more f
tells_same {q} {j} {adds} {more} {f} e t = subst (λ xs. Tells q j xs f) e t

pub tells_done : {q : Page} {j : ℕ} → Tells q j [] done
tells_done {q} {j} = record { at = λ w s. (s, sym (append-nil (told_at w.page j))) }

-- steps one after another

module _ (q : Page) (j : ℕ) (had adds more : List Reaction) where
  onward : (now : List Reaction) (o : Outcome Work (Unit {0})) → now ≡ had ++ adds → After q j now more o → After q j had (adds ++ more) o
  onward now (Goes a w) e h = (h.0, h.1 ∙ ap (λ xs. xs ++ more) e ∙ append_assoc had adds more)
  onward now (Throws f w) e h = h
  onward now (Spent w) e h =
      let p = h.1 in (
        h.0,
        record {
          given = adds ++ p.given;
          rest = p.rest;
          parts = append_assoc adds p.given p.rest ∙ ap (λ xs. adds ++ xs) p.parts;
          told = p.told ∙ ap (λ xs. xs ++ p.given) e ∙ append_assoc had adds p.given;
        },
      )

  after_then : (o : Outcome Work (Unit {0})) (g : Step Work (Unit {0})) → After q j had adds o → Tells q j more g
      → After q j had (adds ++ more) (then_do o (λ _. g))
  after_then (Goes a w) g h next = onward (told_at w.page j) (g w) h.1 (next.at w h.0)
  after_then (Throws f w) g h next = h
  after_then (Spent w) g h next =
      let p = h.1 in (
        h.0,
        record {
          given = p.given;
          rest = p.rest ++ more;
          parts = sym (append_assoc p.given p.rest more) ∙ ap (λ xs. xs ++ more) p.parts;
          told = p.told;
        },
      )

pub tells_seq : {q : Page} {j : ℕ} {adds more : List Reaction} {f g : Step Work (Unit {0})} → Tells q j adds f → Tells q j more g
    → Tells q j (adds ++ more) (f >> g)
tells_seq {q} {j} {adds} {more} {f} {g} t next = record { at = λ w s. after_then q j (told_at w.page j) adds more (f w) g (t.at w s) next }

pub tells_each : {A : Type 0} {q : Page} {j : ℕ} {f : A → Step Work (Unit {0})} (P : A → Type 0) (adds : A → List Reaction)
    → ((x : A) → P x → Tells q j (adds x) (f x)) →
    (xs : List A) → AllByRecursion P xs → Tells q j (flat_map adds xs) (for_each xs f)
tells_each P adds t [] all = tells_done
tells_each P adds t (x ∷ xs) all = tells_seq (t x all.0) (tells_each P adds t xs all.1)

-- a step only where a test holds, which reads what stays

tells_when : {q : Page} {j : ℕ} {adds : List Reaction} {f : Step Work (Unit {0})} (b : Bool) → Tells q j adds f → Tells q j (if b then adds else []) (when b f)
tells_when true t = t
tells_when false t = tells_done

pub tells_where : {q : Page} {j : ℕ} {adds : List Reaction} {f : Step Work (Unit {0})} (test : Work → Bool) (b : Bool)
    → ((w : Work) → Stays q w.page → test w ≡ b) → Tells q j adds f →
    Tells q j (if b then adds else []) (where_is test f)
tells_where {q} {j} {adds} {f} test b same t = record {
  at = λ w s. subst (λ c. After q j (told_at w.page j) (if b then adds else []) (when c f w)) (sym (same w s)) ((tells_when b t).at w s);
}

-- who is a custom form-associated element, and by which definition

pub definition_stays : (q p : Page) (n : ℕ) → Stays q p → definition_of p n ≡ definition_of q n
definition_stays q p n s = λ i. definition_of (record p { elements = s.elements i; definitions = s.definitions i }) n

pub custom_stays : (q p : Page) (n : ℕ) → Stays q p → is_custom_form_associated p n ≡ is_custom_form_associated q n
custom_stays q p n s = λ i. is_custom_form_associated (record p { elements = s.elements i; definitions = s.definitions i }) n

-- an enqueue

pub tells_enqueue : {q : Page} {j : ℕ} (n : ℕ) (r : Reaction) → Tells q j (news n r j) (enqueue n r)
tells_enqueue {q} {j} n r = record { at = λ w s. go w w.fuel s }
  where
    go : (w : Work) (fuel : ℕ) → Stays q w.page
        → After q j (told_at w.page j) (news n r j) ((spend_from fuel >> (change_page (with_queues (enqueued n r)) >> change_page (noted n r))) w)
    go w zero s = (s, record { given = []; rest = news n r j; parts = refl; told = sym (append-nil (told_at w.page j)) })
    go w (suc fuel) s = (record { forest = s.forest; elements = s.elements; definitions = s.definitions }, enqueued_tells n r j w.page.queues)

pub tells_callback : {q : Page} {j : ℕ} (n : ℕ) (r : Reaction)
    → Tells q j (if gives_reaction (definition_of q n) r then news n r j else []) (enqueue_callback n r)
tells_callback {q} n r = tells_where (λ w. gives_reaction (definition_of w.page n) r) (gives_reaction (definition_of q n) r)
    (λ w s. ap (λ d. gives_reaction d r) (definition_stays q w.page n s)) (tells_enqueue n r)

-- steps that tell of nothing

pub quiet_enqueue : {q : Page} {j : ℕ} (n : ℕ) (r : Reaction) → is_form_reaction r ≡ false → Tells q j [] (enqueue n r)
quiet_enqueue {q} {j} n r other = tells_same (no_news n r j other) (tells_enqueue n r)

pub quiet_when : {q : Page} {j : ℕ} {f : Step Work (Unit {0})} (b : Bool) → Tells q j [] f → Tells q j [] (when b f)
quiet_when true t = t
quiet_when false t = tells_done

pub quiet_where : {q : Page} {j : ℕ} {f : Step Work (Unit {0})} (test : Work → Bool) → Tells q j [] f → Tells q j [] (where_is test f)
quiet_where test t = record { at = λ w s. (quiet_when (test w) t).at w s }

pub quiet_read : {q : Page} {j : ℕ} {A : Type 0} (answer : Page → A) (k : A → Step Work (Unit {0})) → ((a : A) → Tells q j [] (k a))
    → Tells q j [] (read_page answer >>= k)
quiet_read answer k t = record { at = λ w s. (t (answer w.page)).at w s }

pub quiet_callback : {q : Page} {j : ℕ} (n : ℕ) (r : Reaction) → is_form_reaction r ≡ false → Tells q j [] (enqueue_callback n r)
quiet_callback n r other = quiet_where (λ w. gives_reaction (definition_of w.page n) r) (quiet_enqueue n r other)
