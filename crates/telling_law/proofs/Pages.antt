-- From a page whose forest is another now: steps that tell each node what is due to it.
use Rattle.std.proofs.Common.{◌≡◌, ℕ, ◌<◌, List, ◌++◌, take, length, refl, sym, ap, ◌∙◌, subst, arith}
use Rattle.std.specs.List.{AllByRecursion}
use Rattle.std.proofs.lemmas.List.{take_at}
use Rattle.node_trees.specs.Trees.{Trees}
use Rattle.node_trees.specs.Nodes.{size, IsNode}
use Rattle.reaction_queue.specs.declared.reaction.Reaction.{Reaction}
use Rattle.form_controls.specs.declared.change.Change.{Change}
use Rattle.form_controls.specs.Changes.{form_change}
use Rattle.ce_algorithms.specs.Steps.{Step, Outcome, Goes, Spent}
use Rattle.ce_algorithms.specs.Page.{Page, Work}
use Rattle.ce_algorithms.specs.Forms.{forms_in, forms_of}
use Rattle.ce_algorithms.specs.FormChanges.{form_changes}
use Rattle.telling_law.specs.Told.{told_at, due, TellsExactly, TellsPart}
use Rattle.telling_law.proofs.Differences.{changes-positive, due-of_changes}
use Rattle.telling_law.proofs.Shares.{all_to}
use Rattle.telling_law.proofs.Steps.{Stays, After, Tells, tells_same}

-- a page whose forest is another now
module _ (old : Page) (forest : Trees) where
  abbrev pub now : Page
  now = record old { forest = forest }

  abbrev pub due_at : ℕ → List Reaction
  due_at n = due old (form_change (forms_of old) (forms_of now) n)

  -- steps that tell each node from there on what is due to it
  abbrev pub TellAll : Step Work (Unit {0}) → Type 0
  TellAll f = (n : ℕ) → IsNode old.forest n → Tells now n (due_at n) f

  after : (f : Step Work (Unit {0})) (fuel : ℕ) (o : Outcome Work (Unit {0})) → TellAll f → f (record { page = now; fuel = fuel }) ≡ o → (n : ℕ)
      → IsNode old.forest n →
      After now n (told_at old n) (due_at n) o
  after f fuel o tells e n is =
      subst (After now n (told_at old n) (due_at n)) e
      ((tells n is).at (record { page = now; fuel = fuel }) (record { forest = refl; elements = refl; definitions = refl }))

  forms-stay : (v : Page) → Stays now v → forms_of v ≡ forms_of now
  forms-stay v s = λ i. forms_in (s.elements i) (s.definitions i) (s.forest i)

  due-there : (v : Page) (n : ℕ) → Stays now v → due_at n ≡ due old (form_change (forms_of old) (forms_of v) n)
  due-there v n s = ap (λ fs. due old (form_change (forms_of old) fs n)) (sym (forms-stay v s))

  pub exactly : (f : Step Work (Unit {0})) (fuel : ℕ) (v : Work) → TellAll f → f (record { page = now; fuel = fuel }) ≡ Goes tt v → TellsExactly old v.page
  exactly f fuel v tells e = record {
    told = λ n is.
        let a = after f fuel (Goes tt v) tells e n is in
        a.1 ∙ ap (λ rs. told_at old n ++ rs) (due-there v.page n a.0);
  }

  pub partly : (f : Step Work (Unit {0})) (fuel : ℕ) (v : Work) → TellAll f → f (record { page = now; fuel = fuel }) ≡ Spent v → TellsPart old v.page
  partly f fuel v tells e = record {
    told = λ n is.
        let a = after f fuel (Spent v) tells e n is in
        let p = a.1 in (
          length p.given,
          p.told ∙ ap (λ rs. told_at old n ++ rs)
              (sym (take_at p.given p.rest (length p.given) refl) ∙ ap (take (length p.given)) (p.parts ∙ due-there v.page n a.0)),
        );
  }

  -- where as many nodes are there, it is enough to tell each what all changes give to it
  pub told-all : (f : Step Work (Unit {0})) → size forest ≡ size old.forest →
      ((n : ℕ) → 0 < n → Tells now n (all_to (due now) n (form_changes old now)) f) → TellAll f
  told-all f same tells n is =
      tells_same (due-of_changes now (forms_of old) (forms_of now) n (record { low = is.low; high = omega (arith, is.high, same) })) (tells n is.low)

  pub all-positive : AllByRecursion (λ (c : Change). 0 < c.node) (form_changes old now)
  all-positive = changes-positive (forms_of old) (forms_of now)
