-- The first cell of a chain taken.
use Rattle.std.proofs.Common.{rules, ◌≡◌, ◌≢◌, inl, inr, ℕ, List, [], ◌∷◌, ap, sym, subst, ◌∙◌, Option, Some, None}
use Rattle.std.specs.Prelude.{IsSome}
use Rattle.slab.specs.Slab.{Slab, get, Updates, ContainsKey}
use Rattle.reaction_queue.specs.declared.reaction.Reaction.{Reaction}
use Rattle.reaction_queue.specs.declared.chain.Cell.{Cell}
use Rattle.reaction_queue.specs.declared.chain.Ends.{Ends}
use Rattle.reaction_queue.specs.Chains.{Link, first_key, ends_behind, cell_of, IsAmong, IsChain, SameFor}
use Rattle.reaction_queue.proofs.LinkLemmas.{next_in, place_in, ends_are, some_links, has_stays, first_once, ends_left}

-- the first cell is that of the first link
first_cell : (s : Slab Cell) (i : ℕ) (e : Ends) (l : Link) (ls : List Link) → IsChain s i (Some e) (l ∷ ls) → get s e.first ≡ Some (cell_of i l (first_key ls))
first_cell s i e l ls is = ap (λ (x : Ends). get s x.first) (ends_are s i e l ls is) ∙ is.cells.0

pub first_present : (s : Slab Cell) (i : ℕ) (e : Ends) (ls : List Link) → IsChain s i (Some e) ls → ContainsKey s e.first
first_present s i e [] is = absurd (some_links s i e is)
first_present s i e (l ∷ ls) is = subst IsSome (sym (first_cell s i e l ls is)) (search rules)

pub taken_waits : (s : Slab Cell) (i : ℕ) (e : Ends) (d : Cell) (l : Link) (ls : List Link) → get s e.first ≡ Some d → IsChain s i (Some e) (l ∷ ls)
    → (d.number, d.reaction) ≡ l.waits
taken_waits s i e d l ls found is = ap (waits_in l.waits) (sym found ∙ first_cell s i e l ls is)
  where
    waits_in : ℕ × Reaction → Option Cell → ℕ × Reaction
    waits_in w None = w
    waits_in w (Some c) = (c.number, c.reaction)

-- a cell that is left is not the one that is gone
is_left : (s t : Slab Cell) (gone k : ℕ) (c : Cell) → Updates s t gone None → get t k ≡ Some c → k ≢ gone
is_left s t gone k c updates here same =
    let clash : None ≡ Some c = sym updates.changed ∙ ap (get t) (sym same) ∙ here in
    absurd (cc clash)

pub taken_rest : (s t : Slab Cell) (i : ℕ) (e : Ends) (d : Cell) (l : Link) (ls : List Link) → get s e.first ≡ Some d → Updates s t e.first None
    → IsChain s i (Some e) (l ∷ ls) → IsChain t i (ends_behind d.next e.last) ls
taken_rest s t i e d l ls found updates is =
    let ends = ends_are s i e l ls is in
    let key : e.first ≡ l.key = ap (λ (x : Ends). x.first) ends in
    record {
      between = ap (λ next. ends_behind next e.last) (ap next_in (sym found ∙ first_cell s i e l ls is))
          ∙ ap (λ (x : Ends). ends_behind (first_key ls) x.last) ends ∙ ends_left l ls;
      cells = has_stays s t i ls (λ k c among at here. updates.others k (λ same. first_once s i l ls is.cells (subst (λ x. IsAmong x ls) (same ∙ key) among))
          ∙ here) is.cells.1;
      all = λ k c here at. (let gone = is_left s t e.first k c updates here in elim (is.all k c (sym (updates.others k gone) ∙ here) at) [
        | inl same ↦ absurd (gone (same ∙ sym key))
        | inr later ↦ later
      ]);
    }

pub taken_others : (s t : Slab Cell) (i j : ℕ) (e : Ends) (l : Link) (ls : List Link) → Updates s t e.first None → IsChain s i (Some e) (l ∷ ls) → j ≢ i
    → SameFor j s t
taken_others s t i j e l ls updates is differs =
    record {
      stays = λ k c at found. updates.others k (λ same. differs (sym at ∙ ap (place_in i) (sym found ∙ ap (get s) same ∙ first_cell s i e l ls is))) ∙ found;
      was = λ k c at found. sym (updates.others k (is_left s t e.first k c updates found)) ∙ found;
    }
