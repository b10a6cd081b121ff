-- A cell put behind the last cell of a chain.
use Rattle.std.proofs.Common.{rules, ◌≡◌, ◌≢◌, inl, inr, ℕ, List, [], ◌∷◌, refl, ap, sym, subst, ◌∙◌, Option, Some, None}
use Rattle.std.specs.Prelude.{IsSome}
use Rattle.std.proofs.lemmas.Bool.{cases_eq}
use Rattle.slab.specs.Slab.{Slab, get, Updates, ContainsKey, with_value}
use Rattle.slab.proofs.SlabLemmas.{Updates-with_value}
use Rattle.reaction_queue.specs.declared.reaction.Reaction.{Reaction}
use Rattle.reaction_queue.specs.declared.chain.Cell.{Cell}
use Rattle.reaction_queue.specs.declared.chain.Ends.{Ends}
use Rattle.reaction_queue.specs.Chains.{Link, last_key, with_last, cell_of, HasLinks, IsAmong, IsChain, SameFor}
use Rattle.reaction_queue.proofs.LinkLemmas.{next_in, place_in, ends_are, no_links, some_links, last_cell, last_among, last_of_longer, among_longer, end_among}

-- a chain got a last cell: that cell is new, the one that was the last leads to it, and all other cells stay
pub record GetsLast (old new : Slab Cell) (i last key : ℕ) (w : ℕ × Reaction) : Type 0 where
  pub was_vacant : get old key ≡ None
  pub there : get new key ≡ Some (cell_of i (record { key = key; waits = w }) None)
  pub leads : (z : Link) → get old last ≡ Some (cell_of i z None) → get new last ≡ Some (cell_of i z (Some key))
  pub others : (k : ℕ) → k ≢ key → k ≢ last → get new k ≡ get old k

-- no cell is where there is none
vacant : (s : Slab Cell) (key k : ℕ) (c : Cell) → get s key ≡ None → get s k ≡ Some c → k ≡ key → ⊥
vacant s key k c none found same =
    let clash : None ≡ Some c = sym none ∙ ap (get s) (sym same) ∙ found in
    absurd (cc clash)

-- a cell with a next is not the last
not_last : (s : Slab Cell) (i j k last next : ℕ) (l z : Link) → get s k ≡ Some (cell_of i l (Some next)) → get s last ≡ Some (cell_of j z None) → k ≡ last → ⊥
not_last s i j k last next l z found end same =
    let clash : Some next ≡ None = ap next_in (sym found ∙ ap (get s) same ∙ end) in
    absurd (cc clash)

longer_links : (old new : Slab Cell) (i key : ℕ) (w : ℕ × Reaction) (l : Link) (ls : List Link) → GetsLast old new i (last_key l.key ls) key w
    → HasLinks old i (l ∷ ls) → HasLinks new i (with_last (l ∷ ls) key w)
longer_links old new i key w l [] gets has = (gets.leads l has.0, (gets.there, tt))
longer_links old new i key w l (m ∷ ms) gets has =
    let z = last_cell old i m ms has.1 in (
      gets.others l.key (vacant old key l.key (cell_of i l (Some m.key)) gets.was_vacant has.0)
          (not_last old i i l.key (last_key m.key ms) m.key l z.0 has.0 z.1)
          ∙ has.0,
      longer_links old new i key w m ms gets has.1,
    )

-- the longer chain
pub longer : (old new : Slab Cell) (i key : ℕ) (w : ℕ × Reaction) (e : Ends) (ls : List Link) → GetsLast old new i e.last key w → IsChain old i (Some e) ls
    → IsChain new i (Some (record { first = e.first; last = key })) (with_last ls key w)
longer old new i key w e [] gets is = absurd (some_links old i e is)
longer old new i key w e (l ∷ ls) gets is =
    let ends = ends_are old i e l ls is in
    let at : e.last ≡ last_key l.key ls = ap (λ (x : Ends). x.last) ends in
    record {
      between = ap (λ (x : Ends). Some (record { first = x.first; last = key })) ends
          ∙ ap (λ end. Some (record { first = l.key; last = end })) (sym (last_of_longer l.key ls key w));
      cells = longer_links old new i key w l ls (subst (λ last. GetsLast old new i last key w) at gets) is.cells;
      all = λ k c found place. elim (cases_eq k key) [
        | inl same ↦ subst (λ x. IsAmong x (with_last (l ∷ ls) key w)) (sym same) (end_among (l ∷ ls) key w)
        | inr new_key ↦ elim (cases_eq k e.last) [
          | inl same ↦ among_longer k (l ∷ ls) key w (subst (λ x. IsAmong x (l ∷ ls)) (sym (same ∙ at)) (last_among l ls))
          | inr other ↦ among_longer k (l ∷ ls) key w (is.all k c (sym (gets.others k new_key other) ∙ found) place)
        ]
      ];
    }

-- the cells of other nodes
pub longer_others : (old new : Slab Cell) (i j key : ℕ) (w : ℕ × Reaction) (e : Ends) (ls : List Link) → GetsLast old new i e.last key w
    → IsChain old i (Some e) ls → j ≢ i → SameFor j old new
longer_others old new i j key w e [] gets is differs = absurd (some_links old i e is)
longer_others old new i j key w e (l ∷ ls) gets is differs =
    let ends = ends_are old i e l ls is in
    let z = last_cell old i l ls is.cells in
    let end : get old e.last ≡ Some (cell_of i z.0 None) = ap (λ (x : Ends). get old x.last) ends ∙ z.1 in
    record {
      stays = λ k c at found.
          gets.others k (vacant old key k c gets.was_vacant found)
          (λ same. differs (sym at ∙ ap (place_in i) (sym found ∙ ap (get old) same ∙ end)))
          ∙ found;
      was = λ k c at found.
          sym (gets.others k
          (λ same. differs (sym at ∙ ap (place_in i) (sym found ∙ ap (get new) same ∙ gets.there)))
          (λ same. differs (sym at ∙ ap (place_in i) (sym found ∙ ap (get new) same ∙ gets.leads z.0 end))))
          ∙ found;
    }

-- the first cell of a node
pub alone : (old new : Slab Cell) (i key : ℕ) (w : ℕ × Reaction) (ls : List Link)
    → Updates old new key (Some (cell_of i (record { key = key; waits = w }) None)) → IsChain old i None ls
    → IsChain new i (Some (record { first = key; last = key })) (with_last ls key w)
alone old new i key w (l ∷ ls) updates is = absurd (let none = no_links old i (l ∷ ls) is in cc none)
alone old new i key w [] updates is =
    record {
      between = refl;
      cells = (updates.changed, tt);
      all = λ k c found place. elim (cases_eq k key) [
        | inl same ↦ inl same
        | inr other ↦ absurd (is.all k c (sym (updates.others k other) ∙ found) place)
      ];
    }

-- what an insert and the write of a next make of the cells
pub gets_last : (s t : Slab Cell) (i last key : ℕ) (w : ℕ × Reaction) (d : Cell) → get s key ≡ None
    → Updates s t key (Some (cell_of i (record { key = key; waits = w }) None)) → Some d ≡ get t last → (last ≡ key → ⊥)
    → GetsLast s (with_value t last (record d { next = Some key })) i last key w
gets_last s t i last key w d none updates found differs =
    let present : ContainsKey t last = subst IsSome found (search rules) in
    let written = Updates-with_value t last (record d { next = Some key }) present in
    record {
      was_vacant = none;
      there = written.others key (λ same. differs (sym same)) ∙ updates.changed;
      leads = λ z end. written.changed ∙ ap (led_to (Some key)) (found ∙ updates.others last differs ∙ end);
      others = λ k new other. written.others k other ∙ updates.others k new;
    }
  where
    led_to : Option ℕ → Option Cell → Option Cell
    led_to next None = None
    led_to next (Some c) = Some (record c { next = next })

-- the last cell is not the new one
pub last_is_old : (s : Slab Cell) (i key : ℕ) (e : Ends) (ls : List Link) → get s key ≡ None → IsChain s i (Some e) ls → e.last ≡ key → ⊥
last_is_old s i key e [] none is same = absurd (some_links s i e is)
last_is_old s i key e (l ∷ ls) none is same =
    let ends = ends_are s i e l ls is in
    let z = last_cell s i l ls is.cells in
    vacant s key e.last (cell_of i z.0 None) none (ap (λ (x : Ends). get s x.last) ends ∙ z.1) same

-- and it is there after the insert
pub last_found : (s t : Slab Cell) (i key : ℕ) (w : ℕ × Reaction) (e : Ends) (ls : List Link) → get s key ≡ None
    → Updates s t key (Some (cell_of i (record { key = key; waits = w }) None)) → IsChain s i (Some e) ls → None ≡ get t e.last → ⊥
last_found s t i key w e [] none updates is lost = absurd (some_links s i e is)
last_found s t i key w e (l ∷ ls) none updates is lost =
    let ends = ends_are s i e l ls is in
    let z = last_cell s i l ls is.cells in
    let clash : None ≡ Some (cell_of i z.0 None) = lost ∙ updates.others e.last (last_is_old s i key e (l ∷ ls) none is) ∙ ap (λ (x : Ends). get s x.last) ends
    ∙ z.1 in
    absurd (cc clash)
