-- The links of one chain.
use Rattle.std.proofs.Common.{◌≡◌, ◌≤◌, ◌<◌, inl, inr, ℕ, zero, suc, List, [], ◌∷◌, ◌++◌, length, refl, ap, sym, ◌∙◌, arith, Option, Some, None}
use Rattle.slab.specs.Slab.{Slab, get}
use Rattle.reaction_queue.specs.declared.reaction.Reaction.{Reaction}
use Rattle.reaction_queue.specs.declared.chain.Cell.{Cell}
use Rattle.reaction_queue.specs.declared.chain.Ends.{Ends}
use Rattle.reaction_queue.specs.Chains.{Link, first_key, last_key, ends_of, ends_behind, with_last, cell_of, HasLinks, IsAmong, IsChain, SameFor, linked}
use Rattle.reaction_queue.specs.Chains.{links_from, waiting_in}

-- what is read in a cell, if there is one

abbrev pub next_in : Option Cell → Option ℕ
next_in None = None
next_in (Some c) = c.next

abbrev pub place_in : ℕ → Option Cell → ℕ
place_in i None = i
place_in i (Some c) = c.place

-- a chain without ends has no links, and one with ends has some

pub no_links : (s : Slab Cell) (i : ℕ) (ls : List Link) → IsChain s i None ls → ls ≡ []
no_links s i [] is = refl
no_links s i (l ∷ ls) is = absurd (let ends = is.between in cc ends)

pub some_links : (s : Slab Cell) (i : ℕ) (e : Ends) → IsChain s i (Some e) [] → ⊥
some_links s i e is = absurd (let ends = is.between in cc ends)

pub ends_are : (s : Slab Cell) (i : ℕ) (e : Ends) (l : Link) (ls : List Link) → IsChain s i (Some e) (l ∷ ls)
    → e ≡ record { first = l.key; last = last_key l.key ls }
ends_are s i e l ls is = let ends = is.between in cc ends

-- a link's cell is at the place of the node
pub placed : (s : Slab Cell) (i key : ℕ) (c : Cell) (ls : List Link) → HasLinks s i ls → IsAmong key ls → get s key ≡ Some c → c.place ≡ i
placed s i key c [] has among found = absurd among
placed s i key c (l ∷ ls) has (inl same) found =
    ap (place_in i) (sym found ∙ ap (get s) same ∙ has.0)
placed s i key c (l ∷ ls) has (inr later) found = placed s i key c ls has.1 later found

-- links whose cells stay
pub has_stays : (s t : Slab Cell) (i : ℕ) (ls : List Link) → ((key : ℕ) (c : Cell) → IsAmong key ls → c.place ≡ i → get s key ≡ Some c → get t key ≡ Some c)
    → HasLinks s i ls → HasLinks t i ls
has_stays s t i [] stays has = has
has_stays s t i (l ∷ ls) stays has = (
  stays l.key (cell_of i l (first_key ls)) (inl refl) refl has.0,
  has_stays s t i ls (λ key c among. stays key c (inr among)) has.1,
)

pub chain_stays : (s t : Slab Cell) (i : ℕ) (e : Option Ends) (ls : List Link) → SameFor i s t → IsChain s i e ls → IsChain t i e ls
chain_stays s t i e ls same is =
    record {
      between = is.between;
      cells = has_stays s t i ls (λ key c among. same.stays key c) is.cells;
      all = λ key c found at. is.all key c (same.was key c at found) at;
    }

-- links from one key on are as many
pub same_length : (s : Slab Cell) (i j : ℕ) (ls ms : List Link) → HasLinks s i ls → HasLinks s j ms → first_key ls ≡ first_key ms → length ls ≡ length ms
same_length s i j [] [] has and_has first = refl
same_length s i j [] (m ∷ ms) has and_has first = absurd (cc first)
same_length s i j (l ∷ ls) [] has and_has first = absurd (cc first)
same_length s i j (l ∷ ls) (m ∷ ms) has and_has first =
    let key : l.key ≡ m.key = cc first in
    let next : first_key ls ≡ first_key ms = ap next_in (sym has.0 ∙ ap (get s) key ∙ and_has.0) in
    ap suc (same_length s i j ls ms has.1 and_has.1 next)

-- so the first key of longer links is not among fewer ones
pub not_among : (s : Slab Cell) (i j : ℕ) (ms ls : List Link) (key : ℕ) → HasLinks s i ms → HasLinks s j ls → first_key ls ≡ Some key → length ms < length ls
    → IsAmong key ms → ⊥
not_among s i j [] ls key has and_has first shorter among = among
not_among s i j (m ∷ ms) ls key has and_has first shorter (inl same) =
    omega (arith, same_length s i j (m ∷ ms) ls has and_has (sym (first ∙ ap (λ k. Some k) same)))
not_among s i j (m ∷ ms) ls key has and_has first shorter (inr later) =
    not_among s i j ms ls key has.1 and_has first (omega arith) later

pub first_once : (s : Slab Cell) (i : ℕ) (l : Link) (ls : List Link) → HasLinks s i (l ∷ ls) → IsAmong l.key ls → ⊥
first_once s i l ls has among =
    not_among s i i ls (l ∷ ls) l.key has.1 has refl (omega arith) among

-- the last of the links

pub last_cell : (s : Slab Cell) (i : ℕ) (l : Link) (ls : List Link) → HasLinks s i (l ∷ ls) → (z : Link) × (get s (last_key l.key ls) ≡ Some (cell_of i z None))
last_cell s i l [] has = (l, has.0)
last_cell s i l (m ∷ ms) has = last_cell s i m ms has.1

pub last_among : (l : Link) (ls : List Link) → IsAmong (last_key l.key ls) (l ∷ ls)
last_among l [] = inl refl
last_among l (m ∷ ms) = inr (last_among m ms)

pub last_of_longer : (key : ℕ) (ls : List Link) (end : ℕ) (w : ℕ × Reaction) → last_key key (with_last ls end w) ≡ end
last_of_longer key [] end w = refl
last_of_longer key (l ∷ ls) end w = last_of_longer l.key ls end w

pub among_longer : (key : ℕ) (ls : List Link) (end : ℕ) (w : ℕ × Reaction) → IsAmong key ls → IsAmong key (with_last ls end w)
among_longer key [] end w among = absurd among
among_longer key (l ∷ ls) end w (inl same) = inl same
among_longer key (l ∷ ls) end w (inr later) = inr (among_longer key ls end w later)

pub end_among : (ls : List Link) (end : ℕ) (w : ℕ × Reaction) → IsAmong end (with_last ls end w)
end_among [] end w = inl refl
end_among (l ∷ ls) end w = inr (end_among ls end w)

-- the ends of what is left behind a first link
pub ends_left : (l : Link) (ls : List Link) → ends_behind (first_key ls) (last_key l.key ls) ≡ ends_of ls
ends_left l [] = refl
ends_left l (m ∷ ms) = refl

-- what is read from the first key on
pub read_links : (s : Slab Cell) (n i : ℕ) (l : Link) (ls : List Link) → HasLinks s i (l ∷ ls) → length (l ∷ ls) ≤ n → links_from n s l.key ≡ l ∷ ls
read_links s zero i l ls has enough = absurd (omega arith)
read_links s (suc n) i l [] has enough = ap (λ c. linked l.key c (links_from n s)) has.0
read_links s (suc n) i l (m ∷ ms) has enough =
    ap (λ c. linked l.key c (links_from n s)) has.0
    ∙ ap (λ rest. l ∷ rest) (read_links s n i m ms has.1 (omega arith))

-- what waits along longer links
pub waiting_longer : (ls : List Link) (end : ℕ) (w : ℕ × Reaction) → waiting_in (with_last ls end w) ≡ waiting_in ls ++ w ∷ []
waiting_longer [] end w = refl
waiting_longer (l ∷ ls) end w = ap (λ rest. l.waits ∷ rest) (waiting_longer ls end w)
