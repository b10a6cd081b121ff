-- The waiting reactions as cells of one slab. Those of a node are a chain: each cell has the key of the next.
use Rattle.std.specs.Prelude.{◌≡◌, ◌⊎◌, ◌+◌, ◌==◌, if◌then◌else◌, ⊤, ℕ, zero, suc, List, [], ◌∷◌, ◌++◌, length, map, Option, Some, None, slice_index_or}
use Rattle.std.specs.List.{sum_by}
use Rattle.slab.specs.Slab.{Slab, get, slab_len}
use Rattle.reaction_queue.specs.declared.reaction.Reaction.{Reaction}
use Rattle.reaction_queue.specs.declared.chain.Cell.{Cell}
use Rattle.reaction_queue.specs.declared.chain.Ends.{Ends}

-- one cell of a chain, as the chain sees it: its key, and the reaction that waits there, with its number
pub record Link : Type 0 where
  pub key : ℕ
  pub waits : ℕ × Reaction

abbrev pub first_key : List Link → Option ℕ
first_key [] = None
first_key (l ∷ ls) = Some l.key

-- the key of the last link, behind a link of this key
abbrev pub last_key : ℕ → List Link → ℕ
last_key key [] = key
last_key key (l ∷ ls) = last_key l.key ls

-- the keys of the first link and of the last
abbrev pub ends_of : List Link → Option Ends
ends_of [] = None
ends_of (l ∷ ls) = Some (record { first = l.key; last = last_key l.key ls })

-- what is left of a chain behind its first cell, whose next is this
abbrev pub ends_behind : Option ℕ → ℕ → Option Ends
ends_behind None last = None
ends_behind (Some first) last = Some (record { first = first; last = last })

-- one link more, at the end
abbrev pub with_last : List Link → ℕ → ℕ × Reaction → List Link
with_last links key waits = links ++ record { key = key; waits = waits } ∷ []

-- the cell of a link of the node at this place, with the key of the next
abbrev pub cell_of : ℕ → Link → Option ℕ → Cell
cell_of place l next = record { place = place; number = l.waits.0; reaction = l.waits.1; next = next }

-- each link is a cell of the node at this place, which has the key of the next link
abbrev pub HasLinks : Slab Cell → ℕ → List Link → Type 0
HasLinks s place [] = ⊤
HasLinks s place (l ∷ ls) = (get s l.key ≡ Some (cell_of place l (first_key ls))) × HasLinks s place ls

abbrev pub IsAmong : ℕ → List Link → Type 0
IsAmong key [] = ⊥
IsAmong key (l ∷ ls) = (key ≡ l.key) ⊎ IsAmong key ls

-- how often a key comes in a chain
abbrev pub times : ℕ → List Link → ℕ
times key [] = 0
times key (l ∷ ls) = (if key == l.key then 1 else 0) + times key ls

-- these links, between these ends, are the cells of the node at this place, and all of them
pub record IsChain (s : Slab Cell) (place : ℕ) (ends : Option Ends) (links : List Link) : Type 0 where
  pub between : ends ≡ ends_of links
  pub cells : HasLinks s place links
  pub all : (key : ℕ) (c : Cell) → get s key ≡ Some c → c.place ≡ place → IsAmong key links

-- the cells of the node at this place stay as they are, and none is added
pub record SameFor (place : ℕ) (old new : Slab Cell) : Type 0 where
  pub stays : (key : ℕ) (c : Cell) → c.place ≡ place → get old key ≡ Some c → get new key ≡ Some c
  pub was : (key : ℕ) (c : Cell) → c.place ≡ place → get new key ≡ Some c → get old key ≡ Some c

-- the links from a key on, at most so many

abbrev pub behind : Option ℕ → (ℕ → List Link) → List Link
behind None read = []
behind (Some next) read = read next

abbrev pub linked : ℕ → Option Cell → (ℕ → List Link) → List Link
linked key None read = []
linked key (Some c) read = record { key = key; waits = (c.number, c.reaction) } ∷ behind c.next read

abbrev pub links_from : ℕ → Slab Cell → ℕ → List Link
links_from zero s key = []
links_from (suc n) s key = linked key (get s key) (links_from n s)

abbrev pub links_between : Slab Cell → Option Ends → List Link
links_between s None = []
links_between s (Some e) = links_from (slab_len s) s e.first

abbrev pub links_of : Slab Cell → List (Option Ends) → List (List Link)
links_of s ends = map (links_between s) ends

-- the chains of all nodes have these links, and together as many as there are cells
pub record AreChains (s : Slab Cell) (ends : List (Option Ends)) (links : List (List Link)) : Type 0 where
  pub size : length links ≡ length ends
  pub chains : (i : ℕ) → IsChain s i (slice_index_or ends i None) (slice_index_or links i [])
  pub count : slab_len s ≡ sum_by length links

-- what waits along the links
abbrev pub waiting_in : List Link → List (ℕ × Reaction)
waiting_in links = map (λ l. l.waits) links

-- a list with so many of one thing more behind it
abbrev pub padded : {A : Type 0} → A → List A → ℕ → List A
padded x xs zero = xs
padded x xs (suc n) = padded x xs n ++ x ∷ []
