-- The chains of all nodes, side by side.
use Rattle.std.proofs.Common.{◌≡◌, ◌≢◌, ◌≤◌, ◌<◌, ◌+◌, inl, inr, ℕ, zero, suc, List, [], ◌∷◌, ◌++◌, length, get_or, set, map, refl, ap, sym, subst, ◌∙◌, arith}
use Rattle.std.proofs.Common.{Option, Some, None}
use Rattle.std.specs.List.{sum_by}
use Rattle.std.proofs.lemmas.Bool.{cases_eq}
use Rattle.std.proofs.lemmas.List.{ext_get_or, get_or-map, get_or-set_other, get_or-set_same, get_or_past, length-append, length-map, length-set}
use Rattle.std.proofs.lemmas.List.Sums.{sum_by-set, sum_by_push}
use Rattle.slab.specs.Slab.{Slab, get, slab_len}
use Rattle.reaction_queue.specs.declared.chain.Cell.{Cell}
use Rattle.reaction_queue.specs.declared.chain.Ends.{Ends}
use Rattle.reaction_queue.specs.Chains.{Link, links_between, links_of, padded, waiting_in, IsChain, SameFor, AreChains}
use Rattle.reaction_queue.specs.Trimmed.{trimmed}
use Rattle.reaction_queue.proofs.LinkLemmas.{chain_stays, no_links, read_links, some_links}
use Rattle.reaction_queue.proofs.TrimmedLemmas.{trimmed-push}

-- the chain of one node is another, and those of the other nodes stay
pub set_chain : (s t : Slab Cell) (ends : List (Option Ends)) (links : List (List Link)) (i : ℕ) (e : Option Ends) (ls : List Link)
    → AreChains s ends links → i < length ends → IsChain t i e ls → ((j : ℕ) → j ≢ i → SameFor j s t)
    → slab_len t + length (get_or links i []) ≡ slab_len s + length ls → AreChains t (set ends i e) (set links i ls)
set_chain s t ends links i e ls are there is others count =
    record {
      size = omega (arith, length-set ends i e, length-set links i ls, are.size);
      chains = λ j. elim (cases_eq j i) [
        | inl same ↦ subst (λ k. IsChain t k (get_or (set ends i e) k None) (get_or (set links i ls) k [])) (sym same)
            (rw (get_or-set_same ends i e None there, get_or-set_same links i ls [] (omega (arith, are.size))) is)
        | inr differs ↦ rw (get_or-set_other ends i j e None differs, get_or-set_other links i j ls [] differs)
            (chain_stays s t j (get_or ends j None) (get_or links j []) (others j differs) (are.chains j))
      ];
      count = omega (arith, count, are.count, sum_by-set length links i ls [] (omega (arith, are.size)));
    }

-- a chain reads as its links
read_between : (s : Slab Cell) (i : ℕ) (e : Option Ends) (ls : List Link) → IsChain s i e ls → length ls ≤ slab_len s → links_between s e ≡ ls
read_between s i None ls is enough = sym (no_links s i ls is)
read_between s i (Some e) [] is enough = absurd (some_links s i e is)
read_between s i (Some e) (l ∷ ls) is enough =
    ap (links_between s) is.between ∙ read_links s (slab_len s) i l ls is.cells enough

-- no chain has more links than all have together
at_most_all : (links : List (List Link)) (i : ℕ) → i < length links → length (get_or links i []) ≤ sum_by length links
at_most_all links i there = omega (arith, sum_by-set length links i [] [] there)

-- and so all read as theirs
pub all_read : (s : Slab Cell) (ends : List (Option Ends)) (links : List (List Link)) → AreChains s ends links → links_of s ends ≡ links
all_read s ends links are =
    ext_get_or [] (links_of s ends) links (length-map ends (links_between s) ∙ sym are.size)
    (λ i at. let there : i < length links = omega (arith, at, length-map ends (links_between s), are.size) in
    get_or-map (links_between s) ends i None [] (omega (arith, there, are.size))
    ∙ read_between s i (get_or ends i None) (get_or links i []) (are.chains i) (omega (arith, at_most_all links i there, are.count)))

pub as_read : (s : Slab Cell) (ends : List (Option Ends)) (links : List (List Link)) → AreChains s ends links → AreChains s ends (links_of s ends)
as_read s ends links are = subst (AreChains s ends) (sym (all_read s ends links are)) are

-- no chains at all
pub no_chains : (s : Slab Cell) (ends : List (Option Ends)) → s.slots ≡ [] → ends ≡ [] → AreChains s ends (links_of s ends)
no_chains s ends none no_ends = subst (λ es. AreChains s es (links_of s es)) (sym no_ends) (
    record {
      size = refl;
      chains = λ i. record {
        between = refl;
        cells = tt;
        all = λ key c found at. absurd (no_cell key c found);
      };
      count = rw none refl;
    })
  where
    no_cell : (key : ℕ) (c : Cell) → get s key ≡ Some c → ⊥
    no_cell key c found =
        let nowhere : None ≡ Some c = ap (λ slots. get_or slots key None) (sym none) ∙ found in
        absurd (cc nowhere)

-- empty chains more

none_more : {A : Type 0} (x : A) (xs : List A) (i : ℕ) → get_or (xs ++ x ∷ []) i x ≡ get_or xs i x
none_more x [] zero = refl
none_more x [] (suc i) = get_or_past [] i x (omega arith)
none_more x (y ∷ xs) zero = refl
none_more x (y ∷ xs) (suc i) = none_more x xs i

one_more : (s : Slab Cell) (ends : List (Option Ends)) (links : List (List Link)) → AreChains s ends links → AreChains s (ends ++ None ∷ []) (links ++ [] ∷ [])
one_more s ends links are =
    record {
      size = omega (arith, are.size, length-append links ([] ∷ []), length-append ends (None ∷ []));
      chains = λ i. rw (none_more None ends i, none_more [] links i) (are.chains i);
      count = omega (arith, are.count, sum_by_push length links []);
    }

pub padded_chains : (s : Slab Cell) (ends : List (Option Ends)) (links : List (List Link)) (n : ℕ) → AreChains s ends links
    → AreChains s (padded None ends n) (padded [] links n)
padded_chains s ends links zero are = are
padded_chains s ends links (suc n) are =
    one_more s (padded None ends n) (padded [] links n) (padded_chains s ends links n are)

pub padded_view : (links : List (List Link)) (n : ℕ) → trimmed (map waiting_in (padded [] links n)) ≡ trimmed (map waiting_in links)
padded_view links zero = refl
padded_view links (suc n) =
    ap trimmed (pushed (padded [] links n)) ∙ trimmed-push (map waiting_in (padded [] links n)) ∙ padded_view links n
  where
    pushed : (links : List (List Link)) → map waiting_in (links ++ [] ∷ []) ≡ map waiting_in links ++ [] ∷ []
    pushed [] = refl
    pushed (ls ∷ links) = ap (λ rest. waiting_in ls ∷ rest) (pushed links)

-- the room of a slab is nothing to its chains
pub with_room : (s t : Slab Cell) (ends : List (Option Ends)) (links : List (List Link)) → t ≡ record s { capacity = t.capacity } → AreChains s ends links
    → AreChains t ends links
with_room s t ends links same are = subst (λ x. AreChains x ends links) (sym same) (room t.capacity)
  where
    room : (n : ℕ) → AreChains (record s { capacity = n }) ends links
    room n =
        record {
          size = are.size;
          chains = λ i. record {
            between = (are.chains i).between;
            cells = (chain_stays s (record s { capacity = n }) i (get_or ends i None) (get_or links i []) (stays i n) (are.chains i)).cells;
            all = (are.chains i).all;
          };
          count = are.count;
        }
      where
        stays : (i n : ℕ) → SameFor i s (record s { capacity = n })
        stays i n = record { stays = λ key c at found. found; was = λ key c at found. found }
