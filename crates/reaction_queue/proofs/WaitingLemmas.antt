-- What waits, as the lists of a contract, after a change of the chains.
use Rattle.std.proofs.Common.{◌≡◌, ◌≢◌, ◌<◌, ◌+◌, ℕ, List, [], ◌∷◌, ◌++◌, length, get_or, set, map, refl, ap, sym, subst, ◌∙◌, arith, Option, Some, None}
use Rattle.std.proofs.lemmas.List.{get_or-map, get_or_default, length-append, length-map, map-set}
use Rattle.slab.specs.Slab.{Slab, slab_len, ContainsKey}
use Rattle.reaction_queue.specs.declared.reaction.Reaction.{Reaction}
use Rattle.reaction_queue.specs.declared.chain.Cell.{Cell}
use Rattle.reaction_queue.specs.declared.chain.Ends.{Ends}
use Rattle.reaction_queue.specs.Chains.{Link, links_between, links_of, padded, waiting_in, with_last, IsChain, SameFor, AreChains}
use Rattle.reaction_queue.specs.Queues.{list_at, with_list}
use Rattle.reaction_queue.specs.Trimmed.{trimmed}
use Rattle.reaction_queue.proofs.LinkLemmas.{no_links, some_links, waiting_longer}
use Rattle.reaction_queue.proofs.TakeLemmas.{first_present}
use Rattle.reaction_queue.proofs.SideLemmas.{all_read, as_read, padded_chains, padded_view, set_chain}
use Rattle.reaction_queue.proofs.TrimmedLemmas.{appends, list_at-read, takes_first, takes_others}

-- the lists of what waits
abbrev pub view_of : Slab Cell → List (Option Ends) → List (List (ℕ × Reaction))
view_of s ends = trimmed (map waiting_in (links_of s ends))

-- after empty chains came behind
pub record Widened (s : Slab Cell) (ends wider : List (Option Ends)) : Type 0 where
  pub are : AreChains s wider (links_of s wider)
  pub same : view_of s wider ≡ view_of s ends

pub widened : (s : Slab Cell) (ends wider : List (Option Ends)) → ((n : ℕ) × (wider ≡ padded None ends n)) → AreChains s ends (links_of s ends)
    → Widened s ends wider
widened s ends wider more are =
    let there : AreChains s wider (padded [] (links_of s ends) more.0) =
    subst (λ es. AreChains s es (padded [] (links_of s ends) more.0)) (sym more.1) (padded_chains s ends (links_of s ends) more.0 are) in
    record {
      are = as_read s wider (padded [] (links_of s ends) more.0) there;
      same = ap (λ links. trimmed (map waiting_in links)) (all_read s wider (padded [] (links_of s ends) more.0) there) ∙ padded_view (links_of s ends) more.0;
    }

-- the chain that is found in its place
pub chain_at : (s : Slab Cell) (ends : List (Option Ends)) (i : ℕ) (found : Option Ends) → AreChains s ends (links_of s ends) → i < length ends
    → found ≡ get_or ends i found → IsChain s i found (get_or (links_of s ends) i [])
chain_at s ends i found are there read =
    subst (λ e. IsChain s i e (get_or (links_of s ends) i [])) (get_or_default ends i None found there ∙ sym read) (are.chains i)

-- one chain is another
set_view : (s : Slab Cell) (ends : List (Option Ends)) (links : List (List Link)) (i : ℕ) (ls : List Link) → AreChains s ends (set links i ls)
    → view_of s ends ≡ trimmed (set (map waiting_in links) i (waiting_in ls))
set_view s ends links i ls are =
    ap (λ all. trimmed (map waiting_in all)) (all_read s ends (set links i ls) are) ∙ ap trimmed (map-set waiting_in links i ls)

-- a reaction is put behind the others of its node
pub put_chains : (s t : Slab Cell) (ends : List (Option Ends)) (i : ℕ) (found : Option Ends) (e : Ends) (w : ℕ × Reaction) → AreChains s ends (links_of s ends)
    → i < length ends → found ≡ get_or ends i found
    → ((links : List Link) → IsChain s i found links → IsChain t i (Some e) (with_last links e.last w))
    → ((links : List Link) (j : ℕ) → IsChain s i found links → j ≢ i → SameFor j s t)
    → slab_len t ≡ slab_len s + 1 → AreChains t (set ends i (Some e)) (set (links_of s ends) i (with_last (get_or (links_of s ends) i []) e.last w))
put_chains s t ends i found e w are there read longer others count =
    let ls : List Link = get_or (links_of s ends) i [] in
    let is = chain_at s ends i found are there read in
    let more : length (with_last ls e.last w) ≡ length ls + 1 = length-append ls (record { key = e.last; waits = w } ∷ []) in
    set_chain s t ends (links_of s ends) i (Some e) (with_last ls e.last w) are there (longer ls is) (λ j. others ls j is) (omega (arith, count, more))

pub put_view : (s t : Slab Cell) (ends : List (Option Ends)) (i : ℕ) (e : Ends) (w : ℕ × Reaction) → i < length ends
    → AreChains t (set ends i (Some e)) (set (links_of s ends) i (with_last (get_or (links_of s ends) i []) e.last w))
    → view_of t (set ends i (Some e)) ≡ with_list i (list_at i (view_of s ends) ++ w ∷ []) (view_of s ends)
put_view s t ends i e w there are =
    let links : List (List Link) = links_of s ends in
    let ls : List Link = get_or links i [] in
    let within : i < length links = omega (arith, length-map ends (links_between s)) in
    set_view t (set ends i (Some e)) links i (with_last ls e.last w) are
    ∙ appends (map waiting_in links) i (waiting_in ls) (waiting_in (with_last ls e.last w)) w (omega (arith, within, length-map links waiting_in))
    (sym (get_or-map waiting_in links i [] (waiting_in ls) within)) (waiting_longer ls e.last w)

-- the first reaction of a node is taken

pub record Taken (s t : Slab Cell) (ends : List (Option Ends)) (i : ℕ) (rest : Option Ends) (w : ℕ × Reaction) : Type 0 where
  pub left : List Link
  pub were : waiting_in (get_or (links_of s ends) i []) ≡ w ∷ waiting_in left
  pub are : AreChains t (set ends i rest) (set (links_of s ends) i left)

pub taken : (s t : Slab Cell) (ends : List (Option Ends)) (i : ℕ) (found : Option Ends) (e : Ends) (rest : Option Ends) (w : ℕ × Reaction)
    → AreChains s ends (links_of s ends) → i < length ends → found ≡ get_or ends i found
    → found ≡ Some e
    → ((i : ℕ) (l : Link) (ls : List Link) → IsChain s i (Some e) (l ∷ ls) → w ≡ l.waits)
    → ((i : ℕ) (l : Link) (ls : List Link) → IsChain s i (Some e) (l ∷ ls) → IsChain t i rest ls)
    → ((i j : ℕ) (l : Link) (ls : List Link) → IsChain s i (Some e) (l ∷ ls) → j ≢ i → SameFor j s t)
    → slab_len t + 1 ≡ slab_len s → Taken s t ends i rest w
taken s t ends i found e rest w are there read some first behind others count =
    by_links (get_or (links_of s ends) i []) refl (subst (λ o. IsChain s i o (get_or (links_of s ends) i [])) some (chain_at s ends i found are there read))
  where
    by_links : (links : List Link) → get_or (links_of s ends) i [] ≡ links → IsChain s i (Some e) links → Taken s t ends i rest w
    by_links [] same is = absurd (some_links s i e is)
    by_links (l ∷ ls) same is =
        record {
          left = ls;
          were = ap waiting_in same ∙ ap (λ x. x ∷ waiting_in ls) (sym (first i l ls is));
          are = set_chain s t ends (links_of s ends) i rest ls are there (behind i l ls is) (λ j. others i j l ls is) (omega (arith, count, ap length same));
        }

-- the chain that is taken from has a first cell
pub has_first : (s : Slab Cell) (ends : List (Option Ends)) (i : ℕ) (found : Option Ends) (e : Ends) → AreChains s ends (links_of s ends) → i < length ends
    → found ≡ get_or ends i found → found ≡ Some e → ContainsKey s e.first
has_first s ends i found e are there read some =
    first_present s i e (get_or (links_of s ends) i [])
    (subst (λ o. IsChain s i o (get_or (links_of s ends) i [])) some (chain_at s ends i found are there read))

within_lists : (s : Slab Cell) (ends : List (Option Ends)) (i : ℕ) → i < length ends → i < length (map waiting_in (links_of s ends))
within_lists s ends i there = omega (arith, length-map ends (links_between s), length-map (links_of s ends) waiting_in)

taken_read : (s t : Slab Cell) (ends : List (Option Ends)) (i : ℕ) (rest : Option Ends) (w : ℕ × Reaction) → i < length ends → (k : Taken s t ends i rest w)
    → w ∷ waiting_in k.left ≡ get_or (map waiting_in (links_of s ends)) i (w ∷ waiting_in k.left)
taken_read s t ends i rest w there k =
    sym k.were ∙ sym (get_or-map waiting_in (links_of s ends) i [] (w ∷ waiting_in k.left) (omega (arith, length-map ends (links_between s))))

-- and what a contract sees of that
pub record Takes (s t : Slab Cell) (ends : List (Option Ends)) (i : ℕ) (rest : Option Ends) (w : ℕ × Reaction) : Type 0 where
  pub are : AreChains t (set ends i rest) (links_of t (set ends i rest))
  pub first : list_at i (view_of s ends) ≡ w ∷ list_at i (view_of t (set ends i rest))
  pub others : view_of t (set ends i rest) ≡ with_list i (list_at i (view_of t (set ends i rest))) (view_of s ends)

pub takes : (s t : Slab Cell) (ends : List (Option Ends)) (i : ℕ) (rest : Option Ends) (w : ℕ × Reaction) → i < length ends → Taken s t ends i rest w
    → Takes s t ends i rest w
takes s t ends i rest w there k =
    let lists : List (List (ℕ × Reaction)) = map waiting_in (links_of s ends) in
    let seen : view_of t (set ends i rest) ≡ trimmed (set lists i (waiting_in k.left)) = set_view t (set ends i rest) (links_of s ends) i k.left k.are in
    let within = within_lists s ends i there in
    let read = taken_read s t ends i rest w there k in
    let first : list_at i (trimmed lists) ≡ w ∷ list_at i (trimmed (set lists i (waiting_in k.left))) =
    takes_first lists i (w ∷ waiting_in k.left) (waiting_in k.left) (Some w) within read refl in
    let others : trimmed (set lists i (waiting_in k.left)) ≡ with_list i (list_at i (trimmed (set lists i (waiting_in k.left)))) (trimmed lists) =
    takes_others lists i (w ∷ waiting_in k.left) (waiting_in k.left) (Some w) within read refl in
    record {
      are = as_read t (set ends i rest) (set (links_of s ends) i k.left) k.are;
      first = first ∙ ap (λ v. w ∷ list_at i v) (sym seen);
      others = subst (λ v. v ≡ with_list i (list_at i v) (trimmed lists)) (sym seen) others;
    }

-- none waits where a chain has no ends
pub none_waits : (s : Slab Cell) (ends : List (Option Ends)) (i : ℕ) (found : Option Ends) → AreChains s ends (links_of s ends) → i < length ends
    → found ≡ get_or ends i found → found ≡ None → list_at i (view_of s ends) ≡ []
none_waits s ends i found are there read none =
    list_at-read i (map waiting_in (links_of s ends)) [] (within_lists s ends i there)
    (sym (get_or-map waiting_in (links_of s ends) i [] [] (omega (arith, length-map ends (links_between s)))
    ∙ ap waiting_in (no_links s i (get_or (links_of s ends) i [])
    (subst (λ o. IsChain s i o (get_or (links_of s ends) i [])) none (chain_at s ends i found are there read)))))
