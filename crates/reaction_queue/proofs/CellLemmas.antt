-- Each cell is in one chain, and there once.
use Rattle.std.proofs.Common.{◌≡◌, ◌≢◌, inl, inr, ℕ, List, [], ◌∷◌, get_or, refl, sym, ap, ◌∙◌, subst, arith, Option, Some, None}
use Rattle.std.proofs.lemmas.Bool.{cases_eq}
use Rattle.std.proofs.lemmas.Bool.Decides.{nat_tests}
use Rattle.slab.specs.Slab.{Slab, get}
use Rattle.reaction_queue.specs.declared.chain.Cell.{Cell}
use Rattle.reaction_queue.specs.declared.chain.Ends.{Ends}
use Rattle.reaction_queue.specs.Chains.{Link, cell_of, first_key, HasLinks, IsAmong, AreChains, times}
use Rattle.reaction_queue.proofs.LinkLemmas.{first_once, placed}

never : (key : ℕ) (ls : List Link) → (IsAmong key ls → ⊥) → times key ls ≡ 0
never key [] absent = refl
never key (l ∷ ls) absent =
    let later = never key ls (λ among. absent (inr among)) in
    let other : key ≢ l.key = λ same. absent (inl same) in
    grind (arith, nat_tests, later, other)

once : (s : Slab Cell) (i key : ℕ) (ls : List Link) → HasLinks s i ls → IsAmong key ls → times key ls ≡ 1
once s i key [] has among = absurd among
once s i key (l ∷ ls) has among = elim (cases_eq key l.key) [
  | inl same ↦
      let later = never key ls (λ among. first_once s i l ls has (subst (λ k. IsAmong k ls) same among)) in
      grind (arith, nat_tests, later, same)
  | inr other ↦
      let later = once s i key ls has.1 (behind among other) in
      grind (arith, nat_tests, later, other)
]
  where
    behind : IsAmong key (l ∷ ls) → key ≢ l.key → IsAmong key ls
    behind (inl same) other = absurd (other same)
    behind (inr among) other = among

pub once_in_its_own : (s : Slab Cell) (ends : List (Option Ends)) (links : List (List Link)) (key : ℕ) (c : Cell) → AreChains s ends links → get s key ≡ Some c
    → times key (get_or links c.place []) ≡ 1
once_in_its_own s ends links key c are found =
    once s c.place key (get_or links c.place []) (are.chains c.place).cells ((are.chains c.place).all key c found refl)

pub never_in_another : (s : Slab Cell) (ends : List (Option Ends)) (links : List (List Link)) (key i : ℕ) (c : Cell) → AreChains s ends links
    → get s key ≡ Some c → i ≢ c.place → times key (get_or links i []) ≡ 0
never_in_another s ends links key i c are found differs =
    never key (get_or links i []) (λ among. differs (sym (placed s i key c (get_or links i []) (are.chains i).cells among found)))

-- a key of a chain has a cell
cell_found : (s : Slab Cell) (i key : ℕ) (ls : List Link) → HasLinks s i ls → IsAmong key ls → get s key ≡ None → ⊥
cell_found s i key [] has among none = among
cell_found s i key (l ∷ ls) has (inl same) none =
    let clash : None ≡ Some (cell_of i l (first_key ls)) = sym none ∙ ap (get s) same ∙ has.0 in
    absurd (cc clash)
cell_found s i key (l ∷ ls) has (inr later) none = cell_found s i key ls has.1 later none

pub never_without_a_cell : (s : Slab Cell) (ends : List (Option Ends)) (links : List (List Link)) (key i : ℕ) → AreChains s ends links → get s key ≡ None
    → times key (get_or links i []) ≡ 0
never_without_a_cell s ends links key i are none =
    never key (get_or links i []) (λ among. cell_found s i key (get_or links i []) (are.chains i).cells among none)
