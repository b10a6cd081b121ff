-- Lists of controls that are made anew, a form at a time.
use Rattle.std.proofs.Common.{◌≡◌, ◌≢◌, ℕ, ◌+◌, ◌-◌, ◌==◌, true, false, List, [], ◌∷◌, ◌++◌, take, get_or, Some, sym, ap, ◌∙◌, subst, arith, inl, inr}
use Rattle.std.specs.Prelude.{◌||◌, slice_get}
use Rattle.std.proofs.lemmas.Bool.{cases_eq}
use Rattle.std.proofs.lemmas.Bool.Decides.{nat_tests}
use Rattle.std.proofs.lemmas.List.{take_more}
use Rattle.std.proofs.lemmas.Option.{get_or_from_slice_get, slice_get_within}
use Rattle.node_trees.specs.Trees.{Trees, is_number}
use Rattle.node_trees.specs.Nodes.{IsNode}
use Rattle.node_trees.specs.Orders.{tree_order_of}
use Rattle.node_trees.specs.Paths.{is_among, root_at}
use Rattle.node_trees.proofs.Absent.{is_among-append}
use Rattle.owner_rows.specs.OwnerRow.{OwnerRow, row_in, row_of}
use Rattle.form_owner.specs.Reading.{is_owned_in, owned_in}
use Rattle.form_owner.specs.Writing.{AreListed, Written, unlisted}
use Rattle.form_owner.proofs.Rows.{filter-members}

-- one more of a list
pub among-more : (n : ℕ) (xs : List ℕ) (i x : ℕ) → slice_get xs i ≡ Some x → is_among n (take (i + 1) xs) ≡ (is_among n (take i xs) || x == n)
among-more n xs i x at =
    let read : get_or xs i x ≡ x = get_or_from_slice_get xs i x x at in
    ap (is_among n) (take_more xs i x (slice_get_within xs i x at) ∙ ap (λ y. take i xs ++ y ∷ []) read)
    ∙ is_among-append n (take i xs) (x ∷ [])
    ∙ grind arith

module _ (forest : Trees) where
  -- rows that have the same owners list the same
  pub owned-same : (old new : List OwnerRow) → ((i : ℕ) → unlisted (row_in new i) ≡ unlisted (row_in old i)) → (n : ℕ)
      → owned_in new forest n ≡ owned_in old forest n
  owned-same old new same n = filter-members (is_owned_in new n) (is_owned_in old n) (tree_order_of forest (root_at forest n))
      (λ m among. ap (λ (r : OwnerRow). is_number r.owner n) (same (m - 1)))

  pub listed-next : (forms : List ℕ) (k n : ℕ) → slice_get forms k ≡ Some n → IsNode forest n → (old mid new : List OwnerRow)
      → AreListed forest (take k forms) old mid →
      Written mid new (n - 1) (record (row_of mid n) { controls = owned_in mid forest n }) → AreListed forest (take (k + 1) forms) old new
  listed-next forms k n at node old mid new so_far w = record { same = same; listed = listed; others = others }
    where
      same : (i : ℕ) → unlisted (row_in new i) ≡ unlisted (row_in old i)
      same i = elim (cases_eq i (n - 1)) [
        | inl e ↦ subst (λ j. unlisted (row_in new j) ≡ unlisted (row_in old j)) (sym e) (ap unlisted w.here ∙ so_far.same (n - 1))
        | inr ne ↦ ap unlisted (w.others i ne) ∙ so_far.same i
      ]

      more : (i : ℕ) → is_among (i + 1) (take (k + 1) forms) ≡ (is_among (i + 1) (take k forms) || n == i + 1)
      more i = among-more (i + 1) forms k n at

      listed : (i : ℕ) → is_among (i + 1) (take (k + 1) forms) ≡ true → (row_in new i).controls ≡ owned_in old forest (i + 1)
      listed i among = elim (cases_eq i (n - 1)) [
        | inl e ↦
            let low = node.low in
            let is : i + 1 ≡ n = omega arith in
            subst (λ j. (row_in new j).controls ≡ owned_in mid forest n) (sym e) (ap (λ (r : OwnerRow). r.controls) w.here)
            ∙ owned-same old mid so_far.same n
            ∙ ap (owned_in old forest) (sym is)
        | inr ne ↦
            let low = node.low in
            let apart : n ≢ i + 1 = λ e. ne (omega arith) in
            ap (λ (r : OwnerRow). r.controls) (w.others i ne) ∙ so_far.listed i (let it = more i in grind (arith, nat_tests, it, among, apart))
      ]

      others : (i : ℕ) → is_among (i + 1) (take (k + 1) forms) ≡ false → (row_in new i).controls ≡ (row_in old i).controls
      others i out = elim (cases_eq i (n - 1)) [
        | inl e ↦ absurd (let low = node.low in let is : n ≡ i + 1 = omega arith in let it = more i in grind (arith, nat_tests, it, out, is))
        | inr ne ↦ ap (λ (r : OwnerRow). r.controls) (w.others i ne) ∙ so_far.others i (let it = more i in grind (arith, it, out))
      ]
