-- What the links say after a write.
use Rattle.std.proofs.Common.{◌≡◌, ◌≢◌, ℕ, zero, suc, true, false, ◌-◌, ◌<◌, ◌==◌, List, [], ◌∷◌, Option, Some, None, refl, sym, ap, ◌∙◌, arith, cond, length}
use Rattle.std.proofs.Common.{slice_get}
use Rattle.std.proofs.lemmas.Bool.Decides.{nat_tests}
use Rattle.node_trees.specs.Trees.{is_number}
use Rattle.tree_laws.proofs.Beside.{is_no_number}
use Rattle.node_arena.specs.Links.{Link, link_at}
use Rattle.node_arena.specs.Writes.{edit_at, edit, follow, precede, stand, joined, parted}

edit_at-length : (i : ℕ) (g : Link → Link) (ls : List Link) → length (edit_at i g ls) ≡ length ls
edit_at-length i g [] = refl
edit_at-length zero g (l ∷ ls) = refl
edit_at-length (suc i) g (l ∷ ls) = omega (arith, edit_at-length i g ls)

edit_at-here : (i : ℕ) (g : Link → Link) (ls : List Link) (l : Link) → slice_get ls i ≡ Some l → slice_get (edit_at i g ls) i ≡ Some (g l)
edit_at-here i g [] l e = absurd cc
edit_at-here zero g (k ∷ ls) l e = let same : k ≡ l = cc in ap (λ v. Some (g v)) same
edit_at-here (suc i) g (k ∷ ls) l e = edit_at-here i g ls l e

edit_at-other : (i j : ℕ) (g : Link → Link) (ls : List Link) → i ≢ j → slice_get (edit_at i g ls) j ≡ slice_get ls j
edit_at-other i j g [] ne = refl
edit_at-other zero zero g (l ∷ ls) ne = absurd (ne refl)
edit_at-other zero (suc j) g (l ∷ ls) ne = refl
edit_at-other (suc i) zero g (l ∷ ls) ne = refl
edit_at-other (suc i) (suc j) g (l ∷ ls) ne = edit_at-other i j g ls (λ e. ne (omega arith))

pub edit-length : (n : ℕ) (g : Link → Link) (ls : List Link) → length (edit n g ls) ≡ length ls
edit-length n g ls = edit_at-length (n - 1) g ls

pub edit-here : (n : ℕ) (g : Link → Link) (ls : List Link) (l : Link) → link_at ls n ≡ Some l → link_at (edit n g ls) n ≡ Some (g l)
edit-here n g ls l e = edit_at-here (n - 1) g ls l e

pub edit-other : (n m : ℕ) (g : Link → Link) (ls : List Link) → 0 < n → 0 < m → n ≢ m → link_at (edit n g ls) m ≡ link_at ls m
edit-other n m g ls low_n low_m ne = edit_at-other (n - 1) (m - 1) g ls (λ e. ne (omega (arith, e, low_n, low_m)))

-- ---- what follows a child, what comes before one

-- a number of a node is above 0
abbrev pub IsPositive : Option ℕ → Type 0
IsPositive None = Unit {0}
IsPositive (Some n) = 0 < n

follow-length : (p : ℕ) (a v : Option ℕ) (ls : List Link) → length (follow p a v ls) ≡ length ls
follow-length p None v ls = edit-length p _ ls
follow-length p (Some a) v ls = edit-length a _ ls

precede-length : (p : ℕ) (d v : Option ℕ) (ls : List Link) → length (precede p d v ls) ≡ length ls
precede-length p None v ls = edit-length p _ ls
precede-length p (Some d) v ls = edit-length d _ ls

-- at the parent
module _ (p : ℕ) (low : 0 < p) where
  follow-parent : (a v : Option ℕ) (ls : List Link) (l : Link) → IsPositive a → is_number a p ≡ false → link_at ls p ≡ Some l
      → link_at (follow p a v ls) p ≡ Some (record l { first = cond (is_no_number a) v l.first })
  follow-parent None v ls l positive other e = edit-here p (λ l. record l { first = v }) ls l e
  follow-parent (Some a) v ls l positive other e = edit-other a p (λ l. record l { next = v }) ls positive low (grind (arith, nat_tests)) ∙ e

  precede-parent : (d v : Option ℕ) (ls : List Link) (l : Link) → IsPositive d → is_number d p ≡ false → link_at ls p ≡ Some l
      → link_at (precede p d v ls) p ≡ Some (record l { last = cond (is_no_number d) v l.last })
  precede-parent None v ls l positive other e = edit-here p (λ l. record l { last = v }) ls l e
  precede-parent (Some d) v ls l positive other e = edit-other d p (λ l. record l { previous = v }) ls positive low (grind (arith, nat_tests)) ∙ e

-- at another node
module _ (p m : ℕ) (low_p : 0 < p) (low_m : 0 < m) (ne : p ≢ m) where
  follow-other : (a v : Option ℕ) (ls : List Link) (l : Link) → IsPositive a → link_at ls m ≡ Some l
      → link_at (follow p a v ls) m ≡ Some (record l { next = cond (is_number a m) v l.next })
  follow-other None v ls l positive e = edit-other p m (λ l. record l { first = v }) ls low_p low_m ne ∙ e
  follow-other (Some a) v ls l positive e =
      elim (a == m) as (λ t. (a == m) ≡ t → link_at (edit a (λ l. record l { next = v }) ls) m ≡ Some (record l { next = cond t v l.next })) [
        | true ↦ λ t. let same : a ≡ m = grind (arith, nat_tests) in rw same (edit-here m (λ l. record l { next = v }) ls l e)
        | false ↦ λ t. edit-other a m (λ l. record l { next = v }) ls positive low_m (grind (arith, nat_tests)) ∙ e
      ] refl

  precede-other : (d v : Option ℕ) (ls : List Link) (l : Link) → IsPositive d → link_at ls m ≡ Some l
      → link_at (precede p d v ls) m ≡ Some (record l { previous = cond (is_number d m) v l.previous })
  precede-other None v ls l positive e = edit-other p m (λ l. record l { last = v }) ls low_p low_m ne ∙ e
  precede-other (Some d) v ls l positive e =
      elim (d == m) as (λ t. (d == m) ≡ t → link_at (edit d (λ l. record l { previous = v }) ls) m ≡ Some (record l { previous = cond t v l.previous })) [
        | true ↦ λ t. let same : d ≡ m = grind (arith, nat_tests) in rw same (edit-here m (λ l. record l { previous = v }) ls l e)
        | false ↦ λ t. edit-other d m (λ l. record l { previous = v }) ls positive low_m (grind (arith, nat_tests)) ∙ e
      ] refl

-- ---- n put among the children of p, between a and d, and taken away from there
module _ (p n : ℕ) (a d : Option ℕ) (ls : List Link) (low_p : 0 < p) (low_n : 0 < n) (ne : p ≢ n) (low_a : IsPositive a) (low_d : IsPositive d) where
  abbrev stood : List Link
  stood = stand n (Some p) a d ls

  pub joined-length : length (joined p n a d ls) ≡ length ls
  joined-length = precede-length p d (Some n) (follow p a (Some n) stood) ∙ follow-length p a (Some n) stood ∙ edit-length n _ ls

  pub joined-here : (l : Link) → is_number a n ≡ false → is_number d n ≡ false → link_at ls n ≡ Some l
      → link_at (joined p n a d ls) n ≡ Some (record l { parent = Some p; previous = a; next = d })
  joined-here l not_a not_d e =
      let one = edit-here n (λ l. record l { parent = Some p; previous = a; next = d }) ls l e in
      let two = follow-other p n low_p low_n ne a (Some n) stood _ low_a one in
      precede-other p n low_p low_n ne d (Some n) (follow p a (Some n) stood) _ low_d two ∙ rw (not_a, not_d) refl

  pub joined-parent : (l : Link) → is_number a p ≡ false → is_number d p ≡ false → link_at ls p ≡ Some l
      → link_at (joined p n a d ls) p ≡ Some (record l { first = cond (is_no_number a) (Some n) l.first; last = cond (is_no_number d) (Some n) l.last })
  joined-parent l not_a not_d e =
      let one = edit-other n p (λ l. record l { parent = Some p; previous = a; next = d }) ls low_n low_p (λ j. ne (sym j)) ∙ e in
      let two = follow-parent p low_p a (Some n) stood l low_a not_a one in
      precede-parent p low_p d (Some n) (follow p a (Some n) stood) _ low_d not_d two

  pub joined-other : (m : ℕ) (l : Link) → 0 < m → m ≢ n → m ≢ p → link_at ls m ≡ Some l
      → link_at (joined p n a d ls) m ≡ Some (record l { next = cond (is_number a m) (Some n) l.next; previous = cond (is_number d m) (Some n) l.previous })
  joined-other m l low_m m_n m_p e =
      let one = edit-other n m (λ l. record l { parent = Some p; previous = a; next = d }) ls low_n low_m (λ j. m_n (sym j)) ∙ e in
      let two = follow-other p m low_p low_m (λ j. m_p (sym j)) a (Some n) stood l low_a one in
      precede-other p m low_p low_m (λ j. m_p (sym j)) d (Some n) (follow p a (Some n) stood) _ low_d two

  abbrev loose : List Link
  loose = precede p d a (follow p a d ls)

  pub parted-length : length (parted p n a d ls) ≡ length ls
  parted-length = edit-length n _ loose ∙ precede-length p d a (follow p a d ls) ∙ follow-length p a d ls

  pub parted-here : (l : Link) → link_at ls n ≡ Some l → link_at (parted p n a d ls) n ≡ Some (record l { parent = None; previous = None; next = None })
  parted-here l e =
      let one = follow-other p n low_p low_n ne a d ls l low_a e in
      let two = precede-other p n low_p low_n ne d a (follow p a d ls) _ low_d one in
      edit-here n (λ l. record l { parent = None; previous = None; next = None }) loose _ two

  pub parted-parent : (l : Link) → is_number a p ≡ false → is_number d p ≡ false → link_at ls p ≡ Some l
      → link_at (parted p n a d ls) p ≡ Some (record l { first = cond (is_no_number a) d l.first; last = cond (is_no_number d) a l.last })
  parted-parent l not_a not_d e =
      let one = follow-parent p low_p a d ls l low_a not_a e in
      let two = precede-parent p low_p d a (follow p a d ls) _ low_d not_d one in
      edit-other n p (λ l. record l { parent = None; previous = None; next = None }) loose low_n low_p (λ j. ne (sym j)) ∙ two

  pub parted-other : (m : ℕ) (l : Link) → 0 < m → m ≢ n → m ≢ p → link_at ls m ≡ Some l
      → link_at (parted p n a d ls) m ≡ Some (record l { next = cond (is_number a m) d l.next; previous = cond (is_number d m) a l.previous })
  parted-other m l low_m m_n m_p e =
      let one = follow-other p m low_p low_m (λ j. m_p (sym j)) a d ls l low_a e in
      let two = precede-other p m low_p low_m (λ j. m_p (sym j)) d a (follow p a d ls) _ low_d one in
      edit-other n m (λ l. record l { parent = None; previous = None; next = None }) loose low_n low_m (λ j. m_n (sym j)) ∙ two
