-- The links after an insertion and after a removal are those of the forest after it.
use Rattle.std.proofs.Common.{◌≡◌, ◌≢◌, ℕ, Bool, true, false, ◌<◌, List, Option, Some, None, refl, ap, sym, ◌∙◌, subst, arith, cond, inl, inr}
use Rattle.std.proofs.lemmas.Bool.{cases_eq}
use Rattle.std.proofs.lemmas.Bool.Decides.{nat_tests}
use Rattle.node_trees.specs.Trees.{Trees, is_number, graft, cut}
use Rattle.node_trees.specs.Insertion.{may_insert, is_child_or_none}
use Rattle.node_trees.specs.Nodes.{IsNode, IsTidy}
use Rattle.node_trees.specs.Paths.{is_among}
use Rattle.node_trees.specs.Spots.{Spot, spot_at, parent_at, children_at, first_of, after}
use Rattle.tree_laws.specs.Beside.{before}
use Rattle.tree_laws.specs.Numbers.{insert_number, remove_number}
use Rattle.tree_laws.proofs.Above.{parent-above}
use Rattle.tree_laws.proofs.Allowed.{is_sibling}
use Rattle.tree_laws.proofs.Beside.{is_no_number, is_in, before-absent, before-among, first-insert, last-insert, after-inserted, before-inserted, after-insert}
use Rattle.tree_laws.proofs.Beside.{before-insert, first-remove, last-remove, after-remove, before-remove}
use Rattle.tree_laws.proofs.Children.{child-parent, child-node, children_at-apart, after-among}
use Rattle.tree_laws.proofs.Counts.{AreApart, absent-count}
use Rattle.tree_laws.proofs.MovedSpots.{Moved, grafted, removed}
use Rattle.tree_laws.proofs.Parents.{has_parent-node, parent-child, parent-other, number-is}
use Rattle.node_arena.specs.Links.{Link, link_at, link_of, link_in, children_of, IsLinked}
use Rattle.node_arena.specs.Writes.{joined, parted}
use Rattle.node_arena.proofs.Written.{IsPositive, joined-length, joined-here, joined-parent, joined-other, parted-length, parted-here, parted-parent}
use Rattle.node_arena.proofs.Written.{parted-other}

each-positive : (o : Option ℕ) → ((a : ℕ) → o ≡ Some a → 0 < a) → IsPositive o
each-positive None each = tt
each-positive (Some a) each = each a refl

no-number : (o : Option ℕ) (m : ℕ) → o ≢ Some m → is_number o m ≡ false
no-number None m ne = refl
no-number (Some k) m ne = elim (cases_eq k m) [
  | inl e ↦ absurd (ne (ap Some e))
  | inr other ↦ grind (arith, nat_tests)
]

data Known (b : Bool) : Type 0 where
  is_true : b ≡ true → Known b
  is_false : b ≡ false → Known b

known : (b : Bool) → Known b
known true = is_true refl
known false = is_false refl

-- ---- p and its children
module _ (f : Trees) (tidy : IsTidy f) (p : ℕ) (is_p : IsNode f p) where
  not_child : (m : ℕ) → parent_at f m ≢ Some p → is_among m (children_at f p) ≡ false
  not_child m ne = elim (known (is_among m (children_at f p))) [
    | is_true e ↦ absurd (ne (child-parent f p tidy is_p m e))
    | is_false e ↦ e
  ]

  not_own_child : is_among p (children_at f p) ≡ false
  not_own_child = not_child p (λ e. parent-other f tidy p p e refl)

  before-positive : (b : Option ℕ) → IsPositive (before b (children_at f p))
  before-positive b = each-positive (before b (children_at f p)) (λ a e. (child-node f p tidy is_p a (before-among None b a (children_at f p) refl e)).low)

  sibling-in : (b : Option ℕ) → is_child_or_none f p b ≡ true → is_in b (children_at f p) ≡ true
  sibling-in None h = refl
  sibling-in (Some b) h = parent-child f tidy b p (number-is (parent_at f b) p h)

  sibling-positive : (b : Option ℕ) → is_child_or_none f p b ≡ true → IsPositive b
  sibling-positive None h = tt
  sibling-positive (Some b) h = (has_parent-node f tidy b p (number-is (parent_at f b) p h)).low

  sibling-not : (b : Option ℕ) (m : ℕ) → is_in b (children_at f p) ≡ true → is_among m (children_at f p) ≡ false → is_number b m ≡ false
  sibling-not None m h absent = refl
  sibling-not (Some b) m h absent = no-number (Some b) m (λ e. let same : b ≡ m = cc in absurd (let it = ap (λ v. is_among v (children_at f p)) same in cc))

  -- the children of another stay, whoever moves below p or away
  module _ (g : Trees) (n : ℕ) (parent : Option ℕ) (children : List ℕ) (w : Moved f g p n parent children) where
    kept : (q : ℕ) → IsNode f q → q ≢ p → children_at g q ≡ children_at f q
    kept q at q_p = elim (cases_eq q n) [
      | inl e ↦ subst (λ v. children_at g v ≡ children_at f v) (sym e) (ap (λ (s : Spot). s.children) w.moved)
      | inr q_n ↦ ap (λ (s : Spot). s.children) (w.others q at q_n q_p)
    ]

    pub siblings_kept : (m : ℕ) → IsNode f m → (o : Option ℕ) → parent_at f m ≡ o → o ≢ Some p → children_of g o ≡ children_of f o
    siblings_kept m at None up ne = refl
    siblings_kept m at (Some q) up ne = kept q (parent-above f m q tidy at up).is_node (λ e. ne (ap Some e))

    pub new_children : children_at g p ≡ children
    new_children = ap (λ (s : Spot). s.children) w.there

    -- each node's new link from its new spot
    pub link-of_p : link_in g p ≡ link_of p (record (spot_at f p) { children = children }) (children_of f (parent_at f p))
    link-of_p =
        ap (λ (s : Spot). link_of p s (children_of g s.parent)) w.there
        ∙ ap (λ ks. link_of p (record (spot_at f p) { children = children }) ks)
        (siblings_kept p is_p (parent_at f p) refl (λ e. parent-other f tidy p p e refl))

    pub link-of_n : link_in g n ≡ link_of n (record (spot_at f n) { parent = parent }) (children_of g parent)
    link-of_n = ap (λ (s : Spot). link_of n s (children_of g s.parent)) w.moved

    module _ (m : ℕ) (at : IsNode f m) (m_n : m ≢ n) (m_p : m ≢ p) where
      pub link-of_sibling : parent_at f m ≡ Some p → link_in g m ≡ link_of m (spot_at f m) children
      link-of_sibling up =
          ap (λ (s : Spot). link_of m s (children_of g s.parent)) (w.others m at m_n m_p)
          ∙ ap (λ o. link_of m (spot_at f m) (children_of g o)) up ∙ ap (λ ks. link_of m (spot_at f m) ks) new_children

      pub link-of_other : parent_at f m ≢ Some p → link_in g m ≡ link_in f m
      link-of_other ne =
          ap (λ (s : Spot). link_of m s (children_of g s.parent)) (w.others m at m_n m_p)
          ∙ ap (λ ks. link_of m (spot_at f m) ks) (siblings_kept m at (parent_at f m) refl ne)

-- ---- an insertion
module _ (links : List Link) (f : Trees) (is : IsLinked links f) (p n : ℕ) (b : Option ℕ) (is_p : IsNode f p) (is_n : IsNode f n) (ne : p ≢ n)
    (may : may_insert f p n b ≡ None) (free : parent_at f n ≡ None) where
  abbrev kids : List ℕ
  kids = children_at f p

  abbrev a : Option ℕ
  a = before b kids

  abbrev g : Trees
  g = graft f p n b

  abbrev more : List ℕ
  more = insert_number b n kids

  w : Moved f g p n (Some p) more
  w = grafted f is.tidy p n is_p is_n ne b may free

  sibling : is_child_or_none f p b ≡ true
  sibling = is_sibling f p n b may

  b_in : is_in b kids ≡ true
  b_in = sibling-in f is.tidy p is_p b sibling

  n_out : is_among n kids ≡ false
  n_out = not_child f is.tidy p is_p n (λ e. cc)

  p_out : is_among p kids ≡ false
  p_out = not_own_child f is.tidy p is_p

  apart : AreApart kids
  apart = children_at-apart f p is.tidy is_p

  low_a : IsPositive a
  low_a = before-positive f is.tidy p is_p b

  low_b : IsPositive b
  low_b = sibling-positive f is.tidy p is_p b sibling

  not_a : (m : ℕ) → is_among m kids ≡ false → is_number a m ≡ false
  not_a m absent = before-absent None b m kids absent refl

  not_b : (m : ℕ) → is_among m kids ≡ false → is_number b m ≡ false
  not_b m absent = sibling-not f is.tidy p is_p b m b_in absent

  at_n : link_at (joined p n a b links) n ≡ Some (link_in g n)
  at_n =
      let none = absent-count n kids n_out in
      let front : a ≡ before (Some n) more = sym (before-inserted None b n kids none) in
      let back : b ≡ after n more = sym (after-inserted b n kids b_in none) in
      let said : record (link_in f n) { parent = Some p; previous = a; next = b } ≡ link_of n (record (spot_at f n) { parent = Some p }) more =
      λ i. record (link_in f n) { parent = Some p; previous = front i; next = back i } in
      joined-here p n a b links is_p.low is_n.low ne low_a low_b (link_in f n) (not_a n n_out) (not_b n n_out) (is.linked n is_n)
      ∙ ap Some (said ∙ sym (link-of_n f is.tidy p is_p g n (Some p) more w
      ∙ ap (λ ks. link_of n (record (spot_at f n) { parent = Some p }) ks) (new_children f is.tidy p is_p g n (Some p) more w)))

  at_p : link_at (joined p n a b links) p ≡ Some (link_in g p)
  at_p =
      let head : cond (is_no_number a) (Some n) (first_of kids) ≡ first_of more = sym (first-insert b n kids) in
      let tail : cond (is_no_number b) (Some n) (before None kids) ≡ before None more = sym (last-insert None b n kids b_in) in
      let said : record (link_in f p) { first = cond (is_no_number a) (Some n) (first_of kids); last = cond (is_no_number b) (Some n) (before None kids) }
      ≡ link_of p (record (spot_at f p) { children = more }) (children_of f (parent_at f p)) =
      λ i. record (link_in f p) { first = head i; last = tail i } in
      joined-parent p n a b links is_p.low is_n.low ne low_a low_b (link_in f p) (not_a p p_out) (not_b p p_out) (is.linked p is_p)
      ∙ ap Some (said ∙ sym (link-of_p f is.tidy p is_p g n (Some p) more w))

  at_other : (m : ℕ) → IsNode f m → m ≢ n → m ≢ p → link_at (joined p n a b links) m ≡ Some (link_in g m)
  at_other m at m_n m_p = elim (known (is_number (parent_at f m) p)) [
    | is_true below ↦
        let up = number-is (parent_at f m) p below in
        let was : link_in f m ≡ link_of m (spot_at f m) kids = ap (λ o. link_of m (spot_at f m) (children_of f o)) up in
        let back : cond (is_number a m) (Some n) (after m kids) ≡ after m more = sym (after-insert None b n m kids m_n refl apart b_in) in
        let front : cond (is_number b m) (Some n) (before (Some m) kids) ≡ before (Some m) more =
        sym (before-insert None b n m kids m_n (parent-child f is.tidy m p up)) in
        let said : record (link_of m (spot_at f m) kids) {
          next = cond (is_number a m) (Some n) (after m kids);
          previous = cond (is_number b m) (Some n) (before (Some m) kids);
        } ≡ link_of m (spot_at f m) more =
        λ i. record (link_of m (spot_at f m) kids) { next = back i; previous = front i } in
        joined-other p n a b links is_p.low is_n.low ne low_a low_b m (link_of m (spot_at f m) kids) at.low m_n m_p (is.linked m at ∙ ap Some was)
        ∙ ap Some (said ∙ sym (link-of_sibling f is.tidy p is_p g n (Some p) more w m at m_n m_p up))
    | is_false away ↦
        let not_p : parent_at f m ≢ Some p = λ e. absurd (let t = ap (λ o. is_number o p) e in grind (arith, nat_tests, t, away)) in
        let absent = not_child f is.tidy p is_p m not_p in
        let same : record (link_in f m) {
          next = cond (is_number a m) (Some n) (link_in f m).next;
          previous = cond (is_number b m) (Some n) (link_in f m).previous;
        } ≡ link_in f m = rw (not_a m absent, not_b m absent) refl in
        joined-other p n a b links is_p.low is_n.low ne low_a low_b m (link_in f m) at.low m_n m_p (is.linked m at)
        ∙ ap Some (same ∙ sym (link-of_other f is.tidy p is_p g n (Some p) more w m at m_n m_p not_p))
  ]

  pub joined_linked : IsLinked (joined p n a b links) g
  joined_linked = record {
    tidy = w.tidy;
    counted = w.long ∙ is.counted ∙ sym (joined-length p n a b links is_p.low is_n.low ne low_a low_b);
    linked = λ m at_g.
        let at : IsNode f m = record { low = at_g.low; high = omega (arith, at_g.high, w.long) } in
        elim (cases_eq m n) [
          | inl e ↦ subst (λ v. link_at (joined p n a b links) v ≡ Some (link_in g v)) (sym e) at_n
          | inr m_n ↦ elim (cases_eq m p) [
            | inl e ↦ subst (λ v. link_at (joined p n a b links) v ≡ Some (link_in g v)) (sym e) at_p
            | inr m_p ↦ at_other m at m_n m_p
          ]
        ];
  }

-- ---- a removal
module _ (links : List Link) (f : Trees) (is : IsLinked links f) (p n : ℕ) (is_p : IsNode f p) (is_n : IsNode f n) (ne : p ≢ n)
    (up : parent_at f n ≡ Some p) where
  abbrev all_kids : List ℕ
  all_kids = children_at f p

  abbrev front_of : Option ℕ
  front_of = before (Some n) all_kids

  abbrev back_of : Option ℕ
  back_of = after n all_kids

  abbrev h : Trees
  h = cut f n

  abbrev fewer : List ℕ
  fewer = remove_number n all_kids

  out : Moved f h p n None fewer
  out = removed f is.tidy p n is_p is_n ne up

  n_in : is_among n all_kids ≡ true
  n_in = parent-child f is.tidy n p up

  own_out : is_among p all_kids ≡ false
  own_out = not_own_child f is.tidy p is_p

  were_apart : AreApart all_kids
  were_apart = children_at-apart f p is.tidy is_p

  low_front : IsPositive front_of
  low_front = before-positive f is.tidy p is_p (Some n)

  low_back : IsPositive back_of
  low_back = each-positive back_of (λ d e. (child-node f p is.tidy is_p d (after-among n d all_kids e)).low)

  not_front : (m : ℕ) → is_among m all_kids ≡ false → is_number front_of m ≡ false
  not_front m absent = before-absent None (Some n) m all_kids absent refl

  not_back : (m : ℕ) → is_among m all_kids ≡ false → is_number back_of m ≡ false
  not_back m absent = no-number back_of m (λ e. absurd (let i = after-among n m all_kids e in cc))

  gone_n : link_at (parted p n front_of back_of links) n ≡ Some (link_in h n)
  gone_n = parted-here p n front_of back_of links is_p.low is_n.low ne low_front low_back (link_in f n) (is.linked n is_n)
      ∙ ap Some (sym (link-of_n f is.tidy p is_p h n None fewer out))

  gone_p : link_at (parted p n front_of back_of links) p ≡ Some (link_in h p)
  gone_p =
      let head : cond (is_no_number front_of) back_of (first_of all_kids) ≡ first_of fewer = sym (first-remove n all_kids n_in) in
      let tail : cond (is_no_number back_of) front_of (before None all_kids) ≡ before None fewer = sym (last-remove None n all_kids n_in) in
      let said : record (link_in f p) {
        first = cond (is_no_number front_of) back_of (first_of all_kids);
        last = cond (is_no_number back_of) front_of (before None all_kids);
      }
      ≡ link_of p (record (spot_at f p) { children = fewer }) (children_of f (parent_at f p)) =
      λ i. record (link_in f p) { first = head i; last = tail i } in
      parted-parent p n front_of back_of links is_p.low is_n.low ne low_front low_back (link_in f p) (not_front p own_out) (not_back p own_out)
      (is.linked p is_p)
      ∙ ap Some (said ∙ sym (link-of_p f is.tidy p is_p h n None fewer out))

  gone_other : (m : ℕ) → IsNode f m → m ≢ n → m ≢ p → link_at (parted p n front_of back_of links) m ≡ Some (link_in h m)
  gone_other m at m_n m_p = elim (known (is_number (parent_at f m) p)) [
    | is_true below ↦
        let m_up = number-is (parent_at f m) p below in
        let was : link_in f m ≡ link_of m (spot_at f m) all_kids = ap (λ o. link_of m (spot_at f m) (children_of f o)) m_up in
        let behind : cond (is_number front_of m) back_of (after m all_kids) ≡ after m fewer = sym (after-remove None n m all_kids m_n refl were_apart n_in) in
        let ahead : cond (is_number back_of m) front_of (before (Some m) all_kids) ≡ before (Some m) fewer =
        sym (before-remove None n m all_kids m_n were_apart n_in (parent-child f is.tidy m p m_up)) in
        let said : record (link_of m (spot_at f m) all_kids) {
          next = cond (is_number front_of m) back_of (after m all_kids);
          previous = cond (is_number back_of m) front_of (before (Some m) all_kids);
        } ≡ link_of m (spot_at f m) fewer =
        λ i. record (link_of m (spot_at f m) all_kids) { next = behind i; previous = ahead i } in
        parted-other p n front_of back_of links is_p.low is_n.low ne low_front low_back m (link_of m (spot_at f m) all_kids) at.low m_n m_p
        (is.linked m at ∙ ap Some was)
        ∙ ap Some (said ∙ sym (link-of_sibling f is.tidy p is_p h n None fewer out m at m_n m_p m_up))
    | is_false away ↦
        let not_p : parent_at f m ≢ Some p = λ e. absurd (let t = ap (λ o. is_number o p) e in grind (arith, nat_tests, t, away)) in
        let absent = not_child f is.tidy p is_p m not_p in
        let same : record (link_in f m) {
          next = cond (is_number front_of m) back_of (link_in f m).next;
          previous = cond (is_number back_of m) front_of (link_in f m).previous;
        } ≡ link_in f m = rw (not_front m absent, not_back m absent) refl in
        parted-other p n front_of back_of links is_p.low is_n.low ne low_front low_back m (link_in f m) at.low m_n m_p (is.linked m at)
        ∙ ap Some (same ∙ sym (link-of_other f is.tidy p is_p h n None fewer out m at m_n m_p not_p))
  ]

  pub parted_linked : IsLinked (parted p n front_of back_of links) h
  parted_linked = record {
    tidy = out.tidy;
    counted = out.long ∙ is.counted ∙ sym (parted-length p n front_of back_of links is_p.low is_n.low ne low_front low_back);
    linked = λ m at_h.
        let at : IsNode f m = record { low = at_h.low; high = omega (arith, at_h.high, out.long) } in
        elim (cases_eq m n) [
          | inl e ↦ subst (λ v. link_at (parted p n front_of back_of links) v ≡ Some (link_in h v)) (sym e) gone_n
          | inr m_n ↦ elim (cases_eq m p) [
            | inl e ↦ subst (λ v. link_at (parted p n front_of back_of links) v ≡ Some (link_in h v)) (sym e) gone_p
            | inr m_p ↦ gone_other m at m_n m_p
          ]
        ];
  }
