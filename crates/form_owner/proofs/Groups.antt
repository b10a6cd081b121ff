-- Radio button groups, a member at a time.
use Rattle.std.proofs.Common.{◌≡◌, ◌≢◌, ℕ, ◌+◌, ◌-◌, ◌<◌, Bool, true, false, cond, List, [], ◌∷◌, length, Option, Some, None, refl, sym, ap, ◌∙◌, subst, arith}
use Rattle.std.specs.Prelude.{filter, find, nat_eq, bytes_eq, ◌&&◌, ◌==◌}
use Rattle.std.specs.Option.{IfSome, option_eq}
use Rattle.std.proofs.lemmas.Bool.Decides.{nat_tests}
use Rattle.node_trees.specs.Trees.{Trees}
use Rattle.node_trees.specs.Nodes.{IsNode, IsNodeOrNone, IsTidy}
use Rattle.node_trees.specs.Orders.{tree_order_of}
use Rattle.node_trees.specs.Paths.{is_among, root_at}
use Rattle.node_trees.specs.Spots.{after, first_of}
use Rattle.tree_laws.proofs.Counts.{AreApart, count, count-among}
use Rattle.tree_laws.proofs.Children.{after-among}
use Rattle.tree_laws.proofs.InOrder.{member_is_node}
use Rattle.tree_laws.proofs.Members.{first-filtered}
use Rattle.element_names.specs.declared.input_kinds.InputKind.TheVariants.{Radio}
use Rattle.form_controls.specs.Checkedness.{is_grouped_with, group_of, next_after}
use Rattle.form_controls.specs.Kinds.{has_kind, name_of}
use Rattle.form_controls.specs.Owners.{Forms, form_owner}
use Rattle.form_controls.specs.Texts.{is_empty}
use Rattle.owner_rows.specs.OwnerRow.{OwnerRow, row_of}
use Rattle.form_owner.specs.OwnerRows.{OwnerRows}
use Rattle.form_owner.specs.Groups.{is_grouped_in, group_in, all_after}
use Rattle.form_owner.specs.Stands.{Stands, StandsFor, IsMemberOrNone}
use Rattle.form_owner.proofs.Rows.{filter-members}

-- lists

module _ (p : ℕ → Bool) where
  -- behind one that passes, the next that passes is the first that passes of all that follows
  pub after-filter : (n : ℕ) (ms : List ℕ) → p n ≡ true → after n (filter p ms) ≡ find p (all_after n ms)
  after-filter n [] t = refl
  after-filter n (m ∷ ms) t = by_test (sym (first-filtered p ms)) (after-filter n ms t) (p m) refl
    where
      by_test : first_of (filter p ms) ≡ find p ms → after n (filter p ms) ≡ find p (all_after n ms) → (b : Bool) → p m ≡ b
          → after n (cond b (m ∷ filter p ms) (filter p ms)) ≡ find p (all_after n (m ∷ ms))
      by_test first more true e = grind (arith, nat_tests, first, more)
      by_test first more false e =
          let other : m ≢ n = λ same. let passes : p m ≡ true = subst (λ v. p v ≡ true) (sym same) t in absurd cc in
          grind (arith, nat_tests, more)

  -- who passes, and is of the list
  pub found-among : (k : ℕ) (ms : List ℕ) → is_among k (filter p ms) ≡ true → (p k ≡ true) × (is_among k ms ≡ true)
  found-among k [] h = absurd cc
  found-among k (m ∷ ms) h = by_test (found-among k ms) (p m) refl (m == k) refl h
    where
      by_test : (is_among k (filter p ms) ≡ true → (p k ≡ true) × (is_among k ms ≡ true)) → (b : Bool) → p m ≡ b → (same : Bool) → (m == k) ≡ same
          → is_among k (cond b (m ∷ filter p ms) (filter p ms)) ≡ true → (p k ≡ true) × (is_among k (m ∷ ms) ≡ true)
      by_test more b e true z i = let same : m ≡ k = grind (arith, nat_tests) in by_kept b e same i
        where
          by_kept : (b : Bool) → p m ≡ b → m ≡ k → is_among k (cond b (m ∷ filter p ms) (filter p ms)) ≡ true → (p k ≡ true) × (is_among k (m ∷ ms) ≡ true)
          by_kept true e same i = (subst (λ v. p v ≡ true) same e, grind (arith, nat_tests))
          by_kept false e same i = let rest = more i in (rest.0, grind (arith, nat_tests))
      by_test more true e false z i = let rest = more (grind (arith, nat_tests)) in (rest.0, grind (arith, nat_tests, rest.1))
      by_test more false e false z i = let rest = more i in (rest.0, grind (arith, nat_tests, rest.1))

-- on from one that a list names once

pub all_after-step : (n d : ℕ) (ms : List ℕ) → AreApart ms → after n ms ≡ Some d → all_after n ms ≡ d ∷ all_after d ms
all_after-step n d [] apart e = cc
all_after-step n d (m ∷ []) apart e = absurd (grind (arith, nat_tests))
all_after-step n d (m ∷ j ∷ ms) apart e =
    let one = apart d in
    let there : after n (j ∷ ms) ≡ Some d → 0 < count d (j ∷ ms) = λ h. count-among d (j ∷ ms) (after-among n d (j ∷ ms) h) in
    let on = all_after-step n d (j ∷ ms) (λ i. omega (arith, apart i)) in
    grind (arith, nat_tests, on, there)

pub all_after-last : (n : ℕ) (ms : List ℕ) → after n ms ≡ None → all_after n ms ≡ []
all_after-last n [] e = refl
all_after-last n (m ∷ []) e = grind (arith, nat_tests)
all_after-last n (m ∷ j ∷ ms) e = grind (arith, nat_tests, all_after-last n (j ∷ ms))

-- the loop along tree order

-- `at` is in the order, and the first that passes behind the start is that behind `at`
pub record Looking (p : ℕ → Bool) (order : List ℕ) (start at : ℕ) : Type 0 where
  pub among : is_among at order ≡ true
  pub is : find p (all_after start order) ≡ find p (all_after at order)

module _ (p : ℕ → Bool) (order : List ℕ) (apart : AreApart order) (start at : ℕ) (l : Looking p order start at) where
  module _ (d : ℕ) (next : Some d ≡ after at order) where
    pub look-here : p d ≡ true → Some d ≡ find p (all_after start order)
    look-here t = sym (l.is ∙ ap (find p) (all_after-step at d order apart (sym next)) ∙ ap (λ b. cond b (Some d) (find p (all_after d order))) t)

    pub look-on : p d ≡ false → Looking p order start d
    look-on t = record {
      among = after-among at d order (sym next);
      is = l.is ∙ ap (find p) (all_after-step at d order apart (sym next)) ∙ ap (λ b. cond b (Some d) (find p (all_after d order))) t;
    }

    pub look-less : length (all_after d order) < length (all_after at order)
    look-less = omega (arith, ap length (all_after-step at d order apart (sym next)))

  pub look-last : None ≡ after at order → None ≡ find p (all_after start order)
  look-last e = sym (l.is ∙ ap (find p) (all_after-last at order (sym e)))

-- a tree order whose first is looked at, and then all that follows
pub find-first : (p : ℕ → Bool) (root : ℕ) (order rest : List ℕ) → order ≡ root ∷ rest
    → find p order ≡ cond (p root) (Some root) (find p (all_after root order))
find-first p root order rest is = rw is (grind (arith, nat_tests))

-- who is in a group

module _ (rows : List OwnerRow) (f : Trees) (radio : ℕ) where
  abbrev order : List ℕ
  order = tree_order_of f (root_at f radio)

  pub group-alone : is_empty (name_of f radio) ≡ true → group_in rows f radio ≡ radio ∷ []
  group-alone e = ap (λ b. cond b (radio ∷ []) (filter (is_grouped_in rows f radio) order)) e

  pub group-named : is_empty (name_of f radio) ≡ false → group_in rows f radio ≡ filter (is_grouped_in rows f radio) order
  group-named e = ap (λ b. cond b (radio ∷ []) (filter (is_grouped_in rows f radio) order)) e

  pub member-grouped : (n : ℕ) → is_empty (name_of f radio) ≡ false → is_among n (group_in rows f radio) ≡ true
      → (is_grouped_in rows f radio n ≡ true) × (is_among n order ≡ true)
  member-grouped n e among = found-among (is_grouped_in rows f radio) n order (ap (is_among n) (sym (group-named e)) ∙ among)

  -- a member is a node, and a radio button
  pub member-is : (n : ℕ) → IsTidy f → IsNode f radio → has_kind Radio f radio ≡ true → is_among n (group_in rows f radio) ≡ true
      → IsNode f n × (has_kind Radio f n ≡ true)
  member-is n tidy node kind among = by_name (is_empty (name_of f radio)) refl
    where
      first : (a b c : Bool) → (a && b && c) ≡ true → a ≡ true
      first true b c e = refl
      first false b c e = cc

      by_name : (b : Bool) → is_empty (name_of f radio) ≡ b → IsNode f n × (has_kind Radio f n ≡ true)
      by_name true e =
          let at : is_among n (radio ∷ []) ≡ true = ap (is_among n) (sym (group-alone e)) ∙ among in
          let same : radio ≡ n = grind (arith, nat_tests) in
          (subst (IsNode f) same node, subst (λ v. has_kind Radio f v ≡ true) same kind)
      by_name false e = let both = member-grouped n e among in (
        member_is_node f (root_at f radio) n tidy both.1,
        first (has_kind Radio f n) (option_eq nat_eq (row_of rows n).owner (row_of rows radio).owner) (bytes_eq (name_of f n) (name_of f radio)) both.0,
      )

-- of a group by a name, the first member is the first that is grouped; behind a member it is the first behind that
module _ (rows : List OwnerRow) (f : Trees) (radio root : ℕ) (at : root ≡ root_at f radio) (named : is_empty (name_of f radio) ≡ false) where
  group-root : group_in rows f radio ≡ filter (is_grouped_in rows f radio) (tree_order_of f root)
  group-root = group-named rows f radio named ∙ ap (λ r. filter (is_grouped_in rows f radio) (tree_order_of f r)) (sym at)

  pub next-none : (behind : Option ℕ) → behind ≡ None → find (is_grouped_in rows f radio) (tree_order_of f root) ≡ next_after (group_in rows f radio) behind
  next-none behind e = sym (ap (next_after (group_in rows f radio)) e ∙ ap first_of group-root
      ∙ sym (first-filtered (is_grouped_in rows f radio) (tree_order_of f root)))

  module _ (behind : Option ℕ) (n : ℕ) (e : behind ≡ Some n) (member : IfSome behind (λ m. is_among m (group_in rows f radio) ≡ true)) where
    passes : (is_grouped_in rows f radio n ≡ true) × (is_among n (tree_order_of f root) ≡ true)
    passes =
        let among = subst (λ o. IfSome o (λ m. is_among m (group_in rows f radio) ≡ true)) e member in
        found-among (is_grouped_in rows f radio) n (tree_order_of f root) (ap (is_among n) (sym group-root) ∙ among)

    pub among-some : is_among n (tree_order_of f root) ≡ true
    among-some = passes.1

    pub next-some : find (is_grouped_in rows f radio) (all_after n (tree_order_of f root)) ≡ next_after (group_in rows f radio) behind
    next-some = sym (ap (next_after (group_in rows f radio)) e ∙ ap (after n) group-root
        ∙ after-filter (is_grouped_in rows f radio) n (tree_order_of f root) passes.0)

-- what comes next in a list is of the list
pub next_after-among : (ms : List ℕ) (behind : Option ℕ) (d : ℕ) → Some d ≡ next_after ms behind → is_among d ms ≡ true
next_after-among [] None d e = cc
next_after-among (m ∷ ms) None d e = let same : d ≡ m = cc in grind (arith, nat_tests)
next_after-among ms (Some n) d e = after-among n d ms (sym e)

-- the group by the rows of a table that stands is the group

module _ (table : OwnerRows) (f : Forms) (stands : Stands table f) where
  owner-is : (n : ℕ) → IsNode f.forest n → (row_of table.rows n).owner ≡ form_owner f n
  owner-is n node =
      let low = node.low in
      let same : (n - 1) + 1 ≡ n = omega arith in
      stands.owner (n - 1) ∙ ap (form_owner f) same

  pub group-is : (radio : ℕ) → IsTidy f.forest → IsNode f.forest radio → group_in table.rows f.forest radio ≡ group_of f radio
  group-is radio tidy node =
      ap (λ ms. cond (is_empty (name_of f.forest radio)) (radio ∷ []) ms)
      (filter-members (is_grouped_in table.rows f.forest radio) (is_grouped_with f radio) (tree_order_of f.forest (root_at f.forest radio)) same)
    where
      same : (m : ℕ) → is_among m (tree_order_of f.forest (root_at f.forest radio)) ≡ true
          → is_grouped_in table.rows f.forest radio m ≡ is_grouped_with f radio m
      same m h = rw (owner-is m (member_is_node f.forest (root_at f.forest radio) m tidy h), owner-is radio node) refl

module _ (table : OwnerRows) (rows : List OwnerRow) (lent : rows ≡ table.rows) (now : Trees) (radio : ℕ) (tidy : IsTidy now) (node : IsNode now radio) where
  pub group-now : (f : Forms) → f.forest ≡ now → Stands table f → group_in rows now radio ≡ group_of f radio
  group-now f e stands =
      ap (λ v. group_in v now radio) lent
      ∙ subst (λ g. IsTidy g → IsNode g radio → group_in table.rows g radio ≡ group_of f radio) e (group-is table f stands radio) tidy node

  pub member-in : (behind : Option ℕ) → IsMemberOrNone table now radio behind → IfSome behind (λ n. is_among n (group_in rows now radio) ≡ true)
  member-in None m = tt
  member-in (Some n) m = ap (is_among n) (group-now m.for.forms m.for.forest m.for.stands) ∙ m.among

  module _ (behind result : Option ℕ) (is : result ≡ next_after (group_in rows now radio) behind) where
    next-in : (n : ℕ) → result ≡ Some n → is_among n (group_in rows now radio) ≡ true
    next-in n e = next_after-among (group_in rows now radio) behind n (sym e ∙ is)

    pub member-out : StandsFor table now → IsMemberOrNone table now radio result
    member-out for = by_result result refl
      where
        by_result : (o : Option ℕ) → result ≡ o → IsMemberOrNone table now radio o
        by_result None e = tt
        by_result (Some n) e = record { for = for; among = ap (is_among n) (sym (group-now for.forms for.forest for.stands)) ∙ next-in n e }

    module _ (kind : has_kind Radio now radio ≡ true) where
      pub next-node : IsNodeOrNone now result
      next-node = by_result result refl
        where
          by_result : (o : Option ℕ) → result ≡ o → IsNodeOrNone now o
          by_result None e = tt
          by_result (Some n) e = (member-is rows now radio n tidy node kind (next-in n e)).0

      pub next-kind : IfSome result (λ n. has_kind Radio now n ≡ true)
      next-kind = by_result result refl
        where
          by_result : (o : Option ℕ) → result ≡ o → IfSome o (λ n. has_kind Radio now n ≡ true)
          by_result None e = tt
          by_result (Some n) e = (member-is rows now radio n tidy node kind (next-in n e)).1
