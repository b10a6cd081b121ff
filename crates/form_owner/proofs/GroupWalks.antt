-- Going through a radio button's group by what comes next: what a loop over it needs. What is behind none is the whole
-- group, by computation; a step takes one member off, and at the end none is left.
use Rattle.std.proofs.Common.{◌≡◌, ℕ, ◌<◌, ◌≤◌, Bool, true, false, cond, List, [], ◌∷◌, ◌++◌, length, Option, Some, None, refl, sym, ap, ◌∙◌, subst, arith}
use Rattle.std.specs.Prelude.{filter, ◌||◌}
use Rattle.std.specs.List.{last_or, list_any}
use Rattle.std.specs.Option.{IfSome}
use Rattle.std.proofs.lemmas.Bool.Decides.{nat_tests}
use Rattle.node_trees.specs.Trees.{Trees}
use Rattle.node_trees.specs.Nodes.{IsTidy}
use Rattle.node_trees.specs.Orders.{tree_order_of}
use Rattle.node_trees.specs.Paths.{root_at}
use Rattle.node_trees.specs.Spots.{first_of}
use Rattle.tree_laws.proofs.Counts.{AreApart, count}
use Rattle.tree_laws.proofs.Children.{after-split, tree_order-apart}
use Rattle.form_controls.specs.Checkedness.{is_grouped_with, group_of, next_after, next_in_group}
use Rattle.form_controls.specs.Kinds.{name_of}
use Rattle.form_controls.specs.Owners.{Forms}
use Rattle.form_controls.specs.Texts.{is_empty}
use Rattle.owner_rows.specs.OwnerRow.{OwnerRow}
use Rattle.form_owner.specs.OwnerRows.{OwnerRows}
use Rattle.form_owner.specs.Groups.{is_grouped_in, group_in, all_behind, members_behind, left_behind}
use Rattle.form_owner.proofs.Groups.{all_after-step, all_after-last}

-- lists

pub count-filter : (p : ℕ → Bool) (i : ℕ) (ms : List ℕ) → count i (filter p ms) ≤ count i ms
count-filter p i [] = omega arith
count-filter p i (m ∷ ms) = by_test (p m) (count-filter p i ms)
  where
    by_test : (b : Bool) → count i (filter p ms) ≤ count i ms → count i (cond b (m ∷ filter p ms) (filter p ms)) ≤ count i (m ∷ ms)
    by_test true more = omega (arith, more)
    by_test false more = omega (arith, more)

behind-step : (group : List ℕ) (at : Option ℕ) (m : ℕ) → AreApart group → Some m ≡ next_after group at → all_behind group at ≡ m ∷ all_behind group (Some m)
behind-step [] None m apart e = absurd cc
behind-step (x ∷ xs) None m apart e = let same : m ≡ x = cc in grind (arith, nat_tests)
behind-step group (Some n) m apart e = all_after-step n m group apart (sym e)

behind-end : (group : List ℕ) (at : Option ℕ) → None ≡ next_after group at → all_behind group at ≡ []
behind-end [] None e = refl
behind-end (x ∷ xs) None e = absurd cc
behind-end group (Some n) e = all_after-last n group (sym e)

-- a group

-- no member stands twice in it

apart : (p : ℕ → Bool) (f : Trees) (radio : ℕ) (alone : Bool) → IsTidy f → AreApart (cond alone (radio ∷ []) (filter p (tree_order_of f (root_at f radio))))
apart p f radio true tidy i = grind (arith, nat_tests)
apart p f radio false tidy i = omega (arith, count-filter p i (tree_order_of f (root_at f radio)), tree_order-apart f (root_at f radio) tidy i)

pub group-apart : (f : Forms) (radio : ℕ) → IsTidy f.forest → AreApart (group_of f radio)
group-apart f radio tidy = apart (is_grouped_with f radio) f.forest radio (is_empty (name_of f.forest radio)) tidy

-- by the rows of a table, fewer are left behind the next
pub left-less : (table : OwnerRows) (rows : List OwnerRow) (now : Trees) (radio : ℕ) (behind result : Option ℕ) → rows ≡ table.rows → IsTidy now
    → result ≡ next_after (group_in rows now radio) behind →
    IfSome result (λ n. left_behind table now radio (Some n) < left_behind table now radio behind)
left-less table rows now radio behind None lent tidy e = tt
left-less table rows now radio behind (Some n) lent tidy e =
    let each = apart (is_grouped_in table.rows now radio) now radio (is_empty (name_of now radio)) tidy in
    omega (arith, ap length (behind-step (group_in table.rows now radio) behind n each (e ∙ ap (λ v. next_after (group_in v now radio) behind) lent)))

module _ (f : Forms) (radio : ℕ) where
  -- behind the last there is none
  pub members-end : (at : Option ℕ) → None ≡ next_in_group f radio at → members_behind f radio at ≡ []
  members-end at e = behind-end (group_of f radio) at e

  module _ (tidy : IsTidy f.forest) where
    -- what is left is the next member, and what is left behind that
    pub members-step : (at : Option ℕ) (m : ℕ) → Some m ≡ next_in_group f radio at → members_behind f radio at ≡ m ∷ members_behind f radio (Some m)
    members-step at m e = behind-step (group_of f radio) at m (group-apart f radio tidy) e

    -- so fewer are left
    pub members-less : (at : Option ℕ) (m : ℕ) → Some m ≡ next_in_group f radio at
        → length (members_behind f radio (Some m)) < length (members_behind f radio at)
    members-less at m e = omega (arith, ap length (members-step at m e))

    -- behind a member comes the one that stands behind it in the group
    pub members-split : (front back : List ℕ) (m : ℕ) → group_of f radio ≡ front ++ (m ∷ back) → next_in_group f radio (Some m) ≡ first_of back
    members-split front back m e = ap (λ ms. next_after ms (Some m)) e ∙ after-split m front back (subst AreApart e (group-apart f radio tidy))

    module _ (p : ℕ → Bool) (at : Option ℕ) (m : ℕ) (e : Some m ≡ next_in_group f radio at) where
      -- the last that passes, where `found` was the last so far
      pub last-step : (found : Option ℕ)
          → last_or found (filter p (members_behind f radio at)) ≡ last_or (cond (p m) (Some m) found) (filter p (members_behind f radio (Some m)))
      last-step found = ap (λ ms. last_or found (filter p ms)) (members-step at m e) ∙ by_test (p m)
        where
          by_test : (b : Bool) → last_or found (cond b (m ∷ filter p (members_behind f radio (Some m))) (filter p (members_behind f radio (Some m))))
              ≡ last_or (cond b (Some m) found) (filter p (members_behind f radio (Some m)))
          by_test true = refl
          by_test false = refl

      -- whether some member passes
      pub any-step : list_any p (members_behind f radio at) ≡ (p m || list_any p (members_behind f radio (Some m)))
      any-step = ap (list_any p) (members-step at m e)

  module _ (p : ℕ → Bool) (at : Option ℕ) (e : None ≡ next_in_group f radio at) where
    pub last-end : (found : Option ℕ) → last_or found (filter p (members_behind f radio at)) ≡ found
    last-end found = ap (λ ms. last_or found (filter p ms)) (members-end at e)

    pub any-end : list_any p (members_behind f radio at) ≡ false
    any-end = ap (list_any p) (members-end at e)
