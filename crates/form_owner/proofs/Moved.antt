-- What the steps of moving controls leave.
use Rattle.std.proofs.Common.{◌≡◌, All, ℕ, ◌+◌, ◌-◌, ◌<◌, ◌==◌, Bool, true, false, cond, List, [], ◌∷◌, get_or, Some, refl, sym, ap, ◌∙◌, subst, arith}
use Rattle.std.specs.Prelude.{filter, ◌&&◌}
use Rattle.std.proofs.lemmas.Bool.{and_parts}
use Rattle.std.proofs.lemmas.List.Elements.{All-filter, All-map, filter_agree}
use Rattle.node_trees.specs.Trees.{Trees, is_number}
use Rattle.node_trees.specs.Nodes.{IsNode, IsTidy, size}
use Rattle.node_trees.specs.Orders.{tree_order_of}
use Rattle.node_trees.specs.Paths.{root_at}
use Rattle.tree_laws.proofs.InOrder.{member_is_node}
use Rattle.tree_laws.proofs.Parents.{number-is}
use Rattle.form_controls.specs.declared.change.Change.{Change}
use Rattle.form_controls.specs.Changes.{is_change, numbers}
use Rattle.owner_reading.specs.Owners.{owner_with}
use Rattle.owner_rows.specs.OwnerRow.{OwnerRow, row_in, row_of}
use Rattle.form_owner.specs.Moves.{AreEntered, IsTold, is_settled, stays}
use Rattle.form_owner.specs.Reading.{change_read, changes_read, is_owned_in}
use Rattle.form_owner.specs.Writing.{AreRenewed, IsKept, ListsStood, unlisted, with_changes, with_told}
use Rattle.form_owner.proofs.Changed.{new-is, owner-has-it, owner-is-node, unmoved}
use Rattle.form_owner.proofs.Leaving.{filter-filter}
use Rattle.form_owner.proofs.Nodes.{numbers-nodes}
use Rattle.form_owner.proofs.Rows.{associated-stays, filter-members, reached, read_row, seen-stays}

-- changes leave a list

with-list : (cs : List Change) (i : ℕ) (row : OwnerRow) (ns : List ℕ)
    → with_changes cs i (record row { controls = ns }) ≡ record (with_changes cs i row) { controls = ns }
with-list [] i row ns = refl
with-list (c ∷ cs) i row ns = ap (with_changes cs i) (by_test (c.node - 1 == i))
    ∙ with-list cs i (cond (c.node - 1 == i) (with_told c.owner c.disabled row) row) ns
  where
    by_test : (b : Bool) → cond b (with_told c.owner c.disabled (record row { controls = ns })) (record row { controls = ns })
        ≡ record (cond b (with_told c.owner c.disabled row) row) { controls = ns }
    by_test true = refl
    by_test false = refl

-- the rows whose lists nodes left, with what was read

module _ (f : Trees) (tidy : IsTidy f) (old left written : List OwnerRow) (cs : List Change) (is : cs ≡ changes_read f old (numbers f))
    (are_left : (i : ℕ) → row_in left i ≡ record (row_in old i) { controls = filter (stays cs) (row_in old i).controls }) (are_written : (i : ℕ)
    → row_in written i ≡ with_changes cs i (row_in left i)) where
  row-written : (i : ℕ) → row_in written i ≡ record (with_changes cs i (row_in old i)) { controls = filter (stays cs) (row_in old i).controls }
  row-written i = are_written i ∙ ap (with_changes cs i) (are_left i) ∙ with-list cs i (row_in old i) (filter (stays cs) (row_in old i).controls)

  row-read : (i : ℕ) → i < size f → row_in written i ≡ record (read_row f old i) { controls = filter (stays cs) (row_in old i).controls }
  row-read i lt =
      row-written i
      ∙ ap (λ (r : OwnerRow). record r { controls = filter (stays cs) (row_in old i).controls })
      (ap (λ v. with_changes v i (row_in old i)) is ∙ reached f old i 1 (size f) (omega arith) (omega arith) (omega arith))

  owner-now : (m : ℕ) → IsNode f m → (row_of written m).owner ≡ owner_with f m (row_of old m).associated
  owner-now m node =
      let low = node.low in
      let high = node.high in
      let same : (m - 1) + 1 ≡ m = omega arith in
      ap (λ (r : OwnerRow). r.owner) (row-read (m - 1) (omega arith)) ∙ ap (λ k. owner_with f k (row_of old m).associated) same

  -- what is told

  tells : (n : ℕ) → IsNode f n → IsTold f written (change_read f old n)
  tells n node = record {
    owner = λ o e. owner-now n node ∙ new-is (row_of old n).owner (owner_with f n (row_of old n).associated) o e;
    form = λ g e. owner-is-node f tidy n node (row_of old n).associated g (new-is (row_of old n).owner (owner_with f n (row_of old n).associated) (Some g) e);
    inside = λ g e. owner-has-it f tidy n node (row_of old n).associated g (new-is (row_of old n).owner (owner_with f n (row_of old n).associated) (Some g) e);
  }

  pub all-told : All (IsTold f written) cs
  all-told = subst (All (IsTold f written)) (sym is)
      (All-map (IsTold f written) (change_read f old) (filter (λ n. is_change (change_read f old n)) (numbers f))
      (All-filter (λ n. is_change (change_read f old n)) (λ n. IsTold f written (change_read f old n)) (numbers f)
      (λ i d lt. tells (get_or (numbers f) i d) (numbers-nodes f i d lt))))

  -- the lists

  module _ (lists : ListsStood f old) where
    kept : (i m : ℕ) → IsNode f m → (stays cs m && is_owned_in old (i + 1) m) ≡ true → IsKept f old (i + 1) m
    kept i m node test =
        let both = and_parts (stays cs m) (is_owned_in old (i + 1) m) test in
        record {
          owned = both.1;
          owns = sym (unmoved f old m node (ap (λ v. stays v m) (sym is) ∙ both.0)) ∙ number-is (row_of old m).owner (i + 1) both.1;
        }

    settled : (i m : ℕ) → IsNode f m → (stays cs m && is_owned_in old (i + 1) m) ≡ is_settled written cs (i + 1) m
    settled i m node = by_test (stays cs m) refl
      where
        swap : (b : Bool) → (true && b) ≡ (b && true)
        swap true = refl
        swap false = refl

        none : (b : Bool) → false ≡ (b && false)
        none true = refl
        none false = refl

        by_test : (b : Bool) → stays cs m ≡ b → (b && is_owned_in old (i + 1) m) ≡ (is_owned_in written (i + 1) m && b)
        by_test true e =
            ap (λ o. true && is_number o (i + 1)) (unmoved f old m node (ap (λ v. stays v m) (sym is) ∙ e) ∙ sym (owner-now m node))
            ∙ swap (is_owned_in written (i + 1) m)
        by_test false e = none (is_owned_in written (i + 1) m)

    pub all-left : AreEntered f cs written written
    all-left = record { same = λ i. refl; lists = λ i lt. list i lt }
      where
        list : (i : ℕ) → i < size f → (row_in written i).controls ≡ filter (is_settled written cs (i + 1)) (tree_order_of f (root_at f (i + 1)))
        list i lt =
            ap (λ (r : OwnerRow). r.controls) (row-written i)
            ∙ ap (filter (stays cs)) (sym (lists.owned i))
            ∙ filter-filter (stays cs) (is_owned_in old (i + 1)) (row_in old i).controls
            ∙ lists.kept i (record { low = omega arith; high = omega arith }) (λ m. stays cs m && is_owned_in old (i + 1) m) (kept i)
            ∙ filter-members (λ m. stays cs m && is_owned_in old (i + 1) m) (is_settled written cs (i + 1)) (tree_order_of f (root_at f (i + 1)))
            (λ m among. settled i m (member_is_node f (root_at f (i + 1)) m tidy among))

  pub all-renewed : (new : List OwnerRow) → AreEntered f [] written new → AreRenewed f old new
  all-renewed new e = record {
    associated = λ i. ap (λ (r : OwnerRow). r.associated) (e.same i ∙ ap unlisted (row-written i)) ∙ associated-stays cs i (row_in old i);
    seen = λ i. ap (λ (r : OwnerRow). r.seen) (e.same i ∙ ap unlisted (row-written i)) ∙ seen-stays cs i (row_in old i);
    owner = λ i lt. ap (λ (r : OwnerRow). r.owner) (e.same i ∙ ap unlisted (row-read i lt));
    disabled = λ i lt. ap (λ (r : OwnerRow). r.disabled) (e.same i ∙ ap unlisted (row-read i lt));
    controls = λ i lt. e.lists i lt ∙ filter_agree (is_settled written [] (i + 1)) (is_owned_in new (i + 1)) (owned i) (tree_order_of f (root_at f (i + 1)));
  }
    where
      owned : (i m : ℕ) → (is_owned_in written (i + 1) m && true) ≡ is_owned_in new (i + 1) m
      owned i m = by_test (is_owned_in written (i + 1) m) ∙ sym (ap (λ (r : OwnerRow). is_number r.owner (i + 1)) (e.same (m - 1)))
        where
          by_test : (b : Bool) → (b && true) ≡ b
          by_test true = refl
          by_test false = refl
