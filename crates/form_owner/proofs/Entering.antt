-- Lists that nodes are put into, a change at a time from the last one on.
use Rattle.std.proofs.Common.{◌≡◌, ◌≢◌, ℕ, zero, suc, ◌+◌, ◌-◌, ◌<◌, ◌==◌, Bool, true, false, List, [], ◌∷◌, take, get_or, Option, Some, None, refl, sym}
use Rattle.std.proofs.Common.{ap, ◌∙◌, subst, arith, inl, inr}
use Rattle.std.specs.Prelude.{filter, find, length, slice_get, unwrap_or, not, is_some, IfSome, ◌||◌, ◌&&◌}
use Rattle.std.proofs.lemmas.Bool.{cases_eq}
use Rattle.std.proofs.lemmas.Bool.Decides.{nat_tests}
use Rattle.std.proofs.lemmas.List.Elements.{filter_agree}
use Rattle.std.proofs.lemmas.Option.{get_or_from_slice_get, slice_get_within}
use Rattle.node_trees.specs.Trees.{Trees, is_number}
use Rattle.node_trees.specs.Nodes.{IsTidy, size}
use Rattle.node_trees.specs.Orders.{tree_order_of}
use Rattle.node_trees.specs.Paths.{is_among, root_at}
use Rattle.node_trees.proofs.Absent.{is_among-filter}
use Rattle.tree_laws.specs.Numbers.{insert_number}
use Rattle.tree_laws.proofs.Counts.{AreApart}
use Rattle.tree_laws.proofs.Children.{tree_order-apart}
use Rattle.form_controls.specs.declared.change.Change.{Change}
use Rattle.above_reading.proofs.Tests.{find-same}
use Rattle.owner_rows.specs.OwnerRow.{OwnerRow, row_in, row_of}
use Rattle.form_owner.specs.Groups.{all_after}
use Rattle.form_owner.specs.Moves.{AreEntered, HasNoneBehind, IsTold, is_listed_in, is_moved_by, is_settled, last_listed, stays}
use Rattle.form_owner.specs.Reading.{is_owned_in}
use Rattle.form_owner.specs.Told.{AreRising}
use Rattle.form_owner.specs.Writing.{Written, unlisted}
use Rattle.form_owner.proofs.GroupWalks.{count-filter}
use Rattle.form_owner.proofs.Lasts.{none-last}
use Rattle.form_owner.proofs.Leaving.{moved-more}
use Rattle.form_owner.proofs.Placing.{after-in, at_its_place, or_one}
use Rattle.form_owner.proofs.Told.{behind, rises}

-- no earlier change is of the same node
pub earlier : (cs : List Change) (k : ℕ) (c : Change) → AreRising cs → slice_get cs k ≡ Some c → is_moved_by (take k cs) c.node ≡ false
earlier [] k c rising at = absurd cc
earlier (d ∷ cs) zero c rising at = refl
earlier (d ∷ cs) (suc k) c rising at =
    let less : d.node < (get_or cs k c).node = rises d cs rising k c (slice_get_within cs k c at) in
    let read : get_or cs k c ≡ c = get_or_from_slice_get cs k c c at in
    let below : d.node < c.node = subst (λ (x : Change). d.node < x.node) read less in
    let other : (d.node == c.node) ≡ false = grind (arith, nat_tests) in
    ap (λ b. (is_some d.owner && b) || is_moved_by (take k cs) c.node) other ∙ by_test (is_some d.owner) (earlier cs k c (behind d cs rising) at)
  where
    by_test : (b : Bool) → is_moved_by (take k cs) c.node ≡ false → ((b && false) || is_moved_by (take k cs) c.node) ≡ false
    by_test true e = e
    by_test false e = e

-- one change less is left

module _ (old : List OwnerRow) (cs : List Change) (k : ℕ) (c : Change) (at : slice_get cs k ≡ Some c) where
  -- for a form that does not own its node nothing differs
  settled-same : (form : ℕ) → (is_some c.owner && is_owned_in old form c.node) ≡ false → (m : ℕ)
      → is_settled old (take (k + 1) cs) form m ≡ is_settled old (take k cs) form m
  settled-same form out m =
      ap (λ b. is_owned_in old form m && not b) (moved-more cs k c m at)
      ∙ by_test (is_owned_in old form m) (is_moved_by (take k cs) m) (is_some c.owner) (c.node == m)
      (λ e. let same : c.node ≡ m = grind (arith, nat_tests) in ap (λ v. is_some c.owner && is_owned_in old form v) (sym same) ∙ out)
    where
      by_test : (o m s e : Bool) → (e ≡ true → (s && o) ≡ false) → (o && not (m || (s && e))) ≡ (o && not m)
      by_test false m s e h = refl
      by_test true true s e h = refl
      by_test true false false e h = refl
      by_test true false true false h = refl
      by_test true false true true h = absurd (let it = h refl in cc)

  -- its form owns its node, which no other change is of
  settled-more : (g : ℕ) → c.owner ≡ Some (Some g) → is_owned_in old g c.node ≡ true → is_moved_by (take k cs) c.node ≡ false → (m : ℕ)
      → or_one (is_settled old (take (k + 1) cs) g) c.node m ≡ is_settled old (take k cs) g m
  settled-more g is owned once m =
      ap (λ b. (is_owned_in old g m && not b) || m == c.node) (moved-more cs k c m at ∙ ap (λ o. is_moved_by (take k cs) m || (is_some o && c.node == m)) is)
      ∙ elim (cases_eq m c.node) [
        | inl e ↦
            let own : is_owned_in old g m ≡ true = ap (is_owned_in old g) e ∙ owned in
            let free : is_moved_by (take k cs) m ≡ false = ap (is_moved_by (take k cs)) e ∙ once in
            by_test (is_owned_in old g m) (is_moved_by (take k cs) m) (c.node == m) (m == c.node) own free (grind (arith, nat_tests))
        | inr ne ↦ otherwise (is_owned_in old g m) (is_moved_by (take k cs) m) (c.node == m) (m == c.node) (grind (arith, nat_tests)) (grind (arith, nat_tests))
      ]
    where
      by_test : (o m e d : Bool) → o ≡ true → m ≡ false → d ≡ true → ((o && not (m || (true && e))) || d) ≡ (o && not m)
      by_test true false true true a b h = refl
      by_test true false false true a b h = refl
      by_test o m e false a b h = absurd cc
      by_test false m e d a b h = absurd cc
      by_test o true e d a b h = absurd cc

      otherwise : (o m e d : Bool) → e ≡ false → d ≡ false → ((o && not (m || (true && e))) || d) ≡ (o && not m)
      otherwise true true e false h i = refl
      otherwise true false false false h i = refl
      otherwise false m e false h i = refl
      otherwise true false true false h i = absurd cc
      otherwise o m e true h i = absurd cc

  unsettled : (g : ℕ) → c.owner ≡ Some (Some g) → is_settled old (take (k + 1) cs) g c.node ≡ false
  unsettled g is =
      let itself : (c.node == c.node) ≡ true = grind (arith, nat_tests) in
      ap (λ b. is_owned_in old g c.node && not b) (moved-more cs k c c.node at ∙ ap (λ o. is_moved_by (take k cs) c.node || (is_some o && c.node == c.node)) is
      ∙ ap (λ b. is_moved_by (take k cs) c.node || b) itself)
      ∙ by_test (is_owned_in old g c.node) (is_moved_by (take k cs) c.node)
    where
      by_test : (o m : Bool) → (o && not (m || true)) ≡ false
      by_test true true = refl
      by_test true false = refl
      by_test false m = refl

  module _ (forest : Trees) (mid : List OwnerRow) (before : AreEntered forest (take (k + 1) cs) old mid) (told : IsTold forest old c) where
    pub entered-none : unwrap_or c.owner None ≡ None → AreEntered forest (take k cs) old mid
    entered-none e = record {
      same = before.same;
      lists = λ i lt. before.lists i lt
          ∙ filter_agree (is_settled old (take (k + 1) cs) (i + 1)) (is_settled old (take k cs) (i + 1)) (settled-same (i + 1) (out i c.owner refl e))
          (tree_order_of forest (root_at forest (i + 1)));
    }
      where
        out : (i : ℕ) (o : Option (Option ℕ)) → c.owner ≡ o → unwrap_or o None ≡ None → (is_some o && is_owned_in old (i + 1) c.node) ≡ false
        out i None is e = refl
        out i (Some None) is e = ap (λ v. is_number v (i + 1)) (told.owner None is)
        out i (Some (Some g)) is e = absurd cc

    module _ (tidy : IsTidy forest) (g : ℕ) (is : c.owner ≡ Some (Some g)) where
      abbrev order : List ℕ
      order = tree_order_of forest (root_at forest g)

      abbrev test : ℕ → Bool
      test = is_settled old (take (k + 1) cs) g

      listed : (row_of mid g).controls ≡ filter test order
      listed =
          let node = told.form g is in
          let low = node.low in
          let high = node.high in
          let same : (g - 1) + 1 ≡ g = omega arith in
          subst (λ n. (row_of mid g).controls ≡ filter (is_settled old (take (k + 1) cs) n) (tree_order_of forest (root_at forest n))) same
          (before.lists (g - 1) (omega arith))

      pub entered-apart : AreApart (row_of mid g).controls
      entered-apart = subst AreApart (sym listed) (λ i. omega (arith, count-filter test i order, tree_order-apart forest (root_at forest g) tidy i))

      -- who is in the list
      in-list : (m : ℕ) → is_among m order ≡ true → is_listed_in mid g m ≡ test m
      in-list m among =
          ap (λ (r : OwnerRow). is_number r.owner g && is_among m (row_of mid g).controls) (before.same (m - 1))
          ∙ ap (λ v. is_owned_in old g m && is_among m v) listed
          ∙ ap (λ b. is_owned_in old g m && b) (is_among-filter test m order ∙ ap (λ b. test m && b) among)
          ∙ by_test (is_owned_in old g m) (stays (take (k + 1) cs) m)
        where
          by_test : (o s : Bool) → (o && ((o && s) && true)) ≡ (o && s)
          by_test true true = refl
          by_test true false = refl
          by_test false s = refl

      -- none of the list comes behind its last
      pub entered-last : IfSome (last_listed mid g) (HasNoneBehind (is_listed_in mid g) order)
      entered-last = by_last (last_listed mid g) (ap (λ v. slice_get v (length v - 1)) listed)
        where
          by_last : (o : Option ℕ) → o ≡ slice_get (filter test order) (length (filter test order) - 1) → IfSome o (HasNoneBehind (is_listed_in mid g) order)
          by_last None e = tt
          by_last (Some l) e =
              let last = none-last test l order (tree_order-apart forest (root_at forest g) tidy) (sym e) in
              record {
                among = last.among;
                none = find-same (is_listed_in mid g) test (all_after l order) (λ m h. in-list m (after-in l m order h)) ∙ last.none;
              }

      module _ (once : is_moved_by (take k cs) c.node ≡ false) where
        own : is_owned_in old g c.node ≡ true
        own = ap (λ o. is_number o g) (told.owner (Some g) is) ∙ grind (arith, nat_tests)

        put-list : insert_number (find (is_listed_in mid g) (all_after c.node order)) c.node (row_of mid g).controls
            ≡ filter (is_settled old (take k cs) g) order
        put-list =
            ap (λ v. insert_number (find (is_listed_in mid g) (all_after c.node order)) c.node v) listed
            ∙ ap (λ o. insert_number o c.node (filter test order))
            (find-same (is_listed_in mid g) test (all_after c.node order) (λ m h. in-list m (after-in c.node m order h)))
            ∙ at_its_place test c.node order (tree_order-apart forest (root_at forest g) tidy) (told.inside g is) (unsettled g is)
            ∙ filter_agree (or_one test c.node) (is_settled old (take k cs) g) (settled-more g is own once) order

        pub entered-some : (new : List OwnerRow)
            → Written mid new (g - 1) (record
            (row_of mid g) { controls = insert_number (find (is_listed_in mid g) (all_after c.node order)) c.node (row_of mid g).controls })
            → AreEntered forest (take k cs) old new
        entered-some new w = record { same = same; lists = lists }
          where
            same : (i : ℕ) → unlisted (row_in new i) ≡ unlisted (row_in old i)
            same i = elim (cases_eq i (g - 1)) [
              | inl e ↦ subst (λ j. unlisted (row_in new j) ≡ unlisted (row_in old j)) (sym e) (ap unlisted w.here ∙ before.same (g - 1))
              | inr ne ↦ ap unlisted (w.others i ne) ∙ before.same i
            ]

            lists : (i : ℕ) → i < size forest
                → (row_in new i).controls ≡ filter (is_settled old (take k cs) (i + 1)) (tree_order_of forest (root_at forest (i + 1)))
            lists i lt = elim (cases_eq i (g - 1)) [
              | inl e ↦
                  let node = told.form g is in
                  let low = node.low in
                  let here : g ≡ i + 1 = omega arith in
                  subst (λ j. (row_in new j).controls ≡ filter (is_settled old (take k cs) g) order) (sym e)
                  (ap (λ (r : OwnerRow). r.controls) w.here ∙ put-list)
                  ∙ ap (λ n. filter (is_settled old (take k cs) n) (tree_order_of forest (root_at forest n))) here
              | inr ne ↦
                  let other : g ≢ i + 1 = λ here. ne (omega arith) in
                  let out : is_number (Some g) (i + 1) ≡ false = grind (arith, nat_tests) in
                  let not_owned : (is_some c.owner && is_owned_in old (i + 1) c.node) ≡ false =
                  ap (λ o. is_some o && is_owned_in old (i + 1) c.node) is ∙ ap (λ o. is_number o (i + 1)) (told.owner (Some g) is) ∙ out in
                  ap (λ (r : OwnerRow). r.controls) (w.others i ne)
                  ∙ before.lists i lt
                  ∙ filter_agree (is_settled old (take (k + 1) cs) (i + 1)) (is_settled old (take k cs) (i + 1)) (settled-same (i + 1) not_owned)
                  (tree_order_of forest (root_at forest (i + 1)))
            ]
