-- Lists that are made of options, and what stands in them.
use Rattle.std.proofs.Common.{◌≡◌, All, ℕ, Bool, true, false, cond, List, [], ◌∷◌, ◌++◌, Option, Some, None, sym, subst, ◌∙◌, arith}
use Rattle.std.proofs.Common.{append_assoc, append-nil}
use Rattle.std.specs.Prelude.{filter, flat_map, find, fold, if◌then◌else◌}
use Rattle.std.specs.List.{last_or}
use Rattle.std.specs.Option.{option_or, option_to_list}
use Rattle.std.proofs.lemmas.Bool.Decides.{nat_tests}
use Rattle.std.proofs.lemmas.List.Elements.{All-nil, All-cons, All-head, All-tail, All-filter, All-append}
use Rattle.node_trees.specs.Paths.{is_among}
use Rattle.node_trees.specs.Trees.{Trees}
use Rattle.node_trees.specs.Nodes.{IsNode, IsNodeOrNone, IsTidy}
use Rattle.node_trees.specs.Spots.{children_at, first_of}
use Rattle.element_names.specs.declared.natives.Native.TheVariants.{Optgroup, OptionItem}
use Rattle.form_controls.specs.Kinds.{is_a}
use Rattle.form_controls.specs.declared.control.Control.{Control}
use Rattle.form_controls.specs.Options.{chosen, chosen_one, first_enabled, is_multiple, option_children, options_at, options_of, selected_of}
use Rattle.tree_laws.proofs.Children.{child-node}
use Rattle.tree_laws.proofs.Members.{all-members}

-- a list that grows

pub grown-filter : (p : ℕ → Bool) (found xs : List ℕ) → fold (λ ns n. if p n then ns ++ n ∷ [] else ns) found xs ≡ found ++ filter p xs
grown-filter p found [] = sym (append-nil found)
grown-filter p found (x ∷ xs) = by_test (p x) (λ v. grown-filter p v xs)
  where
    by_test : (b : Bool) → ((v : List ℕ) → fold (λ ns n. if p n then ns ++ n ∷ [] else ns) v xs ≡ v ++ filter p xs) →
        fold (λ ns n. if p n then ns ++ n ∷ [] else ns) (cond b (found ++ x ∷ []) found) xs ≡ found ++ cond b (x ∷ filter p xs) (filter p xs)
    by_test true later = later (found ++ x ∷ []) ∙ append_assoc found (x ∷ []) (filter p xs)
    by_test false later = later found

pub grown-parts : (parts : ℕ → List ℕ) (found xs : List ℕ) → fold (λ ns n. ns ++ parts n) found xs ≡ found ++ flat_map parts xs
grown-parts parts found [] = sym (append-nil found)
grown-parts parts found (x ∷ xs) = grown-parts parts (found ++ parts x) xs ∙ append_assoc found (parts x) (flat_map parts xs)

-- what holds of each of a list

module _ (P : ℕ → Type 0) where
  all-flat : (parts : ℕ → List ℕ) (xs : List ℕ) → ((n : ℕ) → is_among n xs ≡ true → All P (parts n)) → All P (flat_map parts xs)
  all-flat parts [] h = All-nil P
  all-flat parts (x ∷ xs) h = All-append P (parts x) (flat_map parts xs) (h x (grind (arith, nat_tests)))
      (all-flat parts xs (λ n e. h n (grind (arith, nat_tests))))

  all-last : (o : Option ℕ) (xs : List ℕ) → All P (option_to_list o) → All P xs → All P (option_to_list (last_or o xs))
  all-last o [] one a = one
  all-last o (x ∷ xs) one a = all-last (Some x) xs (All-cons P x [] (All-head P x xs a) (All-nil P)) (All-tail P x xs a)

  all-find : (p : ℕ → Bool) (xs : List ℕ) → All P xs → All P (option_to_list (find p xs))
  all-find p [] a = All-nil P
  all-find p (x ∷ xs) a = by_test (p x) (all-find p xs (All-tail P x xs a))
    where
      by_test : (b : Bool) → All P (option_to_list (find p xs)) → All P (option_to_list (cond b (Some x) (find p xs)))
      by_test true later = All-cons P x [] (All-head P x xs a) (All-nil P)
      by_test false later = later

  all-either : (a b : Option ℕ) → All P (option_to_list a) → All P (option_to_list b) → All P (option_to_list (option_or a b))
  all-either None b one other = other
  all-either (Some x) b one other = one

  all-one : (f : Trees) (selected options : List ℕ) → All P selected → All P options → All P (option_to_list (chosen_one f selected options))
  all-one f selected options some all =
      all-either (last_or None selected) (first_enabled f options) (all-last None selected (All-nil P) some) (all-find _ options all)

-- options are nodes

module _ (f : Trees) (tidy : IsTidy f) where
  children-nodes : (n : ℕ) → IsNode f n → All (IsNode f) (children_at f n)
  children-nodes n node = all-members (IsNode f) (children_at f n) (child-node f n tidy node)

  options_at-nodes : (n : ℕ) → IsNode f n → All (IsNode f) (options_at f n)
  options_at-nodes n node = by_tests (is_a OptionItem f n) (is_a Optgroup f n)
    where
      by_tests : (a b : Bool) → All (IsNode f) (cond a (n ∷ []) (cond b (option_children f n) []))
      by_tests true b = All-cons (IsNode f) n [] node (All-nil (IsNode f))
      by_tests false true = All-filter (is_a OptionItem f) (IsNode f) (children_at f n) (children-nodes n node)
      by_tests false false = All-nil (IsNode f)

  pub options-nodes : (select : ℕ) → IsNode f select → All (IsNode f) (options_of f select)
  options-nodes select node = all-flat (IsNode f) (options_at f) (children_at f select) (λ n e. options_at-nodes n (child-node f select tidy node n e))

  pub one-nodes : (controls : List Control) (select : ℕ) → IsNode f select
      → All (IsNode f) (option_to_list (chosen_one f (selected_of controls f select) (options_of f select)))
  one-nodes controls select node =
      all-one (IsNode f) f (selected_of controls f select) (options_of f select) (All-filter _ (IsNode f) (options_of f select) (options-nodes select node))
      (options-nodes select node)

  chosen-nodes : (controls : List Control) (select : ℕ) → IsNode f select → All (IsNode f) (chosen controls f select)
  chosen-nodes controls select node = by_test (is_multiple f select)
    where
      by_test : (b : Bool) → All (IsNode f)
          (cond b (selected_of controls f select) (option_to_list (chosen_one f (selected_of controls f select) (options_of f select))))
      by_test true = All-filter _ (IsNode f) (options_of f select) (options-nodes select node)
      by_test false = one-nodes controls select node

  first-node : (controls : List Control) (select option : ℕ) → IsNode f select → Some option ≡ first_of (chosen controls f select) → IsNode f option
  first-node controls select option node e = by_list (chosen controls f select) (chosen-nodes controls select node) e
    where
      by_list : (xs : List ℕ) → All (IsNode f) xs → Some option ≡ first_of xs → IsNode f option
      by_list [] all is = absurd cc
      by_list (x ∷ xs) all is = let same : x ≡ option = cc in subst (IsNode f) same (All-head (IsNode f) x xs all)

  pub first-or-none : (controls : List Control) (select : ℕ) (found : Option ℕ) → IsNode f select → found ≡ first_of (chosen controls f select)
      → IsNodeOrNone f found
  first-or-none controls select None node e = tt
  first-or-none controls select (Some option) node e = first-node controls select option node e
