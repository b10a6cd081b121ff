-- What is read of trees that are alike.
use Rattle.std.proofs.Common.{◌≡◌, ◌≢◌, ℕ, ◌<◌, Bool, true, cond, List, [], ◌∷◌, Option, Some, None, refl, ap, ◌∙◌, subst, sym, arith, inl, inr, false}
use Rattle.std.specs.Prelude.{not, ◌&&◌, reverse, codes, is_some}
use Rattle.std.specs.List.{find}
use Rattle.std.proofs.lemmas.Bool.Decides.{nat_tests}
use Rattle.std.proofs.lemmas.Bool.{cases_eq}
use Rattle.std.specs.Prelude.{unwrap_or}
use Rattle.node_trees.specs.Facts.{Facts, is_element, is_document, value_in}
use Rattle.node_trees.specs.Trees.{Trees}
use Rattle.node_trees.specs.Nodes.{times}
use Rattle.node_trees.specs.Spots.{or_no_spot, facts_at, attribute_at, kind_at, first_of}
use Rattle.node_trees.specs.Paths.{path, is_among, root_at, has_parent, connected, shadow_including_root_at}
use Rattle.node_trees.specs.Orders.{tree_order_of}
use Rattle.node_trees.specs.Ids.{is_id, has_id, first_with_id}
use Rattle.node_trees.proofs.Absent.{spot-absent}
use Rattle.tree_laws.specs.Alike.{AreAlike}
use Rattle.tree_laws.proofs.Rooted.{path-inside}

-- the first of a path stands in the trees
path-first : (i m : ℕ) (f : Trees) → first_of (path i f) ≡ Some m → 0 < times m f
path-first i m f e = path-inside m i f (by_path (path i f) e)
  where
    by_path : (xs : List ℕ) → first_of xs ≡ Some m → is_among m xs ≡ true
    by_path [] e = absurd cc
    by_path (y ∷ ys) e = let same : y ≡ m = cc in grind (arith, nat_tests)

find-same : (p q : ℕ → Bool) (xs : List ℕ) → ((x : ℕ) → p x ≡ q x) → find p xs ≡ find q xs
find-same p q [] same = refl
find-same p q (x ∷ xs) same = ap (λ v. cond (p x) (Some x) v) (find-same p q xs same) ∙ ap (λ b. cond b (Some x) (find q xs)) (same x)

-- what has no value for the attribute `id` has no id
pub no-id : (id : List ℕ) (b : Bool) → (b && is_id id None) ≡ false
no-id [] true = refl
no-id [] false = refl
no-id (c ∷ cs) true = refl
no-id (c ∷ cs) false = refl

module _ (n : ℕ) (f g : Trees) (alike : AreAlike n f g) where
  pub attribute-alike : (i : ℕ) (name : List ℕ) → attribute_at g i name ≡ attribute_at f i name
  attribute-alike i name = ap (λ v. value_in v name) (alike.attributes i)

  absent : facts_at f n ≡ (or_no_spot None).facts
  absent = ap (λ v. (or_no_spot v).facts) (spot-absent None None n f alike.free)

  id-alike : (id : List ℕ) (i : ℕ) → has_id id (facts_at g i) ≡ has_id id (facts_at f i)
  id-alike id i = elim (cases_eq i n) [
    | inl e ↦ subst (λ v. has_id id (facts_at g v) ≡ has_id id (facts_at f v)) (sym e)
        (ap (λ v. is_element (kind_at g n) && is_id id (value_in v (codes "id"))) (alike.attributes n ∙ ap (λ (y : Facts). y.attributes) absent)
        ∙ no-id id (is_element (kind_at g n)) ∙ sym (ap (has_id id) absent))
    | inr ne ↦
        ap (λ v. is_element v && is_id id (value_in (facts_at g i).attributes (codes "id"))) (alike.kind i ne)
        ∙ ap (λ v. is_element (kind_at f i) && is_id id (value_in v (codes "id"))) (alike.attributes i)
  ]

  pub root-alike : (i : ℕ) → i ≢ n → root_at g i ≡ root_at f i
  root-alike i ne =
      ap (λ xs. unwrap_or (find (λ m. not (has_parent g m)) (reverse xs)) i) (alike.path_is i ne)
      ∙ ap (λ o. unwrap_or o i) (find-same (λ m. not (has_parent g m)) (λ m. not (has_parent f m)) (reverse (path i f))
      (λ m. ap (λ o. not (is_some o)) (alike.parent m)))

  pub named-alike : (id : List ℕ) (i : ℕ) → i ≢ n → first_with_id g i id ≡ first_with_id f i id
  named-alike id i ne =
      ap (λ xs. find (λ m. has_id id (facts_at g m)) xs) (alike.order i ne)
      ∙ find-same (λ m. has_id id (facts_at g m)) (λ m. has_id id (facts_at f m)) (tree_order_of f i) (id-alike id)

  pub connected-alike : (i : ℕ) → i ≢ n → connected g i ≡ connected f i
  connected-alike i ne =
      ap (λ xs. is_document (kind_at g (unwrap_or (first_of xs) i))) (alike.path_is i ne)
      ∙ ap is_document (alike.kind (shadow_including_root_at f i) other)
    where
      other : shadow_including_root_at f i ≢ n
      other e = by_first (first_of (path i f)) refl e
        where
          by_first : (o : Option ℕ) → first_of (path i f) ≡ o → unwrap_or o i ≡ n → ⊥
          by_first None z e = ne e
          by_first (Some m) z e = let low = path-first i m f z in let gone : times m f ≡ 0 = subst (λ v. times v f ≡ 0) (sym e) alike.free in omega arith
