-- Changes of a forest, seen by its nodes: which numbers there are, of what kinds, and what stands in the tree of which.
use Rattle.std.proofs.Common.{◌≡◌, ℕ, ◌+◌, ◌<◌, ◌≤◌, Bool, true, false, [], Option, Some, None, refl, sym, ap, ◌∙◌, arith, inl, inr, if◌then◌else◌, ◌==◌, ◌&&◌}
use Rattle.std.specs.Prelude.{◌⊎◌}
use Rattle.std.proofs.lemmas.Bool.Decides.{nat_tests}
use Rattle.std.proofs.lemmas.Bool.{cases_lt}
use Rattle.node_trees.specs.declared.kind.NodeKind.{NodeKind}
use Rattle.node_trees.specs.Facts.{Facts, is_element}
use Rattle.node_trees.specs.Trees.{Trees, none, tree, single, tree_of, without, cut, graft, with_node, with_shadow, with_facts}
use Rattle.node_trees.specs.Nodes.{weight, times}
use Rattle.node_trees.specs.Spots.{Spot, spot_in, or_no_spot, spot_of, facts_at, kind_at}
use Rattle.node_trees.specs.Insertion.{may_insert}
use Rattle.element_names.specs.Names.{custom_name}
use Rattle.element_names.specs.Hosts.{shadow_host}
use Rattle.std.specs.Str.{chars}
use Rattle.std.specs.Option.{option_or}
use Rattle.order_law.proofs.Model.Weights.{on_path}
use Rattle.node_trees.proofs.Weights.{IsApart, weight-join, weight-without, weight-place, weight-put, weight-shadow, weight-with}
use Rattle.node_trees.proofs.Absent.{spot-absent}
use Rattle.node_trees.proofs.Allowed.{not_inside}

-- the nodes of one forest are those of another, each of its kind
abbrev pub Alike : Trees → Trees → Type 0
Alike f g = (w : ℕ → NodeKind → ℕ) → weight (λ m x. w m x.kind) g ≡ weight (λ m x. w m x.kind) f

-- and one more
abbrev pub HasMore : Trees → Trees → ℕ → NodeKind → Type 0
HasMore f g n kind = (w : ℕ → NodeKind → ℕ) → weight (λ m x. w m x.kind) g ≡ weight (λ m x. w m x.kind) f + w n kind

pub alike_cut : (f : Trees) (n : ℕ) → times n f ≤ 1 → Alike f (cut f n)
alike_cut f n one w =
    let v = λ (m : ℕ) (x : Facts). w m x.kind in
    let placed = weight-place v n (tree_of n f) (without n f) in
    let parts = weight-without v n f one in
    omega (arith, placed, parts)

pub alike_graft : (f : Trees) (p n : ℕ) (b : Option ℕ) → times n f ≤ 1 → times p (without n f) ≡ 1 → Alike f (graft f p n b)
alike_graft f p n b one outside w =
    let v = λ (m : ℕ) (x : Facts). w m x.kind in
    let parts = weight-without v n f one in
    let put_in = weight-put v p b (tree_of n f) (without n f) (omega (arith, outside)) in
    grind (arith, nat_tests, outside, parts, put_in)

pub alike_facts : (n : ℕ) (change : Facts → Facts) → ((x : Facts) → (change x).kind ≡ x.kind) → (f : Trees) → Alike f (with_facts n change f)
alike_facts n change keeps f w = weight-with (λ (m : ℕ) (x : Facts). w m x.kind) n change (λ x. ap (w n) (keeps x)) f

pub more_node : (n : ℕ) (x : Facts) (f : Trees) → HasMore f (with_node n x f) n x.kind
more_node n x f w = let all = weight-join (λ (m : ℕ) (y : Facts). w m y.kind) f (single n x) in omega (arith, all)

pub more_shadow : (host n : ℕ) (x : Facts) (f : Trees) → times host f ≡ 1 → HasMore f (with_shadow host (single n x) f) n x.kind
more_shadow host n x f one w =
    let all = weight-shadow (λ (m : ℕ) (y : Facts). w m y.kind) host (single n x) f (omega (arith, one)) in
    grind (arith, nat_tests, one, all)

-- what is read at a number that is no node's

abbrev pub one_element : ℕ → ℕ → NodeKind → ℕ
one_element n m kind = if (m == n) && is_element kind then 1 else 0

abbrev reads_element : Option Spot → Bool
reads_element s = is_element (or_no_spot s).facts.kind

pub element_there : (f : Trees) (n : ℕ) → is_element (kind_at f n) ≡ true → 0 < times n f
element_there f n is = elim (cases_lt 0 (times n f)) [
  | inl there ↦ there
  | inr out ↦ absurd (let none : spot_in None None n f ≡ None = spot-absent None None n f (omega arith) in let x : false ≡ true = sym (ap reads_element none)
      ∙ is in cc)
]

first_or : (a b : Option Spot) → reads_element (option_or a b) ≡ true → (reads_element a ≡ true) ⊎ (reads_element b ≡ true)
first_or None b is = inr is
first_or (Some s) b is = inl is

pub element_counts : (parent host : Option ℕ) (n : ℕ) (f : Trees) → reads_element (spot_in parent host n f) ≡ true →
    0 < weight (λ m x. one_element n m x.kind) f
element_counts parent host n none is = absurd (let x : false ≡ true = is in cc)
element_counts parent host n (tree m x shadow children rest) is =
    go (m == n) refl is (λ a. element_counts None (Some m) n shadow a) (λ a. element_counts (Some m) None n children a)
    (λ a. element_counts parent host n rest a)
  where
    count : Trees → ℕ
    count f = weight (λ m x. one_element n m x.kind) f

    go : (t : Bool) → m == n ≡ t →
        reads_element (if t then Some (spot_of x parent host shadow children) else option_or (spot_in None (Some m) n shadow)
        (option_or (spot_in (Some m) None n children) (spot_in parent host n rest))) ≡ true
        → (reads_element (spot_in None (Some m) n shadow) ≡ true → 0 < count shadow)
        → (reads_element (spot_in (Some m) None n children) ≡ true → 0 < count children)
        → (reads_element (spot_in parent host n rest) ≡ true → 0 < count rest)
        → 0 < count (tree m x shadow children rest)
    go true t is in_shadow in_children in_rest = let first : one_element n m x.kind ≡ 1 =
        ap (λ v. if v && is_element x.kind then 1 else 0) t ∙ ap (λ v. if v then 1 else 0) is in omega (arith, first)
    go false t is in_shadow in_children in_rest =
        elim (first_or (spot_in None (Some m) n shadow) (option_or (spot_in (Some m) None n children) (spot_in parent host n rest)) is) [
          | inl a ↦ let h = in_shadow a in omega (arith, h)
          | inr b ↦ elim (first_or (spot_in (Some m) None n children) (spot_in parent host n rest) b) [
            | inl a ↦ let h = in_children a in omega (arith, h)
            | inr c ↦ let h = in_rest c in omega (arith, h)
          ]
        ]

no_host : shadow_host [] ≡ false
unfolding shadow_host custom_name chars
no_host = refl

pub host_there : (f : Trees) (n : ℕ) → shadow_host (facts_at f n).local ≡ true → 0 < times n f
host_there f n is = elim (cases_lt 0 (times n f)) [
  | inl there ↦ there
  | inr out ↦ absurd (let none : spot_in None None n f ≡ None = spot-absent None None n f (omega arith) in let x : false ≡ true = sym no_host
      ∙ sym (ap (λ s. shadow_host (or_no_spot s).facts.local) none) ∙ is in cc)
]

-- what is outside of the tree of a node

-- a parent under which the node may be inserted
pub outside_allowed : (f : Trees) (p n : ℕ) (b : Option ℕ) → IsApart f → times p f ≡ 1 → 0 < times n f → may_insert f p n b ≡ None → times p (without n f) ≡ 1
outside_allowed f p n b apart one there may = elim (cases_lt 0 (times p (tree_of n f))) [
  | inl low ↦ absurd (let on = on_path n p f apart low in let off = not_inside f p n b may in let x : true ≡ false = sym on ∙ off in cc)
  | inr out ↦ let parts = weight-without (λ j y. if j == p then 1 else 0) n f (apart n) in omega (arith, one, out, parts)
]

pub outside_facts : (p n m : ℕ) (change : Facts → Facts) (f : Trees) → times p (without n (with_facts m change f)) ≡ times p (without n f)
outside_facts p n m change none = refl
outside_facts p n m change (tree i x shadow children rest) =
    grind (
      arith,
      nat_tests,
      outside_facts p n m change shadow,
      outside_facts p n m change children,
      outside_facts p n m change rest,
      weight-with (λ j y. if j == p then 1 else 0) m change (λ y. refl) rest,
    )
