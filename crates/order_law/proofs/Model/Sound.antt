-- Sound pages: each node of the forest has its row, and each row its node.
use Rattle.std.proofs.Common.{◌≡◌, ℕ, zero, suc, ◌+◌, ◌<◌, ◌≤◌, true, List, [], ◌∷◌, Option, Some, None, refl, sym, ap, ◌∙◌, subst, arith, inl, inr}
use Rattle.std.proofs.Common.{if◌then◌else◌, ◌==◌}
use Rattle.std.specs.Prelude.{slice_get}
use Rattle.std.proofs.lemmas.Bool.Decides.{nat_tests}
use Rattle.std.proofs.lemmas.Bool.{cases_lt, cases_eq}
use Rattle.std.specs.List.{AllByRecursion as Each}
use Rattle.node_trees.specs.declared.kind.NodeKind.{NodeKind}
use Rattle.node_trees.specs.Facts.{is_element}
use Rattle.node_trees.specs.Trees.{Trees}
use Rattle.node_trees.specs.Nodes.{weight, size, times}
use Rattle.node_trees.specs.Spots.{kind_at}
use Rattle.construction.specs.Stacks.{or_no_entries, stack_of, with_stack, grown, pushed, popped, without_last}
use Rattle.order_law.proofs.Model.Forests.{Alike, HasMore, one_element, element_there, element_counts}
use Rattle.node_trees.proofs.Weights.{IsApart}
use Rattle.order_law.proofs.Model.Each.{each_map, each_set, each_get}

-- the number of a node
pub record IsRow (rows n : ℕ) : Type 0 where
  pub low : 0 < n
  pub high : n ≤ rows

-- an entry of a construction stack: a node, or the marker
abbrev pub IsEntry : ℕ → Option ℕ → Type 0
IsEntry rows None = Unit {0}
IsEntry rows (Some n) = IsRow rows n

pub more_rows : (rows n : ℕ) → IsRow rows n → IsRow (rows + 1) n
more_rows rows n row = record { low = row.low; high = omega (arith, row.high) }

-- each row's node stands once in the forest, which has no others; the first is no element; construction stacks hold nodes and markers
pub record Sound (forest : Trees) (rows : ℕ) (stacks : List (List (Option ℕ))) : Type 0 where
  pub size : size forest ≡ rows
  pub some : 0 < rows
  pub once : (n : ℕ) → IsRow rows n → times n forest ≡ 1
  pub only : (n : ℕ) → 0 < times n forest → IsRow rows n
  pub first : weight (λ m x. one_element 1 m x.kind) forest ≡ 0
  pub stacked : Each (Each (IsEntry rows)) stacks

pub sound_apart : (f : Trees) (rows : ℕ) (stacks : List (List (Option ℕ))) → Sound f rows stacks → IsApart f
sound_apart f rows stacks k n = elim (cases_lt 0 (times n f)) [
  | inl there ↦ let one = k.once n (k.only n there) in omega (arith, one)
  | inr out ↦ omega arith
]

pub sound_alike : (f g : Trees) (rows : ℕ) (stacks : List (List (Option ℕ))) → Alike f g → Sound f rows stacks → Sound g rows stacks
sound_alike f g rows stacks same k = record {
  size = same (λ m kind. 1) ∙ k.size;
  some = k.some;
  once = λ n row. same (λ m kind. if m == n then 1 else 0) ∙ k.once n row;
  only = λ n there. let e : times n g ≡ times n f = same (λ m kind. if m == n then 1 else 0) in k.only n (omega (arith, e, there));
  first = same (one_element 1) ∙ k.first;
  stacked = k.stacked;
}

pub sound_more : (f g : Trees) (rows : ℕ) (stacks : List (List (Option ℕ))) (kind : NodeKind) → HasMore f g (size f + 1) kind → Sound f rows stacks →
    Sound g (rows + 1) stacks
sound_more f g rows stacks kind more k = record {
  size = more (λ m kind. 1) ∙ ap (λ n. n + 1) k.size;
  some = omega arith;
  once = λ n row. once n row (more (λ m kind. if m == n then 1 else 0));
  only = λ n there. only n there (more (λ m kind. if m == n then 1 else 0));
  first = let e = more (one_element 1) in let s = k.size in let p = k.some in let o = k.first in let z : one_element 1 (size f + 1) kind ≡ 0 =
      grind (arith, nat_tests) in omega (arith, e, o, z);
  stacked = each_map (Each (IsEntry rows)) (Each (IsEntry (rows + 1))) stacks (λ es. each_map (IsEntry rows) (IsEntry (rows + 1)) es entry) k.stacked;
}
  where
    entry : (e : Option ℕ) → IsEntry rows e → IsEntry (rows + 1) e
    entry None is = tt
    entry (Some n) is = more_rows rows n is

    none_new : (n : ℕ) → n ≡ size f + 1 → times n f ≡ 0
    none_new n e = elim (cases_lt 0 (times n f)) [
      | inl there ↦ let row = k.only n there in let s = k.size in absurd (omega (arith, row.high, e, s))
      | inr out ↦ omega arith
    ]

    once : (n : ℕ) → IsRow (rows + 1) n → times n g ≡ times n f + (if size f + 1 == n then 1 else 0) → times n g ≡ 1
    once n row more = elim (cases_eq (size f + 1) n) [
      | inl e ↦ let gone = none_new n (sym e) in grind (arith, nat_tests)
      | inr ne ↦ let s = k.size in let old = k.once n (record { low = row.low; high = omega (arith, row.high, s, ne) }) in grind (arith, nat_tests)
    ]

    only : (n : ℕ) → 0 < times n g → times n g ≡ times n f + (if size f + 1 == n then 1 else 0) → IsRow (rows + 1) n
    only n there more = elim (cases_eq (size f + 1) n) [
      | inl e ↦ let s = k.size in record { low = omega (arith, e); high = omega (arith, e, s) }
      | inr ne ↦ let old : 0 < times n f = grind (arith, nat_tests) in more_rows rows n (k.only n old)
    ]

-- as many rows
pub sound_rows : (f : Trees) (rows others : ℕ) (stacks : List (List (Option ℕ))) → rows ≡ others → Sound f rows stacks → Sound f others stacks
sound_rows f rows others stacks e k = subst (λ n. Sound f n stacks) e k

-- with the construction stacks given anew
pub sound_stacks : (f : Trees) (rows : ℕ) (stacks others : List (List (Option ℕ))) → Each (Each (IsEntry rows)) others → Sound f rows stacks → Sound f rows others
sound_stacks f rows stacks others all k = record { size = k.size; some = k.some; once = k.once; only = k.only; first = k.first; stacked = all }

-- construction stacks: each entry stays a node or the marker

pub stack_entries : (rows : ℕ) (stacks : List (List (Option ℕ))) (d : ℕ) → Each (Each (IsEntry rows)) stacks → Each (IsEntry rows) (stack_of d stacks)
stack_entries rows stacks d all = go (slice_get stacks d) refl
  where
    go : (o : Option (List (Option ℕ))) → slice_get stacks d ≡ o → Each (IsEntry rows) (or_no_entries o)
    go None is = tt
    go (Some es) is = each_get (Each (IsEntry rows)) stacks d es all is

pub set_entries : (rows d : ℕ) (entries : List (Option ℕ)) (stacks : List (List (Option ℕ))) → Each (IsEntry rows) entries →
    Each (Each (IsEntry rows)) stacks → Each (Each (IsEntry rows)) (with_stack d entries stacks)
set_entries rows d entries stacks new all = each_set (Each (IsEntry rows)) stacks d entries new all

grown_entries : (rows count : ℕ) (stacks : List (List (Option ℕ))) → Each (Each (IsEntry rows)) stacks → Each (Each (IsEntry rows)) (grown count stacks)
grown_entries rows zero stacks all = all
grown_entries rows (suc count) [] all = (tt, grown_entries rows count [] tt)
grown_entries rows (suc count) (entries ∷ stacks) all = (all.0, grown_entries rows count stacks all.1)

pub pushed_entries : (rows d n : ℕ) (stacks : List (List (Option ℕ))) → IsRow rows n → Each (Each (IsEntry rows)) stacks →
    Each (Each (IsEntry rows)) (pushed d n stacks)
pushed_entries rows d n stacks row all =
    set_entries rows d (Some n ∷ stack_of d stacks) (grown (d + 1) stacks) (row, stack_entries rows stacks d all) (grown_entries rows (d + 1) stacks all)

pub popped_entries : (rows d : ℕ) (stacks : List (List (Option ℕ))) → Each (Each (IsEntry rows)) stacks → Each (Each (IsEntry rows)) (popped d stacks)
popped_entries rows d stacks all =
    set_entries rows d (without_last (stack_of d stacks)) stacks (fewer (stack_of d stacks) (stack_entries rows stacks d all)) all
  where
    fewer : (entries : List (Option ℕ)) → Each (IsEntry rows) entries → Each (IsEntry rows) (without_last entries)
    fewer [] entries = tt
    fewer (e ∷ es) entries = entries.1

-- an element's number: the first node is the document
pub element_row : (f : Trees) (rows : ℕ) (stacks : List (List (Option ℕ))) (n : ℕ) → is_element (kind_at f n) ≡ true → Sound f rows stacks →
    (2 ≤ n) × (n ≤ rows)
element_row f rows stacks n is k =
    let row = k.only n (element_there f n is) in
    elim (cases_eq n 1) [
      | inl e ↦ absurd (let one = element_counts None None 1 f (ap (λ m. is_element (kind_at f m)) (sym e) ∙ is) in let none = k.first in
          omega (arith, one, none))
      | inr ne ↦ (omega (arith, row.low, ne), row.high)
    ]
