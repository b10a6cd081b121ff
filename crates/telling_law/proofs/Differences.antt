-- The changes from one page to another: what they give to each node is what is due to it.
use Rattle.std.proofs.Common.{◌≡◌, ℕ, zero, suc, ◌+◌, ◌<◌, ◌≤◌, Bool, true, false, ◌||◌, if◌then◌else◌, List, [], ◌∷◌, ◌++◌, map, filter, is_some, nat_eq}
use Rattle.std.proofs.Common.{Option, Some, None, refl, ap, arith, inl, inr}
use Rattle.std.specs.Bool.{beq}
use Rattle.std.specs.List.{AllByRecursion, range_with_len}
use Rattle.std.specs.Option.{option_eq}
use Rattle.std.proofs.lemmas.Bool.{cases_eq}
use Rattle.std.proofs.lemmas.Bool.Decides.{nat_tests}
use Rattle.node_trees.specs.Nodes.{size, IsNode}
use Rattle.node_trees.specs.Paths.{is_among}
use Rattle.tree_laws.proofs.Counts.{count, AreApart}
use Rattle.form_controls.specs.declared.change.Change.{Change}
use Rattle.form_controls.specs.Owners.{Forms, form_owner}
use Rattle.form_controls.specs.Disabled.{is_disabled}
use Rattle.form_controls.specs.Changes.{form_change, is_change, differs, numbers, form_changes}
use Rattle.form_controls.proofs.Differ.{new-none, owners_tell, states_tell}
use Rattle.ce_algorithms.specs.Page.{Page, definition_of}
use Rattle.ce_algorithms.specs.Forms.{is_custom_form_associated}
use Rattle.ce_algorithms.specs.Enqueue.{gives_reaction}
use Rattle.telling_law.specs.Told.{said_of_owner, said_of_disabled, said, due}
use Rattle.telling_law.proofs.Shares.{all-filter, all_to, changes-give}

-- numbers one after another

range-low : (a k i : ℕ) → i < a → count i (range_with_len a k) ≡ 0
range-low a zero i lt = refl
range-low a (suc k) i lt = let rest = range-low (a + 1) k i (omega arith) in grind (arith, nat_tests)

range-apart : (a k : ℕ) → AreApart (range_with_len a k)
range-apart a zero i = omega arith
range-apart a (suc k) i = elim (cases_eq a i) [
  | inl e ↦ let rest = range-low (a + 1) k i (omega arith) in grind (arith, nat_tests)
  | inr ne ↦ let rest = range-apart (a + 1) k i in grind (arith, nat_tests)
]

pub range-among : (a k i : ℕ) → a ≤ i → i < a + k → is_among i (range_with_len a k) ≡ true
range-among a zero i low high = absurd (omega arith)
range-among a (suc k) i low high = elim (cases_eq a i) [
  | inl e ↦ grind (arith, nat_tests)
  | inr ne ↦ let rest = range-among (a + 1) k i (omega arith) (omega arith) in grind (arith, nat_tests)
]

range-positive : (a k : ℕ) → 0 < a → AllByRecursion (λ n. 0 < n) (range_with_len a k)
range-positive a zero low = tt
range-positive a (suc k) low = (low, range-positive (a + 1) k (omega arith))

-- the number of each change's node is above 0

module _ (old new : Forms) where
  positive : (ns : List ℕ) → AllByRecursion (λ n. 0 < n) ns → AllByRecursion (λ (c : Change). 0 < c.node) (map (form_change old new) ns)
  positive [] all = tt
  positive (n ∷ ns) all = (all.0, positive ns all.1)

  pub changes-positive : AllByRecursion (λ (c : Change). 0 < c.node) (form_changes old new)
  changes-positive =
      positive (filter (differs old new) (numbers new.forest))
      (all-filter (λ n. 0 < n) (differs old new) (numbers new.forest) (range-positive 1 (size new.forest) (omega arith)))

-- nothing is due where nothing differs

said-nothing : (owner : Option (Option ℕ)) (disabled : Option Bool) → (is_some owner || is_some disabled) ≡ false
    → said_of_owner owner ++ said_of_disabled disabled ≡ []
said-nothing None None e = refl
said-nothing None (Some disabled) e = absurd cc
said-nothing (Some owner) disabled e = absurd cc

pub due-nothing : (p : Page) (c : Change) → is_change c ≡ false → due p c ≡ []
due-nothing p c none = by_test (is_custom_form_associated p c.node)
  where
    by_test : (b : Bool) → (if b then filter (gives_reaction (definition_of p c.node)) (said c) else []) ≡ []
    by_test true = ap (filter (gives_reaction (definition_of p c.node))) (said-nothing c.owner c.disabled none)
    by_test false = refl

pub due-of_changes : (p : Page) (old new : Forms) (n : ℕ) → IsNode new.forest n → all_to (due p) n (form_changes old new) ≡ due p (form_change old new n)
due-of_changes p old new n is =
    changes-give (due p) n (form_change old new) (differs old new) (λ m. refl) (λ m e. due-nothing p (form_change old new m) e) (numbers new.forest)
    (range-apart 1 (size new.forest))
    (range-among 1 (size new.forest) n is.low (omega (arith, is.high)))

-- nothing differs from what is the same

pub unchanged : (f : Forms) (n : ℕ) → is_change (form_change f f n) ≡ false
unchanged f n =
    λ i. is_some (new-none (option_eq nat_eq) owners_tell (form_owner f n) i) || is_some (new-none beq states_tell (is_disabled f n) i)
