-- Where kinds fit after a tree was put somewhere, or facts were changed.
use Rattle.std.proofs.Common.{◌≡◌, ℕ, Bool, true, false, not, ◌||◌, ◌≤◌, Option, refl, ap, arith, inl, inr}
use Rattle.std.proofs.lemmas.Bool.Decides.{nat_tests}
use Rattle.std.proofs.lemmas.Bool.{cases_eq}
use Rattle.node_trees.specs.Facts.{Facts, is_element, is_text}
use Rattle.node_trees.specs.Trees.{Trees, none, tree, join, before, put, with_shadow, with_facts}
use Rattle.node_trees.specs.Nodes.{weight, Place, InShadow, AsChild, is_none, unless, misfits}
use Rattle.tree_laws.proofs.Fitting.{only_at, misfits-join, misfits-before}

unless-or : (a c : Bool) → unless (a || c) ≤ unless c
unless-or true c = omega arith
unless-or false c = omega arith

none-put : (p : ℕ) (b : Option ℕ) (t f : Trees) → is_none (put p b t f) ≡ is_none f
none-put p b t none = refl
none-put p b t (tree m x s k r) = grind (arith, nat_tests)

none-shadow : (q : ℕ) (t f : Trees) → is_none (with_shadow q t f) ≡ is_none f
none-shadow q t none = refl
none-shadow q t (tree m x s k r) = grind (arith, nat_tests)

none-with : (n : ℕ) (c : Facts → Facts) (f : Trees) → is_none (with_facts n c f) ≡ is_none f
none-with n c none = refl
none-with n c (tree m x s k r) = grind (arith, nat_tests)

-- one where a text is
abbrev pub text_is : Facts → ℕ
text_is x = unless (not (is_text x.kind))

-- one where no element is
abbrev pub no_element : Facts → ℕ
no_element x = unless (is_element x.kind)

-- p is no text, and what is put among its children fits there
pub misfits-put : (at : Place) (p : ℕ) (b : Option ℕ) (t f : Trees) → misfits at f ≡ 0 → misfits AsChild t ≡ 0 → weight (only_at p text_is) f ≡ 0
    → misfits at (put p b t f) ≡ 0
misfits-put at p b t none z fit ok = refl
misfits-put at p b t (tree m x s k r) z fit ok = elim (cases_eq m p) [
  | inl e ↦
      let is : put p b t (tree m x s k r) ≡ tree m x s (before b t k) r = grind (arith, nat_tests) in
      let here : only_at p text_is m x ≡ text_is x = grind (arith, nat_tests) in
      rw is (omega (arith, here, unless-or (is_none (before b t k)) (not (is_text x.kind)), misfits-before AsChild b t k))
  | inr ne ↦
      let is : put p b t (tree m x s k r) ≡ tree m x (put p b t s) (put p b t k) (put p b t r) = grind (arith, nat_tests) in
      let same_s = ap (λ v. unless (v || is_element x.kind)) (none-put p b t s) in
      let same_k = ap (λ v. unless (v || not (is_text x.kind))) (none-put p b t k) in
      rw is (omega (
        arith,
        same_s,
        same_k,
        misfits-put InShadow p b t s (omega arith) fit (omega arith),
        misfits-put AsChild p b t k (omega arith) fit (omega arith),
        misfits-put at p b t r (omega arith) fit (omega arith),
      ))
]

-- the host is an element, and what is attached fits there
pub misfits-shadow : (at : Place) (q : ℕ) (t f : Trees) → misfits at f ≡ 0 → misfits InShadow t ≡ 0 → weight (only_at q no_element) f ≡ 0
    → misfits at (with_shadow q t f) ≡ 0
misfits-shadow at q t none z fit ok = refl
misfits-shadow at q t (tree m x s k r) z fit ok = elim (cases_eq m q) [
  | inl e ↦
      let is : with_shadow q t (tree m x s k r) ≡ tree m x (join s t) k r = grind (arith, nat_tests) in
      let here : only_at q no_element m x ≡ no_element x = grind (arith, nat_tests) in
      rw is (omega (arith, here, unless-or (is_none (join s t)) (is_element x.kind), misfits-join InShadow s t))
  | inr ne ↦
      let is : with_shadow q t (tree m x s k r) ≡ tree m x (with_shadow q t s) (with_shadow q t k) (with_shadow q t r) = grind (arith, nat_tests) in
      let same_s = ap (λ v. unless (v || is_element x.kind)) (none-shadow q t s) in
      let same_k = ap (λ v. unless (v || not (is_text x.kind))) (none-shadow q t k) in
      rw is (omega (
        arith,
        same_s,
        same_k,
        misfits-shadow InShadow q t s (omega arith) fit (omega arith),
        misfits-shadow AsChild q t k (omega arith) fit (omega arith),
        misfits-shadow at q t r (omega arith) fit (omega arith),
      ))
]

pub misfits-with : (n : ℕ) (c : Facts → Facts) → ((x : Facts) → (c x).kind ≡ x.kind) → (at : Place) (f : Trees) → misfits at (with_facts n c f) ≡ misfits at f
misfits-with n c keeps at none = refl
misfits-with n c keeps at (tree m x s k r) = elim (cases_eq m n) [
  | inl e ↦
      let is : with_facts n c (tree m x s k r) ≡ tree m (c x) s k r = grind (arith, nat_tests) in
      rw (is, keeps x) refl
  | inr ne ↦
      let is : with_facts n c (tree m x s k r) ≡ tree m x (with_facts n c s) (with_facts n c k) (with_facts n c r) = grind (arith, nat_tests) in
      rw (is, none-with n c s, none-with n c k, misfits-with n c keeps InShadow s, misfits-with n c keeps AsChild k, misfits-with n c keeps at r) refl
]
