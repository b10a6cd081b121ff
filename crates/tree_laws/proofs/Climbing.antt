-- The loop that looks for what follows a node in tree order: from the node up to the root of the walk.
use Rattle.std.proofs.Common.{◌≡◌, ◌≢◌, ℕ, true, false, ◌<◌, ◌==◌, Option, Some, None, refl, ap, sym, ◌∙◌, arith, length}
use Rattle.std.specs.Prelude.{is_some, not}
use Rattle.std.proofs.lemmas.Bool.Decides.{nat_tests}
use Rattle.std.specs.Option.{option_or}
use Rattle.node_trees.specs.Trees.{Trees}
use Rattle.node_trees.specs.Nodes.{IsNode, IsTidy}
use Rattle.node_trees.specs.Orders.{tree_order_of}
use Rattle.node_trees.specs.Paths.{path, is_among}
use Rattle.node_trees.specs.Spots.{parent_at, first_child_at, next_sibling_at, after}
use Rattle.tree_laws.proofs.InOrder.{member_is_node}
use Rattle.tree_laws.proofs.Following.{beyond_in, after-is, beyond-root, beyond-is, beyond-parent, among-parent, parent-there}
use Rattle.tree_laws.proofs.Above.{parent-above}

-- What the loop keeps: `at` is in the tree, and what follows n is what is beyond `at`
pub record Climbing (f : Trees) (root n at : ℕ) : Type 0 where
  pub among : is_among at (tree_order_of f root) ≡ true
  pub is : after n (tree_order_of f root) ≡ beyond_in f root at

pub option_or-some : (a b : Option ℕ) → is_some a ≡ true → option_or a b ≡ a
option_or-some None b h = absurd cc
option_or-some (Some a) b h = refl

pub option_or-none : (a b : Option ℕ) → is_some a ≡ false → option_or a b ≡ b
option_or-none None b h = refl
option_or-none (Some a) b h = absurd cc

none-is : (a : Option ℕ) → is_some a ≡ false → a ≡ None
none-is None h = refl
none-is (Some a) h = absurd cc

-- what the loop's test says
pub test-apart : (at root : ℕ) → not (at == root) ≡ true → at ≢ root
test-apart at root h e = absurd (grind (arith, nat_tests))

pub test-same : (at root : ℕ) → not (at == root) ≡ false → at ≡ root
test-same at root h = grind (arith, nat_tests)

module _ (f : Trees) (root n : ℕ) (tidy : IsTidy f) (is : IsNode f root) where
  -- a first child follows
  pub climb-child : (child : Option ℕ) → is_among n (tree_order_of f root) ≡ true → child ≡ first_child_at f n → is_some child ≡ true
      → child ≡ after n (tree_order_of f root)
  climb-child child among e some =
      sym (after-is f root tidy is n among ∙ ap (λ v. option_or v (beyond_in f root n)) (sym e) ∙ option_or-some child (beyond_in f root n) some)

  pub climb-start : (child : Option ℕ) → is_among n (tree_order_of f root) ≡ true → child ≡ first_child_at f n → is_some child ≡ false → Climbing f root n n
  climb-start child among e gone = record {
    among = among;
    is = after-is f root tidy is n among ∙ ap (λ v. option_or v (beyond_in f root n)) (sym e) ∙ option_or-none child (beyond_in f root n) gone;
  }

  module _ (at : ℕ) (c : Climbing f root n at) where
    pub climb-node : IsNode f at
    climb-node = member_is_node f root at tidy c.among

    -- at the root nothing follows
    pub climb-end : at ≡ root → None ≡ after n (tree_order_of f root)
    climb-end e = sym (c.is ∙ ap (beyond_in f root) e ∙ beyond-root f root tidy is)

    module _ (ne : at ≢ root) where
      -- a next sibling follows
      pub climb-sibling : (next : Option ℕ) → next ≡ next_sibling_at f at → is_some next ≡ true → next ≡ after n (tree_order_of f root)
      climb-sibling next e some =
          let b = beyond-is f root tidy is at ne c.among in
          sym (c.is ∙ b.beyond_is ∙ ap (λ v. option_or v (beyond_in f root b.parent)) (sym e) ∙ option_or-some next (beyond_in f root b.parent) some)

      -- else on to the parent
      pub climb-on : (next : Option ℕ) (p : ℕ) → next ≡ next_sibling_at f at → is_some next ≡ false → Some p ≡ parent_at f at → Climbing f root n p
      climb-on next p e gone up = record {
        among = among-parent f root tidy is at p ne c.among (sym up);
        is = c.is ∙ beyond-parent f root tidy is at p ne c.among (sym e ∙ none-is next gone) (sym up);
      }

      pub climb-less : (p : ℕ) → Some p ≡ parent_at f at → length (path p f) < length (path at f)
      climb-less p up = let a = parent-above f at p tidy climb-node (sym up) in a.nearer

      -- which is there
      pub climb-parent : None ≢ parent_at f at
      climb-parent gone = parent-there f root tidy is at ne c.among (sym gone)
