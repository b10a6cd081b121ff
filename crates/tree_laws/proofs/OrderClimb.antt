-- The loop that looks for what follows a node in shadow-including tree order: from the node up to the root of the walk.
use Rattle.std.proofs.Common.{◌≡◌, ◌≢◌, ℕ, true, false, ◌<◌, Option, Some, None, refl, ap, sym, ◌∙◌, subst, length}
use Rattle.std.specs.Prelude.{is_some}
use Rattle.std.specs.Option.{option_or}
use Rattle.node_trees.specs.Trees.{Trees, tree_of}
use Rattle.node_trees.specs.Nodes.{times, IsNode, IsTidy}
use Rattle.node_trees.specs.Orders.{order_of}
use Rattle.node_trees.specs.Paths.{path}
use Rattle.node_trees.specs.Spots.{parent_at, host_at, shadow_at, first_child_at, next_sibling_at, spot_at, after}
use Rattle.tree_laws.proofs.Climbing.{option_or-some, option_or-none}
use Rattle.tree_laws.proofs.Next.{option_or-assoc}
use Rattle.tree_laws.proofs.PastIn.{past_in, Past, of_parent, of_host, inside-node, after-is, past-root, past-is}

-- What the loop keeps: `up` is in the tree, and what follows n is what is past `up`
pub record Climbing (f : Trees) (root n up : ℕ) : Type 0 where
  pub inside : 0 < times up (tree_of root f)
  pub is : after n (order_of f root) ≡ past_in f root up

-- the first thing below a node: its shadow root, or else its first child
abbrev pub first_below : Trees → ℕ → Option ℕ
first_below f n = option_or (shadow_at f n) (first_child_at f n)

first-some : (a b c : Option ℕ) → is_some c ≡ true → c ≡ a → c ≡ option_or a b
first-some a b c some e = e ∙ sym (option_or-some a b (ap is_some (sym e) ∙ some))

first-none : (a b c : Option ℕ) → is_some c ≡ false → c ≡ a → option_or a b ≡ b
first-none a b c gone e = option_or-none a b (ap is_some (sym e) ∙ gone)

module _ (f : Trees) (root n : ℕ) (tidy : IsTidy f) (is : IsNode f root) where
  module _ (inside : 0 < times n (tree_of root f)) (below : Option ℕ) (e : below ≡ first_below f n) where
    start : after n (order_of f root) ≡ option_or (first_below f n) (past_in f root n)
    start = after-is f root tidy is n inside ∙ sym (option_or-assoc (shadow_at f n) (first_child_at f n) (past_in f root n))

    -- what is below follows
    pub climb-below : is_some below ≡ true → below ≡ after n (order_of f root)
    climb-below some = first-some (first_below f n) (past_in f root n) below some e ∙ sym start

    pub climb-start : is_some below ≡ false → Climbing f root n n
    climb-start gone = record { inside = inside; is = start ∙ first-none (first_below f n) (past_in f root n) below gone e }

  module _ (up : ℕ) (c : Climbing f root n up) where
    pub climb-node : IsNode f up
    climb-node = inside-node f root tidy is up c.inside

    -- at the root nothing follows
    pub climb-end : up ≡ root → None ≡ after n (order_of f root)
    climb-end e = sym (c.is ∙ ap (past_in f root) e ∙ past-root f root tidy is)

    module _ (ne : up ≢ root) where
      it : Past f root up
      it = past-is f root tidy is up ne c.inside

      -- a next sibling follows
      pub climb-sibling : (next : Option ℕ) → next ≡ next_sibling_at f up → is_some next ≡ true → next ≡ after n (order_of f root)
      climb-sibling next e some = elim it [
        | of_parent q p there a z ↦ first-some (next_sibling_at f up) (past_in f root q) next some e ∙ sym z ∙ sym c.is
        | of_host q p o there a z ↦ absurd (let none_is : next_sibling_at f up ≡ None = rw p refl in let gone = e ∙ none_is in cc)
      ]

      -- else on to the parent
      module _ (p : ℕ) (parent : Some p ≡ parent_at f up) where
        pub climb-on : (next : Option ℕ) → next ≡ next_sibling_at f up → is_some next ≡ false → Climbing f root n p
        climb-on next e gone = elim it [
          | of_parent q is_q there a z ↦
              let same : q ≡ p = cc in
              subst (Climbing f root n) same (record { inside = there; is = c.is ∙ z ∙ first-none (next_sibling_at f up) (past_in f root q) next gone e })
          | of_host q rootless o there a z ↦ absurd cc
        ]

        pub climb-less : length (path p f) < length (path up f)
        climb-less = elim it [
          | of_parent q is_q there a z ↦ let same : q ≡ p = cc in subst (λ v. length (path v f) < length (path up f)) same a.nearer
          | of_host q rootless o there a z ↦ absurd cc
        ]

      -- or to the host of a shadow root, which is there
      module _ (root_of : None ≡ parent_at f up) where
        pub climb-host_there : None ≢ host_at f up
        climb-host_there none_is = elim it [
          | of_parent q p there a z ↦ cc
          | of_host q p o there a z ↦ cc
        ]

        module _ (h : ℕ) (host : Some h ≡ host_at f up) where
          pub climb-host_node : IsNode f h
          climb-host_node = elim it [
            | of_parent q p there a z ↦ absurd cc
            | of_host q p o there a z ↦ let same : q ≡ h = cc in subst (IsNode f) same (inside-node f root tidy is q there)
          ]

          -- it has one shadow root
          module _ (lone : (m : ℕ) → after m (spot_at f h).shadow ≡ None) where
            past_host : (0 < times h (tree_of root f)) × (length (path h f) < length (path up f))
                × (after n (order_of f root) ≡ option_or (first_child_at f h) (past_in f root h))
            past_host = elim it [
              | of_parent q p there a z ↦ absurd cc
              | of_host q p o there a z ↦
                  let same : q ≡ h = cc in
                  let gone : after up (spot_at f q).shadow ≡ None = rw same (lone up) in
                  subst (λ v. (0 < times v (tree_of root f)) × (length (path v f) < length (path up f))
                  × (after n (order_of f root) ≡ option_or (first_child_at f v) (past_in f root v))) same
                  (there, a.nearer, c.is ∙ z ∙ ap (λ v. option_or v (option_or (first_child_at f q) (past_in f root q))) gone)
            ]

            pub climb-host_less : length (path h f) < length (path up f)
            climb-host_less = past_host.1

            -- its first child follows
            pub climb-host_child : (child : Option ℕ) → child ≡ first_child_at f h → is_some child ≡ true → child ≡ after n (order_of f root)
            climb-host_child child e some = first-some (first_child_at f h) (past_in f root h) child some e ∙ sym past_host.2

            pub climb-host : (child : Option ℕ) → child ≡ first_child_at f h → is_some child ≡ false → Climbing f root n h
            climb-host child e gone = record { inside = past_host.0; is = past_host.2 ∙ first-none (first_child_at f h) (past_in f root h) child gone e }
