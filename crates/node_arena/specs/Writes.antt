-- What the calls write into the links.
use Rattle.std.specs.Prelude.{ℕ, zero, suc, ◌-◌, List, [], ◌∷◌, Option, Some, None}
use Rattle.node_trees.specs.Facts.{Facts}
use Rattle.node_arena.specs.Links.{Link}

-- a list whose i-th member is changed
abbrev pub edit_at : ℕ → (Link → Link) → List Link → List Link
edit_at i change [] = []
edit_at zero change (l ∷ ls) = change l ∷ ls
edit_at (suc i) change (l ∷ ls) = l ∷ edit_at i change ls

-- the link of the node n is changed
abbrev pub edit : ℕ → (Link → Link) → List Link → List Link
edit n change links = edit_at (n - 1) change links

-- the facts of the node n are changed
abbrev pub edit_facts : ℕ → (Facts → Facts) → List Link → List Link
edit_facts n change links = edit n (λ l. record l { facts = change l.facts }) links

-- v follows the child a of p, and is p's first child where a is none
abbrev pub follow : ℕ → Option ℕ → Option ℕ → List Link → List Link
follow p None v links = edit p (λ l. record l { first = v }) links
follow p (Some a) v links = edit a (λ l. record l { next = v }) links

-- v comes before the child d of p, and is p's last child where d is none
abbrev pub precede : ℕ → Option ℕ → Option ℕ → List Link → List Link
precede p None v links = edit p (λ l. record l { last = v }) links
precede p (Some d) v links = edit d (λ l. record l { previous = v }) links

-- n stands below this parent, between these siblings
abbrev pub stand : ℕ → Option ℕ → Option ℕ → Option ℕ → List Link → List Link
stand n p a d links = edit n (λ l. record l { parent = p; previous = a; next = d }) links

-- n becomes a child of p, between a and d
abbrev pub joined : ℕ → ℕ → Option ℕ → Option ℕ → List Link → List Link
joined p n a d links = precede p d (Some n) (follow p a (Some n) (stand n (Some p) a d links))

-- n, a child of p between a and d, stands alone
abbrev pub parted : ℕ → ℕ → Option ℕ → Option ℕ → List Link → List Link
parted p n a d links = stand n None None None (precede p d a (follow p a d links))
