-- What is still to be copied.
use Rattle.std.proofs.Common.{◌≡◌, ℕ, ◌<◌, ◌≤◌, Bool, true, false, ◌||◌, List, [], ◌∷◌, ◌++◌, map, None, refl, ap, sym, ◌∙◌, subst, arith}
use Rattle.std.specs.Prelude.{⊤, reverse}
use Rattle.std.proofs.lemmas.Grind.{common_steps}
use Rattle.node_trees.specs.declared.kind.NodeKind.{NodeKind}
use Rattle.node_trees.specs.declared.kind.NodeKind.TheVariants.{Document, Element, TextNode, ShadowRoot}
use Rattle.node_trees.specs.Facts.{Facts, is_document, is_element, is_shadow_root, is_text}
use Rattle.node_trees.specs.Trees.{Trees, none, tree, roots}
use Rattle.node_trees.specs.Spots.{Spot, facts_at, kind_at, children_at}
use Rattle.node_trees.specs.Nodes.{size, IsNode}
use Rattle.node_trees.specs.Paths.{connected}
use Rattle.node_trees.specs.Kinds.{IsElement, KeepsKinds}
use Rattle.node_trees.specs.Links.{IsRead, AreRead, KeepsApart}
use Rattle.ce_algorithms.specs.Steps.{Step, Outcome, Goes, Throws, Spent, then_do, ◌>>=◌, ◌>>◌, give}
use Rattle.ce_algorithms.specs.Page.{Work}
use Rattle.ce_algorithms.specs.Clone.{copy_node, copy_below}
use Rattle.ce_algorithms.specs.Mutation.{pre_insert}
use Rattle.ce_page.specs.declared.clone.Rest.{Rest}
use Rattle.ce_page.specs.Copies.{copied_kind, copy_one, copy_tree, IsCopied, KeepsNodes}
use Rattle.ce_page.proofs.ElementLemmas.{element_kept}

-- parents, each with the trees that are to be copied below it

abbrev pub below_parent : ℕ → List ℕ → List Rest
below_parent p ns = map (λ from. record { parent = p; from = from }) ns

abbrev pub entries : List (ℕ × Trees) → List Rest
entries [] = []
entries (w ∷ ws) = below_parent w.0 (roots w.1) ++ entries ws

-- they are copied, and then the answer is given
abbrev pub copy_all : ℕ → List (ℕ × Trees) → Step Work ℕ
copy_all top [] = give top
copy_all top (w ∷ ws) = copy_below w.0 w.1 >> copy_all top ws

-- an element that is not connected, and none of the nodes that there were first
pub record IsNew (old now : Trees) (p : ℕ) : Type 0 where
  pub later : size old < p
  pub element : IsElement now p
  pub apart : connected now p ≡ false

-- a parent is one where something is to be copied below it
abbrev pub IsNewParent : Trees → Trees → ℕ → Trees → Type 0
IsNewParent old now p none = ⊤
IsNewParent old now p (tree m x s k r) = IsNew old now p

abbrev pub AreToCopy : Trees → Trees → List (ℕ × Trees) → Type 0
AreToCopy old now [] = ⊤
AreToCopy old now (w ∷ ws) = IsNewParent old now w.0 w.1 × (AreRead old w.1 × AreToCopy old now ws)

-- with the nodes on the stack still to be copied, the copy ends as the whole does
pub record IsCopying (old now : Trees) (todo : List Rest) (top : ℕ) (whole : Outcome Work ℕ) (w : Work) : Type 0 where
  pub frames : List (ℕ × Trees)
  pub waiting : reverse todo ≡ entries frames
  pub allowed : AreToCopy old now frames
  pub kept : KeepsNodes old now
  pub grown : size old ≤ size now
  pub step : copy_all top frames w ≡ whole

-- a parent for trees

new_parent : (old now : Trees) (p : ℕ) (k : Trees) → IsNew old now p → IsNewParent old now p k
new_parent old now p none new = tt
new_parent old now p (tree m x s k r) new = new

-- a copy of an element is one, and below the copy of another node nothing is to be copied
pub copied_parent : (old now : Trees) (n : ℕ) (k : Trees) (element : Bool) → (element ≡ false → k ≡ none) → size old < n → IsNode now n
    → kind_at now n ≡ copied_kind element → connected now n ≡ false → IsNewParent old now n k
copied_parent old now n k true leaf later node kind apart =
    new_parent old now n k (record { later = later; element = record { node = node; kind = kind }; apart = apart })
copied_parent old now n k false leaf later node kind apart = rw (leaf refl) tt

still_parent : (old now new : Trees) → KeepsKinds now new → KeepsApart now new → (p : ℕ) (k : Trees) → IsNewParent old now p k → IsNewParent old new p k
still_parent old now new kinds apart p none a = tt
still_parent old now new kinds apart p (tree m x s k r) a = record { later = a.later; element = element_kept now new kinds a.element; apart = apart p a.apart }

still : (old now new : Trees) → KeepsKinds now new → KeepsApart now new → (frames : List (ℕ × Trees)) → AreToCopy old now frames → AreToCopy old new frames
still old now new kinds apart [] a = tt
still old now new kinds apart (w ∷ ws) a = (still_parent old now new kinds apart w.0 w.1 a.0, (a.1.0, still old now new kinds apart ws a.1.1))

-- one node is copied, and then those below it, and then the others

one_by_one : (a : Step Work ℕ) (b c : ℕ → Step Work (Unit {0})) (d : Step Work (Unit {0})) (f : Step Work ℕ) (w : Work)
    → ((a >>= (λ n. b n >> (c n >> d))) >> f) w ≡ ((a >>= (λ n. b n >> give n)) >>= (λ n. c n >> (d >> f))) w
one_by_one a b c d f w = made (a w)
  where
    last : (o : Outcome Work (Unit {0})) → then_do (then_do o (λ _. d)) (λ _. f) ≡ then_do o (λ _. d >> f)
    last (Goes t v) = refl
    last (Throws e v) = refl
    last (Spent v) = refl

    put : (n : ℕ) (o : Outcome Work (Unit {0})) → then_do (then_do o (λ _. c n >> d)) (λ _. f) ≡ then_do (then_do o (λ _. give n)) (λ n. c n >> (d >> f))
    put n (Goes t v) = last (c n v)
    put n (Throws e v) = refl
    put n (Spent v) = refl

    made : (o : Outcome Work ℕ) → then_do (then_do o (λ n. b n >> (c n >> d))) (λ _. f) ≡ then_do (then_do o (λ n. b n >> give n)) (λ n. c n >> (d >> f))
    made (Goes n v) = put n (b n v)
    made (Throws e v) = refl
    made (Spent v) = refl

-- the first node that is to be copied
pub record First (old now : Trees) (frames : List (ℕ × Trees)) (e : Rest) (rest : List Rest) (top : ℕ) : Type 0 where
  pub facts : Facts
  pub children : Trees
  pub left : List (ℕ × Trees)
  pub parent : IsNew old now e.parent
  pub known : IsRead old e.from facts children
  pub below : AreRead old children
  pub waiting : rest ≡ entries left
  pub allowed : AreToCopy old now left
  pub step : (w : Work) → copy_all top frames w ≡ then_do (copy_one e.parent e.from facts w) (λ n. copy_below n children >> copy_all top left)

first : (old now : Trees) (frames : List (ℕ × Trees)) (e : Rest) (rest : List Rest) (top : ℕ) → e ∷ rest ≡ entries frames → AreToCopy old now frames
    → First old now frames e rest top
first old now [] e rest top is a = absurd cc
first old now ((p, none) ∷ ws) e rest top is a =
    let f = first old now ws e rest top is a.1.1 in
    record {
      facts = f.facts;
      children = f.children;
      left = f.left;
      parent = f.parent;
      known = f.known;
      below = f.below;
      waiting = f.waiting;
      allowed = f.allowed;
      step = f.step;
    }
first old now ((p, tree m x s k r) ∷ ws) e rest top is a =
    let it : e ≡ record { parent = p; from = m } = cc in
    let others : rest ≡ below_parent p (roots r) ++ entries ws = cc in
    subst (λ v. First old now ((p, tree m x s k r) ∷ ws) v rest top) (sym it) (record {
      facts = x;
      children = k;
      left = (p, r) ∷ ws;
      parent = a.0;
      known = a.1.0.0;
      below = a.1.0.1.0;
      waiting = others;
      allowed = (new_parent old now p r a.0, (a.1.0.1.1, a.1.1));
      step = λ w. one_by_one (copy_node m x (is_element x.kind)) (λ n. pre_insert p n None) (λ n. copy_below n k) (copy_below p r) (copy_all top ws) w;
    })

-- the copy begins

pub begun : (old now : Trees) (node top : ℕ) (x : Facts) (k : Trees) (children : List ℕ) (todo : List Rest) (w v : Work) → children ≡ roots k → AreRead old k
    → IsNewParent old now top k
    → KeepsNodes old now → size old ≤ size now → reverse todo ≡ below_parent top children ++ reverse [] → Goes top v ≡ copy_node node x (is_element x.kind) w
    → IsCopying old now todo top (copy_tree node x k w) v
begun old now node top x k children todo w v numbers read parent kept grown todo_is made = record {
  frames = (top, k) ∷ [];
  waiting = todo_is ∙ ap (λ ns. below_parent top ns ++ []) numbers;
  allowed = (parent, (read, tt));
  kept = kept;
  grown = grown;
  step = ap (λ o. then_do o (λ n. copy_below n k >> give n)) made;
}

module _ {old now : Trees} {todo : List Rest} {top : ℕ} {whole : Outcome Work ℕ} {w : Work} (c : IsCopying old now todo top whole w) where
  -- it ends where nothing is left to be copied
  none_left : (frames : List (ℕ × Trees)) → [] ≡ entries frames → Goes top w ≡ copy_all top frames w
  none_left [] is = refl
  none_left ((p, none) ∷ ws) is = none_left ws is
  none_left ((p, tree m x s k r) ∷ ws) is = absurd cc

  pub copied : todo ≡ [] → Goes top w ≡ whole
  copied is = none_left c.frames (sym (ap reverse is) ∙ c.waiting) ∙ c.step

  module _ (e : Rest) (rest : List Rest) (is : todo ≡ rest ++ e ∷ []) where
    pub turn : First old now c.frames e (reverse rest) top
    turn =
        let last : reverse (rest ++ e ∷ []) ≡ e ∷ reverse rest = grind (arith, common_steps) in
        first old now c.frames e (reverse rest) top (sym last ∙ sym (ap reverse is) ∙ c.waiting) c.allowed

    pub from_node : IsNode now e.from
    from_node = let node = turn.known.node in let low = node.low in let high = node.high in let grown =
        c.grown in record { low = low; high = omega (arith, high, grown) }

    same_facts : facts_at now e.from ≡ turn.facts
    same_facts = ap (λ (s : Spot). s.facts) (c.kept e.from turn.known.node) ∙ turn.known.facts

    -- its step is that of the first node, and then of the others
    pub onward : then_do (copy_one e.parent e.from (facts_at now e.from) w) (λ n. copy_below n turn.children >> copy_all top turn.left) ≡ whole
    onward = rw same_facts (sym (turn.step w) ∙ c.step)

    -- where the first node was copied
    pub next : (new : Trees) (n : ℕ) (v : Work) (children : List ℕ) (pushed : List Rest) → Goes n v ≡ copy_one e.parent e.from (facts_at now e.from) w
        → IsCopied now new (copied_kind (is_element (kind_at now e.from))) e.parent n
        → children ≡ children_at now e.from → reverse pushed ≡ below_parent n children ++ reverse rest → IsCopying old new pushed top whole v
    next new n v children pushed made copy children_is pushed_is =
        let later = copy.later in
        let more = copy.kinds.nodes in
        let grown = c.grown in
        let parent_later = turn.parent.later in
        let numbers : children ≡ roots turn.children = children_is ∙ ap (λ (s : Spot). s.children) (c.kept e.from turn.known.node) ∙ turn.known.numbers in
        let kind : kind_at new n ≡ copied_kind (is_element turn.facts.kind) = copy.kind_is ∙ ap (λ (x : Facts). copied_kind (is_element x.kind)) same_facts in
        record {
          frames = (n, turn.children) ∷ turn.left;
          waiting = pushed_is ∙ ap (λ ns. below_parent n ns ++ reverse rest) numbers ∙ ap (λ es. below_parent n (roots turn.children) ++ es) turn.waiting;
          allowed = (
            copied_parent old new n turn.children (is_element turn.facts.kind) turn.known.leaf (omega (arith, later, grown)) copy.node kind copy.loose,
            (turn.below, still old now new copy.kinds copy.apart turn.left turn.allowed),
          );
          kept = λ m at.
              let high = at.high in
              copy.others m (record { low = at.low; high = omega (arith, high, grown) }) (λ same. omega (arith, same, high, parent_later)) ∙ c.kept m at;
          grown = omega (arith, grown, more);
          step = ap (λ o. then_do o (λ n. copy_below n turn.children >> copy_all top turn.left)) made ∙ onward;
        }

-- what may be cloned and is no element is a text
pub is_text_kind : (kind : NodeKind) → (is_document kind || is_shadow_root kind) ≡ false → is_element kind ≡ false → is_text kind ≡ true
is_text_kind Document a b = absurd cc
is_text_kind Element a b = absurd cc
is_text_kind TextNode a b = refl
is_text_kind ShadowRoot a b = absurd cc
