-- Writes into the nodes of the arena, as writes into links.
use Rattle.std.proofs.Common.{◌≡◌, ℕ, zero, suc, ◌+◌, ◌-◌, ◌<◌, List, [], ◌∷◌, ◌++◌, Option, Some, None, refl, ap, sym, subst, ◌∙◌, arith, length}
use Rattle.std.proofs.Common.{length-append, get_or, slice_get}
use Rattle.std.specs.Option.{option_map}
use Rattle.std.proofs.Math.ListN.{set, length-set}
use Rattle.std.proofs.lemmas.List.{map-append}
use Rattle.std.proofs.lemmas.Option.{slice_get_read, slice_get-map, slice_get-get_or}
use Rattle.node_trees.specs.Facts.{Facts}
use Rattle.node_arena.specs.Links.{Link, link_at}
use Rattle.node_arena.specs.Writes.{edit_at, edit, edit_facts, follow, precede, stand}
use Rattle.node_arena.specs.NodeLinks.{facts_of, link_from, links, IsPlace, IsPlaceOrNone}
use Rattle.node_arena.specs.declared.node.Node.{Node}

edited_at : (nodes : List Node) (i : ℕ) (g : Link → Link) (u d : Node) → i < length nodes → link_from u ≡ g (link_from (get_or nodes i d))
    → links (set nodes i u) ≡ edit_at i g (links nodes)
edited_at [] i g u d lt e = absurd (omega arith)
edited_at (n ∷ ns) zero g u d lt e = ap (λ l. l ∷ links ns) e
edited_at (n ∷ ns) (suc i) g u d lt e = ap (λ ls. link_from n ∷ ls) (edited_at ns i g u d (omega arith) e)

pub edited : (nodes : List Node) (n i : ℕ) (g : Link → Link) (u d : Node) → i ≡ n - 1 → IsPlace (length nodes) n
    → link_from u ≡ g (link_from (get_or nodes i d)) → links (set nodes i u) ≡ edit n g (links nodes)
edited nodes n i g u d e at is = rw (sym e) (edited_at nodes i g u d (omega (arith, at.0, at.1)) is)

-- what `follow` and `precede` write
module _ (nodes : List Node) (p i : ℕ) (o v : Option ℕ) (u d : Node) where
  pub follow_child : (a : ℕ) → o ≡ Some a → IsPlaceOrNone (length nodes) o → i ≡ a - 1 → link_from u ≡ record (link_from (get_or nodes i d)) { next = v }
      → links (set nodes i u) ≡ follow p o v (links nodes)
  follow_child a is at e w = rw is (edited nodes a i (λ l. record l { next = v }) u d e (rw is at at) w)

  pub follow_none : o ≡ None → IsPlace (length nodes) p → i ≡ p - 1 → link_from u ≡ record (link_from (get_or nodes i d)) { first = v }
      → links (set nodes i u) ≡ follow p o v (links nodes)
  follow_none is at e w = rw is (edited nodes p i (λ l. record l { first = v }) u d e at w)

  pub precede_child : (a : ℕ) → o ≡ Some a → IsPlaceOrNone (length nodes) o → i ≡ a - 1 → link_from u ≡ record (link_from (get_or nodes i d)) { previous = v }
      → links (set nodes i u) ≡ precede p o v (links nodes)
  precede_child a is at e w = rw is (edited nodes a i (λ l. record l { previous = v }) u d e (rw is at at) w)

  pub precede_none : o ≡ None → IsPlace (length nodes) p → i ≡ p - 1 → link_from u ≡ record (link_from (get_or nodes i d)) { last = v }
      → links (set nodes i u) ≡ precede p o v (links nodes)
  precede_none is at e w = rw is (edited nodes p i (λ l. record l { last = v }) u d e at w)

-- two changes of one link
edit_at-twice : (i : ℕ) (g h : Link → Link) (ls : List Link) → edit_at i g (edit_at i h ls) ≡ edit_at i (λ l. g (h l)) ls
edit_at-twice i g h [] = refl
edit_at-twice zero g h (l ∷ ls) = refl
edit_at-twice (suc i) g h (l ∷ ls) = ap (λ v. l ∷ v) (edit_at-twice i g h ls)

edit-twice : (n : ℕ) (g h : Link → Link) (ls : List Link) → edit n g (edit n h ls) ≡ edit n (λ l. g (h l)) ls
edit-twice n g h ls = edit_at-twice (n - 1) g h ls

-- what `stand` writes
pub stood : (nodes : List Node) (n i : ℕ) (p a d : Option ℕ) (u v w x y z : Node) → i ≡ n - 1 → IsPlace (length nodes) n
    → link_from u ≡ record (link_from (get_or nodes i x)) { parent = p } → link_from v ≡ record (link_from (get_or (set nodes i u) i y)) { previous = a }
    → link_from w ≡ record (link_from (get_or (set (set nodes i u) i v) i z)) { next = d }
    → links (set (set (set nodes i u) i v) i w) ≡ stand n p a d (links nodes)
stood nodes n i p a d u v w x y z e at is_u is_v is_w =
    let one = edited nodes n i (λ l. record l { parent = p }) u x e at is_u in
    let two = edited (set nodes i u) n i (λ l. record l { previous = a }) v y e (at.0, omega (arith, at.1, length-set nodes i u)) is_v in
    let three = edited (set (set nodes i u) i v) n i (λ l. record l { next = d }) w z e
    (at.0, omega (arith, at.1, length-set nodes i u, length-set (set nodes i u) i v)) is_w in
    three
    ∙ ap (edit n (λ l. record l { next = d }))
    (two ∙ ap (edit n (λ l. record l { previous = a })) one ∙ edit-twice n (λ l. record l { previous = a }) (λ l. record l { parent = p }) (links nodes))
    ∙ edit-twice n (λ l. record l { next = d }) (λ l. record l { parent = p; previous = a }) (links nodes)

-- what `attach` writes
pub attached : (nodes pushed : List Node) (h i number : ℕ) (root u d : Node) → pushed ≡ nodes ++ root ∷ [] → i ≡ h - 1 → IsPlace (length nodes) h
    → number ≡ length nodes + 1 → d ≡ get_or pushed i d → link_from u ≡ record (link_from d) { shadow = number ∷ [] }
    → links (set pushed i u) ≡ edit h (λ l. record l { shadow = (length nodes + 1) ∷ [] }) (links nodes ++ link_from root ∷ [])
attached nodes pushed h i number root u d grown e at last there is =
    let wide : length pushed ≡ length nodes + 1 = omega (arith, ap (length {A = Node}) grown, length-append nodes (root ∷ [])) in
    let new : link_from u ≡ record (link_from (get_or pushed i d)) { shadow = (length nodes + 1) ∷ [] } =
    is ∙ ap (λ (v : Node). record (link_from v) { shadow = number ∷ [] }) there
    ∙ ap (λ v. record (link_from (get_or pushed i d)) { shadow = v ∷ [] }) last in
    edited pushed h i (λ l. record l { shadow = (length nodes + 1) ∷ [] }) u d e (at.0, omega (arith, at.1, wide)) new
    ∙ ap (edit h (λ l. record l { shadow = (length nodes + 1) ∷ [] })) (ap links grown ∙ map-append link_from nodes (root ∷ []))

-- a change of a node's facts
pub facts_edited : (nodes : List Node) (n i : ℕ) (change : Facts → Facts) (u d : Node) → i ≡ n - 1 → IsPlace (length nodes) n
    → link_from u ≡ record (link_from (get_or nodes i d)) { facts = change (facts_of (get_or nodes i d)) }
    → links (set nodes i u) ≡ edit_facts n change (links nodes)
facts_edited nodes n i change u d e at is = edited nodes n i (λ l. record l { facts = change l.facts }) u d e at is

-- a change of its attributes alone
pub attributes_edited : (nodes : List Node) (n i : ℕ) (change : List (List ℕ × List ℕ) → List (List ℕ × List ℕ)) (u d : Node) → i ≡ n - 1
    → IsPlace (length nodes) n → u.attributes ≡ change (get_or nodes i d).attributes
    → link_from u ≡ record (link_from (get_or nodes i d)) { facts = record (facts_of (get_or nodes i d)) { attributes = u.attributes } }
    → links (set nodes i u) ≡ edit_facts n (λ x. record x { attributes = change x.attributes }) (links nodes)
attributes_edited nodes n i change u d e at new is =
    facts_edited nodes n i (λ x. record x { attributes = change x.attributes }) u d e at
    (is ∙ ap (λ v. record (link_from (get_or nodes i d)) { facts = record (facts_of (get_or nodes i d)) { attributes = v } }) new)

-- the facts that a link has
pub facts_there : (nodes : List Node) (n i : ℕ) (d : Node) (l : Link) → i ≡ n - 1 → IsPlace (length nodes) n → link_at (links nodes) n ≡ Some l
    → facts_of (get_or nodes i d) ≡ l.facts
facts_there nodes n i d l e at here =
    let there : slice_get nodes (n - 1) ≡ Some (get_or nodes i d) =
    subst (λ v. slice_get nodes v ≡ Some (get_or nodes i d)) e (slice_get-get_or nodes i d (omega (arith, e, at.0, at.1))) in
    let it : link_at (links nodes) n ≡ Some (link_from (get_or nodes i d)) = slice_get-map link_from nodes (n - 1) ∙ ap (option_map link_from) there in
    let both : Some (link_from (get_or nodes i d)) ≡ Some l = sym it ∙ here in
    let same : link_from (get_or nodes i d) ≡ l = cc in
    ap (λ (v : Link). v.facts) same

-- the link of the node that an index gives
pub link_there : (nodes : List Node) (n i : ℕ) (node : Node) → i ≡ n - 1 → i < length nodes → node ≡ get_or nodes i node
    → link_at (links nodes) n ≡ Some (link_from node)
link_there nodes n i node e lt is =
    let kept : slice_get nodes (n - 1) ≡ Some node = rw (sym e) (slice_get_read nodes (length nodes) i node refl lt is) in
    slice_get-map link_from nodes (n - 1) ∙ ap (option_map link_from) kept
