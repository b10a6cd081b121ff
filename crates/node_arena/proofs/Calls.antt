-- What the calls of the tree owe, from what they require.
use Rattle.std.proofs.Common.{◌≡◌, ◌≢◌, ℕ, ◌+◌, List, [], ◌∷◌, ◌++◌, Option, Some, None, Result, Ok, Err, Bool, true, false, cond, refl, ap, sym, subst, ◌∙◌}
use Rattle.std.proofs.Common.{arith, inl, inr, length, take, drop, OnOk, OnErr}
use Rattle.std.proofs.lemmas.Bool.{cases_lt}
use Rattle.std.proofs.lemmas.Grind.{common_steps}
use Rattle.std.proofs.lemmas.List.{length-map, map-append}
use Rattle.ce_base.specs.declared.memory.NoMemory.{NoMemory}
use Rattle.node_trees.specs.declared.kind.NodeKind.TheVariants.{Document, Element}
use Rattle.node_trees.specs.Facts.{Facts, blank, is_element, is_shadow_root}
use Rattle.node_trees.specs.Ids.{has_id}
use Rattle.node_trees.specs.Insertion.{may_insert, is_child_or_none}
use Rattle.node_trees.specs.Kinds.{KeepsKinds}
use Rattle.node_trees.specs.Links.{KeepsApart, KeepsSpots}
use Rattle.node_trees.specs.Nodes.{times, size, surplus_at, IsNode, IsNodeOrNone, IsTidy}
use Rattle.node_trees.specs.Paths.{connected}
use Rattle.node_trees.specs.Spots.{spot_at, spot_of, facts_at, kind_at, parent_at, children_at, shadow_at, next_sibling_at, first_of, after, or_no_spot}
use Rattle.node_trees.specs.Trees.{Trees, none, tree_of, graft, cut, single, with_node, with_shadow, with_facts}
use Rattle.node_trees.proofs.Absent.{spot-absent}
use Rattle.tree_laws.specs.Beside.{before}
use Rattle.tree_laws.specs.Rows.{rows_of}
use Rattle.tree_laws.proofs.Above.{parent-above}
use Rattle.tree_laws.proofs.AllowedCut.{parent-outside}
use Rattle.tree_laws.proofs.Apart.{apart-grafted}
use Rattle.tree_laws.proofs.CutReads.{in-tree}
use Rattle.tree_laws.proofs.ForestRows.{rows_of-forest, rows_of-length}
use Rattle.tree_laws.proofs.MovedSpots.{grafted, graft_rows, graft_writes, graft_is}
use Rattle.tree_laws.proofs.NewReads.{spot-new-here}
use Rattle.tree_laws.proofs.NodeKinds.{kinds-grafted, kinds-attached}
use Rattle.tree_laws.proofs.OtherSpots.{spots-grafted}
use Rattle.tree_laws.proofs.Parents.{number-is}
use Rattle.tree_laws.proofs.ShadowSpots.{attached_rows, attach_writes, attach_is}
use Rattle.tree_laws.proofs.Sizes.{new-absent}
use Rattle.tree_laws.proofs.Surplus.{KeepsKind}
use Rattle.ordered_tables.specs.Held.{is_held}
use Rattle.ordered_tables.specs.declared.id_index.IdIndex.{IdIndex}
use Rattle.tree_laws.proofs.Sizes.{size-cut}
use Rattle.tree_laws.proofs.Connected.{IsMoved, moved-grafted, moved-cut, parent-grafted, connected-attached}
use Rattle.node_arena.specs.Covers.{Covers}
use Rattle.node_arena.specs.Links.{Link, link_at, link_of, link_in, children_of, IsLinked}
use Rattle.node_arena.specs.NodeLinks.{facts_of, link_from, links, IsLoose, IsPlace, IsPlaceOrNone}
use Rattle.node_arena.specs.Seen.{Forest}
use Rattle.node_arena.specs.Writes.{edit, edit_facts, joined, parted}
use Rattle.node_arena.specs.declared.node.Node.{Node}
use Rattle.node_arena.proofs.Covering.{covers-joined, covers-parted, covers-pushed, covers-attached, covers-empty}
use Rattle.node_arena.proofs.NewFacts.{changed_linked}
use Rattle.node_arena.proofs.NewNodes.{pushed_linked, attached_linked}
use Rattle.node_arena.proofs.NodeReads.{in_place, in_place_or_none}
use Rattle.node_arena.proofs.Placed.{joined_linked, parted_linked}
use Rattle.node_arena.proofs.Written.{IsPositive}

-- a vector whose slice was written
pub written : {X : Type 0} (old now new : List X) (n : ℕ) → now ≡ old → n ≡ length old → length new ≡ length now → take n (new ++ drop (length new) old) ≡ new
written old now new n e a b = let c : length new ≡ length old = rw e at b in grind (arith, common_steps, a, c)

pub apart_of : (f : Trees) (links : List Link) (p n : ℕ) (b : Option ℕ) → IsLinked links f → IsNode f p → IsNode f n → may_insert f p n b ≡ None → p ≢ n
apart_of f links p n b is is_p is_n may e = omega (arith, parent-outside f p n b is.tidy is_n may, in-tree f n is.tidy is_n, ap (λ v. times v (tree_of n f)) e)

pub counts : (nodes : List Node) (f : Trees) → IsLinked (links nodes) f → length nodes ≡ size f
counts nodes f is = omega (arith, is.counted, length-map nodes link_from)

-- the node that was made last
pub last_node : (g : Trees) (n k : ℕ) → size g ≡ k + 1 → n ≡ k + 1 → IsNode g n
last_node g n k long is = record { low = omega (arith, is); high = omega (arith, is, long) }

-- places in a slice of the nodes
module _ (nodes now : List Node) (f : Trees) (is : IsLinked (links nodes) f) (same : now ≡ nodes) where
  pub in_slice : (n : ℕ) → IsNode f n → IsPlace (length now) n
  in_slice n at = rw same (in_place nodes f is n at)

  pub in_slice_or_none : (o : Option ℕ) → IsNodeOrNone f o → IsPlaceOrNone (length now) o
  in_slice_or_none o at = rw same (in_place_or_none nodes f is o at)

positive : (f : Trees) (o : Option ℕ) → IsNodeOrNone f o → IsPositive o
positive f None at = tt
positive f (Some n) at = at.low

-- the child before another
pub child_before_is : (f : Trees) (p c : ℕ) (o : Option ℕ) → is_child_or_none f p o ≡ true → o ≡ Some c
    → before (Some c) (children_of f (parent_at f c)) ≡ before o (children_at f p)
child_before_is f p c o child is =
    let up : parent_at f c ≡ Some p = number-is (parent_at f c) p (ap (is_child_or_none f p) (sym is) ∙ child) in
    rw (is, up) refl

-- ---- what `insert` leaves

module _ (old : List Node) (f : Trees) (p n : ℕ) (b : Option ℕ) (is : IsLinked (links old) f) (is_p : IsNode f p) (is_n : IsNode f n)
    (may : may_insert f p n b ≡ None) (free : parent_at f n ≡ None) where
  other : p ≢ n
  other = apart_of f (links old) p n b is is_p is_n may

  module _ (a : Option ℕ) (now new left : List Node) (same : now ≡ old) (back : left ≡ new) (w : links new ≡ joined p n a b (links now)) where
    pub inserted : a ≡ before b (children_at f p) → IsLinked (links left) (graft f p n b)
    inserted front =
        let all : links left ≡ joined p n (before b (children_at f p)) b (links old) =
        ap links back ∙ w ∙ ap (λ v. joined p n v b (links now)) front ∙ ap (λ v. joined p n (before b (children_at f p)) b (links v)) same in
        subst (λ ls. IsLinked ls (graft f p n b)) (sym all) (joined_linked (links old) f is p n b is_p is_n other may free)

    pub inserted_covers : (ids : IdIndex) → IsNodeOrNone f a → IsNodeOrNone f b → Covers ids (links old) → Covers ids (links left)
    inserted_covers ids at_a at_b c =
        rw back (rw w (rw same (covers-joined ids (links old) p n a b is_p.low is_n.low (positive f a at_a) (positive f b at_b) c)))

  module _ (g : Trees) (e : g ≡ graft f p n b) where
    pub inserted_size : size g ≡ size f
    inserted_size = ap size e ∙ (grafted f is.tidy p n is_p is_n other b may free).long

    pub inserted_kinds : KeepsKinds f g
    inserted_kinds = rw e (kinds-grafted (rows_of f) (graft_rows f is.tidy p n is_p is_n other b may free) f (graft f p n b) p n b (rows_of-forest f is.tidy)
        (graft_is f is.tidy p n is_p is_n other b may free) (graft_writes f is.tidy p n is_p is_n other b may free))

    pub inserted_spots : KeepsSpots p n f g
    inserted_spots = rw e (spots-grafted (rows_of f) (graft_rows f is.tidy p n is_p is_n other b may free) f (graft f p n b) p n b (rows_of-forest f is.tidy)
        (graft_is f is.tidy p n is_p is_n other b may free) (graft_writes f is.tidy p n is_p is_n other b may free))

    pub inserted_apart : connected f p ≡ false → KeepsApart f g
    inserted_apart away = rw e (apart-grafted (rows_of f) (graft_rows f is.tidy p n is_p is_n other b may free) f (graft f p n b) p n b
        (rows_of-forest f is.tidy) (graft_is f is.tidy p n is_p is_n other b may free) (graft_writes f is.tidy p n is_p is_n other b may free) is_p away)

    pub inserted_moved : IsMoved f g n
    inserted_moved = rw e (moved-grafted (rows_of f) (graft_rows f is.tidy p n is_p is_n other b may free) f (graft f p n b) p n b (rows_of-forest f is.tidy)
        (graft_is f is.tidy p n is_p is_n other b may free) (graft_writes f is.tidy p n is_p is_n other b may free))

    pub inserted_up : parent_at g n ≡ Some p
    inserted_up = rw e (parent-grafted (rows_of f) (graft_rows f is.tidy p n is_p is_n other b may free) f (graft f p n b) p n b (rows_of-forest f is.tidy)
        (graft_is f is.tidy p n is_p is_n other b may free) (graft_writes f is.tidy p n is_p is_n other b may free) is_n)

-- ---- what `remove` leaves

module _ (old : List Node) (f : Trees) (p n : ℕ) (is : IsLinked (links old) f) (is_n : IsNode f n) (up : parent_at f n ≡ Some p) where
  pub its_parent : IsNode f p
  its_parent = (parent-above f n p is.tidy is_n up).is_node

  apart : p ≢ n
  apart e = let near = (parent-above f n p is.tidy is_n up).nearer in absurd (grind (arith, e, near))

  module _ (a d : Option ℕ) (now new left : List Node) (same : now ≡ old) (back : left ≡ new) (w : links new ≡ parted p n a d (links now)) where
    pub removed : a ≡ before (Some n) (children_of f (parent_at f n)) → d ≡ next_sibling_at f n → IsLinked (links left) (cut f n)
    removed front behind =
        let of_a : a ≡ before (Some n) (children_at f p) = front ∙ ap (λ o. before (Some n) (children_of f o)) up in
        let of_d : d ≡ after n (children_at f p) = behind ∙ rw up refl in
        let all : links left ≡ parted p n (before (Some n) (children_at f p)) (after n (children_at f p)) (links old) =
        ap links back ∙ w ∙ ap (λ v. parted p n v d (links now)) of_a ∙ ap (λ v. parted p n (before (Some n) (children_at f p)) v (links now)) of_d
        ∙ ap (λ v. parted p n (before (Some n) (children_at f p)) (after n (children_at f p)) (links v)) same in
        subst (λ ls. IsLinked ls (cut f n)) (sym all) (parted_linked (links old) f is p n its_parent is_n apart up)

    pub removed_covers : (ids : IdIndex) → IsNodeOrNone f a → IsNodeOrNone f d → Covers ids (links old) → Covers ids (links left)
    removed_covers ids at_a at_d c =
        rw back (rw w (rw same (covers-parted ids (links old) p n a d its_parent.low is_n.low (positive f a at_a) (positive f d at_d) c)))

module _ (f g : Trees) (n : ℕ) (tidy : IsTidy f) (at : IsNode f n) (e : g ≡ cut f n) where
  pub removed_size : size g ≡ size f
  removed_size = ap size e ∙ size-cut f n tidy

  pub removed_moved : IsTidy g → IsMoved f g n
  removed_moved tidy_g = moved-cut f g n tidy tidy_g removed_size at e

-- ---- what a change of facts leaves

module _ (old now new left : List Node) (f : Trees) (n : ℕ) (change : Facts → Facts) (is : IsLinked (links old) f) (at : IsNode f n)
    (keeps : KeepsKind f n change) (same : now ≡ old) (back : left ≡ new) where
  pub altered : links new ≡ edit_facts n change (links now) → IsLinked (links left) (with_facts n change f)
  altered w =
      let all : links left ≡ edit_facts n change (links old) = ap links back ∙ w ∙ ap (λ v. edit_facts n change (links v)) same in
      subst (λ ls. IsLinked ls (with_facts n change f)) (sym all) (changed_linked (links old) f is n at change keeps)

  pub unaltered : links new ≡ links now → IsLinked (links left) f
  unaltered e = rw (back, e, same) is

  pub altered_or_not : {T : Type 0} (r : Result T NoMemory) → OnOk r (links new ≡ edit_facts n change (links now)) → OnErr r (links new ≡ links now)
      → Forest (links left)
  altered_or_not (Ok u) ok err = (_, altered ok)
  altered_or_not (Err e) ok err = (f, unaltered err)

-- the index over a slice of the nodes
pub written_covers : (ids after : IdIndex) (old now new left : List Node) → now ≡ old → left ≡ new → (Covers ids (links now) → Covers after (links new))
    → Covers ids (links old) → Covers after (links left)
written_covers ids after old now new left same back on c = rw back (on (rw same c))

-- the link of a node, in a slice of the nodes
pub own_link : (old now : List Node) (f : Trees) (n : ℕ) → IsLinked (links old) f → IsNode f n → now ≡ old → link_at (links now) n ≡ Some (link_in f n)
own_link old now f n is at same = rw same (is.linked n at)

-- ---- a new node at the end

loose_link : (f : Trees) (node : Node) → IsLoose node → link_from node ≡ link_of (size f + 1) (spot_of (facts_of node) None None none none) []
loose_link f node loose = rw (loose.parent, loose.host, loose.shadow, loose.first, loose.last, loose.previous, loose.next) refl

module _ (nodes new : List Node) (f : Trees) (node : Node) (is : IsLinked (links nodes) f) (loose : IsLoose node) (kind : is_shadow_root node.kind ≡ false)
    (own : surplus_at (facts_of node) ≡ 0) where
  pub pushed : new ≡ nodes ++ node ∷ [] → IsLinked (links new) (with_node (size f + 1) (facts_of node) f)
  pushed e = rw (e, map-append link_from nodes (node ∷ []))
      (pushed_linked (links nodes) f (facts_of node) is kind own (link_from node) (loose_link f node loose))

  pub pushed_or_not : (b : Bool) → new ≡ cond b (nodes ++ node ∷ []) nodes → Forest (links new)
  pushed_or_not true e = (_, pushed e)
  pushed_or_not false e = (f, rw e is)

pub pushed_covers : (ids : IdIndex) (nodes new : List Node) (node : Node) (b : Bool) → node.attributes ≡ [] → new ≡ cond b (nodes ++ node ∷ []) nodes
    → Covers ids (links nodes) → Covers ids (links new)
pushed_covers ids nodes new node true bare e c = rw (e, map-append link_from nodes (node ∷ [])) (covers-pushed ids (links nodes) (link_from node) bare c)
pushed_covers ids nodes new node false bare e c = rw e c

-- a new node has no parent
pub new_free : (f : Trees) (x : Facts) → IsTidy f → parent_at (with_node (size f + 1) x f) (size f + 1) ≡ None
new_free f x tidy = ap (λ v. (or_no_spot v).parent) (spot-new-here (size f + 1) x f (new-absent f tidy))

no_tree : IsTidy none
no_tree = record { once = λ i at. absurd (omega (arith, at.low, at.high)); only = λ i low. absurd (omega (arith, low)); rises = tt; kinds = refl; parts = refl }

-- a document alone
pub one_document : (nodes new : List Node) (node : Node) → nodes ≡ [] → facts_of node ≡ blank Document 1 → IsLoose node → new ≡ nodes ++ node ∷ []
    → IsLinked (links new) (single 1 (blank Document 1))
one_document nodes new node empty facts loose e =
    let none_yet : IsLinked [] none = record { tidy = no_tree; counted = refl; linked = λ n at. absurd (omega (arith, at.low, at.high)) } in
    rw (e, empty) (subst (λ x. IsLinked (link_from node ∷ []) (with_node 1 x none)) facts
    (pushed_linked [] none (facts_of node) none_yet (ap (λ (x : Facts). is_shadow_root x.kind) facts) (ap surplus_at facts) (link_from node)
    (loose_link none node loose)))

pub one_covers : (ids : IdIndex) (nodes new : List Node) (node : Node) → nodes ≡ [] → node.attributes ≡ [] → new ≡ nodes ++ node ∷ [] → Covers ids (links new)
one_covers ids nodes new node empty bare e = rw (e, empty) (covers-pushed ids [] (link_from node) bare (covers-empty ids))

-- ---- a shadow root at a host

no_first : (ns : List ℕ) → first_of ns ≡ None → ns ≡ []
no_first [] e = refl
no_first (n ∷ ns) e = cc

module _ (old new : List Node) (f : Trees) (h : ℕ) (root : Node) (x : Facts) (is : IsLinked (links old) f) (at : IsNode f h) (element : kind_at f h ≡ Element)
    (bare : shadow_at f h ≡ None) (fit : is_shadow_root x.kind ≡ true) (own : surplus_at x ≡ 0)
    (made : link_from root ≡ link_of (size f + 1) (spot_of x None (Some h) none none) []) where
  abbrev Attaches : Type 0
  Attaches = links new ≡ edit h (λ l. record l { shadow = (length old + 1) ∷ [] }) (links old ++ link_from root ∷ [])

  pub attached_forest : Attaches → IsLinked (links new) (with_shadow h (single (size f + 1) x) f)
  attached_forest w =
      let count : length old + 1 ≡ size f + 1 = omega (arith, is.counted, length-map old link_from) in
      let all : links new ≡ edit h (λ l. record l { shadow = (size f + 1) ∷ [] }) (links old ++ link_from root ∷ []) =
      w ∙ ap (λ v. edit h (λ l. record l { shadow = v ∷ [] }) (links old ++ link_from root ∷ [])) count in
      subst (λ ls. IsLinked ls (with_shadow h (single (size f + 1) x) f)) (sym all)
      (attached_linked (links old) f is h at x (ap is_element element) (no_first (spot_at f h).shadow bare) fit own (link_from root) made)

  pub attached_or_not : (r : Result ℕ NoMemory) → OnOk r Attaches → OnErr r (new ≡ old) → Forest (links new)
  attached_or_not (Ok n) ok err = (_, attached_forest ok)
  attached_or_not (Err e) ok err = (f, rw err is)

  pub attached_covers : (ids : IdIndex) (r : Result ℕ NoMemory) → (facts_of root).attributes ≡ [] → OnOk r Attaches → OnErr r (new ≡ old)
      → Covers ids (links old) → Covers ids (links new)
  attached_covers ids (Ok n) empty ok err c = rw ok (covers-attached ids (links old) (link_from root) h (length old + 1) at.low empty c)
  attached_covers ids (Err e) empty ok err c = rw err c

  pub attached_connected : (g : Trees) → g ≡ with_shadow h (single (size f + 1) x) f → (m : ℕ) → IsNode f m → connected g m ≡ connected f m
  attached_connected g e =
      let none_there = no_first (spot_at f h).shadow bare in
      let is_el = ap is_element element in
      rw e (connected-attached (rows_of f) (attached_rows f is.tidy h at x is_el none_there fit own) f (with_shadow h (single (size f + 1) x) f) h
      (size f + 1) x (rows_of-forest f is.tidy) (attach_is f is.tidy h at x is_el none_there fit own) (ap (λ v. v + 1) (sym (rows_of-length f)))
      (attach_writes f is.tidy h at x is_el none_there fit own))

  pub attached_kinds : (g : Trees) → g ≡ with_shadow h (single (size f + 1) x) f → KeepsKinds f g
  attached_kinds g e =
      let none_there = no_first (spot_at f h).shadow bare in
      let is_el = ap is_element element in
      rw e (kinds-attached (rows_of f) (attached_rows f is.tidy h at x is_el none_there fit own) f (with_shadow h (single (size f + 1) x) f) h (size f + 1) x
      (rows_of-forest f is.tidy) (attach_is f is.tidy h at x is_el none_there fit own) (ap (λ v. v + 1) (sym (rows_of-length f)))
      (attach_writes f is.tidy h at x is_el none_there fit own))

pub root_link : (f : Trees) (h : ℕ) (plain root : Node) (x : Facts) → IsLoose plain → root ≡ record plain { host = Some h } → facts_of plain ≡ x
    → link_from root ≡ link_of (size f + 1) (spot_of x None (Some h) none none) []
root_link f h plain root x loose e facts = rw (e, loose.parent, loose.shadow, loose.first, loose.last, loose.previous, loose.next, facts) refl

-- ---- what is no node has no id

pub not_made : (f : Trees) (n : ℕ) → IsTidy f → (IsNode f n → ⊥) → (id : List ℕ) → has_id id (facts_at f n) ≡ false
not_made f n tidy unmade id =
    let gone : times n f ≡ 0 = elim (cases_lt 0 (times n f)) [ inl low ↦ absurd (unmade (tidy.only n low)) | inr out ↦ omega arith ] in
    ap (λ o. has_id id (or_no_spot o).facts) (spot-absent None None n f gone)

-- what the index covers, by the reads of the forest
pub covers_all : (ids : IdIndex) (nodes : List Node) (f : Trees) (id : List ℕ) → IsLinked (links nodes) f → Covers ids (links nodes) → (m : ℕ)
    → has_id id (facts_at f m) ≡ true → is_held ids id m ≡ true
covers_all ids nodes f id is c m has = elim (cases_lt 0 (times m f)) [
  | inl low ↦ let at = is.tidy.only m low in c.held id m (link_in f m) at.low (is.linked m at) has
  | inr out ↦ absurd (let gone : times m f ≡ 0 = omega arith in let no = ap (λ o. has_id id (or_no_spot o).facts) (spot-absent None None m f gone) in cc)
]
