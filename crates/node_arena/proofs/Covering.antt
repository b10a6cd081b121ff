-- The index of ids after each write.
use Rattle.std.proofs.Common.{◌≡◌, ◌≢◌, ℕ, zero, suc, true, false, ◌-◌, ◌<◌, List, [], ◌∷◌, ◌++◌, Option, Some, None, refl, ap, sym, ◌∙◌, subst, inl}
use Rattle.std.proofs.Common.{inr, length, slice_get}
use Rattle.std.specs.Option.{option_map}
use Rattle.std.specs.Prelude.{codes, ◌&&◌}
use Rattle.std.proofs.lemmas.Bool.{cases_eq, and_parts}
use Rattle.std.proofs.lemmas.Slice.Eq.{bytes_eq-Decides}
use Rattle.node_trees.specs.Facts.{Facts, is_element, value_in}
use Rattle.node_trees.specs.Ids.{has_id, is_id}
use Rattle.tree_laws.proofs.Alike.{no-id}
use Rattle.tree_laws.proofs.ByIndex.{slice_get-append_other, slice_get-append_end}
use Rattle.ordered_tables.specs.Held.{is_held}
use Rattle.ordered_tables.specs.declared.id_index.IdIndex.{IdIndex}
use Rattle.node_arena.specs.Covers.{Covers}
use Rattle.node_arena.specs.Links.{Link, link_at}
use Rattle.node_arena.specs.Writes.{edit_at, edit, edit_facts, follow, precede, stand, joined, parted}
use Rattle.node_arena.proofs.Written.{IsPositive, edit-other}

-- ---- the links that a write left, by those before

edit_at-map : (i : ℕ) (g : Link → Link) (ls : List Link) → slice_get (edit_at i g ls) i ≡ option_map g (slice_get ls i)
edit_at-map i g [] = refl
edit_at-map zero g (l ∷ ls) = refl
edit_at-map (suc i) g (l ∷ ls) = edit_at-map i g ls

mapped-some : (o : Option Link) (g : Link → Link) (l : Link) → option_map g o ≡ Some l → (k : Link) × ((o ≡ Some k) × (g k ≡ l))
mapped-some None g l e = absurd cc
mapped-some (Some k) g l e = (k, (refl, cc))

-- the link that was edited
pub edited-from : (n : ℕ) (g : Link → Link) (ls : List Link) (l : Link) → link_at (edit n g ls) n ≡ Some l → (k : Link) × ((link_at ls n ≡ Some k) × (g k ≡ l))
edited-from n g ls l e = mapped-some (link_at ls n) g l (sym (edit_at-map (n - 1) g ls) ∙ e)

-- the facts of each node are those that it had
abbrev SameFacts : List Link → List Link → Type 0
SameFacts ls new = (m : ℕ) (l : Link) → 0 < m → link_at new m ≡ Some l → (k : Link) × ((link_at ls m ≡ Some k) × (k.facts ≡ l.facts))

facts-edit : (n : ℕ) (g : Link → Link) (ls : List Link) → 0 < n → ((l : Link) → (g l).facts ≡ l.facts) → SameFacts ls (edit n g ls)
facts-edit n g ls low_n keeps m l low_m e = elim (cases_eq n m) [
  | inl same ↦
      let it = edited-from n g ls l (subst (λ v. link_at (edit n g ls) v ≡ Some l) (sym same) e) in
      (it.0, (subst (λ v. link_at ls v ≡ Some it.0) same it.1.0, sym (keeps it.0) ∙ ap (λ (k : Link). k.facts) it.1.1))
  | inr ne ↦ (l, (sym (edit-other n m g ls low_n low_m ne) ∙ e, refl))
]

facts-on : (ls mid new : List Link) → SameFacts ls mid → SameFacts mid new → SameFacts ls new
facts-on ls mid new a b m l low e =
    let one = b m l low e in
    let two = a m one.0 low one.1.0 in
    (two.0, (two.1.0, two.1.1 ∙ one.1.1))

facts-follow : (p : ℕ) (a v : Option ℕ) (ls : List Link) → 0 < p → IsPositive a → SameFacts ls (follow p a v ls)
facts-follow p None v ls low positive = facts-edit p (λ l. record l { first = v }) ls low (λ l. refl)
facts-follow p (Some a) v ls low positive = facts-edit a (λ l. record l { next = v }) ls positive (λ l. refl)

facts-precede : (p : ℕ) (d v : Option ℕ) (ls : List Link) → 0 < p → IsPositive d → SameFacts ls (precede p d v ls)
facts-precede p None v ls low positive = facts-edit p (λ l. record l { last = v }) ls low (λ l. refl)
facts-precede p (Some d) v ls low positive = facts-edit d (λ l. record l { previous = v }) ls positive (λ l. refl)

covers-same : (ids : IdIndex) (ls new : List Link) → SameFacts ls new → Covers ids ls → Covers ids new
covers-same ids ls new same c = record { held = λ id n l low e has. let it = same n l low e in c.held id n it.0 low it.1.0 (ap (has_id id) it.1.1 ∙ has) }

-- ---- links alone

module _ (ids : IdIndex) (ls : List Link) (p n : ℕ) (a d : Option ℕ) (low_p : 0 < p) (low_n : 0 < n) (low_a : IsPositive a) (low_d : IsPositive d) where
  pub covers-joined : Covers ids ls → Covers ids (joined p n a d ls)
  covers-joined =
      let stood = stand n (Some p) a d ls in
      covers-same ids ls (joined p n a d ls)
      (facts-on ls (follow p a (Some n) stood) (joined p n a d ls)
      (facts-on ls stood (follow p a (Some n) stood) (facts-edit n (λ l. record l { parent = Some p; previous = a; next = d }) ls low_n (λ l. refl))
      (facts-follow p a (Some n) stood low_p low_a))
      (facts-precede p d (Some n) (follow p a (Some n) stood) low_p low_d))

  pub covers-parted : Covers ids ls → Covers ids (parted p n a d ls)
  covers-parted =
      let loose = precede p d a (follow p a d ls) in
      covers-same ids ls (parted p n a d ls)
      (facts-on ls loose (parted p n a d ls)
      (facts-on ls (follow p a d ls) loose (facts-follow p a d ls low_p low_a) (facts-precede p d a (follow p a d ls) low_p low_d))
      (facts-edit n (λ l. record l { parent = None; previous = None; next = None }) loose low_n (λ l. refl)))

-- ---- a new node has no id

bare-no_id : (x : Facts) (id : List ℕ) → x.attributes ≡ [] → has_id id x ≡ false
bare-no_id x id e = ap (λ v. is_element x.kind && is_id id (value_in v (codes "id"))) e ∙ no-id id (is_element x.kind)

pub covers-pushed : (ids : IdIndex) (ls : List Link) (l : Link) → l.facts.attributes ≡ [] → Covers ids ls → Covers ids (ls ++ l ∷ [])
covers-pushed ids ls l bare c = record {
  held = λ id n k low e has. elim (cases_eq (n - 1) (length ls)) [
    | inl last ↦
        let at = slice_get-append_end ls l (n - 1) last in
        let same : l ≡ k = cc in
        absurd (let gone = bare-no_id l.facts id bare in let has_l = ap (λ (v : Link). has_id id v.facts) same ∙ has in cc)
    | inr ne ↦ c.held id n k low (sym (slice_get-append_other ls l (n - 1) ne) ∙ e) has
  ];
}

pub covers-attached : (ids : IdIndex) (ls : List Link) (l : Link) (h n : ℕ) → 0 < h → l.facts.attributes ≡ [] → Covers ids ls
    → Covers ids (edit h (λ l. record l { shadow = n ∷ [] }) (ls ++ l ∷ []))
covers-attached ids ls l h n low bare c =
    covers-same ids (ls ++ l ∷ []) (edit h (λ l. record l { shadow = n ∷ [] }) (ls ++ l ∷ []))
    (facts-edit h (λ l. record l { shadow = n ∷ [] }) (ls ++ l ∷ []) low (λ l. refl)) (covers-pushed ids ls l bare c)

pub covers-empty : (ids : IdIndex) → Covers ids []
covers-empty ids = record { held = λ id n l low e has. absurd cc }

-- ---- an attribute of one node

id_value : (id : List ℕ) (o : Option (List ℕ)) → is_id id o ≡ true → o ≡ Some id
id_value [] o e = absurd cc
id_value (i ∷ id) None e = absurd cc
id_value (i ∷ id) (Some t) e = ap Some ((bytes_eq-Decides t (i ∷ id)).0 e)

-- the id that a node has is the value of its attribute `id`
pub has_id-value : (id : List ℕ) (x : Facts) → has_id id x ≡ true → value_in x.attributes (codes "id") ≡ Some id
has_id-value id x has = id_value id (value_in x.attributes (codes "id")) (and_parts (is_element x.kind) (is_id id (value_in x.attributes (codes "id"))) has).1

module _ (ids new : IdIndex) (ls : List Link) (n : ℕ) (change : List (List ℕ × List ℕ) → List (List ℕ × List ℕ)) (low : 0 < n) (c : Covers ids ls) where
  abbrev into : Facts → Facts
  into = λ x. record x { attributes = change x.attributes }

  -- where the others are held as they were, and the node for the id that it has now
  pub covers-changed : ((id : List ℕ) (m : ℕ) → n ≢ m → is_held ids id m ≡ true → is_held new id m ≡ true)
      → ((k : Link) (id : List ℕ) → link_at ls n ≡ Some k → has_id id (into k.facts) ≡ true → is_held new id n ≡ true) → Covers new (edit_facts n into ls)
  covers-changed others own = record {
    held = λ id m l low_m e has. elim (cases_eq n m) [
      | inl same ↦
          let it = edited-from n (λ (l : Link). let r : Link = record l { facts = into l.facts } in r) ls l
          (subst (λ v. link_at (edit_facts n into ls) v ≡ Some l) (sym same) e) in
          subst (λ v. is_held new id v ≡ true) same (own it.0 id it.1.0 (ap (λ (k : Link). has_id id k.facts) it.1.1 ∙ has))
      | inr ne ↦ others id m ne (c.held id m l low_m (sym (edit-other n m (λ (l : Link). record l { facts = into l.facts }) ls low low_m ne) ∙ e) has)
    ];
  }

-- ---- facts beside the kind and the attributes

pub covers-kept : (ids : IdIndex) (ls : List Link) (n : ℕ) (change : Facts → Facts) → 0 < n → ((x : Facts) (id : List ℕ) → has_id id (change x) ≡ has_id id x)
    → Covers ids ls → Covers ids (edit_facts n change ls)
covers-kept ids ls n change low same c = record {
  held = λ id m l low_m e has. elim (cases_eq n m) [
    | inl eq ↦
        let it = edited-from n (λ (l : Link). let r : Link = record l { facts = change l.facts } in r) ls l
        (subst (λ v. link_at (edit_facts n change ls) v ≡ Some l) (sym eq) e) in
        let had : has_id id it.0.facts ≡ true = sym (same it.0.facts id) ∙ ap (λ (k : Link). has_id id k.facts) it.1.1 ∙ has in
        subst (λ v. is_held ids id v ≡ true) eq (c.held id n it.0 low it.1.0 had)
    | inr ne ↦ c.held id m l low_m (sym (edit-other n m (λ (l : Link). record l { facts = change l.facts }) ls low low_m ne) ∙ e) has
  ];
}
