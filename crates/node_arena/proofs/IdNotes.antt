-- The index of ids after an attribute was set or taken away.
use Rattle.std.proofs.Common.{◌≡◌, ◌≢◌, ℕ, true, false, ◌<◌, Bool, List, Some, None, refl, ap, sym, ◌∙◌, subst}
use Rattle.std.specs.Prelude.{bytes_eq, codes, ◌&&◌}
use Rattle.std.proofs.lemmas.Slice.Eq.{bytes_eq-Decides}
use Rattle.node_trees.specs.Facts.{Facts, is_element, value_in, with_value, without_value}
use Rattle.node_trees.specs.Ids.{has_id, is_id}
use Rattle.ordered_tables.specs.Held.{is_held}
use Rattle.ordered_tables.specs.declared.id_index.IdIndex.{IdIndex}
use Rattle.node_arena.specs.Covers.{Covers}
use Rattle.node_arena.specs.Links.{Link, link_at}
use Rattle.node_arena.specs.Writes.{edit_facts}
use Rattle.node_arena.proofs.Covering.{covers-changed, has_id-value}
use Rattle.node_arena.proofs.Values.{value_in-set_here, value_in-set_other, value_in-taken_other}

abbrev pub id_name : List ℕ
id_name = codes "id"

-- an id stays with the value of its attribute
same_id : (x : Facts) (attributes : List (List ℕ × List ℕ)) (id : List ℕ) → value_in attributes id_name ≡ value_in x.attributes id_name
    → has_id id (record x { attributes = attributes }) ≡ true → has_id id x ≡ true
same_id x attributes id e has = ap (λ v. is_element x.kind && is_id id v) (sym e) ∙ has

module _ (ids two : IdIndex) (ls : List Link) (n : ℕ) (low : 0 < n) (c : Covers ids ls) (name : List ℕ) (b : Bool) (tests : b ≡ bytes_eq name id_name) where
  -- noted for its value where it is an id, and forgotten for no id that it has
  module _ (one : IdIndex) (value : List ℕ) where
    pub covers-set : (b ≡ true → is_held one value n ≡ true) → ((id : List ℕ) (m : ℕ) → is_held ids id m ≡ true → is_held one id m ≡ true)
        → ((id : List ℕ) (m : ℕ) → n ≢ m → is_held two id m ≡ is_held one id m)
        → ((k : Link) (id : List ℕ) → link_at ls n ≡ Some k → value_in (with_value name value k.facts.attributes) id_name ≡ Some id
        → is_held two id n ≡ is_held one id n)
        → Covers two (edit_facts n (λ x. record x { attributes = with_value name value x.attributes }) ls)
    covers-set noted kept others has =
        covers-changed ids two ls n (with_value name value) low c (λ id m ne held. others id m ne ∙ kept id m held)
        (λ k id at owned.
        let xs = k.facts.attributes in
        let is : value_in (with_value name value xs) id_name ≡ Some id = has_id-value id (record k.facts { attributes = with_value name value xs }) owned in
        has k id at is
        ∙ elim b as (λ t. b ≡ t → is_held one id n ≡ true) [
          | true ↦ λ t.
              let same : name ≡ id_name = (bytes_eq-Decides name id_name).0 (sym tests ∙ t) in
              let set : value_in (with_value name value xs) id_name ≡ Some value =
              subst (λ v. value_in (with_value name value xs) v ≡ Some value) same (value_in-set_here name value xs) in
              let eq : value ≡ id = let it = sym set ∙ is in cc in
              subst (λ v. is_held one v n ≡ true) eq (noted t)
          | false ↦ λ t. kept id n (c.held id n k low at
              (same_id k.facts (with_value name value xs) id (value_in-set_other name value id_name xs (sym tests ∙ t)) owned))
        ] refl)

  -- forgotten where it was an id
  pub covers-taken : (b ≡ false → (id : List ℕ) (m : ℕ) → is_held two id m ≡ is_held ids id m)
      → ((id : List ℕ) (m : ℕ) → n ≢ m → is_held two id m ≡ is_held ids id m)
      → ((k : Link) → link_at ls n ≡ Some k → value_in (without_value name k.facts.attributes) name ≡ None)
      → Covers two (edit_facts n (λ x. record x { attributes = without_value name x.attributes }) ls)
  covers-taken still others gone =
      covers-changed ids two ls n (without_value name) low c (λ id m ne held. others id m ne ∙ held)
      (λ k id at owned.
      let xs = k.facts.attributes in
      let is : value_in (without_value name xs) id_name ≡ Some id = has_id-value id (record k.facts { attributes = without_value name xs }) owned in
      elim b as (λ t. b ≡ t → is_held two id n ≡ true) [
        | true ↦ λ t.
            let same : name ≡ id_name = (bytes_eq-Decides name id_name).0 (sym tests ∙ t) in
            let none_left : value_in (without_value name xs) id_name ≡ None = subst (λ v. value_in (without_value name xs) v ≡ None) same (gone k at) in
            absurd (let it = sym is ∙ none_left in cc)
        | false ↦ λ t. still t id n ∙ c.held id n k low at
            (same_id k.facts (without_value name xs) id (value_in-taken_other name id_name xs (sym tests ∙ t)) owned)
      ] refl)
