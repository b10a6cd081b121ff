-- Notes of what a move looks at: how they are made, and what a touch leaves of them.
use Rattle.std.proofs.Common.{◌≡◌, ◌≢◌, ◌⊎◌, ℕ, zero, suc, ◌+◌, ◌-◌, ◌<◌, ◌==◌, Bool, true, false, List, [], ◌∷◌, ◌++◌, length, Option, Some, None, refl, sym}
use Rattle.std.proofs.Common.{ap, ◌∙◌, subst, arith, inl, inr}
use Rattle.std.specs.Prelude.{◌||◌, codes, is_some}
use Rattle.std.specs.BTreeMap.{get_by_text}
use Rattle.std.specs.BTreeSet.{BTreeSet, contains}
use Rattle.std.specs.Option.{option_map_or}
use Rattle.std.specs.Ordering.{nat_cmp}
use Rattle.std.proofs.lemmas.Bool.{cases_eq, eqb-true}
use Rattle.element_names.specs.declared.natives.Native.TheVariants.{OptionItem}
use Rattle.element_names.specs.Natives.{native, same_native}
use Rattle.node_trees.specs.Facts.{Facts, value_in}
use Rattle.node_trees.specs.Trees.{Trees}
use Rattle.node_trees.specs.Ids.{has_id}
use Rattle.node_trees.specs.Nodes.{IsNode}
use Rattle.node_trees.specs.Paths.{is_among}
use Rattle.node_trees.specs.Spots.{attribute_at, facts_at}
use Rattle.ordered_tables.specs.Held.{is_held, is_known}
use Rattle.ordered_tables.specs.declared.id_index.IdIndex.{IdIndex}
use Rattle.form_controls.specs.Kinds.{is_a}
use Rattle.form_controls.specs.Owners.{Forms, is_associated, is_listed_native}
use Rattle.owner_reading.specs.Owners.{listed_by}
use Rattle.owner_rows.specs.OwnerRow.{OwnerRow, row_in, row_of}
use Rattle.form_owner.specs.declared.looks.Look.{Look}
use Rattle.form_owner.specs.declared.looks.Look.TheVariants.{Whole, Id, Nothing}
use Rattle.form_owner.specs.declared.touch.Touch.{Touch}
use Rattle.form_owner.specs.declared.touch.Touch.TheVariants.{Inserted, Removed, Attr, Associated}
use Rattle.form_owner.specs.Candidates.{Considers, is_concerned, is_named_by, is_with}
use Rattle.form_owner.specs.Looks.{AreKept, AreNotedWhole, AreRight, IsRight, IsRightAt, IsTouching, IsUnnamed, KnowsBy, SaysNoMore, known_by, is_touching}
use Rattle.form_owner.specs.Looks.{look_at}
use Rattle.form_owner.specs.OwnerRows.{OwnerRows}
use Rattle.form_owner.specs.Touches.{IsTouched, after_touch, associated_by}
use Rattle.form_owner.proofs.Considering.{nothing}
use Rattle.form_owner.proofs.Touched.{among-with, size-stays}
use Rattle.form_owner.proofs.Touching.{facts-stay, is_changed}

-- notes are made

-- with one more note behind the others, each is what it was, or the new one
noted-more : (looks : List Look) (look : Look) (i : ℕ)
    → (look_at (looks ++ look ∷ []) i ≡ look_at looks i) ⊎ ((i ≡ length looks) × (look_at (looks ++ look ∷ []) i ≡ look))
noted-more [] look zero = inr (refl, refl)
noted-more [] look (suc i) = inl refl
noted-more (l ∷ ls) look zero = inl refl
noted-more (l ∷ ls) look (suc i) = elim (noted-more ls look i) [
  | inl same ↦ inl same
  | inr last ↦ let at = last.0 in inr (omega (arith, at), last.1)
]

module _ (forest : Trees) (rows : List OwnerRow) (known : List ℕ → Bool) (n : ℕ) (look : Look) (right : IsRight forest rows known look n) where
  here : (i : ℕ) → n ≡ i + 1 → (noted : Look) → noted ≡ look → IsRight forest rows known noted (i + 1)
  here i same noted is = subst (λ k. IsRight forest rows known noted k) same (subst (λ l. IsRight forest rows known l n) (sym is) right)

  here-or-whole : (i : ℕ) → n ≡ i + 1 → (noted : Look) → (noted ≢ Whole → noted ≡ look) → IsRight forest rows known noted (i + 1)
  here-or-whole i same Whole is = tt
  here-or-whole i same Id is = here i same Id (is (λ e. absurd cc))
  here-or-whole i same Nothing is = here i same Nothing (is (λ e. absurd cc))

  pub noted-next : (start old new : List Look) → n ≡ length old + 1 → new ≡ old ++ look ∷ []
      → ((i : ℕ) → IsRightAt forest rows known start i → IsRightAt forest rows known old i) → (i : ℕ) → IsRightAt forest rows known start i
      → IsRightAt forest rows known new i
  noted-next start old new place longer so_far i was = elim (noted-more old look i) [
    | inl same ↦ subst (λ l. IsRight forest rows known l (i + 1)) (sym (ap (λ v. look_at v i) longer ∙ same)) (so_far i was)
    | inr last ↦ let at = last.0 in here i (omega (arith, at, place)) (look_at new i) (ap (λ v. look_at v i) longer ∙ last.1)
  ]

  pub noted-again : 0 < n → (old new : List Look) → (look_at new (n - 1) ≢ Whole → look_at new (n - 1) ≡ look)
      → ((i : ℕ) → i ≢ n - 1 → look_at new i ≡ look_at old i) → (i : ℕ) → (i ≢ n - 1 → IsRightAt forest rows known old i) → IsRightAt forest rows known new i
  noted-again low old new at others i was = elim (cases_eq i (n - 1)) [
    | inl e ↦ here-or-whole i (omega (arith, low, e)) (look_at new i) (subst (λ k. look_at new k ≢ Whole → look_at new k ≡ look) (sym e) at)
    | inr ne ↦ subst (λ l. IsRight forest rows known l (i + 1)) (sym (others i ne)) (was ne)
  ]

-- what a touch says something of is a node
pub on-node : (touch : Touch) (old new : Trees) → IsTouched touch old new → IsTouching touch new
on-node (Inserted n) old new t = tt
on-node (Removed n parent) old new t = tt
on-node (Attr n) old new t = let low = t.element.node.low in let high = t.element.node.high in record { low = low; high = omega (arith, high, t.size_is) }
on-node (Associated n on) old new t = subst (λ f. IsNode f n) (sym t.is) t.element.node

-- what is passed over

unknown-none : (o : Option (BTreeSet ℕ)) (m : ℕ) → is_some o ≡ false → option_map_or (λ s. contains nat_cmp s m) o false ≡ false
unknown-none None m e = refl
unknown-none (Some s) m e = absurd cc

-- nobody is noted for a text that is not known
pub unknown-unheld : (index : IdIndex) (id : List ℕ) (m : ℕ) → is_known index id ≡ false → is_held index id m ≡ false
unknown-unheld index id m = unknown-none (get_by_text index.groups id) m

by-nobody : (forest : Trees) (index : IdIndex) (n : ℕ) → IsUnnamed forest (is_known index) n → (o : Option (List ℕ)) → attribute_at forest n (codes "id") ≡ o
    → (m : ℕ) → is_named_by (is_held index) o m ≡ false
by-nobody forest index n unnamed None is m = refl
by-nobody forest index n unnamed (Some id) is m = unknown-unheld index id m (unnamed id is).unknown

-- forms are not about n
module _ (forest : Trees) (rows : List OwnerRow) (n : ℕ) (apart : is_concerned forest rows n ≡ false) where
  pub passed-node : {test : ℕ → Bool} {old new : List ℕ} → Considers forest (is_concerned forest rows) test old new
      → Considers forest (is_concerned forest rows) (λ m. n == m || test m) old new
  passed-node {test} {old} {new} all = record {
    nodes = all.nodes;
    kept = all.kept;
    found = λ m node about passes. by_test m node about (n == m) refl passes;
  }
    where
      by_test : (m : ℕ) → IsNode forest m → is_concerned forest rows m ≡ true → (b : Bool) → (n == m) ≡ b → (b || test m) ≡ true → is_among m new ≡ true
      by_test m node about true e passes =
          absurd (let it : is_concerned forest rows m ≡ false = subst (λ k. is_concerned forest rows k ≡ false) (eqb-true n m e) apart in cc)
      by_test m node about false e passes = all.found m node about passes

module _ (forest : Trees) (rows : List OwnerRow) (index : IdIndex) (looks : List Look) (are : AreRight forest rows (is_known index) looks) (n : ℕ)
    (node : IsNode forest n) where
  right-of : (look : Look) → look ≡ look_at looks (n - 1) → IsRight forest rows (is_known index) look n
  right-of look noted = let low = node.low in let same : (n - 1) + 1 ≡ n =
      omega (arith, low) in subst (λ k. IsRight forest rows (is_known index) look k) same
      (subst (λ l. IsRight forest rows (is_known index) l ((n - 1) + 1)) (sym noted) (are (n - 1)))

  pub passed-by : Nothing ≡ look_at looks (n - 1) → (set : List ℕ) → Considers forest (is_concerned forest rows) (is_with forest (is_held index) n) set set
  passed-by noted set =
      passed-node forest rows n (right-of Nothing noted).0.apart
      (nothing (is_named_by (is_held index) (attribute_at forest n (codes "id"))) set
      (λ m about. by-nobody forest index n (right-of Nothing noted).1 (attribute_at forest n (codes "id")) refl m))

-- the notes of a table, lent
pub looks-lent : (forest : Trees) (table : OwnerRows) (rows : List OwnerRow) (index : IdIndex) (looks : List Look) → rows ≡ table.rows → index ≡ table.named
    → looks ≡ table.looks → AreRight forest table.rows (is_known table.named) table.looks → AreRight forest rows (is_known index) looks
looks-lent forest table rows index looks same_rows same_index same_looks are =
    subst (λ r. AreRight forest r (is_known index) looks) (sym same_rows)
    (subst (λ x. AreRight forest table.rows (is_known x) looks) (sym same_index)
    (subst (AreRight forest table.rows (is_known table.named)) (sym same_looks) are))

-- what is right stays so

-- the same IDs, and no texts but those that were known
pub unnamed-still : (old new : Trees) (was is : List ℕ → Bool) (m : ℕ) → ((id : List ℕ) → has_id id (facts_at new m) ≡ has_id id (facts_at old m))
    → attribute_at new m (codes "id") ≡ attribute_at old m (codes "id") → ((id : List ℕ) → was id ≡ false → is id ≡ false) → IsUnnamed old was m
    → IsUnnamed new is m
unnamed-still old new was is m has same texts unnamed id at =
    let it = unnamed id (sym same ∙ at) in
    record { has = has id ∙ it.has; unknown = texts id it.unknown }

pub right-still : (old new : Trees) (was is : List OwnerRow) (known : List ℕ → Bool) (m : ℕ) → (IsNode old m → IsNode new m)
    → (IsNode old m → is_concerned new is m ≡ is_concerned old was m)
    → (IsNode old m → (id : List ℕ) → has_id id (facts_at new m) ≡ has_id id (facts_at old m))
    → attribute_at new m (codes "id") ≡ attribute_at old m (codes "id") → (look : Look) → IsRight old was known look m → IsRight new is known look m
right-still old new was is known m node about has same Whole right = tt
right-still old new was is known m node about has same Id right = record { node = node right.node; apart = about right.node ∙ right.apart }
right-still old new was is known m node about has same Nothing right = (
  record { node = node right.0.node; apart = about right.0.node ∙ right.0.apart },
  unnamed-still old new known known m (has right.0.node) same (λ id e. e) right.1,
)

-- a note says no more than itself
pub the-same : (a : Look) → SaysNoMore a a
the-same Whole = tt
the-same Id = λ e. absurd cc
the-same Nothing = refl

-- what is kept is right by the texts that are seen now
module _ (forest : Trees) (rows : List OwnerRow) (was now : List ℕ → Bool) (n : ℕ) where
  pub right-kept : (old new : Look) → SaysNoMore old new → (new ≡ Nothing → IsUnnamed forest was n → IsUnnamed forest now n) → IsRight forest rows was old n
      → IsRight forest rows now new n
  right-kept old Whole less unnamed right = tt
  right-kept Whole Id less unnamed right = absurd (less refl)
  right-kept Id Id less unnamed right = right
  right-kept Nothing Id less unnamed right = right.0
  right-kept old Nothing less unnamed right = let it : IsRight forest rows was Nothing n =
      subst (λ l. IsRight forest rows was l n) less right in (it.0, unnamed refl it.1)

  pub right-seen : ((id : List ℕ) → was id ≡ false → now id ≡ false) → (look : Look) → IsRight forest rows was look n → IsRight forest rows now look n
  right-seen same Whole right = tt
  right-seen same Id right = right
  right-seen same Nothing right = (right.0, unnamed-still forest forest was now n (λ id. refl) refl same right.1)

-- what a touch leaves

unchanged-by : (touch : Touch) (m : ℕ) → is_touching touch m ≡ false → is_changed touch m ≡ false
unchanged-by (Inserted n) m e = refl
unchanged-by (Removed n parent) m e = refl
unchanged-by (Attr n) m e = e
unchanged-by (Associated n on) m e = refl

same-members : (touch : Touch) (ns : List ℕ) (m : ℕ) → is_touching touch m ≡ false → is_among m (associated_by touch ns) ≡ is_among m ns
same-members (Inserted n) ns m e = refl
same-members (Removed n parent) ns m e = refl
same-members (Attr n) ns m e = refl
same-members (Associated n on) ns m e = among-with n m on ns ∙ grind (arith, e)

module _ (touch : Touch) (before : Forms) (now : Trees) (touched : IsTouched touch before.forest now) where
  node-now : (m : ℕ) → IsNode before.forest m → IsNode now m
  node-now m node = let low = node.low in let high = node.high in record { low = low; high = omega (arith, high, size-stays touch before.forest now touched) }

  module _ (m : ℕ) (apart : is_touching touch m ≡ false) where
    facts-now : facts_at now m ≡ facts_at before.forest m
    facts-now = facts-stay touch before.forest now touched m (unchanged-by touch m apart)

    about-now : (rows : List OwnerRow) → is_concerned now rows m ≡ is_concerned before.forest rows m
    about-now rows = ap (λ (x : Facts). (is_listed_native (native x.local) || (row_of rows m).associated) || same_native OptionItem (native x.local)) facts-now

    has-now : (id : List ℕ) → has_id id (facts_at now m) ≡ has_id id (facts_at before.forest m)
    has-now id = ap (has_id id) facts-now

    id-now : attribute_at now m (codes "id") ≡ attribute_at before.forest m (codes "id")
    id-now = ap (λ (x : Facts). value_in x.attributes (codes "id")) facts-now

  -- with the rows of before
  pub looks-still : ((m : ℕ) → is_touching touch m ≡ false) → (rows : List OwnerRow) (known : List ℕ → Bool) (looks : List Look)
      → AreRight before.forest rows known looks → AreRight now rows known looks
  looks-still nowhere rows known looks are i =
      let apart = nowhere (i + 1) in
      right-still before.forest now rows rows known (i + 1) (node-now (i + 1)) (λ node. about-now (i + 1) apart rows) (λ node. has-now (i + 1) apart)
      (id-now (i + 1) apart) (look_at looks i) (are i)

  -- with the rows as they are then
  module _ (old new : List OwnerRow) (was : (i : ℕ) → (row_in old i).associated ≡ is_associated before (i + 1)) (is : (i : ℕ)
      → (row_in new i).associated ≡ is_associated (after_touch touch before now) (i + 1)) where
    flag : (m : ℕ) → 0 < m → is_touching touch m ≡ false → (row_of new m).associated ≡ (row_of old m).associated
    flag m low apart =
        let same : (m - 1) + 1 ≡ m = omega (arith, low) in
        is (m - 1) ∙ ap (is_associated (after_touch touch before now)) same ∙ same-members touch before.associated m apart
        ∙ sym (was (m - 1) ∙ ap (is_associated before) same)

    looks-then : (known : List ℕ → Bool) (looks : List Look) → AreRight before.forest old known looks → (i : ℕ) → is_touching touch (i + 1) ≡ false
        → IsRightAt now new known looks i
    looks-then known looks are i apart =
        right-still before.forest now old new known (i + 1) (node-now (i + 1))
        (λ node. ap (λ b. listed_by now (i + 1) b || is_a OptionItem now (i + 1)) (flag (i + 1) (omega arith) apart) ∙ about-now (i + 1) apart old)
        (λ node. has-now (i + 1) apart) (id-now (i + 1) apart) (look_at looks i) (are i)

    -- and with the texts
    pub looks-seen : (known then : List ℕ → Bool) (looks minded : List Look) → AreRight before.forest old known looks
        → AreKept now known (known_by touch now known) looks minded → KnowsBy touch now known then → (i : ℕ) → is_touching touch (i + 1) ≡ false
        → IsRightAt now new then minded i
    looks-seen known then looks minded are kept same i apart =
        right-seen now new (known_by touch now known) then (i + 1) same (look_at minded i)
        (right-kept now new known (known_by touch now known) (i + 1) (look_at looks i) (look_at minded i) (kept.less i) (kept.unnamed i)
        (looks-then known looks are i apart))

-- whom forms are about is looked at as a whole, where each note is right
pub noted-whole : (forest : Trees) (rows : List OwnerRow) (known : List ℕ → Bool) (looks : List Look) → AreRight forest rows known looks
    → AreNotedWhole forest rows looks
noted-whole forest rows known looks are n node about =
    by_note (look_at looks (n - 1)) (subst (λ k. IsRight forest rows known (look_at looks (n - 1)) k) (let low = node.low in omega (arith, low)) (are (n - 1)))
  where
    by_note : (look : Look) → IsRight forest rows known look n → look ≡ Whole
    by_note Whole right = refl
    by_note Id right = absurd (let apart = right.apart in cc)
    by_note Nothing right = absurd (let apart = right.0.apart in cc)
