-- What an index has after a write at one id.
use Rattle.std.proofs.Common.{◌≡◌, ℕ, Bool, true, false, cond, not, ◌==◌, List, [], Some, None, String, refl, ap, sym, ◌∙◌, subst, arith, length, ◌∷◌}
use Rattle.std.specs.Prelude.{◌||◌, ◌&&◌, bytes_eq, string_bytes, is_some, IsSome}
use Rattle.std.specs.Option.{option_map_or}
use Rattle.std.specs.Ordering.{nat_cmp, is_eq}
use Rattle.std.specs.Cmp.Lexicographic.{slice_cmp}
use Rattle.std.specs.BTreeMap.{BTreeMap, get_by_text, UpdatesBy, WritesThrough}
use Rattle.std.specs.BTreeSet as sets
use Rattle.std.specs.List.{list_any}
use Rattle.std.specs.BTreeSet.{BTreeSet, contains}
use Rattle.std.specs.String.{string_cmp}
use Rattle.std.proofs.lemmas.Map.Text.{btree_map_updates_text}
use Rattle.std.proofs.lemmas.Slice.Eq.{bytes_eq-Decides}
use Rattle.ce_base.proofs.SameTexts.{same_text}
use Rattle.ordered_tables.proofs.Places.{number_test}

-- whether the group of this id has the number
abbrev pub holds : {Y : Type 0} → BTreeMap (String Y) (BTreeSet ℕ) → List ℕ → ℕ → Bool
holds groups q m = option_map_or (λ s. contains nat_cmp s m) (get_by_text groups q) false

set_put : (s t : BTreeSet ℕ) (n m : ℕ) → sets.Updates nat_cmp s t n true → contains nat_cmp t m ≡ (contains nat_cmp s m || n == m)
set_put s t n m u = let at = u.0 m in let e = number_test n m in grind (arith, at, e)

set_taken : (s t : BTreeSet ℕ) (n m : ℕ) → sets.UpdatesBy nat_cmp (nat_cmp n) s t false → contains nat_cmp t m ≡ (contains nat_cmp s m && not (n == m))
set_taken s t n m u = let at = u.0 m in let e = number_test n m in grind (arith, at, e)

nothing_found : (t : BTreeSet ℕ) → ((m : ℕ) → contains nat_cmp t m ≡ false) → sets.btree_set_len t ≡ 0
nothing_found t none = go t.keys none
  where
    go : (ks : List ℕ) → ((m : ℕ) → list_any (λ k. is_eq (nat_cmp m k)) ks ≡ false) → length ks ≡ 0
    go [] e = refl
    go (k ∷ ks) e = let same = number_test k k in let found = e k in grind (arith, same, found)

no_keys : (t : BTreeSet ℕ) (m : ℕ) → sets.btree_set_len t ≡ 0 → contains nat_cmp t m ≡ false
no_keys t m none = go t.keys none
  where
    go : (ks : List ℕ) → length ks ≡ 0 → list_any (λ k. is_eq (nat_cmp m k)) ks ≡ false
    go [] e = refl
    go (k ∷ ks) e = absurd (omega (arith, e))

-- this group was written at the id, and none at another
abbrev Puts : {Y : Type 0} → BTreeMap (String Y) (BTreeSet ℕ) → BTreeMap (String Y) (BTreeSet ℕ) → List ℕ → BTreeSet ℕ → Type 0
Puts old new id t = (q : List ℕ) → get_by_text new q ≡ cond (bytes_eq id q) (Some t) (get_by_text old q)

module _ {Y : Type 0} (old new : BTreeMap (String Y) (BTreeSet ℕ)) (id : List ℕ) (t : BTreeSet ℕ) (puts : Puts old new id t) where
  here : (q : List ℕ) (m : ℕ) → bytes_eq id q ≡ true → holds new q m ≡ contains nat_cmp t m
  here q m e = ap (λ o. option_map_or (λ s. contains nat_cmp s m) o false) (puts q ∙ ap (λ b. cond b (Some t) (get_by_text old q)) e)

  elsewhere : (q : List ℕ) (m : ℕ) → bytes_eq id q ≡ false → holds new q m ≡ holds old q m
  elsewhere q m e = ap (λ o. option_map_or (λ s. contains nat_cmp s m) o false) (puts q ∙ ap (λ b. cond b (Some t) (get_by_text old q)) e)

  -- a change of the group is one of the index
  changed : (f : Bool → Bool → Bool) (n : ℕ) → ((b : Bool) → f b false ≡ b) → ((m : ℕ) → contains nat_cmp t m ≡ f (holds old id m) (n == m))
      → (q : List ℕ) (m : ℕ) → holds new q m ≡ f (holds old q m) (bytes_eq id q && n == m)
  changed f n none at q m = elim (bytes_eq id q) as (λ b. bytes_eq id q ≡ b → holds new q m ≡ f (holds old q m) (b && n == m)) [
    | true ↦ λ e. here q m e ∙ at m ∙ ap (λ v. f (holds old v m) (n == m)) (same_text id q e)
    | false ↦ λ e. elsewhere q m e ∙ sym (none (holds old q m))
  ] refl

  -- the id is known, and of the others those that were
  known_after : (q : List ℕ) → is_some (get_by_text new q) ≡ (is_some (get_by_text old q) || bytes_eq id q)
  known_after q = ap is_some (puts q) ∙ by_test (bytes_eq id q)
    where
      by_test : (b : Bool) → is_some (cond b (Some t) (get_by_text old q)) ≡ (is_some (get_by_text old q) || b)
      by_test true = grind arith
      by_test false = grind arith

-- through a group that was there
module _ {Y : Type 0} (old new : BTreeMap (String Y) (BTreeSet ℕ)) (id : List ℕ) (s t : BTreeSet ℕ) (n : ℕ) (was : Some s ≡ get_by_text old id)
    (writes : WritesThrough string_cmp (λ k. slice_cmp nat_cmp id (string_bytes k)) old t new) where
  puts : Puts old new id t
  puts = btree_map_updates_text id old new (Some t) (writes.3 (subst IsSome was refl))

  held : (m : ℕ) → contains nat_cmp s m ≡ holds old id m
  held m = ap (λ o. option_map_or (λ g. contains nat_cmp g m) o false) was

  pub put : sets.Updates nat_cmp s t n true → (q : List ℕ) (m : ℕ) → holds new q m ≡ (holds old q m || (bytes_eq id q && n == m))
  put u = changed old new id t puts (λ a b. a || b) n (λ b. grind arith) (λ m. set_put s t n m u ∙ ap (λ b. b || n == m) (held m))

  pub taken : sets.UpdatesBy nat_cmp (nat_cmp n) s t false → (q : List ℕ) (m : ℕ) → holds new q m ≡ (holds old q m && not (bytes_eq id q && n == m))
  taken u = changed old new id t puts (λ a b. a && not b) n (λ b. grind arith) (λ m. set_taken s t n m u ∙ ap (λ b. b && not (n == m)) (held m))

  pub put_known : (q : List ℕ) → is_some (get_by_text new q) ≡ (is_some (get_by_text old q) || bytes_eq id q)
  put_known = known_after old new id t puts

  pub still_known : (q : List ℕ) → is_some (get_by_text new q) ≡ is_some (get_by_text old q)
  still_known q = ap is_some (puts q)
      ∙ elim (bytes_eq id q) as (λ b. bytes_eq id q ≡ b → is_some (cond b (Some t) (get_by_text old q)) ≡ is_some (get_by_text old q)) [
        | true ↦ λ e. ap is_some (was ∙ ap (get_by_text old) (same_text id q e))
        | false ↦ λ e. refl
      ] refl

  pub now_there : get_by_text new id ≡ Some t
  now_there = (writes.3 (subst IsSome was refl)).1

  pub held_by_none : ((m : ℕ) → holds new id m ≡ false) → sets.btree_set_len t ≡ 0
  held_by_none none = nothing_found t (λ m. sym (ap (λ o. option_map_or (λ g. contains nat_cmp g m) o false) now_there) ∙ none m)

  pub kept : sets.IsUnchanged s t → (q : List ℕ) (m : ℕ) → holds new q m ≡ holds old q m
  kept e = changed old new id t puts (λ a b. a) n (λ b. refl) (λ m. ap (λ ks. contains nat_cmp (record { keys = ks }) m) e ∙ held m)

-- a group that is taken away
module _ {Y : Type 0} (old new : BTreeMap (String Y) (BTreeSet ℕ)) (id : List ℕ)
    (taken_away : UpdatesBy string_cmp (λ k. slice_cmp nat_cmp id (string_bytes k)) old new None) where
  gone : (q : List ℕ) → get_by_text new q ≡ cond (bytes_eq id q) None (get_by_text old q)
  gone = btree_map_updates_text id old new None taken_away

  pub forgotten : is_some (get_by_text new id) ≡ false
  forgotten = ap is_some (gone id ∙ ap (λ b. cond b None (get_by_text old id)) ((bytes_eq-Decides id id).1 refl))

  pub others_stay : (q : List ℕ) → bytes_eq id q ≡ false → is_some (get_by_text new q) ≡ is_some (get_by_text old q)
  others_stay q e = ap is_some (gone q ∙ ap (λ b. cond b None (get_by_text old q)) e)

  -- no node was noted there
  pub emptied : (t : BTreeSet ℕ) → get_by_text old id ≡ Some t → sets.btree_set_len t ≡ 0 → (q : List ℕ) (m : ℕ) → holds new q m ≡ holds old q m
  emptied t was none q m = elim (bytes_eq id q) as (λ b. bytes_eq id q ≡ b → holds new q m ≡ holds old q m) [
    | true ↦ λ e.
        let there : get_by_text old q ≡ Some t = ap (get_by_text old) (sym (same_text id q e)) ∙ was in
        ap (λ o. option_map_or (λ s. contains nat_cmp s m) o false) (gone q ∙ ap (λ b. cond b None (get_by_text old q)) e)
        ∙ sym (ap (λ o. option_map_or (λ s. contains nat_cmp s m) o false) there ∙ no_keys t m none)
    | false ↦ λ e. ap (λ o. option_map_or (λ s. contains nat_cmp s m) o false) (gone q ∙ ap (λ b. cond b None (get_by_text old q)) e)
  ] refl

-- in a new group, where the look-up left the map as it was
module _ {Y : Type 0} (old mid new : BTreeMap (String Y) (BTreeSet ℕ)) (id : List ℕ) (s t : BTreeSet ℕ) (n : ℕ) (same : mid ≡ old)
    (gone : None ≡ get_by_text old id) (empty : sets.IsEmpty s) where
  pub first_known : Puts mid new id t → (q : List ℕ) → is_some (get_by_text new q) ≡ (is_some (get_by_text old q) || bytes_eq id q)
  first_known puts = known_after old new id t (λ q. puts q ∙ ap (λ g. cond (bytes_eq id q) (Some t) (get_by_text g q)) same)

  pub put_first : Puts mid new id t → sets.Updates nat_cmp s t n true → (q : List ℕ) (m : ℕ) → holds new q m ≡ (holds old q m || (bytes_eq id q && n == m))
  put_first puts u = changed old new id t (λ q. puts q ∙ ap (λ g. cond (bytes_eq id q) (Some t) (get_by_text g q)) same) (λ a b. a || b) n (λ b. grind arith)
      (λ m. set_put s t n m u ∙ ap (λ b. b || n == m)
      (ap (λ ks. contains nat_cmp (record { keys = ks }) m) empty ∙ ap (λ o. option_map_or (λ g. contains nat_cmp g m) o false) gone))
