-- Nodes whose ID comes to be looked at.
use Rattle.std.proofs.Common.{Bor, ◌≡◌, ◌≢◌, ℕ, ◌+◌, ◌-◌, ◌<◌, Bool, true, false, List, [], Option, Some, None, refl, sym, ap, ◌∙◌, subst}
use Rattle.std.proofs.Common.{arith}
use Rattle.std.specs.Prelude.{not, bytes_eq, codes}
use Rattle.std.specs.Option.{option_copied, option_eq}
use Rattle.std.proofs.lemmas.Bool.{false_from_ne_true}
use Rattle.std.proofs.lemmas.Slice.Eq.{bytes_eq-Decides}
use Rattle.ordered_tables.specs.declared.id_index.IdIndex.{IdIndex}
use Rattle.ordered_tables.specs.Held.{is_held, is_known}
use Rattle.node_trees.specs.Trees.{Trees}
use Rattle.node_trees.specs.Paths.{is_among}
use Rattle.node_trees.specs.Spots.{attribute_at}
use Rattle.form_owner.specs.declared.looks.Look.{Look}
use Rattle.form_owner.specs.declared.looks.Look.TheVariants.{Nothing}
use Rattle.owner_rows.specs.OwnerRow.{OwnerRow, row_of}
use Rattle.form_owner.specs.Attributes.{is_naming, is_text}
use Rattle.form_owner.specs.Looks.{AreKept, IsUnnamed, IsUnnamedId, SaysNoMore, known_with, look_at}
use Rattle.form_owner.specs.Writing.{AreNoted}
use Rattle.form_owner.proofs.Considering.{is_passed}
use Rattle.form_owner.proofs.Looking.{the-same, unknown-unheld}

-- nodes one after the other

pub record Minding (keys left : List ℕ) (old new : List Look) : Type 0 where
  pub here : (n : ℕ) → is_passed keys left n ≡ true → look_at new (n - 1) ≢ Nothing
  pub less : (i : ℕ) → SaysNoMore (look_at old i) (look_at new i)

pub minding-end : (keys left : List ℕ) (old new : List Look) → left ≡ [] → Minding keys left old new → (n : ℕ) → is_among n keys ≡ true
    → look_at new (n - 1) ≢ Nothing
minding-end keys left old new none all n among = let out : is_among n left ≡ false = ap (is_among n) none in all.here n (grind (arith, among, out))

-- texts

module _ (forest : Trees) (known : List ℕ → Bool) (i : ℕ) (id : List ℕ) (un : IsUnnamedId forest known (i + 1) id) (text : List ℕ) where
  -- one that is known is another
  pub text-known : known text ≡ true → bytes_eq text id ≡ false
  text-known is = false_from_ne_true (bytes_eq text id) (λ e.
      let same : text ≡ id = (bytes_eq-Decides text id).0 e in
      absurd (let no : known text ≡ false = subst (λ t. known t ≡ false) (sym same) un.unknown in cc))

module _ (n : ℕ) (forest : Trees) (known : List ℕ → Bool) (old new : List Look) (less : (i : ℕ) → SaysNoMore (look_at old i) (look_at new i)) where
  pub kept-with : ((i : ℕ) → look_at new i ≡ Nothing → IsUnnamed forest known (i + 1) → (id : List ℕ) → attribute_at forest (i + 1) (codes "id") ≡ Some id
      → is_naming forest id n ≡ false) → AreKept forest known (known_with n forest known) old new
  kept-with other = record {
    less = less;
    unnamed = λ i nothing un id at.
        record { has = (un id at).has; unknown = let was = (un id at).unknown in let not_n = other i nothing un id at in grind (arith, was, not_n) };
  }

-- notes that stay are kept with the texts that stay
pub kept-still : (forest : Trees) (known : List ℕ → Bool) (looks : List Look) → AreKept forest known known looks looks
kept-still forest known looks = record { less = λ i. the-same (look_at looks i); unnamed = λ i nothing un. un }

-- a `form` attribute that is the text that was seen is no ID that is not known
pub form-seen : (n : ℕ) (forest : Trees) (rows : List OwnerRow) (index : IdIndex) → 0 < n → AreNoted rows (is_held index)
    → (row_of rows n).seen.form ≡ attribute_at forest n (codes "form") → (i : ℕ) (id : List ℕ) → IsUnnamedId forest (is_known index) i id
    → is_naming forest id n ≡ false
form-seen n forest rows index low noted same i id un = ap (is_text id) (sym same) ∙ sym (noted id n low) ∙ unknown-unheld index id n un.unknown

-- texts that are lent, and equal
pub same-lent : (o p : Option (Bor (List ℕ))) → not (option_eq (λ a b. bytes_eq a.now b.now) o p) ≡ false → option_copied o ≡ option_copied p
same-lent None None e = refl
same-lent None (Some y) e = absurd cc
same-lent (Some x) None e = absurd cc
same-lent (Some x) (Some y) e = by_test (bytes_eq x.now y.now) refl e
  where
    by_test : (b : Bool) → bytes_eq x.now y.now ≡ b → not b ≡ false → option_copied (Some x) ≡ option_copied (Some y)
    by_test true same e = ap Some ((bytes_eq-Decides x.now y.now).0 same)
    by_test false same e = absurd cc
