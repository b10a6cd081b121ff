-- Bytes split at each place of a byte, and what is read of the parts.
use Rattle.std.proofs.Common.{◌≡◌, ℕ, Bool, true, false, cond, List, [], ◌∷◌, ◌++◌, length, Option, Some, None, Err, refl, sym, ap, subst, ◌∙◌, arith}
use Rattle.std.proofs.lemmas.Bool.{cond_both}
use Rattle.std.specs.List.{AllByRecursion, slice_split, onto_first}
use Rattle.std.specs.Prelude.{nat_eq}
use Rattle.ce_base.specs.declared.entries.Entry.{Entry}
use Rattle.body_grammars.specs.Bodies.{part}
use Rattle.body_grammars.specs.Cuts.{behind, cut_at, is_byte, onto}
use Rattle.body_grammars.specs.Gives.{Gives, then_one, with_front, IsAdded}
use Rattle.body_grammars.specs.ReadPlain.{read_line, read_lines, plain_entries}
use Rattle.body_grammars.specs.ReadUrl.{read_pair, read_pairs, read_parts}
use Rattle.body_grammars.specs.declared.refused.BodyRefused.{BodyRefused}
use Rattle.body_grammars.specs.declared.refused.BodyRefused.TheVariants.{NotABody, NoMemory}
use Rattle.body_grammars.proofs.CutLaws.{Free}

pub split_free : (c : ℕ) (part : List ℕ) → Free c part → slice_split (is_byte c) part ≡ part ∷ []
split_free c [] free = refl
split_free c (b ∷ part) free = rw (free.0, split_free c part free.1) refl

pub split_at : (c : ℕ) (part rest : List ℕ) → Free c part → slice_split (is_byte c) (part ++ c ∷ rest) ≡ part ∷ slice_split (is_byte c) rest
split_at c [] rest free = let same : nat_eq c c ≡ true = (grind arith) in rw same refl
split_at c (b ∷ part) rest free = rw (free.0, split_at c part rest free.1) refl

abbrev pub AreFree : ℕ → List (List ℕ) → Type 0
AreFree c parts = AllByRecursion (Free c) parts

frees_onto : (c b : ℕ) (parts : List (List ℕ)) → nat_eq b c ≡ false → AreFree c parts → AreFree c (onto_first b parts)
frees_onto c b [] differ are = ((differ, tt), tt)
frees_onto c b (x ∷ xs) differ are = ((differ, are.0), are.1)

frees_step : (c b : ℕ) (parts : List (List ℕ)) (t : Bool) → nat_eq b c ≡ t → AreFree c parts → AreFree c (cond t ([] ∷ parts) (onto_first b parts))
frees_step c b parts true same are = (tt, are)
frees_step c b parts false differ are = frees_onto c b parts differ are

pub split_frees : (c : ℕ) (bytes : List ℕ) → AreFree c (slice_split (is_byte c) bytes)
split_frees c [] = (tt, tt)
split_frees c (b ∷ bytes) = frees_step c b (slice_split (is_byte c) bytes) (nat_eq b c) refl (split_frees c bytes)

-- what a cut says of the parts
abbrev pub Split : ℕ → List ℕ → Option (List ℕ × List ℕ) → Type 0
Split c bytes None = slice_split (is_byte c) bytes ≡ bytes ∷ []
Split c bytes (Some (before, behind)) = slice_split (is_byte c) bytes ≡ before ∷ slice_split (is_byte c) behind

split_onto : (c b : ℕ) (bytes : List ℕ) (o : Option (List ℕ × List ℕ)) → nat_eq b c ≡ false → Split c bytes o → Split c (b ∷ bytes) (onto (b ∷ []) o)
split_onto c b bytes None differ split = rw (differ, split) refl
split_onto c b bytes (Some (before, behind)) differ split = rw (differ, split) refl

split_step : (c b : ℕ) (bytes : List ℕ) (t : Bool) → nat_eq b c ≡ t → Split c bytes (cut_at c bytes)
    → Split c (b ∷ bytes) (cond t (Some ([], bytes)) (onto (b ∷ []) (cut_at c bytes)))
split_step c b bytes true same split = rw same refl
split_step c b bytes false differ split = split_onto c b bytes (cut_at c bytes) differ split

cut_splits : (c : ℕ) (bytes : List ℕ) → Split c bytes (cut_at c bytes)
unfolding cut_at
cut_splits c [] = refl
cut_splits c (b ∷ bytes) = split_step c b bytes (nat_eq b c) refl (cut_splits c bytes)

-- the pairs of what is cut
pub parts_some : (bytes before behind : List ℕ) → Some (before, behind) ≡ cut_at 38 bytes → read_parts bytes ≡ then_one (read_pair before) (read_parts behind)
unfolding read_parts
parts_some bytes before behind cut = ap read_pairs (subst (λ (o : Option (List ℕ × List ℕ)). Split 38 bytes o) (sym cut) (cut_splits 38 bytes))

pub parts_none : (bytes : List ℕ) → None ≡ cut_at 38 bytes → read_parts bytes ≡ then_one (read_pair bytes) (Some [])
unfolding read_parts
parts_none bytes cut = ap read_pairs (subst (λ (o : Option (List ℕ × List ℕ)). Split 38 bytes o) (sym cut) (cut_splits 38 bytes))

-- a part that is no pair ends the reading
pub stopped : (e : BodyRefused) (old new : List Entry) (bytes rest part behind : List ℕ) → with_front old (read_parts rest) ≡ read_parts bytes
    → Some (part, behind) ≡ cut_at 38 rest → IsAdded read_pair old part new (Err e) → Gives {X = List Entry} (Err e) (read_parts bytes)
stopped NotABody old new bytes rest part behind same cut none =
    let first : then_one (read_pair part) (read_parts behind) ≡ None = ap (λ (o : Option Entry). then_one o (read_parts behind)) none in
    sym same ∙ ap (with_front old) (parts_some rest part behind cut ∙ first)
stopped NoMemory old new bytes rest part behind same cut none = tt

-- ---- lines

abbrev HasOne : List (List ℕ) → Type 0
HasOne [] = ⊥
HasOne (x ∷ xs) = Unit {0}

has_one_onto : (b : ℕ) (parts : List (List ℕ)) → HasOne (onto_first b parts)
has_one_onto b [] = tt
has_one_onto b (x ∷ xs) = tt

pub split_has_one : (c : ℕ) (bytes : List ℕ) → HasOne (slice_split (is_byte c) bytes)
split_has_one c [] = tt
split_has_one c (b ∷ bytes) = cond_both (nat_eq b c) _ _ HasOne (λ _. tt) (λ _. has_one_onto b (slice_split (is_byte c) bytes))

pub lines_step : (part : List ℕ) (parts : List (List ℕ)) → HasOne parts → read_lines (part ∷ parts) ≡ then_one (read_line part) (read_lines parts)
lines_step part [] is = absurd is
lines_step [] (next ∷ parts) is = refl
lines_step (b ∷ part) (next ∷ parts) is = refl

pub lines_some : (bytes before behind : List ℕ) → Some (before, behind) ≡ cut_at 10 bytes
    → plain_entries bytes ≡ then_one (read_line before) (plain_entries behind)
unfolding plain_entries
lines_some bytes before behind cut =
    ap read_lines (subst (λ (o : Option (List ℕ × List ℕ)). Split 10 bytes o) (sym cut) (cut_splits 10 bytes))
    ∙ lines_step before (slice_split (is_byte 10) behind) (split_has_one 10 behind)

abbrev last_line : List ℕ → Option (List Entry)
last_line [] = Some []
last_line (b ∷ bytes) = None

last_is : (bytes : List ℕ) → read_lines (bytes ∷ []) ≡ last_line bytes
last_is [] = refl
last_is (b ∷ bytes) = refl

pub lines_none : (bytes : List ℕ) → None ≡ cut_at 10 bytes → plain_entries bytes ≡ last_line bytes
unfolding plain_entries
lines_none bytes cut = ap read_lines (subst (λ (o : Option (List ℕ × List ℕ)). Split 10 bytes o) (sym cut) (cut_splits 10 bytes)) ∙ last_is bytes

pub line_stopped : (e : BodyRefused) (old new : List Entry) (bytes rest part behind : List ℕ) → with_front old (plain_entries rest) ≡ plain_entries bytes
    → Some (part, behind) ≡ cut_at 10 rest → IsAdded read_line old part new (Err e) → Gives {X = List Entry} (Err e) (plain_entries bytes)
line_stopped NotABody old new bytes rest part behind same cut none =
    let first : then_one (read_line part) (plain_entries behind) ≡ None = ap (λ (o : Option Entry). then_one o (plain_entries behind)) none in
    sym same ∙ ap (with_front old) (lines_some rest part behind cut ∙ first)
line_stopped NoMemory old new bytes rest part behind same cut none = tt

pub last_empty : (bytes : List ℕ) → length bytes ≡ 0 → last_line bytes ≡ Some []
last_empty [] e = refl
last_empty (b ∷ bytes) e = absurd (omega arith)
