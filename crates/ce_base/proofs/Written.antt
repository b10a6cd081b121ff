-- A list that is written piece by piece.
use Rattle.std.proofs.Common.{◌≡◌, ◌+◌, ◌≤◌, ℕ, List, [], ◌++◌, Some, None, take, drop, length, ap, sym, ◌∙◌, append_assoc, append-nil, length-append, take_all}
use Rattle.std.proofs.Common.{take-append-drop, subst, arith}
use Rattle.std.specs.Prelude.{Result, Ok, Err, OnOk, OnErr}
use Rattle.std.proofs.KnownBytes.{Appends-trans}
use Rattle.std.proofs.Math.Seq.{take-add}
use Rattle.std.proofs.lemmas.List.{drop_all}
use Rattle.std.specs.Io.KnownBytes.{Appends, Keeps}
use Rattle.std.specs.declared.option.Option.{Option}
use Rattle.ce_base.specs.Gathered.{behind, count_of}
use Rattle.ce_base.specs.Outside.{AppendsPart}

-- a write took some more
pub wrote_more : (old mid new : Option (List ℕ)) (whole : List ℕ) (at n : ℕ) → Appends old mid (take at whole) → Appends mid new (take n (drop at whole))
    → Appends old new (take (at + n) whole)
wrote_more old mid new whole at n before more =
    let P : List ℕ → Type 0 = λ l. Appends old new l in
    subst P (sym (take-add at n whole)) (Appends-trans old mid new (take at whole) (take n (drop at whole)) before more)

-- a write took nothing
pub wrote_no_more : (old mid new : Option (List ℕ)) (bytes : List ℕ) → Appends old mid bytes → Appends mid new [] → Appends old new bytes
wrote_no_more old mid new bytes before none =
    let P : List ℕ → Type 0 = λ l. Appends old new l in
    subst P (append-nil bytes) (Appends-trans old mid new bytes [] before none)

-- all was written, or a front of it
pub wrote_all : {T E : Type 0} (r : Result T E) (old new : Option (List ℕ)) (whole : List ℕ) (at : ℕ) → OnOk r (at ≡ length whole)
    → Appends old new (take at whole) → OnOk r (Appends old new whole)
wrote_all (Ok x) old new whole at is written =
    let P : List ℕ → Type 0 = λ l. Appends old new l in
    subst P (take_all at whole (omega (arith, is))) written
wrote_all (Err e) old new whole at is written = tt

pub wrote_front : {T E : Type 0} (r : Result T E) (old new : Option (List ℕ)) (whole : List ℕ) (at : ℕ) → Appends old new (take at whole)
    → OnErr r (AppendsPart old new whole)
wrote_front (Ok x) old new whole at written = tt
wrote_front (Err e) old new whole at written = (take at whole, (drop at whole, take-append-drop at whole), written)

-- what is pending was passed on, or a front of it
pub passed_on : (old new : Option (List ℕ)) (whole rest : List ℕ) (at : ℕ) → Appends old new (take at whole) → rest ≡ drop at whole
    → Keeps (behind old whole) (behind new rest)
passed_on None new whole rest at written left = tt
passed_on (Some xs) None whole rest at written left = absurd written
passed_on (Some xs) (Some ys) whole rest at written left =
    ap (λ zs. zs ++ rest) written ∙ ap (λ zs. (xs ++ take at whole) ++ zs) left ∙ append_assoc xs (take at whole) (drop at whole)
    ∙ ap (λ zs. xs ++ zs) (take-append-drop at whole)

pub none_pending : {T E : Type 0} (r : Result T E) (whole rest : List ℕ) (at : ℕ) → OnOk r (at ≡ length whole) → rest ≡ drop at whole → OnOk r (rest ≡ [])
none_pending (Ok x) whole rest at is left = left ∙ drop_all at whole (omega (arith, is))
none_pending (Err e) whole rest at is left = tt

-- the bytes that a sink holds don't get fewer
pub count_of-grows : (old new : Option (List ℕ)) (bytes : List ℕ) → Appends old new bytes → count_of old ≤ count_of new
count_of-grows None new bytes written = omega arith
count_of-grows (Some xs) None bytes written = absurd written
count_of-grows (Some xs) (Some ys) bytes written = omega (arith, ap length written, length-append xs bytes)

-- what is pending grows, where what was known is kept
pub behind-more : (was held : Option (List ℕ)) (pending more new : List ℕ) → Keeps was (behind held pending) → new ≡ pending ++ more
    → Appends was (behind held new) more
behind-more None held pending more new kept longer = tt
behind-more (Some xs) None pending more new kept longer = kept
behind-more (Some xs) (Some ys) pending more new kept longer = ap (λ zs. ys ++ zs) longer ∙ sym (append_assoc ys pending more) ∙ ap (λ zs. zs ++ more) kept
