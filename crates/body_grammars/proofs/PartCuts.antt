-- The parts of a multipart body, one by one.
use Rattle.std.proofs.Common.{◌≡◌, ◌<◌, ℕ, ◌+◌, ◌-◌, zero, suc, true, false, cond, List, [], ◌∷◌, ◌++◌, length, Option, Some, None, Err, refl, sym, ap, ◌∙◌}
use Rattle.std.proofs.Common.{append_assoc, arith}
use Rattle.ce_base.specs.declared.entries.Entry.{Entry}
use Rattle.body_grammars.specs.Cuts.{behind}
use Rattle.body_grammars.specs.Gives.{Gives, with_front}
use Rattle.body_grammars.specs.ReadParts.{closing, is_end, read_part, read_tail, then_parts, IsAddedPart}
use Rattle.body_grammars.specs.declared.refused.BodyRefused.{BodyRefused}
use Rattle.body_grammars.specs.declared.refused.BodyRefused.TheVariants.{NotABody, NoMemory}

pub tail_opens : (n : ℕ) (boundary rest : List ℕ)
    → read_tail (suc n) boundary rest ≡ cond (is_end (behind closing rest)) (Some []) (then_parts (read_part boundary rest) (read_tail n boundary))
unfolding read_tail
tail_opens n boundary rest = refl

tail_at : (most i : ℕ) (boundary rest : List ℕ) → i < most
    → read_tail (most - i) boundary rest
    ≡ cond (is_end (behind closing rest)) (Some []) (then_parts (read_part boundary rest) (read_tail (most - (i + 1)) boundary))
tail_at most i boundary rest small =
    let next : most - i ≡ suc (most - (i + 1)) = omega arith in
    ap (λ (n : ℕ). read_tail n boundary rest) next ∙ tail_opens (most - (i + 1)) boundary rest

pub tail_end : (most i : ℕ) (boundary rest : List ℕ) → i < most → true ≡ is_end (behind closing rest) → read_tail (most - i) boundary rest ≡ Some []
tail_end most i boundary rest small is = rw (tail_at most i boundary rest small, sym is) refl

pub tail_more : (most i : ℕ) (boundary rest : List ℕ) → i < most → false ≡ is_end (behind closing rest)
    → read_tail (most - i) boundary rest ≡ then_parts (read_part boundary rest) (read_tail (most - (i + 1)) boundary)
tail_more most i boundary rest small is = rw (tail_at most i boundary rest small, sym is) refl

pub no_tail : (boundary rest : List ℕ) → read_tail zero boundary rest ≡ None
unfolding read_tail
no_tail boundary rest = refl

pub tail_spent : (n : ℕ) (old : List Entry) (boundary rest bytes : List ℕ) → n ≡ zero
    → with_front old (read_tail n boundary rest) ≡ read_tail (length bytes + 1) boundary bytes → read_tail (length bytes + 1) boundary bytes ≡ None
tail_spent n old boundary rest bytes spent same = sym same ∙ ap (with_front old) (ap (λ (m : ℕ). read_tail m boundary rest) spent ∙ no_tail boundary rest)

pub part_stopped : (e : BodyRefused) (most i : ℕ) (old new : List Entry) (boundary rest bytes : List ℕ) → i < most
    → with_front old (read_tail (most - i) boundary rest) ≡ read_tail (length bytes + 1) boundary bytes → false ≡ is_end (behind closing rest)
    → IsAddedPart boundary old rest new (Err e) → Gives {X = List Entry} (Err e) (read_tail (length bytes + 1) boundary bytes)
part_stopped NotABody most i old new boundary rest bytes small same end none =
    sym same ∙ ap (with_front old)
    (tail_more most i boundary rest small end ∙ ap (λ (o : Option (Entry × List ℕ)). then_parts o (read_tail (most - (i + 1)) boundary)) none)
part_stopped NoMemory most i old new boundary rest bytes small same end none = tt

with_front-one : (old : List Entry) (e : Entry) (o : Option (List Entry)) → with_front old (with_front (e ∷ []) o) ≡ with_front (old ++ e ∷ []) o
with_front-one old e None = refl
with_front-one old e (Some rest) = ap Some (sym (append_assoc old (e ∷ []) rest))

-- the entry of a part was put behind the old ones
pub part_added : (old new : List Entry) (e : Entry) (boundary bytes rest : List ℕ) (more : List ℕ → Option (List Entry))
    → read_part boundary bytes ≡ Some (e, rest) → new ≡ old ++ e ∷ []
    → with_front old (then_parts (read_part boundary bytes) more) ≡ with_front new (more rest)
part_added old new e boundary bytes rest more is put = rw (is, put) (with_front-one old e (more rest))
