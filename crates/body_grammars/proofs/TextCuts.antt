-- Bytes cut at a text.
use Rattle.std.proofs.Common.{◌≡◌, ◌<◌, ◌≤◌, ℕ, ◌+◌, ◌-◌, zero, suc, List, [], ◌∷◌, ◌++◌, length, drop, Option, Some, None, refl, sym, ap, subst, ◌∙◌}
use Rattle.std.proofs.Common.{append_assoc, append-nil, arith, take}
use Rattle.std.proofs.lemmas.List.{length-drop, take_all, drop_all}
use Rattle.body_grammars.specs.Cuts.{behind, onto, cut_text}

onto_onto : (xs ys : List ℕ) (o : Option (List ℕ × List ℕ)) → onto xs (onto ys o) ≡ onto (xs ++ ys) o
onto_onto xs ys None = refl
onto_onto xs ys (Some (before, behind)) = ap (λ (l : List ℕ). Some (l, behind)) (sym (append_assoc xs ys before))

cut_some : (text bytes rest : List ℕ) (i : ℕ) → i < length bytes → Some rest ≡ behind text (drop i bytes) → cut_text text (drop i bytes) ≡ Some ([], rest)
unfolding cut_text
cut_some text [] rest i small is = absurd (omega arith)
cut_some text (b ∷ bytes) rest zero small is = rw (sym is) refl
cut_some text (b ∷ bytes) rest (suc i) small is = cut_some text bytes rest i (omega arith) is

cut_none : (text bytes : List ℕ) (i : ℕ) → i < length bytes → None ≡ behind text (drop i bytes)
    → onto (take i bytes) (cut_text text (drop i bytes)) ≡ onto (take (suc i) bytes) (cut_text text (drop (suc i) bytes))
unfolding cut_text
cut_none text [] i small is = absurd (omega arith)
cut_none text (b ∷ bytes) zero small is = rw (sym is) (onto_onto [] (b ∷ []) (cut_text text bytes))
cut_none text (b ∷ bytes) (suc i) small is =
    sym (onto_onto (b ∷ []) (take i bytes) (cut_text text (drop i bytes)))
    ∙ (ap (onto (b ∷ [])) (cut_none text bytes i (omega arith) is) ∙ onto_onto (b ∷ []) (take (suc i) bytes) (cut_text text (drop (suc i) bytes)))

pub text_here : (text bytes rest : List ℕ) (i : ℕ) → i < length bytes → onto (take i bytes) (cut_text text (drop i bytes)) ≡ cut_text text bytes
    → Some rest ≡ behind text (drop i bytes) → Some (take i bytes, rest) ≡ cut_text text bytes
text_here text bytes rest i small same is =
    ap (λ (l : List ℕ). Some (l, rest)) (sym (append-nil (take i bytes))) ∙ (ap (onto (take i bytes)) (sym (cut_some text bytes rest i small is)) ∙ same)

pub text_later : (text bytes : List ℕ) (i : ℕ) → i < length bytes → onto (take i bytes) (cut_text text (drop i bytes)) ≡ cut_text text bytes
    → None ≡ behind text (drop i bytes) → onto (take (i + 1) bytes) (cut_text text (drop (i + 1) bytes)) ≡ cut_text text bytes
text_later text bytes i small same is =
    let next : suc i ≡ i + 1 = omega arith in
    subst (λ (n : ℕ). onto (take n bytes) (cut_text text (drop n bytes)) ≡ cut_text text bytes) next (sym (cut_none text bytes i small is) ∙ same)

none_left : (text front : List ℕ) → onto front (cut_text text []) ≡ None
unfolding cut_text
none_left text front = refl

pub text_nowhere : (text bytes : List ℕ) (i : ℕ) → length bytes ≤ i → onto (take i bytes) (cut_text text (drop i bytes)) ≡ cut_text text bytes
    → None ≡ cut_text text bytes
text_nowhere text bytes i end same = sym (ap (λ (l : List ℕ). onto (take i bytes) (cut_text text l)) (drop_all i bytes end) ∙ none_left text (take i bytes))
    ∙ same

-- a slice up to the end
pub slice_rest : (bytes : List ℕ) (i : ℕ) → take (length bytes - i) (drop i bytes) ≡ drop i bytes
slice_rest bytes i = take_all (length bytes - i) (drop i bytes) (omega (arith, length-drop i bytes))
