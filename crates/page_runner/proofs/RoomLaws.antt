-- What a sink that may hold so many bytes holds after a run.
use Rattle.std.proofs.Common.{◌≡◌, ◌≤◌, ◌<◌, ◌⊎◌, ◌&&◌, inl, inr, nat_eq, ℕ, Bool, true, false, List, [], ◌∷◌, length, refl, sym, subst, ◌∙◌, arith, Some}
use Rattle.std.proofs.lemmas.Grind.{common_steps}
use Rattle.std.specs.Io.KnownBytes.{Appends}
use Rattle.ce_base.specs.Faults.{Rose}
use Rattle.ce_base.specs.Outside.{AppendsPart, IsPrefix}
use Rattle.page_runner.specs.Memory.{Store}
use Rattle.script_runner.specs.declared.status.Status.{Status}
use Rattle.script_runner.specs.declared.status.Status.TheVariants.{NoMemory}

-- nothing is left where the end was given
pub none_left : (ended : Bool) (left : List ℕ) → (ended && nat_eq (length left) 0) ≡ true → left ≡ []
none_left ended [] h = refl
none_left false (b ∷ left) h = cc
none_left true (b ∷ left) h = grind (arith, common_steps)

-- what was appended to an empty sink, and that it may hold as much as before
appended : (most most' : ℕ) (held bytes : List ℕ) → Appends (Some (most ∷ [])) (Some (most' ∷ held)) bytes → (most' ≡ most) × (held ≡ bytes)
appended most most' held bytes is =
    let whole : most' ∷ held ≡ most ∷ bytes = is in
    ((cc), (cc))

-- a front of the transcript, and all of it where there was room for more
pub record Transcribed (status end : Status) (bytes transcript : List ℕ) (count most : ℕ) : Type 0 where
  pub front : IsPrefix bytes transcript
  pub within : count ≤ most
  pub whole : count < most → ((status ≡ end) × (bytes ≡ transcript)) ⊎ (status ≡ NoMemory)

pub transcribed : (status end : Status) (old new : Store) (bytes transcript : List ℕ) (count most : ℕ) → old ≡ record { held = []; most = most; faults = 0 }
    → bytes ≡ new.held → count ≤ new.most → (0 < new.faults → new.most ≤ count)
    → AppendsPart (Some (old.most ∷ old.held)) (Some (new.most ∷ new.held)) transcript
    → ((Rose old.faults new.faults → ⊥) → ((status ≡ end) × Appends (Some (old.most ∷ old.held)) (Some (new.most ∷ new.held)) transcript) ⊎ (status ≡ NoMemory))
    → Transcribed status end bytes transcript count most
transcribed status end old new bytes transcript count most made held fits full =
    let P : Store → Type 0 = λ s. AppendsPart (Some (s.most ∷ s.held)) (Some (new.most ∷ new.held)) transcript
    → ((Rose s.faults new.faults → ⊥) → ((status ≡ end) × Appends (Some (s.most ∷ s.held)) (Some (new.most ∷ new.held)) transcript) ⊎ (status ≡ NoMemory))
    → Transcribed status end bytes transcript count most in
    let from : P (record { held = []; most = most; faults = 0 }) = λ part run.
    let is = appended most new.most new.held part.0 part.2 in
    record {
      front = subst (λ l. IsPrefix l transcript) (sym (held ∙ is.1)) part.1;
      within = omega (arith, fits, is.0);
      whole = λ more.
          let calm : Rose 0 new.faults → ⊥ = λ rose. let some : 0 < new.faults = omega (arith, rose) in omega (arith, full some, is.0, more) in
          elim (run calm) [
            | inl all ↦ inl (all.0, held ∙ (appended most new.most new.held transcript all.1).1)
            | inr none ↦ inr none
          ];
    } in
    subst P (sym made) from
