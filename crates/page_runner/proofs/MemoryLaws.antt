-- What the status of a run into a buffer says.
use Rattle.std.proofs.Common.{◌≡◌, ◌≤◌, ◌<◌, ◌⊎◌, inl, inr, cond, nat_lt, ℕ, Bool, true, false, List, length, sym, ◌∙◌, arith, Some, None}
use Rattle.std.proofs.lemmas.Bool.{cases_lt}
use Rattle.std.specs.declared.option.Option.{Option}
use Rattle.command_words.specs.declared.words.Options.{Options}
use Rattle.page_runner.specs.Ending.{end_status, script_lines}
use Rattle.script_runner.specs.Script.{has_bad}
use Rattle.script_runner.specs.Table.{limit, spends_all}
use Rattle.script_runner.specs.declared.status.Status.{Status}
use Rattle.script_runner.specs.declared.status.Status.TheVariants.{Done, BadLines, Usage, Fuel, TooLong, WriteFault, NoMemory}

-- nothing was asked for, or something
pub none_is_some : {A : Type 0} (found said : Option A) (a : A) → found ≡ said → found ≡ None → said ≡ Some a → ⊥
none_is_some found said a is none some = cc

pub same_some : {A : Type 0} (found said : Option A) (a b : A) → found ≡ said → found ≡ Some b → said ≡ Some a → b ≡ a
same_some found said a b is one other = cc

-- a script that is run to its end ends neither as Usage nor as WriteFault
at_end : (spent long bad : Bool) → let status = cond spent Fuel (cond long TooLong (cond bad BadLines Done)) in (status ≡ Usage → ⊥) × (status ≡ WriteFault → ⊥)
at_end true long bad = (λ h. cc, λ h. cc)
at_end false true bad = (λ h. cc, λ h. cc)
at_end false false true = (λ h. cc, λ h. cc)
at_end false false false = (λ h. cc, λ h. cc)

ends_otherwise : (set : Options) (script : List ℕ) → (end_status set script ≡ Usage → ⊥) × (end_status set script ≡ WriteFault → ⊥)
ends_otherwise set script = at_end (spends_all set (script_lines script)) (nat_lt limit (length script)) (has_bad (script_lines script))

-- so the one never comes, and the other only where the transcript is longer than the buffer
pub no_usage : (set : Options) (script : List ℕ) (status : Status) (count room size : ℕ)
    → (size ≤ room → ((status ≡ end_status set script) × (count ≡ size)) ⊎ (status ≡ NoMemory))
    → (room < size → ((status ≡ WriteFault) × (count ≡ room)) ⊎ (status ≡ NoMemory)) → status ≡ Usage → ⊥
no_usage set script status count room size whole longer is =
    elim (cases_lt room size) [
      | inl long ↦
          elim (longer long) [
            | inl full ↦ let e = full.0 in cc
            | inr none ↦ cc
          ]
      | inr fits ↦
          elim (whole fits) [
            | inl all ↦ (ends_otherwise set script).0 (sym all.0 ∙ is)
            | inr none ↦ cc
          ]
    ]

pub more_room_only : (set : Options) (script : List ℕ) (status : Status) (count room size : ℕ)
    → (size ≤ room → ((status ≡ end_status set script) × (count ≡ size)) ⊎ (status ≡ NoMemory)) → status ≡ WriteFault → room < size
more_room_only set script status count room size whole is =
    elim (cases_lt room size) [
      | inl long ↦ long
      | inr fits ↦
          elim (whole fits) [
            | inl all ↦ absurd ((ends_otherwise set script).1 (sym all.0 ∙ is))
            | inr none ↦ let e : WriteFault ≡ NoMemory = sym is ∙ none in cc
          ]
    ]
