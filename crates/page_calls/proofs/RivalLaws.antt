-- Controls that are set off, one after another.
use Rattle.std.proofs.Common.{◌≡◌, ℕ, ◌+◌, Bool, true, false, List, ◌∷◌, drop, Some, refl, ap, sym, ◌∙◌, add-one}
use Rattle.std.specs.Prelude.{if◌then◌else◌, not, ◌==◌, slice_get}
use Rattle.std.proofs.Math.Seq.{drop-cons}
use Rattle.std.proofs.lemmas.Option.{slice_get_within, get_or_from_slice_get}
use Rattle.form_controls.specs.declared.control.Control.{Control}
use Rattle.form_controls.specs.Controls.{set_flag}
use Rattle.form_controls.specs.Setting.{set_all_off, without}

-- the list from a place on begins with what stands there
drop-here : (ns : List ℕ) (i n : ℕ) → slice_get ns i ≡ Some n → drop i ns ≡ n ∷ drop (i + 1) ns
drop-here ns i n at =
    let within = slice_get_within ns i n at in
    let here = get_or_from_slice_get ns i n 0 at in
    rw (add-one, drop-cons ns i 0, here) refl

-- one of them has its turn
pub off-step : (n i other : ℕ) (ns : List ℕ) (cs new : List Control) → slice_get ns i ≡ Some other → new ≡ (if other == n then cs else set_flag cs other false)
    →
    set_all_off new (without n (drop (i + 1) ns)) ≡ set_all_off cs (without n (drop i ns))
off-step n i other ns cs new at is =
    ap (λ v. set_all_off v (without n (drop (i + 1) ns))) is ∙ by_test (other == n) ∙ ap (λ v. set_all_off cs (without n v)) (sym (drop-here ns i other at))
  where
    by_test : (same : Bool) → set_all_off (if same then cs else set_flag cs other false) (without n (drop (i + 1) ns))
        ≡ set_all_off cs (if not same then other ∷ without n (drop (i + 1) ns) else without n (drop (i + 1) ns))
    by_test true = refl
    by_test false = refl
