-- One byte more of a text that is counted.
use Rattle.std.proofs.Common.{◌≡◌, ℕ, ◌+◌, ◌-◌, ◌^◌, ◌<◌, min, length, get_or, take, append_assoc, subst, false, not, ◌||◌, eqb, List, [], ◌∷◌, ◌++◌, ap, ◌∙◌}
use Rattle.std.proofs.Common.{sym, arith}
use Rattle.std.proofs.lemmas.List.Sums.{sum_by-append}
use Rattle.std.proofs.lemmas.List.{take_more}
use Rattle.std.specs.Char.{is_ascii_whitespace}
use Rattle.form_controls.specs.Texts.{units_at, units_of, normal_byte, normalized, collapsed}
use Rattle.control_state.specs.Reading.{behind_after, collapsed_byte, begun_after, apart_after}
use Rattle.control_state.specs.Counts.{NormalizedCount, CollapsedCount, CountsNormalized, CountsCollapsed}
use Rattle.control_state.proofs.Readings.{normalized_push, behind_after-push, collapsed_push, begun_after-push, apart_after-push}

-- a sum that stays at the greatest u64 is that of the whole
capped : (held before added now after : ℕ) → held ≡ min before (2 ^ 64 - 1) → now ≡ min (held + added) (2 ^ 64 - 1) → after ≡ before + added
    → now ≡ min after (2 ^ 64 - 1)
capped held before added now after h n a = omega arith

front_more : (before items : List ℕ) (i : ℕ) → i < length items → (before ++ take i items) ++ (get_or items i 0 ∷ []) ≡ before ++ take (i + 1) items
front_more before items i h =
    append_assoc before (take i items) (get_or items i 0 ∷ []) ∙ ap (λ front. before ++ front) (sym (take_more items i 0 h))

CountsNormalized-push : (c d : NormalizedCount) (before : List ℕ) (b : ℕ) → CountsNormalized c before
    → d.units ≡ min (c.units + units_of (normal_byte c.behind b)) (2 ^ 64 - 1) → d.behind ≡ eqb b 13 → CountsNormalized d (before ++ b ∷ [])
CountsNormalized-push c d before b h units behind =
    let same : units_of (normalized (before ++ b ∷ [])) ≡ units_of (normalized before) + units_of (normal_byte c.behind b) =
    ap units_of (normalized_push before b) ∙ sum_by-append units_at (normalized before) (normal_byte (behind_after false before) b)
    ∙ ap (λ v. units_of (normalized before) + units_of (normal_byte v b)) (sym h.behind) in
    record {
      units = capped c.units (units_of (normalized before)) (units_of (normal_byte c.behind b)) d.units
          (units_of (normalized (before ++ b ∷ []))) h.units units same;
      behind = behind ∙ sym (behind_after-push false before b);
    }

CountsCollapsed-push : (c d : CollapsedCount) (before : List ℕ) (b : ℕ) → CountsCollapsed c before
    → d.units ≡ min (c.units + units_of (collapsed_byte c.begun c.apart b)) (2 ^ 64 - 1) → d.begun ≡ (c.begun || not (is_ascii_whitespace b))
    → d.apart ≡ is_ascii_whitespace b → CountsCollapsed d (before ++ b ∷ [])
CountsCollapsed-push c d before b h units begun apart =
    let same : units_of (collapsed (before ++ b ∷ [])) ≡ units_of (collapsed before) + units_of (collapsed_byte c.begun c.apart b) =
    ap units_of (collapsed_push before b)
    ∙ sum_by-append units_at (collapsed before) (collapsed_byte (begun_after false before) (apart_after false before) b)
    ∙ ap (λ v. units_of (collapsed before) + units_of (collapsed_byte v (apart_after false before) b)) (sym h.begun)
    ∙ ap (λ v. units_of (collapsed before) + units_of (collapsed_byte c.begun v b)) (sym h.apart) in
    record {
      units = capped c.units (units_of (collapsed before)) (units_of (collapsed_byte c.begun c.apart b)) d.units
          (units_of (collapsed (before ++ b ∷ []))) h.units units same;
      begun = begun ∙ ap (λ v. v || not (is_ascii_whitespace b)) h.begun ∙ sym (begun_after-push false before b);
      apart = apart ∙ sym (apart_after-push false before b);
    }

-- the same, where the byte is the next one of a piece

pub CountsNormalized-more : (c d : NormalizedCount) (before items : List ℕ) (i : ℕ) → CountsNormalized c (before ++ take i items) → i < length items
    → d.units ≡ min (c.units + units_of (normal_byte c.behind (get_or items i 0))) (2 ^ 64 - 1) → d.behind ≡ eqb (get_or items i 0) 13
    → CountsNormalized d (before ++ take (i + 1) items)
CountsNormalized-more c d before items i h inside units behind =
    subst (CountsNormalized d) (front_more before items i inside) (CountsNormalized-push c d (before ++ take i items) (get_or items i 0) h units behind)

pub CountsCollapsed-more : (c d : CollapsedCount) (before items : List ℕ) (i : ℕ) → CountsCollapsed c (before ++ take i items) → i < length items
    → d.units ≡ min (c.units + units_of (collapsed_byte c.begun c.apart (get_or items i 0))) (2 ^ 64 - 1)
    → d.begun ≡ (c.begun || not (is_ascii_whitespace (get_or items i 0))) → d.apart ≡ is_ascii_whitespace (get_or items i 0)
    → CountsCollapsed d (before ++ take (i + 1) items)
CountsCollapsed-more c d before items i h inside units begun apart =
    subst (CountsCollapsed d) (front_more before items i inside) (CountsCollapsed-push c d (before ++ take i items) (get_or items i 0) h units begun apart)
