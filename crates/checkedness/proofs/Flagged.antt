-- What is checked is flagged.
use Rattle.std.proofs.Common.{◌≡◌, ℕ, Bool, true, false, cond, List, [], ◌∷◌, Option, Some, None, refl, subst, arith}
use Rattle.std.specs.Prelude.{filter, ◌==◌}
use Rattle.std.specs.List.{last_or}
use Rattle.std.specs.Option.{IfSome}
use Rattle.std.proofs.lemmas.Bool.Decides.{nat_tests}
use Rattle.node_trees.specs.Trees.{is_number}
use Rattle.element_names.specs.declared.input_kinds.InputKind.TheVariants.{Radio}
use Rattle.form_controls.specs.declared.control.Control.{Control}
use Rattle.form_controls.specs.Checkedness.{checked_of, group_of, is_checked, is_flagged}
use Rattle.form_controls.specs.Kinds.{has_kind}
use Rattle.form_controls.specs.Owners.{Forms}

module _ (p : ℕ → Bool) where
  -- the last of those that pass does pass, where the one to begin with does
  pub last-passes : (found : Option ℕ) (ms : List ℕ) → IfSome found (λ m. p m ≡ true) → IfSome (last_or found (filter p ms)) (λ m. p m ≡ true)
  last-passes found [] passes = passes
  last-passes found (m ∷ ms) passes = by_test (last-passes (Some m) ms) (last-passes found ms passes) (p m) refl
    where
      by_test : (p m ≡ true → IfSome (last_or (Some m) (filter p ms)) (λ k. p k ≡ true)) → IfSome (last_or found (filter p ms)) (λ k. p k ≡ true) → (b : Bool)
          → p m ≡ b →
          IfSome (last_or found (cond b (m ∷ filter p ms) (filter p ms))) (λ k. p k ≡ true)
      by_test here behind true e = here e
      by_test here behind false e = behind

  -- so one that does not is not the last
  pub last-another : (n : ℕ) (last : Option ℕ) → IfSome last (λ m. p m ≡ true) → p n ≡ false → is_number last n ≡ false
  last-another n None passes e = refl
  last-another n (Some m) passes e = by_test (m == n) refl
    where
      by_test : (b : Bool) → (m == n) ≡ b → (m == n) ≡ false
      by_test false z = z
      by_test true z =
          let same : m ≡ n = grind (arith, nat_tests) in
          let passes_too : p n ≡ true = subst (λ v. p v ≡ true) same passes in
          absurd cc

-- one that is not flagged is not checked
pub unflagged-unchecked : (f : Forms) (controls : List Control) (n : ℕ) → is_flagged controls f.forest n ≡ false → is_checked f controls n ≡ false
unflagged-unchecked f controls n e = by_kind (has_kind Radio f.forest n)
  where
    by_kind : (b : Bool) → cond b (is_number (checked_of f controls n) n) (is_flagged controls f.forest n) ≡ false
    by_kind true = last-another (is_flagged controls f.forest) n (checked_of f controls n) (last-passes (is_flagged controls f.forest) None (group_of f n) tt) e
    by_kind false = e
