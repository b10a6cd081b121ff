-- What the number of a status says.
use Rattle.std.proofs.Common.{◌≡◌, ◌⊎◌, inl, inr, ℕ, refl, ap, ◌∙◌, sym, arith}
use Rattle.cepage_c.specs.Numbers.{more_room, no_memory, usage}
use Rattle.page_runner.specs.Table.{number_of}
use Rattle.page_runner.specs.Status.{Status}
use Rattle.page_runner.specs.Status.TheVariants.{Done, BadLines, Usage, Fuel, ReadFault, WriteFault, NoMemory, TooLong}

-- which status has the number
is_usage : (s : Status) → number_of s ≡ usage → s ≡ Usage
is_usage Done h = absurd (omega (arith, h))
is_usage BadLines h = absurd (omega (arith, h))
is_usage Usage h = refl
is_usage Fuel h = absurd (omega (arith, h))
is_usage ReadFault h = absurd (omega (arith, h))
is_usage WriteFault h = absurd (omega (arith, h))
is_usage NoMemory h = absurd (omega (arith, h))
is_usage TooLong h = absurd (omega (arith, h))

is_more_room : (s : Status) → number_of s ≡ more_room → s ≡ WriteFault
is_more_room Done h = absurd (omega (arith, h))
is_more_room BadLines h = absurd (omega (arith, h))
is_more_room Usage h = absurd (omega (arith, h))
is_more_room Fuel h = absurd (omega (arith, h))
is_more_room ReadFault h = absurd (omega (arith, h))
is_more_room WriteFault h = refl
is_more_room NoMemory h = absurd (omega (arith, h))
is_more_room TooLong h = absurd (omega (arith, h))

module _ (number : ℕ) (status : Status) (is : number ≡ number_of status) where
  pub usage_only : number ≡ usage → status ≡ Usage
  usage_only h = is_usage status (sym is ∙ h)

  pub more_room_only : number ≡ more_room → status ≡ WriteFault
  more_room_only h = is_more_room status (sym is ∙ h)

  -- a status or NoMemory, as numbers
  pub numbered : (end : Status) → (status ≡ end) ⊎ (status ≡ NoMemory) → (number ≡ number_of end) ⊎ (number ≡ no_memory)
  numbered end (inl e) = inl (is ∙ ap number_of e)
  numbered end (inr none) = inr (is ∙ ap number_of none)

  pub numbered_with : {P : Type 0} (end : Status) → ((status ≡ end) × P) ⊎ (status ≡ NoMemory) → ((number ≡ number_of end) × P) ⊎ (number ≡ no_memory)
  numbered_with end (inl both) = inl (is ∙ ap number_of both.0, both.1)
  numbered_with end (inr none) = inr (is ∙ ap number_of none)
