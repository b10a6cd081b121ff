-- What stands around an action, one after the other.
use Rattle.std.proofs.Common.{◌≡◌, List, [], ◌∷◌, Option, Some, None, refl}
use Rattle.std.specs.Option.{option_and_then}
use Rattle.rule_tokens.specs.Gives.{◌>>=◌}
use Rattle.rule_lines.specs.Acts.{Act}
use Rattle.rule_reader.specs.declared.form.Wrap.{Wrap}
use Rattle.rule_reader.specs.declared.form.Wrap.TheVariants as wraps
use Rattle.rule_script.specs.Place.{declared, nested, or_place, said_of_body}

-- one more goes around all that is inside
pub nested_one : (w : Wrap) (ws : List Wrap) (a : Act) → or_place (nested (w ∷ ws) a) ≡ (or_place (nested ws a) >>= λ b. or_place (nested (w ∷ []) b))
nested_one w ws a = at w (nested ws a) refl
  where
    at : (w : Wrap) (o : Option Act) → nested ws a ≡ o → or_place (nested (w ∷ ws) a) ≡ (or_place o >>= λ b. or_place (nested (w ∷ []) b))
    at wraps.Try None is = rw is refl
    at wraps.Try (Some b) is = rw is refl
    at (wraps.If equal left right) None is = rw is refl
    at (wraps.If equal left right) (Some b) is = rw is refl
    at (wraps.On class call) None is = refl
    at (wraps.On class call) (Some b) is = refl

-- a step that says nothing is misplaced
place_then : {A B : Type 0} (o : Option A) (next : A → Option B) → or_place (option_and_then next o) ≡ (or_place o >>= λ a. or_place (next a))
place_then None next = refl
place_then (Some a) next = refl

pub body_placed : (w : Wrap) (ws : List Wrap) (o : Option Act)
    → or_place (option_and_then (said_of_body w ws) o) ≡ (or_place o >>= λ a. or_place (nested ws a) >>= λ b. or_place (declared w b))
body_placed w ws None = refl
body_placed w ws (Some a) = place_then (nested ws a) (declared w)

pub ruleset place_steps = (body_placed)
