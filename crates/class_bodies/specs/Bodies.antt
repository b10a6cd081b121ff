-- Where the actions of each callback's body lie among the lines of a class.
use Rattle.std.specs.Prelude.{◌≡◌, ℕ, ◌+◌, if◌then◌else◌, List, [], ◌∷◌, map, slice_get}
use Rattle.rule_tokens.specs.declared.callback.CallName.{CallName}
use Rattle.rule_lines.specs.Acts.{Act, act_of}
use Rattle.rule_lines.specs.declared.action.Action.{Action}
use Rattle.reaction_queue.specs.Queues.{or_empty}
use Rattle.ce_registry.specs.ClassFacts.{place_of}
use Rattle.ce_algorithms.specs.Body.{same_call}

-- the lines, without where an inner action lies in memory
abbrev pub lines_of : List (CallName × Action) → List (CallName × Act)
lines_of lines = map (λ (l : CallName × Action). (l.0, act_of l.1)) lines

-- the places of a callback's actions, where the first line has the place i
abbrev pub places_from : CallName → ℕ → List (CallName × Act) → List ℕ
places_from call i [] = []
places_from call i (l ∷ lines) = if same_call l.0 call then i ∷ places_from call (i + 1) lines else places_from call (i + 1) lines

-- the places that are kept for a callback
abbrev pub kept_for : CallName → List (List ℕ) → List ℕ
kept_for call places = or_empty (slice_get places (place_of call))

-- for each callback the places of its actions are kept
abbrev pub ArePlaced : List (CallName × Act) → List (List ℕ) → Type 0
ArePlaced lines places = (call : CallName) → kept_for call places ≡ places_from call 0 lines
