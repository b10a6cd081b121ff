-- A body as it is kept in its frame.
use Rattle.std.specs.Prelude.{ℕ, false, Option}
use Rattle.rule_tokens.specs.declared.callback.CallName.{CallName}
use Rattle.ce_algorithms.specs.Values.{Args}
use Rattle.ce_frames.specs.Places.{Behaviour, Held, Place, Body}

-- the class whose body it is, how far it is, and the behaviour of the class, unless that is elsewhere
pub record Kept : Type 0 where
  pub class : ℕ
  pub place : Place
  pub held : Option Behaviour

-- its frame
abbrev pub frame_of : Kept → Held
frame_of b = Body b.class b.place b.held

-- where a body begins
abbrev pub first_place : CallName → Args → Option ℕ → Place
first_place call args this = record { call = call; index = 0; args = args; this = this; guarded = false }
