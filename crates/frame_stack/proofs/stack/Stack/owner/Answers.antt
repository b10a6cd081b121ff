use Rattle.std.specs.Prelude.{◌-◌, List, length, slice_get}
use Rattle.std.proofs.Common.{ap, sym, ◌∙◌}
use Rattle.ce_frames.specs.Places.{Held}
use Rattle.frame_stack.specs.Stacked.{Stacked, frames_of, owner_of, top_of}
use Rattle.frame_stack.proofs.Tops.{none_read, owner_seen, stacked, top_read}
use Rattle.frame_stack.proofs.stack.Stack.owner.Goals as goal

pub returns-in-None : goal.returns-in-None
returns-in-None c =
    none_read (stacked c.self.inside.homes c.self.inside.frames.items) owner_of (ap (λ (l : List Held). slice_get l (length l - 1)) (sym c.deref.ensures.value)
    ∙ sym c.in-None.ensures.value)
    ∙ ap (λ (s : Stacked). owner_of (top_of (frames_of s))) c.self.view_is

pub returns-in-Some : goal.returns-in-Some
returns-in-Some c =
    c.owner.ensures.owner
    ∙ top_read (stacked c.self.inside.homes c.self.inside.frames.items) c.in-Some.f.now owner_of _
    (ap (λ (l : List Held). slice_get l (length l - 1)) (sym c.deref.ensures.value) ∙ sym c.in-Some.ensures.value)
    (owner_seen c.in-Some.f.now c.owner.ensures.plain)
    ∙ ap (λ (s : Stacked). owner_of (top_of (frames_of s))) c.self.view_is
