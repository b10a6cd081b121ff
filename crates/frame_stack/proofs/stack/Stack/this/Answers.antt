use Rattle.std.specs.Prelude.{◌-◌, List, length, slice_get}
use Rattle.std.proofs.Common.{ap, sym, ◌∙◌}
use Rattle.ce_frames.specs.Places.{Held}
use Rattle.frame_stack.specs.Stacked.{Stacked, frames_of, this_of, top_of}
use Rattle.frame_stack.proofs.Tops.{this_seen, none_read, stacked, top_read}
use Rattle.frame_stack.proofs.stack.Stack.this.Goals as goal

pub returns-in-None : goal.returns-in-None
returns-in-None c =
    none_read (stacked c.self.inside.homes c.self.inside.frames.items) this_of (ap (λ (l : List Held). slice_get l (length l - 1)) (sym c.deref.ensures.value)
    ∙ sym c.in-None.ensures.value)
    ∙ ap (λ (s : Stacked). this_of (top_of (frames_of s))) c.self.view_is

pub returns-in-Some : goal.returns-in-Some
returns-in-Some c =
    c.this.ensures.this
    ∙ top_read (stacked c.self.inside.homes c.self.inside.frames.items) c.in-Some.f.now this_of _
    (ap (λ (l : List Held). slice_get l (length l - 1)) (sym c.deref.ensures.value) ∙ sym c.in-Some.ensures.value)
    (this_seen c.in-Some.f.now c.this.ensures.plain)
    ∙ ap (λ (s : Stacked). this_of (top_of (frames_of s))) c.self.view_is
