use Rattle.std.proofs.Common.{◌≡◌, ◌∙◌, ◌∷◌, [], arith}
use Rattle.std.proofs.lemmas.Grind.{common_steps}
use Rattle.std.proofs.Math.Seq.{take-append_seam}
use Rattle.ce_registry.proofs.registry.Registry.add.Goals as goal

-- the definition was not put into the maps, and is out of the list again
pub invariant_of-self-in-Err : goal.invariant_of-self-in-Err
invariant_of-self-in-Err c =
    let same : c.truncate.new.self.items ≡ c.self.inside.entries.items =
    c.truncate.ensures.items ∙ rw (c.len-count.ensures, c.self.inside.entries.ok.0, c.in_ok-push.ensures.items)
    (take-append_seam c.self.inside.entries.items (c.in_ok-make.field-0 ∷ [])) in
    let entry : c.index-entry.result.now ≡ c.args.d = grind (arith, common_steps) in
    rw same (c.in-Err.ensures.err c.self.inside.entries.items c.self.invariant (rw entry (rw (← c.self.view_is) at c.requires.class)))
