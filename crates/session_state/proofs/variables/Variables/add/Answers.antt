use Rattle.std.proofs.Common.{◌≡◌, ◌∷◌, [], ◌∙◌, arith, string_bytes}
use Rattle.std.proofs.Math.Seq.{take-append_seam}
use Rattle.std.proofs.lemmas.Map.Text.{btree_map_updates_text}
use Rattle.session_state.proofs.PlaceLaws.{finds-added, finds-kept}
use Rattle.session_state.proofs.VariableLaws.{highest-append, positive-append}
use Rattle.session_state.proofs.variables.Variables.add.Goals as goal

-- the map follows the new variable
pub invariant_of-self-in_default : goal.invariant_of-self-in_default
invariant_of-self-in_default c =
    let sets = btree_map_updates_text (string_bytes c.in_ok-key.key) c.self.inside.places c.insert.new.self _ c.in_default.ensures.updates in
    rw c.in_ok-push.ensures.items (
      positive-append c.self.inside.items.items c.args.name c.args.n c.self.invariant.0 c.requires.positive,
      finds-added c.self.inside.places c.insert.new.self c.self.inside.items.items c.args.name c.args.n c.self.invariant.1
          (rw (← c.self.view_is) at c.requires.new)
          (rw (c.in_ok-key.ensures.ok, c.as_str.ensures, c.len-count.ensures, c.self.inside.items.ok.0) at sets),
    )

-- it was not put in, and the list is as it was
pub invariant_of-self-in-Err : goal.invariant_of-self-in-Err
invariant_of-self-in-Err c =
    let same : c.truncate.new.self.items ≡ c.self.inside.items.items =
    c.truncate.ensures.items ∙ rw (c.len-count.ensures, c.self.inside.items.ok.0, c.in_ok-push.ensures.items)
    (take-append_seam c.self.inside.items.items ((c.args.name, c.args.n) ∷ [])) in
    rw same (c.self.invariant.0, finds-kept c.self.inside.places c.insert.new.self c.self.inside.items.items c.self.invariant.1 c.in-Err.ensures.err)

pub returns-clause-highest : goal.returns-clause-highest
returns-clause-highest c = rw (c.in_ok-push.ensures.items, ← c.self.view_is) (highest-append c.self.inside.items.items c.args.name c.args.n)

pub returns-in-Err-clause-highest : goal.returns-in-Err-clause-highest
returns-in-Err-clause-highest c =
    let same : c.truncate.new.self.items ≡ c.self.inside.items.items =
    c.truncate.ensures.items ∙ rw (c.len-count.ensures, c.self.inside.items.ok.0, c.in_ok-push.ensures.items)
    (take-append_seam c.self.inside.items.items ((c.args.name, c.args.n) ∷ [])) in
    rw (same, ← c.self.view_is) (omega arith)
