use Rattle.std.proofs.Common.{◌≡◌, ◌<◌, ◌∙◌, ℕ, List, length, get_or, ap, rules}
use Rattle.class_bodies.proofs.Placed.{placed_more}
use Rattle.class_bodies.proofs.bodies.Bodies.push.Goals as goal

pub invariant_of-self-in-Ok : goal.invariant_of-self-in-Ok
invariant_of-self-in-Ok c =
    let within : c.place_of.result < length c.self.inside.places = search rules in
    let many : c.len-place.result ≡ length c.self.inside.lines.items = c.len-place.ensures ∙ c.self.inside.lines.ok.0 in
    placed_more c.self.inside.lines.items c.push.new.self.items c.self.inside.places c.args.call c.args.action c.place_of.result c.len-place.result
    (get_or c.self.inside.places c.place_of.result c.index-self-place_of.result) _ c.place_of.ensures.place within
    (ap (λ (d : List ℕ). get_or c.self.inside.places c.place_of.result d) c.index-self-place_of.is) many c.in-Ok.ensures c.in_ok-push.ensures.items
    c.self.invariant
