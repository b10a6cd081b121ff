use Rattle.std.proofs.Common.{◌<◌, ℕ, List, length, get_or, ap, arith, rules}
use Rattle.class_bodies.proofs.Placed.{body_at, body_ends, body_within}
use Rattle.class_bodies.proofs.bodies.Bodies.get.Goals as goal

pub index-requires : goal.index-requires
index-requires c =
    let within : c.place_of.result < length c.self.inside.places = search rules in
    let less : c.in-Some.place < length c.self.inside.lines.items =
    body_within c.self.inside.lines.items c.self.inside.places c.args.call c.place_of.result
    (get_or c.self.inside.places c.place_of.result c.index-self-place_of.result) c.args.index c.place_of.ensures.place within
    (ap (λ (d : List ℕ). get_or c.self.inside.places c.place_of.result d) c.index-self-place_of.is) c.self.invariant c.in-Some.place
    c.in-Some.ensures.place in
    let many = c.self.inside.lines.ok.0 in
    omega arith

pub returns-in-None-clause-action : goal.returns-in-None-clause-action
returns-in-None-clause-action c =
    let within : c.place_of.result < length c.self.inside.places = search rules in
    rw (← c.self.view_is) (body_ends c.self.inside.lines.items c.self.inside.places c.args.call c.place_of.result
    (get_or c.self.inside.places c.place_of.result c.index-self-place_of.result) c.args.index c.place_of.ensures.place within
    (ap (λ (d : List ℕ). get_or c.self.inside.places c.place_of.result d) c.index-self-place_of.is) c.self.invariant c.in-None.ensures.place)

pub returns-in-Some-clause-action : goal.returns-in-Some-clause-action
returns-in-Some-clause-action c =
    let within : c.place_of.result < length c.self.inside.places = search rules in
    rw (← c.self.view_is) (body_at c.self.inside.lines.items c.self.inside.places c.args.call c.place_of.result
    (get_or c.self.inside.places c.place_of.result c.index-self-place_of.result) c.args.index c.place_of.ensures.place within
    (ap (λ (d : List ℕ). get_or c.self.inside.places c.place_of.result d) c.index-self-place_of.is) c.self.invariant c.in-Some.place c.index.result.now
    c.in-Some.ensures.place c.index.ensures)
