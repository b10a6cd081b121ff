use Rattle.std.proofs.Common.{ℕ, List, Some, ap, sym, ◌∙◌}
use Rattle.std.specs.Option.{option_map}
use Rattle.node_trees.specs.Facts.{value_in}
use Rattle.ordered_tables.proofs.TextMapPlaces.{no_value, value_at}
use Rattle.ordered_tables.proofs.text_map.TextMap.get.Goals as goal

pub returns-in_err-place : goal.returns-in_err-place
returns-in_err-place c =
    rw c.from_residual.ensures
    (sym (no_value c.self.inside.pairs c.self.inside.places c.self.inside.next c.self.invariant c.args.name.now c.in_err-place.ensures.value)
    ∙ ap (λ xs. value_in xs c.args.name.now) c.self.view_is)

pub returns-in_err-pair : goal.returns-in_err-pair
returns-in_err-pair c =
    rw c.from_residual-in_err-pair.ensures
    (ap (option_map (λ (a : List ℕ × List ℕ). a.1)) c.in_err-pair.ensures.value
    ∙ value_at c.self.inside.pairs c.self.inside.places c.self.inside.next c.self.invariant c.in_ok-place.place.now c.args.name.now c.in_ok-place.ensures.value
    ∙ ap (λ xs. value_in xs c.args.name.now) c.self.view_is)

pub returns : goal.returns
returns c =
    ap Some c.as_str.ensures
    ∙ ap (option_map (λ (a : List ℕ × List ℕ). a.1)) c.in_ok-pair.ensures.value
    ∙ value_at c.self.inside.pairs c.self.inside.places c.self.inside.next c.self.invariant c.in_ok-place.place.now c.args.name.now c.in_ok-place.ensures.value
    ∙ ap (λ xs. value_in xs c.args.name.now) c.self.view_is
