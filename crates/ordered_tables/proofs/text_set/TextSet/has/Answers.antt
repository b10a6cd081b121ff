use Rattle.std.proofs.Common.{ap, ◌∙◌, bytes_eq}
use Rattle.std.specs.Prelude.{is_some}
use Rattle.std.specs.List.{list_any}
use Rattle.ordered_tables.proofs.TextSetPlaces.{found_there}
use Rattle.ordered_tables.proofs.text_set.TextSet.has.Goals as goal

pub returns : goal.returns
returns c =
    c.contains_key.ensures
    ∙ ap is_some (c.self.invariant.found c.args.s.now)
    ∙ found_there c.self.inside.texts.entries c.args.s.now
    ∙ ap (list_any (bytes_eq c.args.s.now)) c.self.view_is
