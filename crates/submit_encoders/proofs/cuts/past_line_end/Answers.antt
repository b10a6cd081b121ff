use Rattle.submit_encoders.proofs.Lines.{boundary_behind_one, boundary_behind_two}
use Rattle.std.proofs.Common.{◌≡◌, true}
use Rattle.std.specs.List.{starts_with}
use Rattle.std.specs.Prelude.{nat_eq}
use Rattle.form_submission.specs.LineEnds.{newline}
use Rattle.submit_encoders.proofs.cuts.past_line_end.Goals as goal

pub range_from-requires : goal.range_from-requires
range_from-requires c =
    let begins : starts_with nat_eq c.args.text.now newline ≡ true = cc in
    λ _. boundary_behind_two c.args.text.now c.utf8.text begins

pub range_from-requires-else-starts_with : goal.range_from-requires-else-starts_with
range_from-requires-else-starts_with c = λ _. boundary_behind_one c.args.text.now c.utf8.text c.requires
