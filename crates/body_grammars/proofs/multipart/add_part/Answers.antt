use Rattle.body_grammars.proofs.PartCuts.{part_added}
use Rattle.body_grammars.proofs.multipart.add_part.Goals as goal

pub returns : goal.returns
returns c = λ more. part_added c.args.entries.now c.push.new.self c.in_ok-e.e c.args.boundary.now c.args.bytes.now c.in_ok-e.rest.now more c.in_ok-e.ensures
    c.in_ok-push.ensures
