use Rattle.std.proofs.Common.{subst, List, ℕ}
use Rattle.body_grammars.specs.Gives.{Gives}
use Rattle.body_grammars.specs.ReadParts.{multipart_entries}
use Rattle.body_grammars.proofs.MultipartLaws.{multipart_reads}
use Rattle.body_grammars.proofs.multipart.read_multipart.Goals as goal

pub returns : goal.returns
returns c = multipart_reads c.multipart_entries.result c.args.boundary.now c.args.bytes.now c.requires
    (subst (λ (b : List ℕ). Gives c.multipart_entries.result (multipart_entries b c.args.bytes.now)) c.as_bytes.ensures.value c.multipart_entries.ensures)
