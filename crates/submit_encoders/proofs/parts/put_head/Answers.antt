use Rattle.std.proofs.Common.{◌∙◌, string_bytes}
use Rattle.std.proofs.lemmas.Result.{on_ok_weaker}
use Rattle.submit_encoders.proofs.Heads.{pieces_are_head}
use Rattle.submit_encoders.proofs.parts.put_head.Goals as goal

pub returns : goal.returns
returns c =
    on_ok_weaker c.put_name.result
    (λ put. put ∙ rw (c.in_ok-push_str.ensures.bytes, c.in_ok-put_delimiter.ensures)
    (pieces_are_head (string_bytes c.args.body.now) c.args.boundary.now c.args.name.now))
    c.put_name.ensures
