use Rattle.std.proofs.Common.{◌<◌, length, take, arith, ap}
use Rattle.std.proofs.KnownBytes.{Keeps-refl}
use Rattle.std.specs.Io.KnownBytes.{Keeps}
use Rattle.ce_base.specs.Gathered.{behind}
use Rattle.ce_base.proofs.Written.{behind-more}
use Rattle.ce_base.proofs.gathering.GatheringSink.write.Goals.{then-room-eq0+in-Ok, else-room-eq0}
use Rattle.ce_base.proofs.gathering.GatheringSink.write.Goals as goal

pub returns-in-Ok-push-clause-bytes : goal.returns-in-Ok-push-clause-bytes
returns-in-Ok-push-clause-bytes g c =
    let kept : Keeps (behind (g.K.Sink.held c.args.self.now.sink.now) c.args.self.now.pending.now)
    (behind (g.K.Sink.held c.if-room-eq0.self.sink.now) c.if-room-eq0.self.pending.now) = elim c.if-room-eq0.branch [
      | then-room-eq0+in-Ok w ↦ rw w.self-is w.pass_on.ensures.held
      | else-room-eq0 w ↦ rw w.self-is (Keeps-refl _)
    ] in
    behind-more _ (g.K.Sink.held c.if-room-eq0.self.sink.now) c.if-room-eq0.self.pending.now
    (take c.in-Ok-push.count c.args.piece.now) c.push.new.self kept c.in-Ok-push.ensures.ok

pub returns-in-Ok-push-clause-took : goal.returns-in-Ok-push-clause-took
returns-in-Ok-push-clause-took g c =
    let room : length c.if-room-eq0.self.pending.now < 65536 = elim c.if-room-eq0.branch [
      | then-room-eq0+in-Ok w ↦ omega (arith, ap (λ s. length s.pending.now) w.self-is, ap length w.in-Ok.ensures.none)
      | else-room-eq0 w ↦ omega (arith, ap (λ s. length s.pending.now) w.self-is)
    ] in
    (omega (arith, c.in-Ok-push.ensures.count), λ some. omega (arith, room, some, c.in-Ok-push.ensures.count))
