use Rattle.std.proofs.Common.{Some, subst}
use Rattle.ce_frames.specs.Places.{Place, Body}
use Rattle.body_frames.specs.Kept.{Kept, frame_of}
use Rattle.body_frames.specs.Resumes.{FrameResumes, IsSameBody}
use Rattle.body_frames.proofs.KeptLaws.{has_run, same_body}
use Rattle.body_frames.proofs.body.Body.resume.Goals as goal

pub returns-in_err-next-in-Some-clause-same : goal.returns-in_err-next-in-Some-clause-same
returns-in_err-next-in-Some-clause-same c =
    let old = c.self.inside in
    let p : Place = record { call = old.at.call; index = old.at.index; args = old.args; this = old.this; guarded = old.guarded } in
    let q : Place = record { call = c.resume.new.at.call; index = c.resume.new.at.index; args = old.args; this = old.this; guarded = old.guarded } in
    subst (λ (b : Kept). IsSameBody (frame_of b) (Body old.class q (Some c.resume.new.self))) c.self.view_is
    (same_body old.class p q old.held c.in-Some.b c.resume.new.self c.in-Some.is c.resume.ensures.bodies)

pub returns-in_ok-next-in-Some-clause-resumed : goal.returns-in_ok-next-in-Some-clause-resumed
returns-in_ok-next-in-Some-clause-resumed c =
    let old = c.self.inside in
    let now = c.is_guarded-self-inside.result in
    let q : Place = record { call = c.resume.new.at.call; index = c.resume.new.at.index; args = old.args; this = old.this; guarded = now } in
    let next = c.in_ok-next-in-Some.next in
    subst (λ (b : Kept). FrameResumes (frame_of b) (Body old.class q (Some c.resume.new.self)) c.args.fuel.now c.resume.new.fuel next) c.self.view_is
    (has_run old.class old.at.call c.resume.new.at.call old.at.index c.resume.new.at.index old.args old.this old.guarded now old.held c.in-Some.b
    c.resume.new.self c.in-Some.is c.resume.ensures.bodies c.resume.ensures.call next c.args.fuel.now c.resume.new.fuel c.is_guarded-self-inside.ensures
    c.in_ok-next-in-Some.ensures.resumed)

pub returns-in_ok-next-in-Some-clause-same : goal.returns-in_ok-next-in-Some-clause-same
returns-in_ok-next-in-Some-clause-same c =
    let old = c.self.inside in
    let p : Place = record { call = old.at.call; index = old.at.index; args = old.args; this = old.this; guarded = old.guarded } in
    let q : Place = record {
      call = c.resume.new.at.call;
      index = c.resume.new.at.index;
      args = old.args;
      this = old.this;
      guarded = c.is_guarded-self-inside.result;
    } in
    subst (λ (b : Kept). IsSameBody (frame_of b) (Body old.class q (Some c.resume.new.self))) c.self.view_is
    (same_body old.class p q old.held c.in-Some.b c.resume.new.self c.in-Some.is c.resume.ensures.bodies)
