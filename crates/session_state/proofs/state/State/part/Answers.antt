use Rattle.ce_algorithms.specs.Parts.{associated, change_facts, change_open, with_has, with_observed, without_internals, without_shadow}
use Rattle.ce_frames.proofs.BlindParts.{facts_blind}
use Rattle.frame_stack.specs.Stacked.{behaviours_of}
use Rattle.session_state.proofs.PartLaws.{blind_takes}
use Rattle.session_state.proofs.state.State.part.Goals as goal

pub returns-in-Has-clause-taken : goal.returns-in-Has-clause-taken
returns-in-Has-clause-taken c =
    rw c.in-Has.is (blind_takes (change_open c.in-Has.class (change_facts (with_has c.in-Has.call)))
    (behaviours_of c.args.stack.now) c.args.self.now c.add_call.new.self c.add_call.result
    (facts_blind c.in-Has.class (with_has c.in-Has.call)) c.add_call.ensures.taken)

pub returns-in-Observe-clause-taken : goal.returns-in-Observe-clause-taken
returns-in-Observe-clause-taken c =
    rw c.in-Observe.is (blind_takes (change_open c.in-Observe.class (change_facts (with_observed c.in-Observe.names)))
    (behaviours_of c.args.stack.now) c.args.self.now c.observe.new.self c.observe.result
    (facts_blind c.in-Observe.class (with_observed c.in-Observe.names)) c.observe.ensures.taken)

pub returns-in-Associate-clause-taken : goal.returns-in-Associate-clause-taken
returns-in-Associate-clause-taken c =
    rw c.in-Associate.is (blind_takes (change_open c.in-Associate.class (change_facts associated))
    (behaviours_of c.args.stack.now) c.args.self.now c.associate.new.self c.associate.result
    (facts_blind c.in-Associate.class associated) c.associate.ensures.taken)

pub returns-in-DisableShadow-clause-taken : goal.returns-in-DisableShadow-clause-taken
returns-in-DisableShadow-clause-taken c =
    rw c.in-DisableShadow.is (blind_takes (change_open c.in-DisableShadow.class (change_facts without_shadow))
    (behaviours_of c.args.stack.now) c.args.self.now c.disable_shadow.new.self c.disable_shadow.result
    (facts_blind c.in-DisableShadow.class without_shadow) c.disable_shadow.ensures.taken)

pub returns-in-DisableInternals-clause-taken : goal.returns-in-DisableInternals-clause-taken
returns-in-DisableInternals-clause-taken c =
    rw c.in-DisableInternals.is (blind_takes (change_open c.in-DisableInternals.class (change_facts without_internals))
    (behaviours_of c.args.stack.now) c.args.self.now c.disable_internals.new.self c.disable_internals.result
    (facts_blind c.in-DisableInternals.class without_internals) c.disable_internals.ensures.taken)
