use Rattle.std.proofs.Common.{sym, ◌∙◌}
use Rattle.frame_stack.specs.Sessions.{session}
use Rattle.frame_stack.specs.Stacked.{frames_of}
use Rattle.ce_reactions.proofs.ConstructLaws.{base_lasts, base_paired, base_turns, own_constructs, own_lasts}
use Rattle.ce_reactions.proofs.constructions.construct.Goals as goal

-- by a constructor of its own

pub returns-then-has_constructor-clause-turn : goal.returns-then-has_constructor-clause-turn
returns-then-has_constructor-clause-turn c =
    own_constructs c.args.stack.now c.args.class c.args.state.now c.log_construction.new.self
    (sym c.if-has_constructor.true ∙ c.has_constructor.ensures) c.in_ok-log_construction.ensures.logged (frames_of c.args.stack.now)
    (frames_of c.begin.new.stack) c.in_ok-now.now (session c.begin.new.stack c.log_construction.new.self) c.in_ok-now.ensures.turn

pub returns-then-has_constructor-clause-lasts : goal.returns-then-has_constructor-clause-lasts
returns-then-has_constructor-clause-lasts c =
    own_lasts c.args.stack.now c.args.class c.args.state.now c.log_construction.new.self
    (sym c.if-has_constructor.true ∙ c.has_constructor.ensures) c.in_ok-log_construction.ensures.logged

-- by the base call alone

pub returns-clause-turn : goal.returns-clause-turn
returns-clause-turn c = base_turns c.args.stack.now c.args.class c.args.state.now c.log_construction.new.self c.base_alone.new.state c.in_ok-now-2.now
    (sym c.if-has_constructor.false ∙ c.has_constructor.ensures) c.in_ok-log_construction.ensures.logged c.in_ok-now-2.ensures.step

pub returns-clause-paired : goal.returns-clause-paired
returns-clause-paired c = base_paired c.args.stack.now c.args.class c.args.state.now c.log_construction.new.self c.base_alone.new.state c.in_ok-now-2.now
    (sym c.if-has_constructor.false ∙ c.has_constructor.ensures) c.in_ok-log_construction.ensures.logged c.in_ok-now-2.ensures.step c.requires.paired

pub returns-clause-lasts : goal.returns-clause-lasts
returns-clause-lasts c =
    base_lasts c.args.stack.now c.args.class c.args.state.now c.log_construction.new.self c.base_alone.new.state c.in_ok-now-2.now
    (sym c.if-has_constructor.false ∙ c.has_constructor.ensures) c.in_ok-log_construction.ensures.logged c.in_ok-now-2.ensures.step
    c.base_alone.ensures.grows c.in_ok-now-2.ensures.there
