use Rattle.std.proofs.Common.{ap, refl, sym, ◌∙◌, Ok}
use Rattle.node_trees.specs.Orders.{order_of}
use Rattle.node_trees.specs.Paths.{connected}
use Rattle.ce_algorithms.specs.Page.{Page}
use Rattle.ce_page.specs.Ends.{work}
use Rattle.ce_page.proofs.StepLemmas.{put_in_is}
use Rattle.ce_page.proofs.TellLemmas.{insertion_tells}
use Rattle.ce_page.proofs.Unheard.{inserted_node, insertion_unheard}
use Rattle.ce_page.proofs.page.Page.put_in.Goals as goal

pub returns-clause-step : goal.returns-clause-step
returns-clause-step c =
    let steps = put_in_is c.args.self.now c.graft.new.self c.args.fuel.now c.in_ok-changes.changes c.in_ok-changes.ensures.changes c.args.parent c.args.node
    c.args.before _ c.in_ok-changes.ensures.page refl in
    rw steps c.tell_insertion.ensures.step

pub returns-clause-told : goal.returns-clause-told
returns-clause-told c = insertion_tells _ _ (work c.args.self.now c.args.fuel.now) c.args.parent c.args.node c.args.before c.in_ok-changes.ensures.tidy
    c.requires.parent c.requires.may (returns-clause-step c)

pub returns-then-is_unheard-clause-step : goal.returns-then-is_unheard-clause-step
returns-then-is_unheard-clause-step c =
    let now = c.graft.new.self in
    let cs = c.in_ok-changes.changes in
    let apart = sym (c.is_connected-now.ensures ∙ ap (λ (p : Page). connected p.forest c.args.node) c.self.view_is)
    ∙ c.is_unheard.ensures.apart c.if-is_unheard.true in
    let node = inserted_node c.args.self.now now c.args.node c.in_ok-changes.ensures.kinds c.requires.node in
    let steps = put_in_is c.args.self.now now c.args.fuel.now cs c.in_ok-changes.ensures.changes c.args.parent c.args.node c.args.before
    (order_of now.forest c.args.node) c.in_ok-changes.ensures.page refl in
    sym (steps ∙ insertion_unheard now c.args.fuel.now cs c.args.node
    (c.is_unheard.ensures.changes c.if-is_unheard.true) apart node c.in_ok-changes.ensures.still_tidy)

pub returns-then-is_unheard-clause-told : goal.returns-then-is_unheard-clause-told
returns-then-is_unheard-clause-told c =
    insertion_tells (Ok tt) _ (work c.args.self.now c.args.fuel.now) c.args.parent c.args.node c.args.before c.in_ok-changes.ensures.tidy c.requires.parent
    c.requires.may (returns-then-is_unheard-clause-step c)
