use Rattle.std.proofs.Common.{◌≡◌, Err, None, ap, sym, ◌∙◌, rules}
use Rattle.node_trees.specs.Insertion.{may_insert}
use Rattle.node_trees.specs.Spots.{document_at}
use Rattle.ce_algorithms.specs.Page.{Page}
use Rattle.ce_page.specs.Ends.{work}
use Rattle.ce_page.proofs.StepLemmas.{pre_inserted}
use Rattle.ce_page.proofs.TellLemmas.{tells_from, tells_not}
use Rattle.ce_page.proofs.page.Page.insert_node.Goals as goal

pub returns-clause-step : goal.returns-clause-step
returns-clause-step c =
    let may : may_insert c.args.self.now.forest c.args.parent c.args.node c.args.before ≡ None =
    sym (c.in_ok-may_insert.ensures ∙ ap (λ (p : Page). may_insert p.forest c.args.parent c.args.node c.args.before) c.self.view_is) in
    let document = c.document-document.ensures ∙ ap (λ (p : Page). document_at p.forest c.args.parent) c.self.view_is in
    pre_inserted _ (work c.put_in.new.self c.put_in.new.fuel) c.args.self.now c.adopt_node.new.self c.args.parent c.args.node c.args.before
    c.reference_child-child.result c.args.fuel.now c.adopt_node.new.fuel may c.reference_child-child.ensures.child
    (rw document at c.in_ok-adopt_node.ensures.step) c.put_in.ensures.step

pub returns-clause-told : goal.returns-clause-told
returns-clause-told c = λ mid goes.
    let document = c.document-document.ensures ∙ ap (λ (p : Page). document_at p.forest c.args.parent) c.self.view_is in
    tells_from _ mid _ c.put_in.new.self _ (rw document at c.in_ok-adopt_node.ensures.step) goes c.put_in.ensures.told

pub returns-in_err-adopt_node-clause-told : goal.returns-in_err-adopt_node-clause-told
returns-in_err-adopt_node-clause-told c = λ mid goes.
    let stopped : c.from_residual-in_err-adopt_node.result ≡ Err c.in_err-adopt_node.field-0.0 = search rules in
    let document = c.document-document.ensures ∙ ap (λ (p : Page). document_at p.forest c.args.parent) c.self.view_is in
    tells_not _ _ mid _ _ _ stopped (rw document at c.in_err-adopt_node.ensures.step) goes
