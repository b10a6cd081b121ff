use Rattle.std.proofs.Common.{◌≡◌, None, ap, ◌∙◌}
use Rattle.node_trees.specs.Insertion.{may_insert}
use Rattle.node_trees.specs.Spots.{document_at}
use Rattle.ce_algorithms.specs.Page.{Page}
use Rattle.ce_page.proofs.CopyLemmas.{may_append}
use Rattle.ce_page.proofs.StepLemmas.{appended}
use Rattle.ce_page.proofs.page.Page.append.Goals as goal

pub put_apart-requires-clause-may : goal.put_apart-requires-clause-may
put_apart-requires-clause-may c =
    c.in_ok-adopt_node.ensures.loose.may c.args.parent None c.requires.parent.node
    (may_append c.args.self.now.forest c.args.parent c.args.n c.requires.parent c.requires.alone c.requires.kind c.requires.other)

pub returns-clause-step : goal.returns-clause-step
returns-clause-step c =
    let may : may_insert c.args.self.now.forest c.args.parent c.args.n None ≡ None =
    may_append c.args.self.now.forest c.args.parent c.args.n c.requires.parent c.requires.alone c.requires.kind c.requires.other in
    let document = c.document-document.ensures ∙ ap (λ (p : Page). document_at p.forest c.args.parent) c.self.view_is in
    appended _ _ c.args.self.now c.adopt_node.new.self c.args.parent c.args.n c.args.fuel.now c.adopt_node.new.fuel may
    (rw document at c.in_ok-adopt_node.ensures.step) c.put_apart.ensures.step
