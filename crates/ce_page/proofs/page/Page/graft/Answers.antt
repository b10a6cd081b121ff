use Rattle.std.proofs.Common.{◌≡◌, false, refl, subst}
use Rattle.node_trees.specs.Kinds.{KeepsKinds}
use Rattle.node_trees.specs.Links.{KeepsApart, KeepsSpots}
use Rattle.node_trees.specs.Paths.{connected}
use Rattle.ce_algorithms.specs.Forms.{forms_in}
use Rattle.ce_algorithms.specs.Page.{Page}
use Rattle.ce_page.proofs.ElementLemmas.{sound_kept}
use Rattle.ce_page.proofs.SettleLemmas.{inserted}
use Rattle.ce_page.proofs.WholeLemmas.{whole_begun}
use Rattle.ce_page.proofs.page.Page.graft.Goals as goal

pub invariant_of-self : goal.invariant_of-self
invariant_of-self c = whole_begun _ _ _ _ c.insert.ensures.kinds refl c.self.invariant

pub invariant_of-self-in_err-changes : goal.invariant_of-self-in_err-changes
invariant_of-self-in_err-changes c = whole_begun _ _ _ _ c.insert.ensures.kinds refl c.self.invariant

pub invariant_of-self-2 : goal.invariant_of-self-2
invariant_of-self-2 c =
    let touched = inserted _ _ c.self.view_is c.args.parent c.args.node c.args.before c.insert.new.self c.requires.parent c.requires.node c.requires.before
    c.requires.may c.requires.free c.insert.ensures.tidy c.insert.ensures.size c.in_ok-insert.ensures.ok in
    let stood = c.self.invariant.owners c.if-not-self.false in
    record {
      sound = sound_kept _ _ c.insert.ensures.kinds c.self.invariant.sound;
      given = λ e. c.self.invariant.given c.if-not-self.false;
      owners = λ e. c.in_ok-changes.ensures.stands (forms_in c.self.inside.elements.items c.self.inside.registry c.self.inside.tree) stood touched;
    }

pub returns-in_err-insert-clause-kinds : goal.returns-in_err-insert-clause-kinds
returns-in_err-insert-clause-kinds c = subst (λ (p : Page). KeepsKinds p.forest c.insert.new.self) c.self.view_is c.insert.ensures.kinds

pub returns-in_err-changes-clause-kinds : goal.returns-in_err-changes-clause-kinds
returns-in_err-changes-clause-kinds c = subst (λ (p : Page). KeepsKinds p.forest c.insert.new.self) c.self.view_is c.insert.ensures.kinds

pub returns-clause-kinds : goal.returns-clause-kinds
returns-clause-kinds c = subst (λ (p : Page). KeepsKinds p.forest c.insert.new.self) c.self.view_is c.insert.ensures.kinds

pub returns-clause-others : goal.returns-clause-others
returns-clause-others c = subst (λ (p : Page). KeepsSpots c.args.parent c.args.node p.forest c.insert.new.self) c.self.view_is c.in_ok-insert.ensures.others

pub returns-clause-apart : goal.returns-clause-apart
returns-clause-apart c =
    subst (λ (p : Page). connected p.forest c.args.parent ≡ false → KeepsApart p.forest c.insert.new.self) c.self.view_is c.in_ok-insert.ensures.apart
