use Rattle.std.proofs.Common.{subst}
use Rattle.ce_algorithms.specs.Forms.{forms_in}
use Rattle.ce_algorithms.specs.Page.{Page}
use Rattle.ce_page.specs.Copies.{OnlyChanges}
use Rattle.ce_page.proofs.ElementLemmas.{sound_kept}
use Rattle.ce_page.proofs.SettleLemmas.{attribute_set}
use Rattle.ce_page.proofs.WholeLemmas.{whole_begun}
use Rattle.ce_page.proofs.page.Page.put_attribute.Goals as goal

pub invariant_of-self : goal.invariant_of-self
invariant_of-self c =
    let kept = c.write_attribute.ensures.kept in
    record {
      sound = sound_kept _ _ c.write_attribute.ensures.changes.kinds c.self.invariant.sound;
      given = λ e. c.self.invariant.given (kept e);
      owners = λ e. rw c.in_err-old.ensures.err (c.self.invariant.owners (kept e));
    }

pub invariant_of-self-in_err-changes : goal.invariant_of-self-in_err-changes
invariant_of-self-in_err-changes c = whole_begun _ _ _ _ c.write_attribute.ensures.changes.kinds c.in_ok-old.ensures.begun c.self.invariant

pub settle-requires : goal.settle-requires
settle-requires c =
    let touched = attribute_set _ _ c.self.view_is c.args.n c.args.name.now c.args.value.now c.write_attribute.new.tree c.requires.node c.requires.element
    c.in_ok-old.ensures.tidy c.write_attribute.ensures.size c.in_ok-old.ensures.set in
    record {
      stood = record {
        before = forms_in c.self.inside.elements.items c.self.inside.registry c.self.inside.tree;
        stands = c.self.invariant.owners c.in_ok-old.ensures.settled;
        touched = touched;
      };
    }

pub invariant_of-self-2 : goal.invariant_of-self-2
invariant_of-self-2 c =
    let touched = attribute_set _ _ c.self.view_is c.args.n c.args.name.now c.args.value.now c.write_attribute.new.tree c.requires.node c.requires.element
    c.in_ok-old.ensures.tidy c.write_attribute.ensures.size c.in_ok-old.ensures.set in
    record {
      sound = sound_kept _ _ c.write_attribute.ensures.changes.kinds c.self.invariant.sound;
      given = λ e. c.self.invariant.given c.in_ok-old.ensures.settled;
      owners = λ e. c.in_ok-changes.ensures.stands (forms_in c.self.inside.elements.items c.self.inside.registry c.self.inside.tree)
          (c.self.invariant.owners c.in_ok-old.ensures.settled) touched;
    }

pub returns-in_err-old-clause-others : goal.returns-in_err-old-clause-others
returns-in_err-old-clause-others c =
    subst (λ (p : Page). OnlyChanges c.args.n p.forest c.write_attribute.new.tree) c.self.view_is c.write_attribute.ensures.changes

pub returns-in_err-changes-clause-others : goal.returns-in_err-changes-clause-others
returns-in_err-changes-clause-others c =
    subst (λ (p : Page). OnlyChanges c.args.n p.forest c.write_attribute.new.tree) c.self.view_is c.write_attribute.ensures.changes

pub returns-clause-others : goal.returns-clause-others
returns-clause-others c =
    subst (λ (p : Page). OnlyChanges c.args.n p.forest c.write_attribute.new.tree) c.self.view_is c.write_attribute.ensures.changes

pub returns-clause-changes : goal.returns-clause-changes
returns-clause-changes c =
    let touched = attribute_set _ _ c.self.view_is c.args.n c.args.name.now c.args.value.now c.write_attribute.new.tree c.requires.node c.requires.element
    c.in_ok-old.ensures.tidy c.write_attribute.ensures.size c.in_ok-old.ensures.set in
    rw (← c.self.view_is) (c.in_ok-changes.ensures.changes (forms_in c.self.inside.elements.items c.self.inside.registry c.self.inside.tree)
    (c.self.invariant.owners c.in_ok-old.ensures.settled) touched)
