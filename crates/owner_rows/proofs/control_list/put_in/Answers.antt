use Rattle.std.proofs.Common.{◌≡◌, ◌∙◌, ap, sym, slice_get, Some}
use Rattle.node_trees.specs.Paths.{is_among}
use Rattle.tree_laws.specs.Numbers.{insert_number}
use Rattle.owner_rows.proofs.Placing.{insert-absent, insert-before, insert-last}
use Rattle.owner_rows.proofs.control_list.put_in.Goals as goal

pub returns-in_ok-push-in-None : goal.returns-in_ok-push-in-None
returns-in_ok-push-in-None c =
    c.in_ok-push-in-None.ensures.items
    ∙ sym (ap (λ b. insert_number b c.args.n c.args.list.now.items) c.in-None.is ∙ insert-last c.args.n c.args.list.now.items)

pub returns-in_ok-push-in-None-place_in : goal.returns-in_ok-push-in-None-place_in
returns-in_ok-push-in-None-place_in c =
    c.in_ok-push-in-None-place_in.ensures.items
    ∙ sym (ap (λ b. insert_number b c.args.n c.args.list.now.items) c.in-Some.is
    ∙ insert-absent c.in-Some.next c.args.n c.args.list.now.items
    (ap (is_among c.in-Some.next) (sym c.deref.ensures.value) ∙ c.place_in.ensures.none c.in-None-place_in.is))

pub returns-in_ok-insert-in-Some-place_in : goal.returns-in_ok-insert-in-Some-place_in
returns-in_ok-insert-in-Some-place_in c =
    let found : slice_get c.args.list.now.items c.in-Some-place_in.place ≡ Some c.in-Some.next =
    ap (λ v. slice_get v c.in-Some-place_in.place) (sym c.deref.ensures.value) ∙ c.in-Some-place_in.ensures.found in
    c.in_ok-insert-in-Some-place_in.ensures.items
    ∙ insert-before c.in-Some.next c.args.n c.in-Some-place_in.place c.args.list.now.items c.requires.apart found
    ∙ sym (ap (λ b. insert_number b c.args.n c.args.list.now.items) c.in-Some.is)
