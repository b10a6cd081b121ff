use Rattle.std.proofs.Common.{◌≡◌, sym, ◌∙◌, false}
use Rattle.form_controls.specs.Kinds.{name_of}
use Rattle.form_controls.specs.Texts.{is_empty}
use Rattle.form_owner.proofs.Groups.{among-some, next-none, next-some}
use Rattle.form_owner.proofs.group.next_member.Goals as goal

pub grouped_behind-requires-clause-behind : goal.grouped_behind-requires-clause-behind
grouped_behind-requires-clause-behind c =
    let named : is_empty (name_of c.args.tree.now c.args.radio) ≡ false = sym c.is_nameless.ensures ∙ c.if-is_nameless.false in
    among-some c.args.rows.now c.args.tree.now c.args.radio _ c.root-root.ensures.root named c.args.behind c.in-Some.member c.in-Some.is c.requires.member

pub returns-in-None : goal.returns-in-None
returns-in-None c =
    let named : is_empty (name_of c.args.tree.now c.args.radio) ≡ false = sym c.is_nameless.ensures ∙ c.if-is_nameless.false in
    c.first_grouped.ensures ∙ next-none c.args.rows.now c.args.tree.now c.args.radio _ c.root-root.ensures.root named c.args.behind c.in-None.is

pub returns-in-Some : goal.returns-in-Some
returns-in-Some c =
    let named : is_empty (name_of c.args.tree.now c.args.radio) ≡ false = sym c.is_nameless.ensures ∙ c.if-is_nameless.false in
    c.grouped_behind.ensures ∙ next-some c.args.rows.now c.args.tree.now c.args.radio _ c.root-root.ensures.root named c.args.behind c.in-Some.member
    c.in-Some.is c.requires.member
