-- The next line is the first of those that are left.
use Rattle.std.proofs.Common.{◌≡◌, ◌<◌, [], length, sym, ◌∙◌, arith}
use Rattle.std.proofs.lemmas.Option.{slice_get_within}
use Rattle.made_scripts.specs.Made.{made_lines}
use Rattle.made_scripts.proofs.MadeLaws.{length-made_lines, left_more, left_end}
use Rattle.made_scripts.proofs.maker.Maker.next_line.Goals as goal

pub overflow_add-self : goal.overflow_add-self
overflow_add-self c =
    let at = sym c.in_ok-made_line.ensures ∙ c.in-Some.is in
    let within : c.self.inside.given < length (made_lines c.self.inside.elements) =
    slice_get_within (made_lines c.self.inside.elements) c.self.inside.given c.in-Some.line at in
    omega (arith, within, length-made_lines c.self.inside.elements)

pub returns-in-None-clause-none : goal.returns-in-None-clause-none
returns-in-None-clause-none c =
    let at = sym c.in_ok-made_line.ensures ∙ c.in-None.is in
    let none : c.args.self.now ≡ [] = sym c.self.view_is ∙ left_end (made_lines c.self.inside.elements) c.self.inside.given at in
    (none, none)

pub returns-in-Some-clause-next : goal.returns-in-Some-clause-next
returns-in-Some-clause-next c =
    let at = sym c.in_ok-made_line.ensures ∙ c.in-Some.is in
    sym c.self.view_is ∙ left_more (made_lines c.self.inside.elements) c.self.inside.given c.in-Some.line at
