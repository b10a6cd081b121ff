-- One more byte is counted.
use Rattle.std.proofs.Common.{◌≤◌, ◌∷◌, [], length, sym, ap, ◌∙◌, arith}
use Rattle.std.proofs.lemmas.List.{length-append}
use Rattle.made_scripts.specs.Wanted.{ends_beginning, wanted_next}
use Rattle.made_scripts.proofs.CountLaws.{byte_is, byte_few, lines_few, lines_more, calls_few, calls_more, wanted_more}
use Rattle.made_scripts.proofs.figures.Figures.take.Goals as goal

pub overflow_add-self-2 : goal.overflow_add-self-2
overflow_add-self-2 c =
    let one : c.from.result ≤ 1 = rw c.from.ensures (byte_few _) in
    omega (arith, one, lines_few c.self.inside.taken.bytes, c.self.invariant.1, ap length c.self.view_is)

pub overflow_add-self-3 : goal.overflow_add-self-3
overflow_add-self-3 c =
    let one : c.from-2.result ≤ 1 = rw c.from-2.ensures (byte_few _) in
    omega (arith, one, calls_few c.self.inside.taken.bytes, c.self.invariant.2, ap length c.self.view_is)

pub invariant_of-self : goal.invariant_of-self
invariant_of-self c =
    let bytes = c.self.inside.taken.bytes in
    let byte = c.args.byte in
    let was = c.self.invariant in
    let ends = c.ends_beginning.ensures ∙ ap (λ wanted. ends_beginning wanted byte) was.3 in
    rw c.take.ensures (
      omega (arith, was.0, length-append bytes (byte ∷ [])),
      rw (was.1, c.from.ensures, byte_is) (sym (lines_more bytes byte)),
      rw (was.2, c.from-2.ensures, ends, byte_is) (sym (calls_more bytes byte)),
      c.wanted_next-self-inside.ensures ∙ (ap (λ wanted. wanted_next wanted byte) was.3 ∙ sym (wanted_more bytes byte)),
    )
