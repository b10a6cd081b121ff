-- An entry that is put behind the others is text, as they are.
use Rattle.std.proofs.Common.{[]}
use Rattle.std.proofs.lemmas.List.Elements.{All-nil, All-cons, All-append}
use Rattle.ce_base.specs.Texts.{HasTexts}
use Rattle.ce_base.proofs.entries.Entries.push.Goals as goal

pub invariant_of-self : goal.invariant_of-self
invariant_of-self c = rw c.in_err-push.ensures.items c.self.invariant

pub invariant_of-self-2 : goal.invariant_of-self-2
invariant_of-self-2 c =
    rw c.in_ok-push.ensures.items (All-append HasTexts _ _ c.self.invariant (All-cons HasTexts c.args.e [] c.has_texts.ensures (All-nil HasTexts)))
