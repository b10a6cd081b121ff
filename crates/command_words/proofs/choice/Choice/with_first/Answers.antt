use Rattle.std.proofs.Common.{◌≡◌, ◌∷◌, ℕ, true, false, List, map, string_bytes, sym, ap, ◌∙◌}
use Rattle.command_words.specs.Choices.{chosen_of}
use Rattle.command_words.specs.Words.{and_then, has_value, read, with_option}
use Rattle.command_words.proofs.WordLaws.{behind, first_and_behind, takes_next, takes_none}
use Rattle.command_words.proofs.choice.Choice.with_first.Goals as goal

pub returns-then-not-has_value-clause-chosen : goal.returns-then-not-has_value-clause-chosen
returns-then-not-has_value-clause-chosen c =
    let rest = map (λ w. string_bytes w) c.args.behind.now in
    let has : has_value c.args.word.now ≡ false = sym c.has_value.ensures ∙ c.if-not-has_value.true in
    c.with_left.ensures.chosen ∙ (ap (λ o. and_then o (read rest)) c.in_ok-with_word.ensures
    ∙ sym (takes_none c.args.word.now rest (chosen_of c.args.self) has))

pub returns-in_ok-with_option-in-len1-up-clause-chosen : goal.returns-in_ok-with_option-in-len1-up-clause-chosen
returns-in_ok-with_option-in-len1-up-clause-chosen c =
    let words = c.args.behind.now in
    let value : List ℕ = string_bytes c.value-item.result in
    let rest = map (λ w. string_bytes w) (behind words) in
    let cut : map (λ w. string_bytes w) words ≡ value ∷ rest =
    first_and_behind (λ w. string_bytes w) words c.value-item.result c.in-len1-up.len_at_least c.value-item.is in
    let has : has_value c.args.word.now ≡ true = sym c.has_value.ensures ∙ c.if-not-has_value.false in
    let taken = ap (λ o. and_then o (read rest))
    (c.in_ok-with_option-in-len1-up.ensures ∙ ap (λ v. with_option c.args.word.now v (chosen_of c.args.self)) c.deref.ensures) in
    let whole = takes_next c.args.word.now value rest (chosen_of c.args.self) has in
    c.with_left-in-len1-up.ensures.chosen ∙ (taken ∙ (sym whole ∙ sym (ap (λ ws. read (c.args.word.now ∷ ws) (chosen_of c.args.self)) cut)))
