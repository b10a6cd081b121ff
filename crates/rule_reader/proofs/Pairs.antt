-- One more pair of a list of entries.
use Rattle.std.proofs.Common.{◌≡◌, ℕ, ◌-◌, ◌<◌, List, [], ◌∷◌, ◌++◌, Result, Ok, arith}
use Rattle.ce_base.specs.declared.entries.Entry.{Entry}
use Rattle.rule_tokens.specs.declared.refused.Bad.{Bad}
use Rattle.rule_tokens.specs.declared.token.Token.{Token}
use Rattle.rule_tokens.specs.Gives.{with_front}
use Rattle.rule_tokens.proofs.CutLaws.{with_more}
use Rattle.rule_reader.specs.Takes.{entries_up_to, entry_at}

front_front : (front : List Entry) (e : Entry) (read : Result (List Entry) Bad)
    → with_front front (with_front (e ∷ []) read) ≡ with_front (front ++ e ∷ []) read
front_front front e read = with_more front (e ∷ []) read

pub one_more : (front : List Entry) (n : ℕ) (ts rest : List Token) (e : Entry) → 0 < n → entry_at ts ≡ Ok (e, rest)
    → with_front front (entries_up_to n ts) ≡ with_front (front ++ e ∷ []) (entries_up_to (n - 1) rest)
one_more front n [] rest e lt is = grind arith
one_more front n (t ∷ []) rest e lt is = grind arith
one_more front n (t ∷ u ∷ ts) rest e lt is = grind (arith, front_front)
