use Rattle.std.proofs.Common.{subst}
use Rattle.reaction_queue.specs.Chains.{IsChain}
use Rattle.reaction_queue.proofs.PutLemmas.{alone, gets_last, last_found, last_is_old, longer, longer_others}
use Rattle.reaction_queue.proofs.chain.put_last.Goals as goal

pub returns-in-None-clause-chain : goal.returns-in-None-clause-chain
returns-in-None-clause-chain c = λ links is.
    alone c.args.cells.now c.insert.new.self c.args.place c.in_ok-key.key (c.args.number, c.args.reaction) links c.in_ok-key.ensures.updates
    (subst (λ ends. IsChain c.args.cells.now c.args.place ends links) c.in-None.is is)

pub returns-in-Some-get_mut-clause-chain : goal.returns-in-Some-get_mut-clause-chain
returns-in-Some-get_mut-clause-chain c = λ links is.
    (let there = subst (λ ends. IsChain c.args.cells.now c.args.place ends links) c.in-Some.is is in
    longer c.args.cells.now _ c.args.place c.in_ok-key.key (c.args.number, c.args.reaction) c.in-Some.e links
    (gets_last c.args.cells.now c.insert.new.self c.args.place c.in-Some.e.last c.in_ok-key.key
    (c.args.number, c.args.reaction) c.in-Some-get_mut.last.now c.in_ok-key.ensures.was_vacant c.in_ok-key.ensures.updates c.in-Some-get_mut.ensures.value
    (last_is_old c.args.cells.now c.args.place c.in_ok-key.key c.in-Some.e links c.in_ok-key.ensures.was_vacant there)) there)

pub returns-in-Some-get_mut-clause-others : goal.returns-in-Some-get_mut-clause-others
returns-in-Some-get_mut-clause-others c = λ links j is differs.
    (let there = subst (λ ends. IsChain c.args.cells.now c.args.place ends links) c.in-Some.is is in
    longer_others c.args.cells.now _ c.args.place j c.in_ok-key.key (c.args.number, c.args.reaction) c.in-Some.e links
    (gets_last c.args.cells.now c.insert.new.self c.args.place c.in-Some.e.last c.in_ok-key.key
    (c.args.number, c.args.reaction) c.in-Some-get_mut.last.now c.in_ok-key.ensures.was_vacant c.in_ok-key.ensures.updates c.in-Some-get_mut.ensures.value
    (last_is_old c.args.cells.now c.args.place c.in_ok-key.key c.in-Some.e links c.in_ok-key.ensures.was_vacant there)) there differs)

pub returns-in_default-clause-chain : goal.returns-in_default-clause-chain
returns-in_default-clause-chain c = λ links is.
    absurd (last_found c.args.cells.now c.insert.new.self c.args.place c.in_ok-key.key
    (c.args.number, c.args.reaction) c.in-Some.e links c.in_ok-key.ensures.was_vacant c.in_ok-key.ensures.updates
    (subst (λ ends. IsChain c.args.cells.now c.args.place ends links) c.in-Some.is is) c.in_default.ensures.value)
