-- The open brackets of the book are the open brackets of the log.
use Rattle.std.proofs.Common.{◌≡◌, ℕ, ◌+◌, ◌<◌, Bool, true, false, List, [], ◌∷◌, ◌++◌, Option, Some, None, refl, sym, ap, ◌∙◌, subst, arith, inl, inr}
use Rattle.std.specs.Prelude.{◌⊎◌, ◌&&◌, ◌==◌, is_some, not}
use Rattle.std.proofs.lemmas.Bool.{eqb-true}
use Rattle.std.proofs.lemmas.List.{append_assoc}
use Rattle.rule_tokens.specs.declared.callback.CallName.{CallName}
use Rattle.rule_tokens.specs.declared.callback.CallOrUpgrade.{CallOrUpgrade}
use Rattle.rule_tokens.specs.declared.callback.CallOrUpgrade.TheVariants.{Call, Upgrade}
use Rattle.ce_events.specs.Calls.{call_of}
use Rattle.ce_events.specs.declared.event.Event.{Event}
use Rattle.ce_events.specs.declared.event.Event.TheVariants.{QueueOpened, DrainBegun, Started, Finished, QueueClosed, UpgradeBegun, UpgradeDone, UpgradeThrew}
use Rattle.order_law.specs.Book.{Book, Entry, Bracket, Filling, Draining, Reacting, Upgrading}
use Rattle.order_law.specs.Reads.{is_for, entry_of, around}
use Rattle.order_law.specs.Clauses.{calls_once, is_in_drain, may_call, begins_drain, ends_drain, ends_reaction, ends_upgrade, starts_once}
use Rattle.order_law.specs.After.{after, started, marked}
use Rattle.order_law.specs.Words.{Says, enqueue_line}
use Rattle.order_law.specs.Brackets.{is_plain, Whole, Empty, Plain, Line, Operation, Checkpoint, Reaction, Done, Threw}
use Rattle.order_law.proofs.Fronts.{left_true, right_true, false_true}
use Rattle.order_law.proofs.Walk.{Keeps, past_of}
use Rattle.order_law.proofs.Entries.{found_among}
use Rattle.order_law.proofs.Waiting.{Kept}
use Rattle.order_law.proofs.Runs.{waits_of}
use Rattle.ce_algorithms.proofs.CallNames.{same_is}

-- a bracket that begins with this event, with these callbacks' lines directly in it, and what holds outside of it
abbrev pub Around : List Event → Event → (List Event → Type 0) → List Event → Type 0
Around calls opening P log = (outside : List Event) × (inside : List Event) × (log ≡ outside ++ opening ∷ inside) × Whole calls inside × P outside

-- the lines of a reaction that runs
abbrev pub Called : Entry → Bool → List Event → Type 0
Called w false calls = calls ≡ []
Called w true calls = (e : Event) × (calls ≡ e ∷ []) × (name : CallName) × (call_of e ≡ Some (w.element, name)) × (w.what ≡ Call name)

abbrev pub Opens : List Event → List Bracket → Type 0
Opens log [] = Whole [] log
Opens log (Filling q ∷ bs) = (0 < q) × Around [] (QueueOpened q) (λ l. Opens l bs) log
Opens log (Draining q ∷ bs) = Around [] (DrainBegun q) (λ l. ((q ≡ 0) × (bs ≡ []) × Whole [] l) ⊎ Around [] (QueueOpened q) (λ k. Opens k bs) l) log
Opens log (Reacting w called ∷ bs) =
    (calls : List Event) × Called w called calls × Around calls (Started w.number) (λ l. Says l (enqueue_line w) × Opens l bs) log
Opens log (Upgrading n ∷ bs) = Around [] (UpgradeBegun n) (λ l. Opens l bs) log

-- a stretch that may stand behind each whole one
abbrev Piece : List Event → Type 0
Piece more = (calls log : List Event) → Whole calls log → Whole calls (log ++ more)

wider : (calls : List Event) (opening : Event) (P : List Event → Type 0) (log more : List Event) → Piece more → Around calls opening P log →
    Around calls opening P (log ++ more)
wider calls opening P log more piece a =
    (a.0, a.1 ++ more, ap (λ l. l ++ more) a.2 ∙ append_assoc a.0 (opening ∷ a.1) more, piece calls a.1 a.3, a.4)

-- more stands in the innermost bracket
more_in : (bs : List Bracket) (log more : List Event) → Piece more → Opens log bs → Opens (log ++ more) bs
more_in [] log more piece o = piece [] log o
more_in (Filling q ∷ bs) log more piece o = (o.0, wider [] (QueueOpened q) (λ l. Opens l bs) log more piece o.1)
more_in (Draining q ∷ bs) log more piece o =
    wider [] (DrainBegun q) (λ l. ((q ≡ 0) × (bs ≡ []) × Whole [] l) ⊎ Around [] (QueueOpened q) (λ k. Opens k bs) l) log more piece o
more_in (Reacting w called ∷ bs) log more piece o = (o.0, o.1, wider o.0 (Started w.number) (λ l. Says l (enqueue_line w) × Opens l bs) log more piece o.2)
more_in (Upgrading n ∷ bs) log more piece o = wider [] (UpgradeBegun n) (λ l. Opens l bs) log more piece o

-- a bracket ends
ended : (bs : List Bracket) (calls : List Event) (opening closing : Event) (log outside inside : List Event) → log ≡ outside ++ opening ∷ inside →
    Piece (opening ∷ (inside ++ closing ∷ [])) → Opens outside bs → Opens (log ++ closing ∷ []) bs
ended bs calls opening closing log outside inside cut piece o =
    subst (λ l. Opens l bs) (sym (ap (λ l. l ++ closing ∷ []) cut ∙ append_assoc outside (opening ∷ inside) (closing ∷ [])))
    (more_in bs outside (opening ∷ (inside ++ closing ∷ [])) piece o)

plain : (bs : List Bracket) (log : List Event) (e : Event) → is_plain e ≡ true → Opens log bs → Opens (log ++ e ∷ []) bs
plain bs log e is o = more_in bs log (e ∷ []) (λ calls l w. Plain e is w) o

begins : (q : ℕ) (bs : List Bracket) (log : List Event) → begins_drain q bs ≡ true → Opens log bs → Opens (log ++ DrainBegun q ∷ []) (Draining q ∷ around bs)
begins q [] log h o = (log, [], refl, Empty, inl (eqb-true q 0 h, refl, o))
begins q (Filling m ∷ bs) log h o = (log, [], refl, Empty, inr (subst (λ x. Around [] (QueueOpened x) (λ l. Opens l bs) log) (eqb-true m q h) o.1))
begins q (Draining m ∷ bs) log h o = false_true h
begins q (Reacting w called ∷ bs) log h o = false_true h
begins q (Upgrading n ∷ bs) log h o = false_true h

operation : (q : ℕ) (steps drain : List Event) → Whole [] steps → Whole [] drain →
    Piece (QueueOpened q ∷ (steps ++ DrainBegun q ∷ (drain ++ QueueClosed q ∷ [])))
operation q steps drain s d calls log w = Operation q steps drain w s d

ends : (q : ℕ) (bs : List Bracket) (log : List Event) → ends_drain q bs ≡ true → Opens log bs → Opens (log ++ QueueClosed q ∷ []) (around bs)
ends q (Draining m ∷ bs) log h o = go (subst (λ x. Opens log (Draining x ∷ bs)) (eqb-true m q h) o)
  where
    joined : (outside inside : List Event) → log ≡ outside ++ DrainBegun q ∷ inside →
        log ++ QueueClosed q ∷ [] ≡ outside ++ DrainBegun q ∷ (inside ++ QueueClosed q ∷ [])
    joined outside inside cut = ap (λ l. l ++ QueueClosed q ∷ []) cut ∙ append_assoc outside (DrainBegun q ∷ inside) (QueueClosed q ∷ [])

    go : Opens log (Draining q ∷ bs) → Opens (log ++ QueueClosed q ∷ []) bs
    go (outside, inside, cut, whole, inl (zero_, none, rest)) =
        subst (λ l. Opens l bs) (sym (joined outside inside cut))
        (subst (λ l. Opens (outside ++ DrainBegun q ∷ (inside ++ QueueClosed q ∷ [])) l) (sym none)
        (subst (λ x. Whole [] (outside ++ DrainBegun x ∷ (inside ++ QueueClosed x ∷ []))) (sym zero_) (Checkpoint inside rest whole)))
    go (outside, inside, cut, whole, inr (before, steps, pushed, filled, rest)) =
        let tail = DrainBegun q ∷ (inside ++ QueueClosed q ∷ []) in
        let all = joined outside inside cut ∙ ap (λ l. l ++ tail) pushed ∙ append_assoc before (QueueOpened q ∷ steps) tail in
        subst (λ l. Opens l bs) (sym all) (more_in bs before (QueueOpened q ∷ (steps ++ tail)) (operation q steps inside filled whole) rest)
ends q [] log h o = false_true h
ends q (Filling m ∷ bs) log h o = false_true h
ends q (Reacting w called ∷ bs) log h o = false_true h
ends q (Upgrading n ∷ bs) log h o = false_true h

finishes : (r : ℕ) (bs : List Bracket) (log : List Event) → ends_reaction r bs ≡ true → Opens log bs → Opens (log ++ Finished r ∷ []) (around bs)
finishes r (Reacting w called ∷ bs) log h (calls, lines, (outside, inside, cut, whole, (said, rest))) =
    ended bs calls (Started r) (Finished r) log outside inside (subst (λ x. log ≡ outside ++ Started x ∷ inside) (eqb-true w.number r h) cut)
    (λ c l v. Reaction r inside v whole) rest
finishes r [] log h o = false_true h
finishes r (Filling m ∷ bs) log h o = false_true h
finishes r (Draining m ∷ bs) log h o = false_true h
finishes r (Upgrading n ∷ bs) log h o = false_true h

done : (n : ℕ) (bs : List Bracket) (log : List Event) → ends_upgrade n bs ≡ true → Opens log bs → Opens (log ++ UpgradeDone n ∷ []) (around bs)
done n (Upgrading m ∷ bs) log h (outside, inside, cut, whole, rest) =
    ended bs [] (UpgradeBegun n) (UpgradeDone n) log outside inside (subst (λ x. log ≡ outside ++ UpgradeBegun x ∷ inside) (eqb-true m n h) cut)
    (λ c l v. Done n inside v whole) rest
done n [] log h o = false_true h
done n (Filling m ∷ bs) log h o = false_true h
done n (Draining m ∷ bs) log h o = false_true h
done n (Reacting w called ∷ bs) log h o = false_true h

threw : (n : ℕ) (bs : List Bracket) (log : List Event) → ends_upgrade n bs ≡ true → Opens log bs → Opens (log ++ UpgradeThrew n ∷ []) (around bs)
threw n (Upgrading m ∷ bs) log h (outside, inside, cut, whole, rest) =
    ended bs [] (UpgradeBegun n) (UpgradeThrew n) log outside inside (subst (λ x. log ≡ outside ++ UpgradeBegun x ∷ inside) (eqb-true m n h) cut)
    (λ c l v. Threw n inside v whole) rest
threw n [] log h o = false_true h
threw n (Filling m ∷ bs) log h o = false_true h
threw n (Draining m ∷ bs) log h o = false_true h
threw n (Reacting w called ∷ bs) log h o = false_true h

pub for_is : (what : CallOrUpgrade) (name : CallName) → is_for what name ≡ true → what ≡ Call name
for_is (Call a) name h = ap Call (same_is a name h)
for_is Upgrade name h = false_true h

-- a callback's line
line : (e : Event) (n : ℕ) (name : CallName) (bs : List Bracket) (log : List Event) → call_of e ≡ Some (n, name) → is_some (call_of e) ≡ true →
    may_call (Some (n, name)) bs ≡ true → Opens log bs → Opens (log ++ e ∷ []) (marked (Some (n, name)) bs)
line e n name (Reacting w false ∷ bs) log is some_ h (calls, none, (outside, inside, cut, whole, rest)) =
    let element = eqb-true w.element n (left_true (w.element == n) (is_for w.what name) h) in
    let what = for_is w.what name (right_true (w.element == n) (is_for w.what name) h) in (
      calls ++ e ∷ [],
      (e, ap (λ l. l ++ e ∷ []) none, name, is ∙ ap (λ x. Some (x, name)) (sym element), what),
      (outside, inside ++ e ∷ [], ap (λ l. l ++ e ∷ []) cut ∙ append_assoc outside (Started w.number ∷ inside) (e ∷ []), Line e some_ whole, rest),
    )
line e n name (Reacting w true ∷ bs) log is some_ h o = false_true h
line e n name [] log is some_ h o = false_true h
line e n name (Filling m ∷ bs) log is some_ h o = false_true h
line e n name (Draining m ∷ bs) log is some_ h o = false_true h
line e n name (Upgrading m ∷ bs) log is some_ h o = false_true h

-- what is no bracket's: a callback's line, or a plain one
spoken : (c : Option (ℕ × CallName)) (e : Event) → call_of e ≡ c → is_plain e ≡ not (is_some (call_of e)) → (bs : List Bracket) (log : List Event)
    → may_call (call_of e) bs ≡ true → Opens log bs → Opens (log ++ e ∷ []) (marked (call_of e) bs)
spoken None e is said bs log h o =
    subst (λ x. Opens (log ++ e ∷ []) (marked x bs)) (sym is) (plain bs log e (said ∙ ap (λ x. not (is_some x)) is) o)
spoken (Some c) e is said bs log h o =
    subst (λ x. Opens (log ++ e ∷ []) (marked x bs)) (sym is)
    (line e c.0 c.1 bs log is (ap is_some is) (subst (λ x. may_call x bs ≡ true) is h) o)

-- a reaction starts
starts : (r : ℕ) (o : Option Entry) (b : Book) (log : List Event) → ((w : Entry) → o ≡ Some w → (w.number ≡ r) × Says log (enqueue_line w)) →
    is_some o && is_in_drain b.brackets ≡ true → Opens log b.brackets → Opens (log ++ Started r ∷ []) (started o b).brackets
starts r None b log known h o = false_true h
starts r (Some w) b log known h o =
    let k = known w refl in
    ([], refl, (log, [], ap (λ x. log ++ Started x ∷ []) (sym k.0), Empty, (k.1, o)))

pub opens_step : (log : List Event) (b : Book) (e : Event) → Kept (past_of log []) b → Opens log b.brackets → Keeps b e →
    Opens (log ++ e ∷ []) (after b e).brackets
opens_step log b (QueueOpened q) k o h = let number = eqb-true q (b.queues + 1) h.counts in (omega (arith, number), (log, [], refl, Empty, o))
opens_step log b (DrainBegun q) k o h = begins q b.brackets log (left_true (begins_drain q b.brackets) _ h.nested) o
opens_step log b (QueueClosed q) k o h = ends q b.brackets log (left_true (ends_drain q b.brackets) _ h.nested) o
opens_step log b (Started r) k o h =
    starts r (entry_of r b.waiting) b log (λ w e. let f = found_among r b.waiting w e in (f.1, (waits_of log b w k f.0).0))
    (left_true (is_some (entry_of r b.waiting) && is_in_drain b.brackets) _ h.runs) o
opens_step log b (Finished r) k o h = finishes r b.brackets log (left_true (ends_reaction r b.brackets) _ h.nested) o
opens_step log b (UpgradeBegun n) k o h = (log, [], refl, Empty, o)
opens_step log b (UpgradeDone n) k o h = done n b.brackets log (left_true (ends_upgrade n b.brackets) _ h.nested) o
opens_step log b (UpgradeThrew n) k o h = threw n b.brackets log (left_true (ends_upgrade n b.brackets) _ h.nested) o
opens_step log b e k o h = spoken (call_of e) e refl refl b.brackets log (right_true (starts_once b e) (calls_once b e) h.runs) o
