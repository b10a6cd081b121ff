-- A run that nothing disturbed ran the whole script.
use Rattle.std.proofs.Common.{◌≡◌, ◌≤◌, inl, inr, cond, ℕ, Bool, true, false, List, [], ◌++◌, length, refl, sym, ap, subst, ◌∙◌, append-nil, arith}
use Rattle.std.proofs.Common.{length-append, None, Some}
use Rattle.std.proofs.KnownBytes.{Consumes-whole}
use Rattle.std.specs.Io.KnownBytes.{Appends, Consumes, IsAtEnd}
use Rattle.std.specs.declared.option.Option.{Option}
use Rattle.ce_base.specs.Call.{Call, ReadsAll}
use Rattle.ce_base.specs.Faults.{Rose}
use Rattle.ce_algorithms.specs.Lines.{lines_of}
use Rattle.ce_algorithms.specs.Session.{start, log_of}
use Rattle.ce_algorithms.specs.State.{State}
use Rattle.ce_algorithms.specs.Steps.{Step, Outcome, Goes, Throws, Spent, then_do, is_spent}
use Rattle.ce_events.specs.Text.{text}
use Rattle.script_runner.specs.Script.{has_bad, session, settings}
use Rattle.script_runner.specs.Table.{limit, counted, lines_that_count, spends_all, transcript, WritesAll, Row, IsAsSaid, RunMeets, RunsWhole}
use Rattle.script_runner.specs.Table.{script_status}
use Rattle.script_runner.specs.declared.status.Status.{Status}
use Rattle.script_runner.specs.declared.status.Status.TheVariants.{Done, BadLines, Usage, Fuel, ReadFault, WriteFault, NoMemory, TooLong}
use Rattle.command_words.specs.declared.words.Options.{Options}
use Rattle.command_words.specs.declared.words.Meaning.{Meaning}
use Rattle.command_words.specs.declared.words.Meaning.TheVariants.{Script}
use Rattle.line_feed.proofs.LineLaws.{lines_of-front}
use Rattle.script_runner.proofs.SittingLaws.{run_from-append}
use Rattle.script_runner.proofs.PieceLaws.{counted-within, counted-ended}

-- where the fuel is spent, no step follows
pub then_spent : {S A : Type 0} (o : Outcome S A) (next : A → Step S A) → is_spent o ≡ true → then_do o next ≡ o
then_spent (Goes a s) next h = cc
then_spent (Throws f s) next h = cc
then_spent (Spent s) next h = refl

session-spent : (set : Options) (xs ys : List (List ℕ)) → spends_all set xs ≡ true → session (settings set) (xs ++ ys) ≡ session (settings set) xs
session-spent set xs ys h = run_from-append 1 xs ys (start (settings set)) ∙ then_spent (session (settings set) xs) _ h

-- the bytes that were taken are a front of the script
front_taken : (script : List ℕ) (left : Option (List ℕ)) (taken : List ℕ) → Consumes (Some script) left taken → (rest : List ℕ) × (script ≡ taken ++ rest)
front_taken script None taken took = absurd took
front_taken script (Some rest) taken took = (rest, took)

-- and all of it where no byte is left
pub all_taken : (script : List ℕ) (left : Option (List ℕ)) (taken : List ℕ) → Consumes (Some script) left taken → IsAtEnd left → script ≡ taken
all_taken script left taken took none = Consumes-whole (Some script) left taken (λ l. l ≡ taken) took none refl

-- the lines that count are the first lines of the script
counted-front : (script taken : List ℕ) (ended : Bool) (left : Option (List ℕ)) → Consumes (Some script) left taken → length script ≤ limit
    → (ended ≡ true → IsAtEnd left)
    → (more : List (List ℕ)) × (lines_of script ≡ counted ended taken ++ more)
counted-front script taken true left took within at_end =
    let is = all_taken script left taken took (at_end refl) in
    ([], ap lines_of is ∙ (sym (counted-ended taken (omega (arith, ap length is))) ∙ sym (append-nil (counted true taken))))
counted-front script taken false left took within at_end =
    let front = front_taken script left taken took in
    let few : length taken ≤ limit = omega (arith, ap length front.1, length-append taken front.0) in
    let more = lines_of-front taken front.0 in
    (more.0, ap lines_of front.1 ∙ (more.1 ∙ ap (λ l. l ++ more.0) (sym (counted-within taken few))))

-- the script's status, from what is known of its lines
status_is : (set : Options) (lines : List (List ℕ)) (spent bad : Bool) → spends_all set lines ≡ spent → has_bad lines ≡ bad
    → script_status set lines ≡ cond spent Fuel (cond bad BadLines Done)
status_is set lines spent bad p q = rw (p, q) refl

-- a script that was read to its end
read_all : (set : Options) (script : List ℕ) (call : Call) (status : Status) (held held' : Option (List ℕ)) (bad : Bool)
    → Consumes (Some script) call.left call.taken → ReadsAll limit call
    → spends_all set (lines_that_count call) ≡ false → has_bad (lines_that_count call) ≡ bad → WritesAll set call → Appends held held' call.written
    → status ≡ cond bad BadLines Done → RunsWhole set script status held held'
read_all set script call status held held' bad took reads goes bad_is all wrote is =
    let lines : lines_that_count call ≡ lines_of script =
    ap (λ t. counted t call.taken) reads.0 ∙ (counted-ended call.taken reads.2 ∙ ap lines_of (sym (all_taken script call.left call.taken took reads.1))) in
    let P : List (List ℕ) → Type 0 = λ l. (status ≡ script_status set l) × Appends held held' (transcript set l) in
    let Q : List ℕ → Type 0 = λ l. Appends held held' l in
    inl (subst P lines (is ∙ sym (status_is set (lines_that_count call) false bad goes bad_is), subst Q all wrote))

-- a script whose session spent its fuel
spent_all : (set : Options) (script taken written : List ℕ) (ended : Bool) (left held held' : Option (List ℕ)) → Consumes (Some script) left taken
    → (ended ≡ true → IsAtEnd left) → length script ≤ limit
    → spends_all set (counted ended taken) ≡ true → written ≡ transcript set (counted ended taken) → Appends held held' written
    → RunsWhole set script Fuel held held'
spent_all set script taken written ended left held held' took at_end within spent all wrote =
    let lines = counted ended taken in
    let front = counted-front script taken ended left took within at_end in
    let same : session (settings set) (lines_of script) ≡ session (settings set) lines =
    ap (session (settings set)) front.1 ∙ session-spent set lines front.0 spent in
    let P : Outcome State (Unit {0}) → Type 0 = λ o. Appends held held' (text set.trace (log_of o)) in
    let Q : List ℕ → Type 0 = λ l. Appends held held' l in
    let end : Bool → Status = λ t. cond t Fuel (cond (has_bad (lines_of script)) BadLines Done) in
    inl (sym (ap end (ap is_spent same ∙ spent)), subst P (sym same) (subst Q all wrote))

whole_row : (set : Options) (script : List ℕ) (status : Status) (call : Call) (held held' : Option (List ℕ)) → Row status set call
    → Consumes (Some script) call.left call.taken → Appends held held' call.written → length script ≤ limit
    → (Rose call.source_before call.source_now → ⊥) → (Rose call.sink_before call.sink_now → ⊥) → RunsWhole set script status held held'
whole_row set script Done call held held' row took wrote within calm_source calm_sink =
    read_all set script call Done held held' false took row.0 row.1 row.2 row.3 wrote refl
whole_row set script BadLines call held held' row took wrote within calm_source calm_sink =
    read_all set script call BadLines held held' true took row.0 row.1 row.2 row.3 wrote refl
whole_row set script Usage call held held' row took wrote within calm_source calm_sink = absurd row
whole_row set script Fuel call held held' row took wrote within calm_source calm_sink =
    spent_all set script call.taken call.written call.ended call.left held held' took row.0 within row.1 row.2 wrote
whole_row set script ReadFault call held held' row took wrote within calm_source calm_sink = absurd (calm_source row.0)
whole_row set script WriteFault call held held' row took wrote within calm_source calm_sink = absurd (calm_sink row.0)
whole_row set script NoMemory call held held' row took wrote within calm_source calm_sink = inr refl
whole_row set script TooLong call held held' row took wrote within calm_source calm_sink =
    let front = front_taken script call.left call.taken took in
    let long = row.0 in
    absurd (omega (arith, ap length front.1, length-append call.taken front.0))

of_script : (set : Options) (status : Status) (said : Meaning) (call : Call) → said ≡ Script set → IsAsSaid said status call → IsAsSaid (Script set) status call
of_script set status said call is as_said = let P : Meaning → Type 0 = λ m. IsAsSaid m status call in subst P is as_said

pub runs_whole : (said : Meaning) (set : Options) (script : List ℕ) (status : Status) (left left' held held' : Option (List ℕ)) (ended : Bool) (sb sn kb kn : ℕ)
    → RunMeets said status left left' held held' ended sb sn kb kn → said ≡ Script set → left ≡ Some script → length script ≤ limit → (Rose sb sn → ⊥)
    → (Rose kb kn → ⊥) → RunsWhole set script status held held'
runs_whole said set script status left left' held held' ended sb sn kb kn meets is known within calm_source calm_sink =
    let P : Option (List ℕ) → Type 0 = λ o. Consumes o left' meets.taken in
    whole_row set script status _ held held' (of_script set status said _ is meets.as_said).0
    (subst P known meets.took) meets.wrote within calm_source calm_sink
