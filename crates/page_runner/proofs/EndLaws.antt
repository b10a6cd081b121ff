-- What a run over a script says of the whole script, however long that is.
use Rattle.std.proofs.Common.{◌≡◌, ◌≤◌, ◌<◌, ◌+◌, ◌-◌, inl, inr, cond, nat_le, nat_lt, ℕ, Bool, true, false, List, [], ◌++◌, length, take, refl, sym}
use Rattle.std.proofs.Common.{ap, subst, ◌∙◌, append-nil, arith, length-append, None, Some}
use Rattle.std.proofs.Math.Seq.{take-append-add}
use Rattle.std.proofs.lemmas.Bool.{cases_lt}
use Rattle.std.proofs.lemmas.Grind.{common_steps}
use Rattle.std.proofs.lemmas.List.{take-append-le}
use Rattle.std.specs.Io.KnownBytes.{Appends, Consumes, IsAtEnd}
use Rattle.std.specs.declared.option.Option.{Option}
use Rattle.ce_base.specs.Faults.{Rose}
use Rattle.ce_base.specs.Outside.{AppendsPart, IsPrefix}
use Rattle.ce_algorithms.specs.Lines.{lines_of, whole_lines}
use Rattle.ce_algorithms.specs.Session.{start, log_of}
use Rattle.ce_algorithms.specs.State.{State}
use Rattle.ce_algorithms.specs.Steps.{Outcome, is_spent}
use Rattle.ce_algorithms.proofs.FramedLines.{framed_run_lines}
use Rattle.ce_algorithms.proofs.Writing.{part_then}
use Rattle.ce_events.specs.Text.{text}
use Rattle.command_words.specs.declared.words.Options.{Options}
use Rattle.command_words.specs.declared.words.Meaning.TheVariants.{Script}
use Rattle.line_feed.proofs.LineLaws.{lines_of-front, whole_lines-front}
use Rattle.page_runner.specs.Ending.{Ends, end_status, script_lines, script_transcript}
use Rattle.script_runner.proofs.WholeLaws.{all_taken, then_spent}
use Rattle.script_runner.proofs.PieceLaws.{counted-ended, counted-within}
use Rattle.script_runner.proofs.SittingLaws.{run_from-append}
use Rattle.script_runner.proofs.WholeLaws.{runs_whole}
use Rattle.script_runner.specs.Script.{has_bad, readings, run_from, session, settings}
use Rattle.ce_base.specs.Call.{Call}
use Rattle.script_runner.specs.Table.{Row, RunMeets, RunsWhole, counted, limit, lines_that_count, script_status, spends_all, transcript}
use Rattle.script_runner.specs.declared.status.Status.{Status}
use Rattle.script_runner.specs.declared.status.Status.TheVariants.{Done, BadLines, Usage, Fuel, ReadFault, WriteFault, NoMemory, TooLong}

-- ---- the lines that count

within_test : (n : ℕ) → n ≤ limit → nat_lt limit n ≡ false
within_test n h = grind (arith, common_steps)

beyond_test : (n : ℕ) → limit < n → nat_lt limit n ≡ true
beyond_test n h = grind (arith, common_steps)

beyond_limit : (n : ℕ) → limit < n → nat_le n limit ≡ false
beyond_limit n h = grind (arith, common_steps)

-- of more bytes than the limit, the whole lines within it
counted_beyond : (ended : Bool) (taken : List ℕ) → limit < length taken → counted ended taken ≡ whole_lines (take limit taken)
counted_beyond true taken long = ap (λ t. cond t (lines_of taken) (whole_lines (take limit taken))) (beyond_limit (length taken) long)
counted_beyond false taken long = refl

-- a script that was cut within the limit, and goes on beyond it
cut_within : (taken rest : List ℕ) → length taken ≤ limit → limit < length (taken ++ rest)
    → (more : List (List ℕ)) × (script_lines (taken ++ rest) ≡ whole_lines taken ++ more)
cut_within taken rest short long =
    let sum : limit ≡ length taken + (limit - length taken) = omega (arith, short) in
    let cut : take limit (taken ++ rest) ≡ taken ++ take (limit - length taken) rest =
    ap (λ k. take k (taken ++ rest)) sum ∙ take-append-add taken rest (limit - length taken) in
    let more = whole_lines-front taken (take (limit - length taken) rest) in
    (more.0, counted_beyond true (taken ++ rest) long ∙ (ap whole_lines cut ∙ more.1))

-- a script that was cut somewhere
cut_lines : (taken rest : List ℕ) → (more : List (List ℕ)) × (script_lines (taken ++ rest) ≡ counted false taken ++ more)
cut_lines taken rest =
    elim (cases_lt limit (length taken)) [
      | inl far ↦
          let long : limit < length (taken ++ rest) = omega (arith, far, length-append taken rest) in
          let same : take limit (taken ++ rest) ≡ take limit taken = take-append-le limit taken rest (omega (arith, far)) in
          ([], counted_beyond true (taken ++ rest) long ∙ (ap whole_lines same ∙ sym (append-nil (whole_lines (take limit taken)))))
      | inr near ↦
          let lines : counted false taken ≡ whole_lines taken = counted-within taken near in
          elim (cases_lt limit (length (taken ++ rest))) [
            | inl long ↦ let more = cut_within taken rest near long in (more.0, more.1 ∙ ap (λ l. l ++ more.0) (sym lines))
            | inr short ↦ let more = lines_of-front taken rest in (more.0, counted-ended (taken ++ rest) short ∙ (more.1 ∙ ap (λ l. l ++ more.0) (sym lines)))
          ]
    ]

-- the lines that count are the first ones of the script
counted_front : (script taken : List ℕ) (ended : Bool) (left : Option (List ℕ)) → Consumes (Some script) left taken → (ended ≡ true → IsAtEnd left)
    → (more : List (List ℕ)) × (script_lines script ≡ counted ended taken ++ more)
counted_front script taken true left took at_end =
    ([], ap script_lines (all_taken script left taken took (at_end refl)) ∙ sym (append-nil (counted true taken)))
counted_front script taken false None took at_end = absurd took
counted_front script taken false (Some rest) took at_end = let more = cut_lines taken rest in (more.0, ap script_lines took ∙ more.1)

-- and all that the script has, where it is too long
counted_too_long : (script taken : List ℕ) (ended : Bool) (left : Option (List ℕ)) → Consumes (Some script) left taken → limit < length taken
    → script_lines script ≡ counted ended taken
counted_too_long script taken ended None took far = absurd took
counted_too_long script taken ended (Some rest) took far =
    let long : limit < length script = omega (arith, ap length took, far, length-append taken rest) in
    let same : take limit script ≡ take limit taken = ap (take limit) took ∙ take-append-le limit taken rest (omega (arith, far)) in
    counted_beyond true script long ∙ (ap whole_lines same ∙ sym (counted_beyond ended taken far))

-- ---- what was written

-- the front of what lines write is one of what they and others write
part_more : (set : Options) (xs ys : List (List ℕ)) (held held' : Option (List ℕ)) → AppendsPart held held' (transcript set xs)
    → AppendsPart held held' (transcript set (xs ++ ys))
part_more set xs ys held held' part =
    let P : Outcome State (Unit {0}) → Type 0 = λ o. AppendsPart held held' (text set.trace (log_of o)) in
    let more = part_then set.trace held held' (session (settings set) xs) (λ _. run_from (1 + length xs) ys) part
    (λ _. framed_run_lines (1 + length xs) (readings ys)) in
    subst P (sym (run_from-append 1 xs ys (start (settings set)))) more

-- with each status a front of the transcript of the lines that count
row_front : (status : Status) (set : Options) (call : Call) → Row status set call → IsPrefix call.written (transcript set (lines_that_count call))
row_front Done set call row = ([], append-nil call.written ∙ row.3)
row_front BadLines set call row = ([], append-nil call.written ∙ row.3)
row_front Usage set call row = absurd row
row_front Fuel set call row = ([], append-nil call.written ∙ row.2)
row_front ReadFault set call row = ([], append-nil call.written ∙ row.3)
row_front WriteFault set call row = row.1
row_front NoMemory set call row = row
row_front TooLong set call row = ([], append-nil call.written ∙ row.2)

pub writes_front : (set : Options) (script : List ℕ) (status : Status) (left left' held held' : Option (List ℕ)) (ended : Bool) (sb sn kb kn : ℕ)
    → RunMeets (Script set) status left left' held held' ended sb sn kb kn → left ≡ Some script → (ended ≡ true → IsAtEnd left')
    → AppendsPart held held' (script_transcript set script)
writes_front set script status left left' held held' ended sb sn kb kn meets known at_end =
    let P : Option (List ℕ) → Type 0 = λ o. Consumes o left' meets.taken in
    let Q : List (List ℕ) → Type 0 = λ l. AppendsPart held held' (transcript set l) in
    let front = counted_front script meets.taken ended left' (subst P known meets.took) at_end in
    let part : AppendsPart held held' (transcript set (counted ended meets.taken)) = (meets.written, row_front status set _ meets.as_said.0, meets.wrote) in
    subst Q (sym front.1) (part_more set (counted ended meets.taken) front.0 held held' part)

-- ---- a run that nothing disturbed

-- a script within the limit
status_within : (set : Options) (script : List ℕ) → length script ≤ limit → end_status set script ≡ script_status set (lines_of script)
status_within set script short =
    ap (λ l. cond (spends_all set l) Fuel (cond (nat_lt limit (length script)) TooLong (cond (has_bad l) BadLines Done))) (counted-ended script short)
    ∙ ap (λ t. cond (spends_all set (lines_of script)) Fuel (cond t TooLong (cond (has_bad (lines_of script)) BadLines Done)))
    (within_test (length script) short)

ends_within : (set : Options) (script : List ℕ) (status : Status) (held held' : Option (List ℕ)) → length script ≤ limit
    → RunsWhole set script status held held' → Ends set script status held held'
ends_within set script status held held' short (inl whole) =
    let P : List (List ℕ) → Type 0 = λ l. Appends held held' (transcript set l) in
    inl (whole.0 ∙ sym (status_within set script short), subst P (sym (counted-ended script short)) whole.1)
ends_within set script status held held' short (inr none) = inr none

-- a longer one
ends_spent : (set : Options) (script : List ℕ) (call : Call) (held held' : Option (List ℕ)) → Row Fuel set call → Consumes (Some script) call.left call.taken
    → Appends held held' call.written → Ends set script Fuel held held'
ends_spent set script call held held' row took wrote =
    let lines = lines_that_count call in
    let front = counted_front script call.taken call.ended call.left took row.0 in
    let same : session (settings set) (script_lines script) ≡ session (settings set) lines =
    ap (session (settings set)) front.1 ∙ (run_from-append 1 lines front.0 (start (settings set)) ∙ then_spent (session (settings set) lines) _ row.1) in
    let P : Outcome State (Unit {0}) → Type 0 = λ o. Appends held held' (text set.trace (log_of o)) in
    let end : Bool → Status = λ t. cond t Fuel (cond (nat_lt limit (length script)) TooLong (cond (has_bad (script_lines script)) BadLines Done)) in
    inl (sym (ap end (ap is_spent same ∙ row.1)), subst P (sym same) (subst (Appends held held') row.2 wrote))

ends_too_long : (set : Options) (script : List ℕ) (call : Call) (held held' : Option (List ℕ)) → Row TooLong set call
    → Consumes (Some script) call.left call.taken → limit < length script → Appends held held' call.written → Ends set script TooLong held held'
ends_too_long set script call held held' row took long wrote =
    let lines = counted_too_long script call.taken call.ended call.left took row.0 in
    let P : List (List ℕ) → Type 0 = λ l. Appends held held' (transcript set l) in
    let goes : spends_all set (script_lines script) ≡ false = ap (spends_all set) lines ∙ row.1 in
    let end : Bool → Bool → Status = λ t u. cond t Fuel (cond u TooLong (cond (has_bad (script_lines script)) BadLines Done)) in
    inl (
      sym (ap (λ t. end t (nat_lt limit (length script))) goes ∙ ap (end false) (beyond_test (length script) long)),
      subst P (sym lines) (subst (Appends held held') row.2 wrote),
    )

-- it was not read to its end
not_all : (script taken : List ℕ) (left : Option (List ℕ)) → Consumes (Some script) left taken → IsAtEnd left → length taken ≤ limit → limit < length script → ⊥
not_all script taken left took at_end short long = omega (arith, ap length (all_taken script left taken took at_end), short, long)

ends_beyond : (set : Options) (script : List ℕ) (status : Status) (call : Call) (held held' : Option (List ℕ)) → Row status set call
    → Consumes (Some script) call.left call.taken → Appends held held' call.written
    → limit < length script → (Rose call.source_before call.source_now → ⊥) → (Rose call.sink_before call.sink_now → ⊥) → Ends set script status held held'
ends_beyond set script Done call held held' row took wrote long calm_source calm_sink = absurd (not_all script call.taken call.left took row.0.1 row.0.2 long)
ends_beyond set script BadLines call held held' row took wrote long calm_source calm_sink =
    absurd (not_all script call.taken call.left took row.0.1 row.0.2 long)
ends_beyond set script Usage call held held' row took wrote long calm_source calm_sink = absurd row
ends_beyond set script Fuel call held held' row took wrote long calm_source calm_sink = ends_spent set script call held held' row took wrote
ends_beyond set script ReadFault call held held' row took wrote long calm_source calm_sink = absurd (calm_source row.0)
ends_beyond set script WriteFault call held held' row took wrote long calm_source calm_sink = absurd (calm_sink row.0)
ends_beyond set script NoMemory call held held' row took wrote long calm_source calm_sink = inr refl
ends_beyond set script TooLong call held held' row took wrote long calm_source calm_sink = ends_too_long set script call held held' row took long wrote

pub runs_to_end : (set : Options) (script : List ℕ) (status : Status) (left left' held held' : Option (List ℕ)) (ended : Bool) (sb sn kb kn : ℕ)
    → RunMeets (Script set) status left left' held held' ended sb sn kb kn → left ≡ Some script → (Rose sb sn → ⊥) → (Rose kb kn → ⊥)
    → Ends set script status held held'
runs_to_end set script status left left' held held' ended sb sn kb kn meets known calm_source calm_sink =
    let P : Option (List ℕ) → Type 0 = λ o. Consumes o left' meets.taken in
    elim (cases_lt limit (length script)) [
      | inl long ↦ ends_beyond set script status _ held held' meets.as_said.0 (subst P known meets.took) meets.wrote long calm_source calm_sink
      | inr short ↦ ends_within set script status held held' short
          (runs_whole (Script set) set script status left left' held held' ended sb sn kb kn meets refl known short calm_source calm_sink)
    ]
