-- What is true of a run at each of its ends.
use Rattle.std.proofs.Common.{◌≡◌, ◌≤◌, ◌<◌, ◌+◌, ◌-◌, cond, ℕ, Bool, true, false, List, [], ◌++◌, length, take, refl, sym, ap, subst, ◌∙◌, append-nil, arith}
use Rattle.std.proofs.Common.{length-append, inl, inr}
use Rattle.std.proofs.KnownBytes.{Appends-nil, Consumes-nil, Consumes-trans}
use Rattle.std.specs.Io.KnownBytes.{Consumes, IsAtEnd}
use Rattle.std.specs.declared.option.Option.{Option}
use Rattle.ce_base.specs.Faults.{Rose}
use Rattle.ce_base.proofs.Pieces.{took_no_more}
use Rattle.ce_base.specs.Outside.{AppendsPart, IsPrefix}
use Rattle.ce_base.specs.declared.stop.Stop.{Stop}
use Rattle.ce_base.specs.declared.stop.Stop.TheVariants.{NoMemory as StopMemory, WriteFault as StopWrite}
use Rattle.ce_algorithms.specs.Lines.{whole_lines, last_line}
use Rattle.ce_algorithms.specs.Steps.{is_spent}
use Rattle.ce_events.specs.Text.{text}
use Rattle.order_law.specs.Law.{Lawful}
use Rattle.order_law.proofs.Model.Scripts.{session_lawful}
use Rattle.ce_machine.specs.Ended.{outcome_of}
use Rattle.ce_machine.specs.declared.end.End.{End}
use Rattle.ce_machine.specs.declared.end.End.TheVariants.{Replied, FuelSpent}
use Rattle.script_runner.specs.Making.{MadeMeets, made, made_summary}
use Rattle.script_runner.specs.Ran.{Answered, answers, fresh}
use Rattle.script_runner.specs.Sitting.{Sitting}
use Rattle.script_runner.specs.Script.{readings, settings}
use Rattle.ce_base.specs.Whole.{piece}
use Rattle.script_runner.specs.Table.{limit, counted, spends_all, logged, transcript, Row, TakesOnlyNeeded, RunMeets, status_at, status_of_stop}
use Rattle.script_runner.specs.declared.status.Status.{Status}
use Rattle.script_runner.specs.declared.status.Status.TheVariants.{Done, BadLines, Usage, Fuel, NoMemory, ReadFault, TooLong}
use Rattle.command_words.specs.declared.words.Options.{Options}
use Rattle.command_words.specs.declared.words.Meaning.{Meaning}
use Rattle.command_words.specs.declared.words.Meaning.TheVariants.{Refused, Script, Made}
use Rattle.script_runner.proofs.SittingLaws.{ran_answers}
use Rattle.script_runner.proofs.MadeLaws.{is_spent-behind}
use Rattle.script_runner.proofs.PieceLaws.{Streamed, answered_piece, part_piece, answered_end, part_end, answered_now}

-- the fuel is spent where the end of the lines says so
spends : (set : Options) (lines : List (List ℕ)) (end : End) (s : Sitting) (held held' : Option (List ℕ)) → Answered (fresh set) lines end s held held'
    → spends_all set lines ≡ is_spent (outcome_of end s.state)
spends set lines end s held held' done = ap is_spent done.ran.same ∙ is_spent-behind done.events (outcome_of end s.state)

-- the text that was written is the transcript
writes : (set : Options) (lines : List (List ℕ)) (end : End) (s : Sitting) (held held' : Option (List ℕ)) (done : Answered (fresh set) lines end s held held')
    → text set.trace done.events ≡ answers (fresh set) lines
writes set lines end s held held' done = sym (ran_answers (fresh set) s lines end done.events done.ran)

-- the log of each session keeps the law of order
lawful : (set : Options) (lines : List (List ℕ)) → Lawful (logged set lines)
lawful set lines = session_lawful (settings set) (readings lines)

-- ---- what was taken before the last piece

needed_piece : (set : Options) (left left' held held' : Option (List ℕ)) (s : Sitting) (feed bytes : List ℕ) (n : ℕ)
    (before : Streamed set left left' held held' s feed n) → length bytes ≤ piece → TakesOnlyNeeded set (before.taken ++ bytes)
needed_piece set left left' held held' s feed bytes n before short = record {
  before = before.taken;
  last = bytes;
  split = refl;
  short = short;
  within = omega (arith, before.length_is, before.within);
  goes = spends set _ Replied s held held' before.done;
}

needed_nothing : (set : Options) (left left' held held' : Option (List ℕ)) (s : Sitting) (feed : List ℕ) (n : ℕ)
    (before : Streamed set left left' held held' s feed n) → TakesOnlyNeeded set before.taken
needed_nothing set left left' held held' s feed n before =
    let P : List ℕ → Type 0 = λ l. TakesOnlyNeeded set l in
    subst P (append-nil before.taken) (needed_piece set left left' held held' s feed [] n before (omega arith))

-- a count that rose in the call
pub rose_since : (first before now : ℕ) → first ≤ before → Rose before now → Rose first now
rose_since first before now h rose = omega arith

-- ---- a piece was taken

pub meets_fuel : (set : Options) (left mid left' held held' held'' : Option (List ℕ)) (s t : Sitting) (end : End) (feed bytes front : List ℕ)
    (n sb sn kb kn : ℕ)
    → Streamed set left mid held held' s feed n → Consumes mid left' bytes → length bytes ≤ piece → front ≡ take (limit - n) bytes
    → end ≡ FuelSpent → Answered s (whole_lines (feed ++ front)) end t held' held''
    → RunMeets (Script set) Fuel left left' held held'' false sb sn kb kn
meets_fuel set left mid left' held held' held'' s t end feed bytes front n sb sn kb kn before took short is spent more =
    let all = answered_piece set left mid held held' held'' s t end feed bytes front n before is more in
    record {
      taken = before.taken ++ bytes;
      written = text set.trace all.events;
      took = Consumes-trans left mid left' before.taken bytes before.took took;
      wrote = all.wrote;
      as_said = (
        (
          λ ended. (cc),
          spends set _ end t held held'' all ∙ ap (λ e. is_spent (outcome_of e t.state)) spent,
          writes set _ end t held held'' all,
        ),
        needed_piece set left mid held held' s feed bytes n before short,
        lawful set (counted false (before.taken ++ bytes)),
      );
    }

pub meets_too_long : (set : Options) (left mid left' held held' held'' : Option (List ℕ)) (s t : Sitting) (end : End) (feed bytes front : List ℕ)
    (n sb sn kb kn : ℕ)
    → Streamed set left mid held held' s feed n → Consumes mid left' bytes → length bytes ≤ piece → front ≡ take (limit - n) bytes → limit < n + length bytes
    → end ≡ Replied → Answered s (whole_lines (feed ++ front)) end t held' held''
    → RunMeets (Script set) TooLong left left' held held'' false sb sn kb kn
meets_too_long set left mid left' held held' held'' s t end feed bytes front n sb sn kb kn before took short is long goes more =
    let all = answered_piece set left mid held held' held'' s t end feed bytes front n before is more in
    record {
      taken = before.taken ++ bytes;
      written = text set.trace all.events;
      took = Consumes-trans left mid left' before.taken bytes before.took took;
      wrote = all.wrote;
      as_said = (
        (
          omega (arith, length-append before.taken bytes, before.length_is, long),
          spends set _ end t held held'' all ∙ ap (λ e. is_spent (outcome_of e t.state)) goes,
          writes set _ end t held held'' all,
        ),
        needed_piece set left mid held held' s feed bytes n before short,
        lawful set (counted false (before.taken ++ bytes)),
      );
    }

-- a stop: some front of the transcript was written
stop_row : (stop : Stop) (set : Options) (taken written : List ℕ) (ended : Bool) (left : Option (List ℕ)) (sb sn kb kn : ℕ) → (stop ≡ StopWrite → Rose kb kn)
    → IsPrefix written (answers (fresh set) (counted ended taken))
    → Row (status_of_stop stop) set
    (record { taken = taken; written = written; ended = ended; left = left; source_before = sb; source_now = sn; sink_before = kb; sink_now = kn })
stop_row StopMemory set taken written ended left sb sn kb kn cause front = front
stop_row StopWrite set taken written ended left sb sn kb kn cause front = (cause refl, front)

pub meets_stop : (stop : Stop) (set : Options) (left mid left' held held' held'' : Option (List ℕ)) (s : Sitting) (feed bytes front : List ℕ)
    (n sb sn kb kn : ℕ)
    → Streamed set left mid held held' s feed n → Consumes mid left' bytes → length bytes ≤ piece → front ≡ take (limit - n) bytes
    → AppendsPart held' held'' (answers s (whole_lines (feed ++ front))) → (stop ≡ StopWrite → Rose kb kn)
    → RunMeets (Script set) (status_of_stop stop) left left' held held'' false sb sn kb kn
meets_stop stop set left mid left' held held' held'' s feed bytes front n sb sn kb kn before took short is more cause =
    let part = part_piece set left mid held held' held'' s feed bytes front n before is more in
    record {
      taken = before.taken ++ bytes;
      written = part.0;
      took = Consumes-trans left mid left' before.taken bytes before.took took;
      wrote = part.2;
      as_said = (
        stop_row stop set _ part.0 false left' sb sn kb kn cause part.1,
        needed_piece set left mid held held' s feed bytes n before short,
        lawful set (counted false (before.taken ++ bytes)),
      );
    }

-- ---- nothing more was taken

pub meets_read_fault : (set : Options) (left mid left' held held' : Option (List ℕ)) (s : Sitting) (feed : List ℕ) (n sb sn kb kn : ℕ)
    → Streamed set left mid held held' s feed n → Consumes mid left' [] → Rose sb sn → RunMeets (Script set) ReadFault left left' held held' false sb sn kb kn
meets_read_fault set left mid left' held held' s feed n sb sn kb kn before took rose =
    let all = answered_now set left mid held held' s feed n before in
    record {
      taken = before.taken;
      written = text set.trace all.events;
      took = took_no_more left mid left' before.taken before.took took;
      wrote = all.wrote;
      as_said = (
        (rose, omega (arith, before.length_is, before.within), spends set _ Replied s held held' all, writes set _ Replied s held held' all),
        needed_nothing set left mid held held' s feed n before,
        lawful set (counted false before.taken),
      );
    }

end_row : (set : Options) (end : End) (t : Sitting) (taken : List ℕ) (left held held' : Option (List ℕ)) (sb sn kb kn : ℕ) → IsAtEnd left
    → length taken ≤ limit → (all : Answered (fresh set) (counted true taken) end t held held')
    → Row (status_at end t.bad) set
    (record {
      taken = taken;
      written = text set.trace all.events;
      ended = true;
      left = left;
      source_before = sb;
      source_now = sn;
      sink_before = kb;
      sink_now = kn;
    })
end_row set FuelSpent t taken left held held' sb sn kb kn at_end within all =
    (λ _. at_end, spends set _ FuelSpent t held held' all, writes set _ FuelSpent t held held' all)
end_row set Replied t taken left held held' sb sn kb kn at_end within all =
    let call = λ (status : Status).
    Row status set (record {
      taken = taken;
      written = text set.trace all.events;
      ended = true;
      left = left;
      source_before = sb;
      source_now = sn;
      sink_before = kb;
      sink_now = kn;
    }) in
    let goes = spends set _ Replied t held held' all in
    let wrote = writes set _ Replied t held held' all in
    (elim t.bad as (λ b. t.bad ≡ b → call (cond b BadLines Done)) [
      | true ↦ λ h. ((refl, at_end, within), goes, sym (all.ran.bad refl) ∙ h, wrote)
      | false ↦ λ h. ((refl, at_end, within), goes, sym (all.ran.bad refl) ∙ h, wrote)
    ]) refl

pub meets_end : (set : Options) (left mid left' held held' held'' : Option (List ℕ)) (s t : Sitting) (end : End) (feed : List ℕ) (n sb sn kb kn : ℕ)
    → Streamed set left mid held held' s feed n → Consumes mid left' [] → IsAtEnd left' → Answered s (last_line feed) end t held' held''
    → RunMeets (Script set) (status_at end t.bad) left left' held held'' true sb sn kb kn
meets_end set left mid left' held held' held'' s t end feed n sb sn kb kn before took at_end more =
    let all = answered_end set left mid held held' held'' s t end feed n before more in
    record {
      taken = before.taken;
      written = text set.trace all.events;
      took = took_no_more left mid left' before.taken before.took took;
      wrote = all.wrote;
      as_said = (
        end_row set end t before.taken left' held held'' sb sn kb kn at_end (omega (arith, before.length_is, before.within)) all,
        needed_nothing set left mid held held' s feed n before,
        lawful set (counted true before.taken),
      );
    }

pub meets_end_stop : (stop : Stop) (set : Options) (left mid left' held held' held'' : Option (List ℕ)) (s : Sitting) (feed : List ℕ) (n sb sn kb kn : ℕ)
    → Streamed set left mid held held' s feed n → Consumes mid left' [] → AppendsPart held' held'' (answers s (last_line feed))
    → (stop ≡ StopWrite → Rose kb kn)
    → RunMeets (Script set) (status_of_stop stop) left left' held held'' true sb sn kb kn
meets_end_stop stop set left mid left' held held' held'' s feed n sb sn kb kn before took more cause =
    let part = part_end set left mid held held' held'' s feed n before more in
    record {
      taken = before.taken;
      written = part.0;
      took = took_no_more left mid left' before.taken before.took took;
      wrote = part.2;
      as_said = (
        stop_row stop set _ part.0 true left' sb sn kb kn cause part.1,
        needed_nothing set left mid held held' s feed n before,
        lawful set (counted true before.taken),
      );
    }

-- a run whose words are refused
pub meets_refused : (left held : Option (List ℕ)) (ended : Bool) (sb sn kb kn : ℕ) → RunMeets Refused Usage left left held held ended sb sn kb kn
meets_refused left held ended sb sn kb kn =
    record { taken = []; written = []; took = Consumes-nil left; wrote = Appends-nil held; as_said = (inl refl, refl, refl) }

-- a run where memory was refused before its words were read
pub meets_unread : (said : Meaning) (left held : Option (List ℕ)) (ended : Bool) (sb sn kb kn : ℕ)
    → RunMeets said NoMemory left left held held ended sb sn kb kn
meets_unread Refused left held ended sb sn kb kn =
    record { taken = []; written = []; took = Consumes-nil left; wrote = Appends-nil held; as_said = (inr refl, refl, refl) }
meets_unread (Script set) left held ended sb sn kb kn =
    let needed : TakesOnlyNeeded set [] = record { before = []; last = []; split = refl; short = omega arith; within = omega arith; goes = refl } in
    record {
      taken = [];
      written = [];
      took = Consumes-nil left;
      wrote = Appends-nil held;
      as_said = ((transcript set (counted ended []), refl), needed, lawful set (counted ended []));
    }
meets_unread (Made n set) left held ended sb sn kb kn =
    record { taken = []; written = []; took = Consumes-nil left; wrote = Appends-nil held; as_said = ((made_summary set n, refl), refl, lawful set (made n)) }

-- a script that was made: nothing was taken
pub meets_made : (set : Options) (n : ℕ) (status : Status) (left held held' : Option (List ℕ)) (ended : Bool) (sb sn kb kn : ℕ)
    → MadeMeets set n status held held' kb kn → RunMeets (Made n set) status left left held held' ended sb sn kb kn
meets_made set n status left held held' ended sb sn kb kn meets =
    record { taken = []; written = meets.written; took = Consumes-nil left; wrote = meets.wrote; as_said = (meets.row, refl, lawful set (made n)) }
