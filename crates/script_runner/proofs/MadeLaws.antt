-- A made script that is run as it is made.
use Rattle.std.proofs.Common.{◌≡◌, ◌<◌, ◌≤◌, ◌+◌, ◌^◌, ◌||◌, ℕ, List, [], ◌∷◌, ◌++◌, length, refl, sym, ap, subst, ◌∙◌, append_assoc, append-nil, arith, Some}
use Rattle.std.specs.List.{AllByRecursion}
use Rattle.std.specs.declared.option.Option.{Option}
use Rattle.std.proofs.lemmas.List.Elements.{recursion_from_All}
use Rattle.made_scripts.specs.Laws.{IsClean}
use Rattle.made_scripts.specs.Made.{made_lines, joined, made_script}
use Rattle.made_scripts.proofs.LineLaws.{no_line_feed}
use Rattle.made_scripts.proofs.MadeLaws.{length-made_lines}
use Rattle.rule_script.specs.Reading.{longest, reading}
use Rattle.ce_events.specs.declared.event.Event.{Event}
use Rattle.ce_events.specs.Text.{text}
use Rattle.ce_algorithms.specs.Lines.{whole_lines, last_part, last_line}
use Rattle.ce_algorithms.specs.Model.{model}
use Rattle.ce_algorithms.specs.Session.{run_line, log_of}
use Rattle.ce_algorithms.specs.State.{State}
use Rattle.ce_algorithms.specs.Steps.{Outcome, Goes, Throws, Spent, is_spent}
use Rattle.ce_algorithms.specs.Written.{Did, behind_in}
use Rattle.ce_machine.specs.Ended.{outcome_of}
use Rattle.ce_machine.specs.declared.end.End.{End}
use Rattle.ce_machine.specs.declared.end.End.TheVariants.{Replied, FuelSpent}
use Rattle.line_feed.proofs.LineLaws.{whole_lines-line, last_part-line}
use Rattle.command_words.specs.declared.words.Options.{Options}
use Rattle.script_runner.specs.Making.{made, made_session, fuel_left, says_spent}
use Rattle.script_runner.specs.Ran.{Answered, fresh}
use Rattle.script_runner.specs.Script.{is_bad, session, settings}
use Rattle.script_runner.specs.Sitting.{Sitting}
use Rattle.script_runner.proofs.LoopLaws.{answered_line}
use Rattle.script_runner.proofs.SittingLaws.{answered_more, answered_spent, ran_answers}

-- ---- its lines

-- lines without line feeds that are joined are cut back into them
cut-joined : (lines : List (List ℕ)) → AllByRecursion IsClean lines → (whole_lines (joined lines) ≡ lines) × (last_part (joined lines) ≡ [])
unfolding joined
cut-joined [] h = (refl, refl)
cut-joined (l ∷ ls) h =
    let on = cut-joined ls h.1 in
    let split : joined (l ∷ ls) ≡ l ++ 10 ∷ joined ls = append_assoc l (10 ∷ []) (joined ls) in
    (ap whole_lines split ∙ whole_lines-line l (joined ls) h.0 ∙ ap (λ v. l ∷ v) on.0, ap last_part split ∙ last_part-line l (joined ls) h.0 ∙ on.1)

pub lines_made : (n : ℕ) → n < 2 ^ 32 → made n ≡ made_lines n
unfolding made_script
lines_made n lt =
    let cut = cut-joined (made_lines n) (recursion_from_All _ (made_lines n) (no_line_feed n lt)) in
    ap (λ p. whole_lines (joined (made_lines n)) ++ last_line p) cut.1 ∙ append-nil (whole_lines (joined (made_lines n))) ∙ cut.0

-- ---- the loop over them

-- a session has run some of the lines, and the sink has their answers
pub record MadeOn (a s : Sitting) (all left : List (List ℕ)) (held held' : Option (List ℕ)) : Type 0 where
  pub lines : List (List ℕ)
  pub split : all ≡ lines ++ left
  pub done : Answered a lines Replied s held held'
  pub number : s.line + length left ≤ a.line + length all

module _ (a s t : Sitting) (all left next : List (List ℕ)) (line : List ℕ) (held mid held' : Option (List ℕ)) (on : MadeOn a s all left held mid)
    (gives : left ≡ line ∷ next) where
  module _ (end : End) (did : Did s.trace mid held' (run_line model (s.line + 1) (reading longest line) s.state) (outcome_of end t.state))
      (empty : t.state.log ≡ []) (trace : t.trace ≡ s.trace) (number : t.line ≡ s.line + 1) (bad : t.bad ≡ (s.bad || is_bad (reading longest line))) where
    front : Answered s (line ∷ []) end t mid held'
    front = answered_line s t end line mid held' did empty trace number bad

    pub made_one : end ≡ Replied → MadeOn a t all next held held'
    made_one goes = record {
      lines = on.lines ++ line ∷ [];
      split = on.split ∙ ap (λ v. on.lines ++ v) gives ∙ sym (append_assoc on.lines (line ∷ []) next);
      done = answered_more a s t on.lines (line ∷ []) Replied held mid held' on.done (subst (λ e. Answered s (line ∷ []) e t mid held') goes front);
      number = omega (arith, on.number, number, ap length gives);
    }

    pub made_spent : end ≡ FuelSpent → Answered a all FuelSpent t held held'
    made_spent spent =
        let rest = answered_spent s t (line ∷ []) next mid held' (subst (λ e. Answered s (line ∷ []) e t mid held') spent front) in
        subst (λ v. Answered a v FuelSpent t held held') (sym (on.split ∙ ap (λ v. on.lines ++ v) gives))
        (answered_more a s t on.lines (line ∷ next) FuelSpent held mid held' on.done rest)

-- ---- the whole of it

fuel_behind : (events : List Event) (o : Outcome State (Unit {0})) → fuel_left (behind_in events o) ≡ fuel_left o
fuel_behind events (Goes a s) = refl
fuel_behind events (Throws f s) = refl
fuel_behind events (Spent s) = refl

pub is_spent-behind : {A : Type 0} (events : List Event) (o : Outcome State A) → is_spent (behind_in events o) ≡ is_spent o
is_spent-behind events (Goes a s) = refl
is_spent-behind events (Throws f s) = refl
is_spent-behind events (Spent s) = refl

fuel_at : (end : End) (s : State) → fuel_left (outcome_of end s) ≡ s.fuel
fuel_at Replied s = refl
fuel_at FuelSpent s = refl

spent_at : (end : End) (s : State) → is_spent (outcome_of end s) ≡ says_spent end
spent_at Replied s = refl
spent_at FuelSpent s = refl

module _ (set : Options) (n : ℕ) (lt : n < 2 ^ 32) (t : Sitting) (end : End) (f : List ℕ)
    (done : Answered (fresh set) (made_lines n) end t (Some []) (Some f)) where
  outcome : made_session set n ≡ behind_in done.events (outcome_of end t.state)
  outcome = ap (session (settings set)) (lines_made n lt) ∙ done.ran.same

  pub made_text : f ≡ text set.trace (log_of (made_session set n))
  made_text = done.wrote ∙ sym (ran_answers (fresh set) t (made_lines n) end done.events done.ran)
      ∙ ap (λ v. text set.trace (log_of (session (settings set) v))) (sym (lines_made n lt))

  pub made_fuel : t.state.fuel ≡ fuel_left (made_session set n)
  made_fuel = sym (ap fuel_left outcome ∙ fuel_behind done.events (outcome_of end t.state) ∙ fuel_at end t.state)

  pub made_end : says_spent end ≡ is_spent (made_session set n)
  made_end = sym (ap is_spent outcome ∙ is_spent-behind done.events (outcome_of end t.state) ∙ spent_at end t.state)

pub made_short : (n : ℕ) → n < 2 ^ 32 → length (made_lines n) < 2 ^ 63
made_short n lt = omega (arith, lt, length-made_lines n)
