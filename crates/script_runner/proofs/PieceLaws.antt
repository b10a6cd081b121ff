-- What a run has done between two reads, and what a piece adds.
use Rattle.std.proofs.Common.{◌≡◌, ◌≢◌, ◌≤◌, ◌+◌, ◌-◌, ◌⊎◌, min, nat_le, cond, inl, inr, ℕ, true, false, List, [], ◌++◌, length, take, drop, refl, sym, ap}
use Rattle.std.proofs.Common.{subst, ◌∙◌, arith, length-append, length-take-le, All}
use Rattle.std.proofs.KnownBytes.{Consumes-nil, Consumes-trans}
use Rattle.std.proofs.lemmas.Grind.{common_steps}
use Rattle.std.proofs.lemmas.List.{take-append-le, take-append-drop, take_all}
use Rattle.std.proofs.Math.Seq.{take-append-add}
use Rattle.std.specs.Io.KnownBytes.{Consumes}
use Rattle.std.specs.declared.option.Option.{Option}
use Rattle.ce_base.specs.Outside.{AppendsPart}
use Rattle.ce_algorithms.specs.Lines.{whole_lines, last_line, lines_of}
use Rattle.ce_machine.specs.declared.end.End.{End}
use Rattle.ce_machine.specs.declared.end.End.TheVariants.{Replied}
use Rattle.script_runner.specs.Ran.{Answered, Drained, answers, fresh}
use Rattle.script_runner.specs.Sitting.{Sitting}
use Rattle.script_runner.specs.Table.{limit, counted}
use Rattle.command_words.specs.declared.words.Options.{Options}
use Rattle.line_feed.proofs.LineLaws.{whole_lines-piece, last_part-piece}
use Rattle.script_runner.proofs.SittingLaws.{answered_more, answered_nothing, answered_part}

-- the whole lines of what was taken were run and answered, and what stands behind them is in the feed
pub record Streamed (set : Options) (left left' held held' : Option (List ℕ)) (s : Sitting) (feed : List ℕ) (count : ℕ) : Type 0 where
  pub taken : List ℕ
  pub took : Consumes left left' taken
  pub length_is : length taken ≡ count
  pub done : Answered (fresh set) (whole_lines taken) Replied s held held'
  pub drained : Drained taken feed
  pub number : s.line + length feed ≤ count
  pub within : count ≤ limit

clean_nil : All (λ (b : ℕ). b ≢ 10) []
clean_nil = grind (arith, common_steps)

-- before the first piece
pub streamed_first : (set : Options) (left held : Option (List ℕ)) (s : Sitting) (feed : List ℕ) → s ≡ fresh set → feed ≡ []
    → Streamed set left left held held s feed 0
streamed_first set left held s feed is none =
    let P : Sitting → List ℕ → Type 0 = λ t l. Streamed set left left held held t l 0 in
    let first : P (fresh set) [] = record {
      taken = [];
      took = Consumes-nil left;
      length_is = refl;
      done = answered_nothing (fresh set) held refl;
      drained = record { part = refl; clean = clean_nil };
      number = omega arith;
      within = omega arith;
    } in
    subst (P s) (sym none) (subst (λ t. P t []) (sym is) first)

-- ---- the lines that count

le_test : (a b : ℕ) → a ≤ b → nat_le a b ≡ true
le_test a b h = grind (arith, common_steps)

pub counted-within : (taken : List ℕ) → length taken ≤ limit → counted false taken ≡ whole_lines taken
counted-within taken h = ap whole_lines (take_all limit taken h)

pub counted-ended : (taken : List ℕ) → length taken ≤ limit → counted true taken ≡ lines_of taken
counted-ended taken h = ap (λ t. cond t (lines_of taken) (whole_lines (take limit taken))) (le_test (length taken) limit h)

-- after bytes of which only those within the limit were run
counted-piece : (set : Options) (left left' held held' : Option (List ℕ)) (s : Sitting) (feed bytes piece : List ℕ) (n : ℕ)
    (before : Streamed set left left' held held' s feed n)
    → piece ≡ take (limit - n) bytes → counted false (before.taken ++ bytes) ≡ whole_lines before.taken ++ whole_lines (feed ++ piece)
counted-piece set left left' held held' s feed bytes piece n before is =
    let sum : limit ≡ length before.taken + (limit - n) = omega (arith, before.length_is, before.within) in
    let cut : take limit (before.taken ++ bytes) ≡ before.taken ++ piece =
    ap (λ k. take k (before.taken ++ bytes)) sum ∙ (take-append-add before.taken bytes (limit - n) ∙ ap (λ l. before.taken ++ l) (sym is)) in
    ap whole_lines cut ∙ whole_lines-piece before.taken feed piece before.drained.part before.drained.clean

-- at the end of the script
counted-end : (set : Options) (left left' held held' : Option (List ℕ)) (s : Sitting) (feed : List ℕ) (n : ℕ)
    (before : Streamed set left left' held held' s feed n)
    → counted true before.taken ≡ whole_lines before.taken ++ last_line feed
counted-end set left left' held held' s feed n before =
    counted-ended before.taken (omega (arith, before.length_is, before.within)) ∙ ap (λ l. whole_lines before.taken ++ last_line l) (sym before.drained.part)

-- ---- what a piece adds

pub streamed_piece : (set : Options) (left mid left' held held' held'' : Option (List ℕ)) (s t : Sitting) (feed feed' piece : List ℕ) (n count : ℕ)
    → Streamed set left mid held held' s feed n → Consumes mid left' piece → length piece ≡ count → n + count ≤ limit
    → Answered s (whole_lines (feed ++ piece)) Replied t held' held'' → Drained (feed ++ piece) feed'
    → t.line + length feed' ≤ s.line + length feed + length piece
    → Streamed set left left' held held'' t feed' (n + count)
streamed_piece set left mid left' held held' held'' s t feed feed' piece n count before took len room more drained number =
    let P : List (List ℕ) → Type 0 = λ l. Answered (fresh set) l Replied t held held'' in
    let lines = whole_lines-piece before.taken feed piece before.drained.part before.drained.clean in
    record {
      taken = before.taken ++ piece;
      took = Consumes-trans left mid left' before.taken piece before.took took;
      length_is = omega (arith, length-append before.taken piece, before.length_is, len);
      done = subst P (sym lines) (answered_more (fresh set) s t _ _ Replied held held' held'' before.done more);
      drained = record { part = drained.part ∙ sym (last_part-piece before.taken feed piece before.drained.part before.drained.clean); clean = drained.clean };
      number = omega (arith, before.number, number, len);
      within = room;
    }

pub answered_piece : (set : Options) (left left' held held' held'' : Option (List ℕ)) (s t : Sitting) (end : End) (feed bytes piece : List ℕ) (n : ℕ)
    (before : Streamed set left left' held held' s feed n)
    → piece ≡ take (limit - n) bytes → Answered s (whole_lines (feed ++ piece)) end t held' held''
    → Answered (fresh set) (counted false (before.taken ++ bytes)) end t held held''
answered_piece set left left' held held' held'' s t end feed bytes piece n before is more =
    let P : List (List ℕ) → Type 0 = λ l. Answered (fresh set) l end t held held'' in
    subst P (sym (counted-piece set left left' held held' s feed bytes piece n before is))
    (answered_more (fresh set) s t _ _ end held held' held'' before.done more)

pub part_piece : (set : Options) (left left' held held' held'' : Option (List ℕ)) (s : Sitting) (feed bytes piece : List ℕ) (n : ℕ)
    (before : Streamed set left left' held held' s feed n)
    → piece ≡ take (limit - n) bytes → AppendsPart held' held'' (answers s (whole_lines (feed ++ piece)))
    → AppendsPart held held'' (answers (fresh set) (counted false (before.taken ++ bytes)))
part_piece set left left' held held' held'' s feed bytes piece n before is more =
    let P : List (List ℕ) → Type 0 = λ l. AppendsPart held held'' (answers (fresh set) l) in
    subst P (sym (counted-piece set left left' held held' s feed bytes piece n before is)) (answered_part (fresh set) s _ _ held held' held'' before.done more)

pub answered_end : (set : Options) (left left' held held' held'' : Option (List ℕ)) (s t : Sitting) (end : End) (feed : List ℕ) (n : ℕ)
    (before : Streamed set left left' held held' s feed n)
    → Answered s (last_line feed) end t held' held'' → Answered (fresh set) (counted true before.taken) end t held held''
answered_end set left left' held held' held'' s t end feed n before more =
    let P : List (List ℕ) → Type 0 = λ l. Answered (fresh set) l end t held held'' in
    subst P (sym (counted-end set left left' held held' s feed n before)) (answered_more (fresh set) s t _ _ end held held' held'' before.done more)

pub part_end : (set : Options) (left left' held held' held'' : Option (List ℕ)) (s : Sitting) (feed : List ℕ) (n : ℕ)
    (before : Streamed set left left' held held' s feed n)
    → AppendsPart held' held'' (answers s (last_line feed)) → AppendsPart held held'' (answers (fresh set) (counted true before.taken))
part_end set left left' held held' held'' s feed n before more =
    let P : List (List ℕ) → Type 0 = λ l. AppendsPart held held'' (answers (fresh set) l) in
    subst P (sym (counted-end set left left' held held' s feed n before)) (answered_part (fresh set) s _ _ held held' held'' before.done more)

-- nothing more was taken
pub answered_now : (set : Options) (left left' held held' : Option (List ℕ)) (s : Sitting) (feed : List ℕ) (n : ℕ)
    (before : Streamed set left left' held held' s feed n)
    → Answered (fresh set) (counted false before.taken) Replied s held held'
answered_now set left left' held held' s feed n before =
    let P : List (List ℕ) → Type 0 = λ l. Answered (fresh set) l Replied s held held' in
    subst P (sym (counted-within before.taken (omega (arith, before.length_is, before.within)))) before.done

-- ---- the part of the bytes within the limit

take_fewer : (xs : List ℕ) (a b : ℕ) → b ≤ a → take b (take a xs) ≡ take b xs
take_fewer xs a b h =
    let len : (a ≤ length xs) ⊎ (length xs ≤ a) = grind arith in
    elim len [
      | inl le ↦ sym (take-append-le b (take a xs) (drop a xs) (rw (length-take-le a xs le) h)) ∙ ap (take b) (take-append-drop a xs)
      | inr ge ↦ ap (take b) (take_all a xs ge)
    ]

pub within_limit : (buf : List ℕ) (count room within : ℕ) → count ≤ length buf → within ≡ min count room → take within buf ≡ take room (take count buf)
within_limit buf count room within fits is =
    let cases : ((count ≤ room) × (within ≡ count)) ⊎ ((room ≤ count) × (within ≡ room)) = grind arith in
    elim cases [
      | inl h ↦ ap (λ k. take k buf) h.1 ∙ sym (take_all room (take count buf) (rw (length-take-le count buf fits) h.0))
      | inr h ↦ ap (λ k. take k buf) h.1 ∙ sym (take_fewer buf count room h.0)
    ]
