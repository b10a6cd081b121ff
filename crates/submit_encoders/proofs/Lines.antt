-- A text that is cut at its first line end.
use Rattle.std.proofs.Common.{◌≡◌, ◌+◌, ◌<◌, ◌≤◌, ℕ, Bool, true, false, ◌&&◌, cond, List, [], ◌∷◌, ◌++◌, Some, None, length, get_or, take, drop, refl, sym, ap}
use Rattle.std.proofs.Common.{◌∙◌, subst, arith, IsUtf8, length-take, length-drop, take-append-drop, append_assoc, append-nil}
use Rattle.std.specs.Prelude.{nat_eq, nat_lt, position}
use Rattle.std.specs.Str.{IsCharBoundary}
use Rattle.std.specs.List.{starts_with, position_or_len}
use Rattle.std.proofs.lemmas.Bool.{and_parts, eqb-true, eqb-false, ne_eqb, or_parts, ltb-false, cond_both}
use Rattle.std.proofs.lemmas.List.{drop_more, get_or-take}
use Rattle.std.proofs.lemmas.List.Elements.{All-from_get_or}
use Rattle.std.proofs.lemmas.List.Folds.{list_any_none}
use Rattle.std.proofs.lemmas.List.Quantifiers.{position-Some}
use Rattle.std.proofs.lemmas.List.Sums.{fails_before_first}
use Rattle.std.proofs.lemmas.Str.{IsCharBoundary-before_ascii, IsCharBoundary-after_ascii}
use Rattle.form_controls.specs.Texts.{is_newline}
use Rattle.form_submission.specs.LineEnds.{begins_with_line_feed, full_from, newline, with_full_newlines}
use Rattle.submit_encoders.specs.Cuts.{CutsLine, begins_with_line_end, has_line_end, past_line_end}

-- ---- line ends that are full

-- a byte that ends no line stays
pub full_from-other : (p : Bool) (b : ℕ) (rest : List ℕ) → is_newline b ≡ false → full_from p (b ∷ rest) ≡ b ∷ full_from false rest
full_from-other p b rest other = let both = or_parts (nat_eq b 13) (nat_eq b 10) other in rw (both.0, both.1) refl

-- a line stays
full_line : (line rest : List ℕ) → has_line_end line ≡ false → full_from false (line ++ rest) ≡ line ++ full_from false rest
full_line [] rest is = refl
full_line (b ∷ line) rest is =
    let both = or_parts (is_newline b) (has_line_end line) is in
    full_from-other false b (line ++ rest) both.0 ∙ ap (λ more. b ∷ more) (full_line line rest both.1)

-- a text without line ends is sent as it stands
pub full_one_line : (text : List ℕ) → has_line_end text ≡ false → with_full_newlines text ≡ text
full_one_line text is = ap with_full_newlines (sym (append-nil text)) ∙ (full_line text [] is ∙ append-nil text)

-- whether a carriage return stands before it counts for a line feed alone
full_from-behind : (rest : List ℕ) → begins_with_line_feed rest ≡ false → full_from true rest ≡ full_from false rest
full_from-behind [] other = refl
full_from-behind (b ∷ rest) other = rw other refl

-- the line end at the front of a text is sent in full
abbrev SentPast : List ℕ → Type 0
SentPast text = with_full_newlines text ≡ newline ++ with_full_newlines (past_line_end text)

return_alone : (b : ℕ) (rest : List ℕ) → nat_eq b 10 ≡ false → SentPast (13 ∷ b ∷ rest)
return_alone b rest other =
    let back : nat_eq 10 b ≡ false = ne_eqb 10 b (λ e. eqb-false b 10 other (sym e)) in
    rw (full_from-behind (b ∷ rest) other, back, other) refl

sent_return : (rest : List ℕ) → SentPast (13 ∷ rest)
sent_return [] = refl
sent_return (b ∷ rest) = cases (nat_eq b 10) refl
  where
    cases : (t : Bool) → nat_eq b 10 ≡ t → SentPast (13 ∷ b ∷ rest)
    cases true is = subst (λ c. SentPast (13 ∷ c ∷ rest)) (sym (eqb-true b 10 is)) refl
    cases false other = return_alone b rest other

sent_past : (text : List ℕ) → begins_with_line_end text ≡ true → SentPast text
sent_past [] is = absurd (cc)
sent_past (b ∷ rest) is = cases (nat_eq b 13) refl
  where
    cases : (t : Bool) → nat_eq b 13 ≡ t → SentPast (b ∷ rest)
    cases true is_return = subst (λ c. SentPast (c ∷ rest)) (sym (eqb-true b 13 is_return)) (sent_return rest)
    cases false other =
        let is_feed : nat_eq b 10 ≡ true = rw other at is in
        subst (λ c. SentPast (c ∷ rest)) (sym (eqb-true b 10 is_feed)) refl

-- ---- where a text may be cut

newline-ascii : (b : ℕ) → is_newline b ≡ true → b < 128
newline-ascii b is = cases (nat_eq b 13) refl
  where
    cases : (t : Bool) → nat_eq b 13 ≡ t → b < 128
    cases true is_return = omega (arith, eqb-true b 13 is_return)
    cases false other = let is_feed : nat_eq b 10 ≡ true = rw other at is in omega (arith, eqb-true b 10 is_feed)

-- behind a line end that is one byte
pub boundary_behind_one : (text : List ℕ) → IsUtf8 text → begins_with_line_end text ≡ true → IsCharBoundary text 1
boundary_behind_one [] is begins = absurd (cc)
boundary_behind_one (b ∷ rest) is begins = IsCharBoundary-after_ascii (b ∷ rest) 0 is (omega arith) (newline-ascii b begins)

-- behind one that is two
pub boundary_behind_two : (text : List ℕ) → IsUtf8 text → starts_with nat_eq text newline ≡ true → IsCharBoundary text 2
boundary_behind_two [] is begins = absurd (cc)
boundary_behind_two (b ∷ []) is begins = let none : false ≡ true = (and_parts (nat_eq 13 b) false begins).1 in absurd (cc)
boundary_behind_two (b ∷ c ∷ rest) is begins =
    let parts = and_parts (nat_eq 13 b) (nat_eq 10 c && true) begins in
    let feed = and_parts (nat_eq 10 c) true parts.1 in
    IsCharBoundary-after_ascii (b ∷ c ∷ rest) 1 is (omega arith) (omega (arith, eqb-true 10 c feed.0))

-- ---- the cut

-- what is told of the place of the first line end
pub record EndsLine (text : List ℕ) (end : ℕ) : Type 0 where
  pub within : end < length text
  pub line : has_line_end (take end text) ≡ false
  pub ends : begins_with_line_end (drop end text) ≡ true
  pub boundary : IsCharBoundary text end

no_end : (text : List ℕ) → ((i : ℕ) → i < length text → is_newline (get_or text i 0) ≡ false) → has_line_end text ≡ false
no_end text none = list_any_none is_newline text (All-from_get_or (λ b. is_newline b ≡ false) text 0 none)

pub ends_line : (text : List ℕ) (end : ℕ) → position is_newline text ≡ Some end → EndsLine text end
ends_line text end is =
    let first = position-Some is_newline text end 0 is in
    let before = first.2 in
    let shorter : length (take end text) ≤ end = omega (arith, length-take end text) in
    record {
      within = first.0;
      line = no_end (take end text) (λ i small. let below : i < end = omega arith in rw get_or-take (before i below));
      ends = rw (drop_more text end 0 first.0) first.1;
      boundary = IsCharBoundary-before_ascii text end first.0 (newline-ascii (get_or text end 0) first.1);
    }

pub no_line_end : (text : List ℕ) → position is_newline text ≡ None → has_line_end text ≡ false
no_line_end text none = cases (nat_lt place (length text)) refl none
  where
    place : ℕ
    place = position_or_len is_newline text

    cases : (t : Bool) → nat_lt place (length text) ≡ t → cond t (Some place) None ≡ None → has_line_end text ≡ false
    cases true is found = absurd (cc)
    cases false is found = no_end text (λ i small. fails_before_first is_newline text i 0 (omega (arith, ltb-false place (length text) is)))

-- what a line end is: two bytes that are sent as they stand, or one
record EndsBy (text rest : List ℕ) : Type 0 where
  shorter : length rest < length text
  full : length rest + 2 ≤ length text → text ≡ newline ++ rest

newline_first : (text : List ℕ) → starts_with nat_eq text newline ≡ true → text ≡ newline ++ drop 2 text
newline_first [] is = absurd (cc)
newline_first (b ∷ []) is = let none : false ≡ true = (and_parts (nat_eq 13 b) false is).1 in absurd (cc)
newline_first (b ∷ c ∷ rest) is =
    let parts = and_parts (nat_eq 13 b) (nat_eq 10 c && true) is in
    let feed = and_parts (nat_eq 10 c) true parts.1 in
    rw (← eqb-true 13 b parts.0, ← eqb-true 10 c feed.0) refl

ends_by : (text : List ℕ) → begins_with_line_end text ≡ true → EndsBy text (past_line_end text)
ends_by [] begins = absurd (cc)
ends_by (b ∷ rest) begins =
    cond_both (starts_with nat_eq (b ∷ rest) newline) (drop 2 (b ∷ rest)) rest (EndsBy (b ∷ rest))
    (λ is. record { shorter = omega (arith, length-drop 1 rest); full = λ _. newline_first (b ∷ rest) is })
    (λ _. record { shorter = omega arith; full = λ long. absurd (omega (arith, long)) })

pub cuts_line : (text line rest : List ℕ) (end : ℕ) → EndsLine text end → line ≡ take end text → rest ≡ past_line_end (drop end text) → CutsLine text line rest
cuts_line text line rest end is same past =
    let parts : take end text ++ drop end text ≡ text = take-append-drop end text in
    let one : with_full_newlines text ≡ take end text ++ with_full_newlines (drop end text) =
    ap with_full_newlines (sym parts) ∙ full_line (take end text) (drop end text) is.line in
    let behind = ends_by (drop end text) is.ends in
    record {
      is_line = rw same is.line;
      sent = rw (same, past) (one ∙ (ap (λ more. take end text ++ more) (sent_past (drop end text) is.ends)
          ∙ sym (append_assoc (take end text) newline (with_full_newlines (past_line_end (drop end text))))));
      shorter = rw (same, past) (omega (arith, behind.shorter, length-take end text, length-drop end text));
      full = λ long.
          let long_behind : length (past_line_end (drop end text)) + 2 ≤ length (drop end text) =
          omega (arith, rw (same, past) at long, is.within, length-take end text, length-drop end text) in
          rw (same, past) (sym parts ∙ (ap (λ more. take end text ++ more) (behind.full long_behind)
          ∙ sym (append_assoc (take end text) newline (past_line_end (drop end text)))));
    }

-- a text with a full line end is sent as it stands, where what follows that is
pub full_behind : (text line rest : List ℕ) → CutsLine text line rest → length line + length rest + 2 ≤ length text → with_full_newlines rest ≡ rest
    → with_full_newlines text ≡ text
full_behind text line rest cut long is = cut.sent ∙ (ap (λ more. line ++ newline ++ more) is ∙ sym (cut.full long))
