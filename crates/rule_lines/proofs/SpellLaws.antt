-- What is read is spelled, and what is spelled is read.
use Rattle.std.proofs.Common.{◌≡◌, ◌<◌, ℕ, zero, suc, length, arith, Bool, true, false, cond, List, [], ◌∷◌, Option, Some, None, Ok, Err, refl, ap, subst, ◌∙◌}
use Rattle.rule_tokens.specs.declared.refused.Bad.TheVariants.{Arity}
use Rattle.rule_tokens.specs.declared.token.Token.{Token}
use Rattle.rule_tokens.specs.Gives.{with_front}
use Rattle.rule_tokens.specs.OperandForms.{is_word}
use Rattle.rule_lines.specs.declared.read_as.Kind.{Kind}
use Rattle.rule_lines.specs.declared.read_as.ReadAs.{ReadAs}
use Rattle.rule_lines.specs.declared.read_as.ReadAs.TheVariants as read_as
use Rattle.rule_lines.specs.FixedWords.{keyword, spelling}
use Rattle.rule_lines.specs.Grammar.{said_as, Key, Wants, End, One, Pick, Keys, Maybe, Many, Pairs, Inner, Rows, LastRow, Row}
use Rattle.rule_lines.specs.Read.{Reads, then_read_as, no_keys, behind_key, read_keys, read_maybe, read_many, read_pairs, read, read_row, read_within}
use Rattle.rule_lines.specs.Read.{read_tokens}
use Rattle.rule_lines.specs.Rows.{forms}
use Rattle.rule_lines.specs.Whole.{either}
use Rattle.rule_lines.specs.Spells.{Spelling, SpellNothing, SpellOne, SpellMarked, SpellBehind, SpellKeys, SpellMaybe, SpellMany, SpellPairs, Spell, SpellRow}
use Rattle.rule_lines.specs.Spells.{SpellWithin, Spelled}
use Rattle.rule_lines.proofs.ReadLaws.{fewer}

abbrev went : List ReadAs → Reads
went gs = Ok gs

-- ---- what is read is spelled

nothing_spelled : (gs : List ReadAs) → went [] ≡ Ok gs → SpellNothing [] gs
nothing_spelled [] e = tt
nothing_spelled (g ∷ gs) e = absurd cc

marked_spelled : (mark : ReadAs) (Rest : Spelling) (ts : List Token) (r : Reads) (gs : List ReadAs) → ((hs : List ReadAs) → r ≡ Ok hs → Rest ts hs)
    → with_front (mark ∷ []) r ≡ Ok gs → SpellMarked mark Rest ts gs
marked_spelled mark Rest ts (Err b) gs rest e = absurd cc
marked_spelled mark Rest ts (Ok hs) [] rest e = absurd cc
marked_spelled mark Rest ts (Ok hs) (g ∷ gs) rest e = let first : mark ≡ g = cc in let more : hs ≡ gs = cc in (first, subst (Rest ts) more (rest hs refl))

one_spelled : (kind : Kind) (Rest : Spelling) (t : Token) (ts : List Token) (r : Reads) (gs : List ReadAs) → ((hs : List ReadAs) → r ≡ Ok hs → Rest ts hs)
    → then_read_as (said_as kind t) r ≡ Ok gs → SpellOne kind Rest (t ∷ ts) gs
one_spelled kind Rest t ts r gs rest e = by (said_as kind t) refl r gs rest e
  where
    by : (o : Option ReadAs) → said_as kind t ≡ o → (r : Reads) (gs : List ReadAs) → ((hs : List ReadAs) → r ≡ Ok hs → Rest ts hs) → then_read_as o r ≡ Ok gs
        → SpellOne kind Rest (t ∷ ts) gs
    by None is r gs rest e = absurd cc
    by (Some g) is (Err b) gs rest e = absurd cc
    by (Some g) is (Ok hs) [] rest e = absurd cc
    by (Some g) is (Ok hs) (h ∷ gs) rest e = let first : g ≡ h = cc in let more : hs ≡ gs = cc in (is ∙ ap Some first, subst (Rest ts) more (rest hs refl))

behind_spelled : (operand : Option Kind) (Rest : Spelling) (action : List Token → Reads) (ts : List Token) (gs : List ReadAs)
    → ((us : List Token) (hs : List ReadAs) → action us ≡ Ok hs → Rest us hs) → behind_key operand action ts ≡ Ok gs → SpellBehind operand Rest ts gs
behind_spelled None Rest action ts gs rest e = marked_spelled read_as.There Rest ts (action ts) gs (rest ts) e
behind_spelled (Some kind) Rest action [] gs rest e = absurd cc
behind_spelled (Some kind) Rest action (t ∷ ts) gs rest e = one_spelled kind Rest t ts (action ts) gs (rest ts) e

either_spelled : (b : Bool) (X Y : Type 0) (r s : Reads) (gs : List ReadAs) → (r ≡ Ok gs → X) → (s ≡ Ok gs → Y) → cond b r s ≡ Ok gs → either b X Y
either_spelled true X Y r s gs one two e = one e
either_spelled false X Y r s gs one two e = two e

none_spelled : (keys : List Key) (gs : List ReadAs) → went (no_keys keys) ≡ Ok gs → SpellKeys keys [] gs
none_spelled [] gs e = nothing_spelled gs e
none_spelled (key ∷ keys) gs e = marked_spelled read_as.NotThere (SpellKeys keys) [] (Ok (no_keys keys)) gs (λ hs same. none_spelled keys hs same) e

keys_spelled : (keys : List Key) (ts : List Token) (gs : List ReadAs) → read_keys keys ts ≡ Ok gs → SpellKeys keys ts gs
keys_spelled [] [] gs e = nothing_spelled gs e
keys_spelled [] (t ∷ ts) gs e = absurd cc
keys_spelled (key ∷ keys) [] gs e = none_spelled (key ∷ keys) gs e
keys_spelled (key ∷ keys) (t ∷ ts) gs e = either_spelled (is_word (keyword key.word) t) _ _ _ _ gs
    (λ e. behind_spelled key.operand (SpellKeys keys) (read_keys keys) ts gs (λ us hs same. keys_spelled keys us hs same) e)
    (λ e. marked_spelled read_as.NotThere (SpellKeys keys) (t ∷ ts) (read_keys keys (t ∷ ts)) gs (λ hs same. keys_spelled keys (t ∷ ts) hs same) e) e

maybe_spelled : (kind : Kind) (ts : List Token) (gs : List ReadAs) → read_maybe kind ts ≡ Ok gs → SpellMaybe kind ts gs
maybe_spelled kind [] gs e = marked_spelled read_as.NotThere SpellNothing [] (Ok []) gs (λ hs same. nothing_spelled hs same) e
maybe_spelled kind (t ∷ []) gs e = one_spelled kind SpellNothing t [] (Ok []) gs (λ hs same. nothing_spelled hs same) e
maybe_spelled kind (t ∷ u ∷ ts) gs e = one_spelled kind SpellNothing t (u ∷ ts) (Err Arity) gs (λ hs same. absurd cc) e

many_spelled : (n : ℕ) (kind : Kind) (ts : List Token) (gs : List ReadAs) → read_many n kind ts ≡ Ok gs → SpellMany n kind ts gs
many_spelled zero kind [] gs e = nothing_spelled gs e
many_spelled (suc n) kind [] gs e = nothing_spelled gs e
many_spelled zero kind (t ∷ ts) gs e = absurd cc
many_spelled (suc n) kind (t ∷ ts) gs e = one_spelled kind (SpellMany n kind) t ts (read_many n kind ts) gs (λ hs same. many_spelled n kind ts hs same) e

pairs_spelled : (n : ℕ) (kind : Kind) (ts : List Token) (gs : List ReadAs) → read_pairs n kind ts ≡ Ok gs → SpellPairs n kind ts gs
pairs_spelled zero kind [] gs e = nothing_spelled gs e
pairs_spelled (suc n) kind [] gs e = nothing_spelled gs e
pairs_spelled zero kind (t ∷ ts) gs e = absurd cc
pairs_spelled (suc n) kind (t ∷ []) gs e = one_spelled kind (SpellOne kind (SpellPairs n kind)) t [] (Err Arity) gs (λ hs same. absurd cc) e
pairs_spelled (suc n) kind (t ∷ u ∷ ts) gs e =
    one_spelled kind (SpellOne kind (SpellPairs n kind)) t (u ∷ ts) (then_read_as (said_as kind u) (read_pairs n kind ts)) gs
    (λ hs same. one_spelled kind (SpellPairs n kind) u ts (read_pairs n kind ts) hs (λ is more. pairs_spelled n kind ts is more) same) e

mutual
  wants_spelled : (Action : Spelling) (action : List Token → Reads) → ((us : List Token) (hs : List ReadAs) → action us ≡ Ok hs → Action us hs)
      → (wants : Wants) (ts : List Token) (gs : List ReadAs) → read action wants ts ≡ Ok gs → Spell Action wants ts gs
  wants_spelled Action action is End [] gs e = nothing_spelled gs e
  wants_spelled Action action is End (t ∷ ts) gs e = absurd cc
  wants_spelled Action action is (One kind more) [] gs e = absurd cc
  wants_spelled Action action is (One kind more) (t ∷ ts) gs e =
      one_spelled kind (Spell Action more) t ts (read action more ts) gs (λ hs same. wants_spelled Action action is more ts hs same) e
  wants_spelled Action action is (Pick rows) [] gs e = absurd cc
  wants_spelled Action action is (Pick rows) (t ∷ ts) gs e = row_spelled Action action is rows t ts gs e
  wants_spelled Action action is (Keys keys) ts gs e = keys_spelled keys ts gs e
  wants_spelled Action action is (Maybe kind) ts gs e = maybe_spelled kind ts gs e
  wants_spelled Action action is (Many n kind) ts gs e = many_spelled n kind ts gs e
  wants_spelled Action action is (Pairs n kind) ts gs e = pairs_spelled n kind ts gs e
  wants_spelled Action action is Inner ts gs e = is ts gs e

  row_spelled : (Action : Spelling) (action : List Token → Reads) → ((us : List Token) (hs : List ReadAs) → action us ≡ Ok hs → Action us hs)
      → (rows : Rows) (t : Token) (ts : List Token) (gs : List ReadAs) → read_row action rows t ts ≡ Ok gs → SpellRow Action rows t ts gs
  row_spelled Action action is (LastRow word wants) t ts gs e = either_spelled (is_word (spelling word) t) _ _ _ _ gs
      (λ e. marked_spelled (read_as.Word word) (Spell Action wants) ts (read action wants ts) gs (λ hs same. wants_spelled Action action is wants ts hs same) e)
      (λ e. absurd cc) e
  row_spelled Action action is (Row word wants rows) t ts gs e = either_spelled (is_word (spelling word) t) _ _ _ _ gs
      (λ e. marked_spelled (read_as.Word word) (Spell Action wants) ts (read action wants ts) gs (λ hs same. wants_spelled Action action is wants ts hs same) e)
      (λ e. row_spelled Action action is rows t ts gs e) e

within_spelled : (n : ℕ) (ts : List Token) (gs : List ReadAs) → read_within n ts ≡ Ok gs → SpellWithin n ts gs
within_spelled zero ts gs e = absurd cc
within_spelled (suc n) ts gs e = wants_spelled (SpellWithin n) (read_within n) (λ us hs same. within_spelled n us hs same) (Pick forms) ts gs e

pub read_is_spelled : (ts : List Token) (gs : List ReadAs) → read_tokens ts ≡ Ok gs → Spelled ts gs
read_is_spelled ts gs e = (suc (length ts), within_spelled (suc (length ts)) ts gs e)

-- ---- what is spelled is read

nothing_read : (gs : List ReadAs) → SpellNothing [] gs → went [] ≡ Ok gs
nothing_read [] spelled = refl
nothing_read (g ∷ gs) spelled = absurd spelled

marked_read : (mark : ReadAs) (Rest : Spelling) (ts : List Token) (r : Reads) (gs : List ReadAs) → ((hs : List ReadAs) → Rest ts hs → r ≡ Ok hs)
    → SpellMarked mark Rest ts gs → with_front (mark ∷ []) r ≡ Ok gs
marked_read mark Rest ts r [] rest spelled = absurd spelled
marked_read mark Rest ts r (g ∷ gs) rest spelled = rw (rest gs spelled.1) (ap (λ (x : ReadAs). went (x ∷ gs)) spelled.0)

one_read : (kind : Kind) (Rest : Spelling) (t : Token) (ts : List Token) (r : Reads) (gs : List ReadAs) → ((hs : List ReadAs) → Rest ts hs → r ≡ Ok hs)
    → SpellOne kind Rest (t ∷ ts) gs → then_read_as (said_as kind t) r ≡ Ok gs
one_read kind Rest t ts r [] rest spelled = absurd spelled
one_read kind Rest t ts r (g ∷ gs) rest spelled = rw (spelled.0, rest gs spelled.1) refl

behind_read : (operand : Option Kind) (Rest : Spelling) (action : List Token → Reads) (ts : List Token) (gs : List ReadAs)
    → ((us : List Token) (hs : List ReadAs) → Rest us hs → action us ≡ Ok hs) → SpellBehind operand Rest ts gs → behind_key operand action ts ≡ Ok gs
behind_read None Rest action ts gs rest spelled = marked_read read_as.There Rest ts (action ts) gs (rest ts) spelled
behind_read (Some kind) Rest action [] gs rest spelled = absurd spelled
behind_read (Some kind) Rest action (t ∷ ts) gs rest spelled = one_read kind Rest t ts (action ts) gs (rest ts) spelled

either_read : (b : Bool) (X Y : Type 0) (r s : Reads) (gs : List ReadAs) → (X → r ≡ Ok gs) → (Y → s ≡ Ok gs) → either b X Y → cond b r s ≡ Ok gs
either_read true X Y r s gs one two spelled = one spelled
either_read false X Y r s gs one two spelled = two spelled

none_read : (keys : List Key) (gs : List ReadAs) → SpellKeys keys [] gs → went (no_keys keys) ≡ Ok gs
none_read [] gs spelled = nothing_read gs spelled
none_read (key ∷ keys) gs spelled = marked_read read_as.NotThere (SpellKeys keys) [] (Ok (no_keys keys)) gs (λ hs more. none_read keys hs more) spelled

keys_read : (keys : List Key) (ts : List Token) (gs : List ReadAs) → SpellKeys keys ts gs → read_keys keys ts ≡ Ok gs
keys_read [] [] gs spelled = nothing_read gs spelled
keys_read [] (t ∷ ts) gs spelled = absurd spelled
keys_read (key ∷ keys) [] gs spelled = none_read (key ∷ keys) gs spelled
keys_read (key ∷ keys) (t ∷ ts) gs spelled = either_read (is_word (keyword key.word) t) _ _ _ _ gs
    (λ by. behind_read key.operand (SpellKeys keys) (read_keys keys) ts gs (λ us hs more. keys_read keys us hs more) by)
    (λ by. marked_read read_as.NotThere (SpellKeys keys) (t ∷ ts) (read_keys keys (t ∷ ts)) gs (λ hs more. keys_read keys (t ∷ ts) hs more) by) spelled

maybe_read : (kind : Kind) (ts : List Token) (gs : List ReadAs) → SpellMaybe kind ts gs → read_maybe kind ts ≡ Ok gs
maybe_read kind [] gs spelled = marked_read read_as.NotThere SpellNothing [] (Ok []) gs (λ hs more. nothing_read hs more) spelled
maybe_read kind (t ∷ []) gs spelled = one_read kind SpellNothing t [] (Ok []) gs (λ hs more. nothing_read hs more) spelled
maybe_read kind (t ∷ u ∷ ts) gs spelled = one_read kind SpellNothing t (u ∷ ts) (Err Arity) gs (λ hs more. absurd more) spelled

many_read : (n : ℕ) (kind : Kind) (ts : List Token) (gs : List ReadAs) → SpellMany n kind ts gs → read_many n kind ts ≡ Ok gs
many_read zero kind [] gs spelled = nothing_read gs spelled
many_read (suc n) kind [] gs spelled = nothing_read gs spelled
many_read zero kind (t ∷ ts) gs spelled = absurd spelled
many_read (suc n) kind (t ∷ ts) gs spelled = one_read kind (SpellMany n kind) t ts (read_many n kind ts) gs (λ hs more. many_read n kind ts hs more) spelled

pairs_read : (n : ℕ) (kind : Kind) (ts : List Token) (gs : List ReadAs) → SpellPairs n kind ts gs → read_pairs n kind ts ≡ Ok gs
pairs_read zero kind [] gs spelled = nothing_read gs spelled
pairs_read (suc n) kind [] gs spelled = nothing_read gs spelled
pairs_read zero kind (t ∷ ts) gs spelled = absurd spelled
pairs_read (suc n) kind (t ∷ []) gs spelled = one_read kind (SpellOne kind (SpellPairs n kind)) t [] (Err Arity) gs (λ hs more. absurd more) spelled
pairs_read (suc n) kind (t ∷ u ∷ ts) gs spelled =
    one_read kind (SpellOne kind (SpellPairs n kind)) t (u ∷ ts) (then_read_as (said_as kind u) (read_pairs n kind ts)) gs
    (λ hs more. one_read kind (SpellPairs n kind) u ts (read_pairs n kind ts) hs (λ is rest. pairs_read n kind ts is rest) more) spelled

-- an action of fewer than so many tokens that is spelled is read
abbrev ReadsBelow : ℕ → Spelling → (List Token → Reads) → Type 0
ReadsBelow n Action action = (us : List Token) (hs : List ReadAs) → length us < n → Action us hs → action us ≡ Ok hs

mutual
  wants_read : (Action : Spelling) (action : List Token → Reads) (n : ℕ) → ReadsBelow n Action action → (wants : Wants) (ts : List Token) (gs : List ReadAs)
      → length ts < n → Spell Action wants ts gs → read action wants ts ≡ Ok gs
  wants_read Action action n is End [] gs small spelled = nothing_read gs spelled
  wants_read Action action n is End (t ∷ ts) gs small spelled = absurd spelled
  wants_read Action action n is (One kind more) [] gs small spelled = absurd spelled
  wants_read Action action n is (One kind more) (t ∷ ts) gs small spelled =
      one_read kind (Spell Action more) t ts (read action more ts) gs (λ hs rest. wants_read Action action n is more ts hs (fewer t ts n small) rest) spelled
  wants_read Action action n is (Pick rows) [] gs small spelled = absurd spelled
  wants_read Action action n is (Pick rows) (t ∷ ts) gs small spelled = row_read Action action n is rows t ts gs (fewer t ts n small) spelled
  wants_read Action action n is (Keys keys) ts gs small spelled = keys_read keys ts gs spelled
  wants_read Action action n is (Maybe kind) ts gs small spelled = maybe_read kind ts gs spelled
  wants_read Action action n is (Many k kind) ts gs small spelled = many_read k kind ts gs spelled
  wants_read Action action n is (Pairs k kind) ts gs small spelled = pairs_read k kind ts gs spelled
  wants_read Action action n is Inner ts gs small spelled = is ts gs small spelled

  row_read : (Action : Spelling) (action : List Token → Reads) (n : ℕ) → ReadsBelow n Action action
      → (rows : Rows) (t : Token) (ts : List Token) (gs : List ReadAs) → length ts < n → SpellRow Action rows t ts gs → read_row action rows t ts ≡ Ok gs
  row_read Action action n is (LastRow word wants) t ts gs small spelled = either_read (is_word (spelling word) t) _ _ _ _ gs
      (λ by. marked_read (read_as.Word word) (Spell Action wants) ts (read action wants ts) gs
      (λ hs rest. wants_read Action action n is wants ts hs small rest) by) (λ by. absurd by) spelled
  row_read Action action n is (Row word wants rows) t ts gs small spelled = either_read (is_word (spelling word) t) _ _ _ _ gs
      (λ by. marked_read (read_as.Word word) (Spell Action wants) ts (read action wants ts) gs
      (λ hs rest. wants_read Action action n is wants ts hs small rest) by)
      (λ by. row_read Action action n is rows t ts gs small by) spelled

within_read : (depth n : ℕ) (ts : List Token) (gs : List ReadAs) → length ts < n → SpellWithin depth ts gs → read_within n ts ≡ Ok gs
within_read zero n ts gs small spelled = absurd spelled
within_read (suc depth) zero ts gs small spelled = absurd (omega (arith, small))
within_read (suc depth) (suc n) [] gs small spelled = absurd spelled
within_read (suc depth) (suc n) (t ∷ ts) gs small spelled =
    row_read (SpellWithin depth) (read_within n) n (λ us hs few inner. within_read depth n us hs few inner) forms t ts gs (omega (arith, small)) spelled

pub spelled_is_read : (ts : List Token) (gs : List ReadAs) → Spelled ts gs → read_tokens ts ≡ Ok gs
spelled_is_read ts gs (depth, spelled) = within_read depth (suc (length ts)) ts gs (omega arith) spelled
