-- The same for what is asked, and for the forms around an action.
use Rattle.std.proofs.Common.{◌≡◌, ℕ, Bool, true, false, List, [], ◌∷◌, ◌++◌, Option, Some, None, Result, Ok, Err, if◌then◌else◌, refl, sym, ap, ◌∙◌}
use Rattle.std.specs.Option.{option_map}
use Rattle.rule_tokens.specs.declared.refused.Bad.{Bad}
use Rattle.rule_tokens.specs.declared.refused.Bad.TheVariants.{Word as BadWord}
use Rattle.rule_tokens.specs.declared.token.Token.{Token}
use Rattle.rule_tokens.specs.Gives.{◌>>=◌, with_front}
use Rattle.rule_tokens.specs.OperandForms.{is_word, node, class_name, text, value}
use Rattle.rule_lines.specs.declared.op.Op.TheVariants as ops
use Rattle.rule_lines.specs.Grammar.{said_as, Wants, End, One, Pick, LastRow, Row}
use Rattle.rule_lines.specs.Read.{Reads, then_read_as, read}
use Rattle.rule_lines.specs.FixedWords.{spelling}
use Rattle.rule_lines.specs.declared.read_as.Kind.{Kind}
use Rattle.rule_lines.specs.declared.read_as.Kind.TheVariants as kinds
use Rattle.rule_lines.specs.declared.read_as.ReadAs.{ReadAs}
use Rattle.rule_lines.specs.declared.read_as.ReadAs.TheVariants as read_as
use Rattle.rule_lines.specs.declared.word.Word.TheVariants as words
use Rattle.rule_reader.specs.declared.form.Leaf.{Leaf}
use Rattle.rule_reader.specs.declared.form.Leaf.TheVariants as leaves
use Rattle.rule_reader.specs.AsRead.{leaf_as_read}
use Rattle.rule_reader.specs.Takes.{take_one, ended}
use Rattle.rule_reader.proofs.Same.{shows, fronts, one, the_end}
use Rattle.std.specs.Str.{bytes_eq}
use Rattle.rule_tokens.specs.OperandForms.{call_name}
use Rattle.rule_tokens.specs.declared.operand.Val.{Val}
use Rattle.rule_lines.specs.declared.ask_word.AskWord.{AskWord}
use Rattle.rule_lines.specs.declared.ask_word.AskWord.TheVariants as asks
use Rattle.rule_lines.specs.Grammar.{Inner}
use Rattle.rule_lines.specs.Read.{read_row}
use Rattle.rule_reader.specs.declared.form.Wrap.{Wrap}
use Rattle.rule_reader.specs.declared.form.Wrap.TheVariants as wraps
use Rattle.rule_reader.specs.Around.{on_of, if_of, compared}
use Rattle.rule_reader.specs.Controls.{name_for, ask_of}
use Rattle.rule_reader.specs.AsRead.{wrap_as_read, test}
use Rattle.rule_reader.specs.Takes.{behind}
use Rattle.rule_reader.proofs.Same.{assoc, after, then_some, some_one}
use Rattle.rule_lines.specs.Rows.{ask_rows}

one_some : {A B : Type 0} (action : List Token → Reads) (kind : Kind) (f : Token → Option A) (g : A → ReadAs) (more : Wants) (k : Option A × List Token
    → Result B Bad) (see : B → List ReadAs) (front : List ReadAs) → ((t : Token) → said_as kind t ≡ option_map g (f t))
    → ((a : A) (ts : List Token) → with_front (front ++ g a ∷ []) (read action more ts) ≡ shows see (k (Some a, ts))) → (ts : List Token)
    → with_front front (read action (One kind more) ts) ≡ shows see (some_one f ts >>= k)
one_some action kind f g more k see front said rest [] = refl
one_some {A = A} action kind f g more k see front said rest (t ∷ ts) =
    ap (λ (o : Option ReadAs). with_front front (then_read_as o (read action more ts))) (said t) ∙ got (f t)
  where
    got : (o : Option A) → with_front front (then_read_as (option_map g o) (read action more ts)) ≡ shows see (then_some (after o ts) >>= k)
    got None = refl
    got (Some a) = fronts front (g a) (read action more ts) ∙ rest a ts

row_take : {C B : Type 0} (front : List ReadAs) (b : Bool) (x y : Reads) (c : C) (o : Option C) (ts : List Token) (k : C × List Token → Result B Bad) (see : B
    → List ReadAs) → with_front front x ≡ shows see (k (c, ts)) → with_front front y ≡ shows see (after o ts >>= k)
    → with_front front (if b then x else y) ≡ shows see (after (if b then Some c else o) ts >>= k)
row_take front true x y c o ts k see p q = p
row_take front false x y c o ts k see p q = q

abbrev ask_after : AskWord × List Token → Result Leaf Bad
ask_after what = do
  target ← take_one node what.1
  name ← name_for what.0 target.1
  end ← ended name.1
  Ok (leaves.Both (ops.Ask what.0 target.0 name.0))

abbrev token : Bool → List ℕ → Token
token q w = record { quoted = q; text = w }

asks_first : (action : List Token → Reads) (q : Bool) (w : List ℕ) (ts : List Token)
    → with_front (read_as.Word words.Ask ∷ []) (read_row action ask_rows (token q w) ts) ≡ shows leaf_as_read (ask_of (token q w ∷ ts))
asks_first action true w ts = refl
asks_first action false w ts =
    row_take (read_as.Word words.Ask ∷ []) (bytes_eq w (spelling words.Attr)) _ _ asks.Attr _ ts ask_after leaf_as_read
    (fronts (read_as.Word words.Ask ∷ []) (read_as.Word words.Attr) _
    ∙ one action kinds.Node node read_as.Node (One kinds.Chars End) _ leaf_as_read (read_as.Word words.Ask ∷ read_as.Word words.Attr ∷ []) (λ t. refl)
    (λ target r. one_some action kinds.Chars text read_as.Chars End _ leaf_as_read
    (read_as.Word words.Ask ∷ read_as.Word words.Attr ∷ read_as.Node target ∷ []) (λ t. refl)
    (λ n r2. the_end action (read_as.Word words.Ask ∷ read_as.Word words.Attr ∷ read_as.Node target ∷ read_as.Chars n ∷ [])
    (leaves.Both (ops.Ask asks.Attr target (Some n))) leaf_as_read refl r2) r) ts)
    (row_take (read_as.Word words.Ask ∷ []) (bytes_eq w (spelling words.Parent)) _ _ asks.Parent _ ts ask_after leaf_as_read
    (fronts (read_as.Word words.Ask ∷ []) (read_as.Word words.Parent) _
    ∙ one action kinds.Node node read_as.Node End _ leaf_as_read (read_as.Word words.Ask ∷ read_as.Word words.Parent ∷ []) (λ t. refl)
    (λ target r. the_end action (read_as.Word words.Ask ∷ read_as.Word words.Parent ∷ read_as.Node target ∷ [])
    (leaves.Both (ops.Ask asks.Parent target None)) leaf_as_read refl r) ts)
    (row_take (read_as.Word words.Ask ∷ []) (bytes_eq w (spelling words.Kids)) _ _ asks.Kids _ ts ask_after leaf_as_read
    (fronts (read_as.Word words.Ask ∷ []) (read_as.Word words.Kids) _
    ∙ one action kinds.Node node read_as.Node End _ leaf_as_read (read_as.Word words.Ask ∷ read_as.Word words.Kids ∷ []) (λ t. refl)
    (λ target r. the_end action (read_as.Word words.Ask ∷ read_as.Word words.Kids ∷ read_as.Node target ∷ [])
    (leaves.Both (ops.Ask asks.Kids target None)) leaf_as_read refl r) ts)
    (row_take (read_as.Word words.Ask ∷ []) (bytes_eq w (spelling words.State)) _ _ asks.State _ ts ask_after leaf_as_read
    (fronts (read_as.Word words.Ask ∷ []) (read_as.Word words.State) _
    ∙ one action kinds.Node node read_as.Node End _ leaf_as_read (read_as.Word words.Ask ∷ read_as.Word words.State ∷ []) (λ t. refl)
    (λ target r. the_end action (read_as.Word words.Ask ∷ read_as.Word words.State ∷ read_as.Node target ∷ [])
    (leaves.Both (ops.Ask asks.State target None)) leaf_as_read refl r) ts)
    (row_take (read_as.Word words.Ask ∷ []) (bytes_eq w (spelling words.Owner)) _ _ asks.Owner _ ts ask_after leaf_as_read
    (fronts (read_as.Word words.Ask ∷ []) (read_as.Word words.Owner) _
    ∙ one action kinds.Node node read_as.Node End _ leaf_as_read (read_as.Word words.Ask ∷ read_as.Word words.Owner ∷ []) (λ t. refl)
    (λ target r. the_end action (read_as.Word words.Ask ∷ read_as.Word words.Owner ∷ read_as.Node target ∷ [])
    (leaves.Both (ops.Ask asks.Owner target None)) leaf_as_read refl r) ts)
    (row_take (read_as.Word words.Ask ∷ []) (bytes_eq w (spelling words.Controls)) _ _ asks.Controls _ ts ask_after leaf_as_read
    (fronts (read_as.Word words.Ask ∷ []) (read_as.Word words.Controls) _
    ∙ one action kinds.Node node read_as.Node End _ leaf_as_read (read_as.Word words.Ask ∷ read_as.Word words.Controls ∷ []) (λ t. refl)
    (λ target r. the_end action (read_as.Word words.Ask ∷ read_as.Word words.Controls ∷ read_as.Node target ∷ [])
    (leaves.Both (ops.Ask asks.Controls target None)) leaf_as_read refl r) ts)
    (row_take (read_as.Word words.Ask ∷ []) (bytes_eq w (spelling words.Disabled)) _ _ asks.Disabled _ ts ask_after leaf_as_read
    (fronts (read_as.Word words.Ask ∷ []) (read_as.Word words.Disabled) _
    ∙ one action kinds.Node node read_as.Node End _ leaf_as_read (read_as.Word words.Ask ∷ read_as.Word words.Disabled ∷ []) (λ t. refl)
    (λ target r. the_end action (read_as.Word words.Ask ∷ read_as.Word words.Disabled ∷ read_as.Node target ∷ [])
    (leaves.Both (ops.Ask asks.Disabled target None)) leaf_as_read refl r) ts)
    (row_take (read_as.Word words.Ask ∷ []) (bytes_eq w (spelling words.Candidate)) _ _ asks.Candidate _ ts ask_after leaf_as_read
    (fronts (read_as.Word words.Ask ∷ []) (read_as.Word words.Candidate) _
    ∙ one action kinds.Node node read_as.Node End _ leaf_as_read (read_as.Word words.Ask ∷ read_as.Word words.Candidate ∷ []) (λ t. refl)
    (λ target r. the_end action (read_as.Word words.Ask ∷ read_as.Word words.Candidate ∷ read_as.Node target ∷ [])
    (leaves.Both (ops.Ask asks.Candidate target None)) leaf_as_read refl r) ts)
    (row_take (read_as.Word words.Ask ∷ []) (bytes_eq w (spelling words.Valid)) _ _ asks.Valid _ ts ask_after leaf_as_read
    (fronts (read_as.Word words.Ask ∷ []) (read_as.Word words.Valid) _
    ∙ one action kinds.Node node read_as.Node End _ leaf_as_read (read_as.Word words.Ask ∷ read_as.Word words.Valid ∷ []) (λ t. refl)
    (λ target r. the_end action (read_as.Word words.Ask ∷ read_as.Word words.Valid ∷ read_as.Node target ∷ [])
    (leaves.Both (ops.Ask asks.Valid target None)) leaf_as_read refl r) ts)
    (row_take (read_as.Word words.Ask ∷ []) (bytes_eq w (spelling words.Message)) _ _ asks.Message _ ts ask_after leaf_as_read
    (fronts (read_as.Word words.Ask ∷ []) (read_as.Word words.Message) _
    ∙ one action kinds.Node node read_as.Node End _ leaf_as_read (read_as.Word words.Ask ∷ read_as.Word words.Message ∷ []) (λ t. refl)
    (λ target r. the_end action (read_as.Word words.Ask ∷ read_as.Word words.Message ∷ read_as.Node target ∷ [])
    (leaves.Both (ops.Ask asks.Message target None)) leaf_as_read refl r) ts)
    (row_take (read_as.Word words.Ask ∷ []) (bytes_eq w (spelling words.Value)) _ _ asks.Value _ ts ask_after leaf_as_read
    (fronts (read_as.Word words.Ask ∷ []) (read_as.Word words.Value) _
    ∙ one action kinds.Node node read_as.Node End _ leaf_as_read (read_as.Word words.Ask ∷ read_as.Word words.Value ∷ []) (λ t. refl)
    (λ target r. the_end action (read_as.Word words.Ask ∷ read_as.Word words.Value ∷ read_as.Node target ∷ [])
    (leaves.Both (ops.Ask asks.Value target None)) leaf_as_read refl r) ts)
    (row_take (read_as.Word words.Ask ∷ []) (bytes_eq w (spelling words.Saved)) _ _ asks.Saved _ ts ask_after leaf_as_read
    (fronts (read_as.Word words.Ask ∷ []) (read_as.Word words.Saved) _
    ∙ one action kinds.Node node read_as.Node End _ leaf_as_read (read_as.Word words.Ask ∷ read_as.Word words.Saved ∷ []) (λ t. refl)
    (λ target r. the_end action (read_as.Word words.Ask ∷ read_as.Word words.Saved ∷ read_as.Node target ∷ [])
    (leaves.Both (ops.Ask asks.Saved target None)) leaf_as_read refl r) ts)
    (row_take (read_as.Word words.Ask ∷ []) (bytes_eq w (spelling words.Checked)) _ _ asks.Checked _ ts ask_after leaf_as_read
    (fronts (read_as.Word words.Ask ∷ []) (read_as.Word words.Checked) _
    ∙ one action kinds.Node node read_as.Node End _ leaf_as_read (read_as.Word words.Ask ∷ read_as.Word words.Checked ∷ []) (λ t. refl)
    (λ target r. the_end action (read_as.Word words.Ask ∷ read_as.Word words.Checked ∷ read_as.Node target ∷ [])
    (leaves.Both (ops.Ask asks.Checked target None)) leaf_as_read refl r) ts)
    (row_take (read_as.Word words.Ask ∷ []) (bytes_eq w (spelling words.States)) _ _ asks.States _ ts ask_after leaf_as_read
    (fronts (read_as.Word words.Ask ∷ []) (read_as.Word words.States) _
    ∙ one action kinds.Node node read_as.Node End _ leaf_as_read (read_as.Word words.Ask ∷ read_as.Word words.States ∷ []) (λ t. refl)
    (λ target r. the_end action (read_as.Word words.Ask ∷ read_as.Word words.States ∷ read_as.Node target ∷ [])
    (leaves.Both (ops.Ask asks.States target None)) leaf_as_read refl r) ts) (refl))))))))))))))

pub same_ask : (action : List Token → Reads) (ts : List Token)
    → with_front (read_as.Word words.Ask ∷ []) (read action (Pick ask_rows) ts) ≡ shows leaf_as_read (ask_of ts)
same_ask action [] = refl
same_ask action (t ∷ ts) = asks_first action t.quoted t.text ts

-- ---- around an action

one_then : {A B : Type 0} (action : List Token → Reads) (kind : Kind) (f : Token → Option A) (g : A → ReadAs) (more : Wants) (k : A × List Token
    → Result B Bad) (l : B → Reads) (front : List ReadAs) → ((t : Token) → said_as kind t ≡ option_map g (f t))
    → ((a : A) (ts : List Token) → with_front (front ++ g a ∷ []) (read action more ts) ≡ (k (a, ts) >>= l)) → (ts : List Token)
    → with_front front (read action (One kind more) ts) ≡ ((take_one f ts >>= k) >>= l)
one_then action kind f g more k l front said rest [] = refl
one_then {A = A} action kind f g more k l front said rest (t ∷ ts) =
    ap (λ (o : Option ReadAs). with_front front (then_read_as o (read action more ts))) (said t) ∙ got (f t)
  where
    got : (o : Option A) → with_front front (then_read_as (option_map g o) (read action more ts)) ≡ ((after o ts >>= k) >>= l)
    got None = refl
    got (Some a) = fronts front (g a) (read action more ts) ∙ rest a ts

abbrev pub then_action : (List Token → Reads) → Wrap × List Token → Reads
then_action action w = with_front (wrap_as_read w.0) (action w.1)

abbrev colon_wants : Wants
colon_wants = Pick (LastRow words.Colon Inner)

abbrev with_rest : Wrap → Result (List Token) Bad → Result (Wrap × List Token) Bad
with_rest x read = read >>= λ rest. Ok (x, rest)

colon : (action : List Token → Reads) (front : List ReadAs) (x : Wrap) → front ++ read_as.Word words.Colon ∷ [] ≡ wrap_as_read x → (ts : List Token)
    → with_front front (read action colon_wants ts) ≡ (with_rest x (behind (spelling words.Colon) ts) >>= then_action action)
colon action front x is [] = refl
colon action front x is (t ∷ ts) = stands (is_word (spelling words.Colon) t)
  where
    stands : (b : Bool) → with_front front (if b then with_front (read_as.Word words.Colon ∷ []) (action ts) else Err BadWord)
        ≡ (with_rest x (if b then Ok ts else Err BadWord) >>= then_action action)
    stands true = fronts front (read_as.Word words.Colon) (action ts) ∙ ap (λ (f : List ReadAs). with_front f (action ts)) is
    stands false = refl

pub same_on : (action : List Token → Reads) (ts : List Token)
    → with_front (read_as.Word words.On ∷ []) (read action (One kinds.Class (One kinds.Callback colon_wants)) ts) ≡ (on_of ts >>= then_action action)
same_on action ts = one_then action kinds.Class class_name read_as.Class (One kinds.Callback colon_wants) _ (then_action action) (read_as.Word words.On ∷ [])
    (λ t. refl) (λ class r. one_then action kinds.Callback call_name read_as.Callback colon_wants _ (then_action action)
    (read_as.Word words.On ∷ read_as.Class class ∷ []) (λ t. refl)
    (λ call r2. colon action (read_as.Word words.On ∷ read_as.Class class ∷ read_as.Callback call ∷ []) (wraps.On class call) refl r2) r) ts

abbrev compared_wants : Wants
compared_wants = One kinds.Value (One kinds.Value colon_wants)

abbrev if_after : (Bool × Val × Val) × List Token → Result (Wrap × List Token) Bad
if_after test = behind (spelling words.Colon) test.1 >>= λ rest. Ok (wraps.If test.0.0 test.0.1 test.0.2, rest)

abbrev values_of : Bool → Val → Val → List Token → Result ((Bool × Val × Val) × List Token) Bad
values_of equal left right rest = Ok ((equal, left, right), rest)

abbrev compared_after : Bool × List Token → Result ((Bool × Val × Val) × List Token) Bad
compared_after equal = do
  left ← take_one value equal.1
  right ← take_one value left.1
  values_of equal.0 left.0 right.0 right.1

pub two_values : (action : List Token → Reads) (equal : Bool) (ts : List Token)
    → with_front (read_as.Word words.If ∷ read_as.Word (test equal) ∷ []) (read action compared_wants ts)
    ≡ ((take_one value ts >>= λ left. take_one value left.1 >>= λ right. values_of equal left.0 right.0 right.1) >>= λ test. if_after test
    >>= then_action action)
two_values action equal ts = one_then action kinds.Value value read_as.Value (One kinds.Value colon_wants) _ (λ test. if_after test >>= then_action action)
    (read_as.Word words.If ∷ read_as.Word (test equal) ∷ []) (λ t. refl)
    (λ left r. one_then action kinds.Value value read_as.Value colon_wants _ (λ test. if_after test >>= then_action action)
    (read_as.Word words.If ∷ read_as.Word (test equal) ∷ read_as.Value left ∷ []) (λ t. refl)
    (λ right r2. colon action (read_as.Word words.If ∷ read_as.Word (test equal) ∷ read_as.Value left ∷ read_as.Value right ∷ [])
    (wraps.If equal left right) refl r2) r) ts

if_first : (action : List Token → Reads) (a b : Bool) (ts : List Token)
    → with_front (read_as.Word words.If ∷ [])
    (if a then with_front (read_as.Word words.Eq ∷ [])
    (read action compared_wants ts) else (if b then with_front (read_as.Word words.Ne ∷ []) (read action compared_wants ts) else Err BadWord))
    ≡ ((after (if a then Some true else (if b then Some false else None)) ts >>= compared_after) >>= λ test. if_after test >>= then_action action)
if_first action true b ts = fronts (read_as.Word words.If ∷ []) (read_as.Word words.Eq) (read action compared_wants ts) ∙ two_values action true ts
if_first action false true ts = fronts (read_as.Word words.If ∷ []) (read_as.Word words.Ne) (read action compared_wants ts) ∙ two_values action false ts
if_first action false false ts = refl

pub same_if : (action : List Token → Reads) (ts : List Token)
    → with_front (read_as.Word words.If ∷ []) (read action (Pick (Row words.Eq compared_wants (LastRow words.Ne compared_wants))) ts)
    ≡ (if_of ts >>= then_action action)
same_if action [] = refl
same_if action (t ∷ ts) = if_first action (is_word (spelling words.Eq) t) (is_word (spelling words.Ne) t) ts
    ∙ sym (assoc (compared (t ∷ ts)) if_after (then_action action))
