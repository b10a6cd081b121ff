-- What the table of forms gives is what the forms give.
use Rattle.std.proofs.Common.{◌≡◌, Bool, true, false, List, [], ◌∷◌, ◌++◌, Option, Some, None, Result, Ok, Err, if◌then◌else◌, refl, sym, ap, ◌∙◌}
use Rattle.std.proofs.lemmas.List.{append-nil}
use Rattle.std.specs.Option.{option_map}
use Rattle.rule_tokens.specs.declared.refused.Bad.{Bad}
use Rattle.rule_tokens.specs.declared.refused.Bad.TheVariants.{Word as BadWord, Arity}
use Rattle.rule_tokens.specs.declared.operand.Operand.{Operand}
use Rattle.rule_tokens.specs.declared.token.Token.{Token}
use Rattle.rule_tokens.specs.Gives.{◌>>=◌, with_front, or_word}
use Rattle.rule_tokens.specs.OperandForms.{is_word, node}
use Rattle.rule_tokens.proofs.CutLaws.{with_more}
use Rattle.rule_lines.specs.Grammar.{said_as, Key, Wants, End, One, Pick, Maybe, LastRow, Row}
use Rattle.rule_lines.specs.Read.{Reads, then_read_as, no_keys, behind_key, read_keys, read}
use Rattle.rule_lines.specs.FixedWords.{keyword, spelling}
use Rattle.rule_lines.specs.declared.read_as.Kind.{Kind}
use Rattle.rule_lines.specs.declared.read_as.Kind.TheVariants as kinds
use Rattle.rule_lines.specs.declared.read_as.ReadAs.{ReadAs}
use Rattle.rule_lines.specs.declared.read_as.ReadAs.TheVariants as read_as
use Rattle.rule_lines.specs.declared.keyword.Keyword.{Keyword}
use Rattle.rule_lines.specs.declared.word.Word.TheVariants as words
use Rattle.rule_reader.specs.AsRead.{part, mark, switch}
use Rattle.rule_reader.specs.Shapes.{only, only_behind, two}
use Rattle.rule_reader.specs.Takes.{take_one, optional, marked, maybe, on_off, ended}

-- what was read, seen as a list
abbrev pub shows : {A : Type 0} → (A → List ReadAs) → Result A Bad → Reads
shows see read = read >>= λ x. Ok (see x)

pub fronts : (front : List ReadAs) (g : ReadAs) (read : Reads) → with_front front (with_front (g ∷ []) read) ≡ with_front (front ++ g ∷ []) read
fronts front g read = with_more front (g ∷ []) read

one_read_as : {A B : Type 0} (o : Option A) (g : A → ReadAs) (front : List ReadAs) (others : Reads) (ts : List Token) (k : A × List Token → Result B Bad)
    (see : B → List ReadAs) → ((a : A) → with_front (front ++ g a ∷ []) others ≡ shows see (k (a, ts)))
    → with_front front (then_read_as (option_map g o) others) ≡ shows see ((or_word o >>= λ a. Ok (a, ts)) >>= k)
one_read_as None g front others ts k see rest = refl
one_read_as (Some a) g front others ts k see rest = fronts front (g a) others ∙ rest a

pub one : {A B : Type 0} (action : List Token → Reads) (kind : Kind) (f : Token → Option A) (g : A → ReadAs) (more : Wants) (k : A × List Token → Result B Bad)
    (see : B → List ReadAs) (front : List ReadAs) → ((t : Token) → said_as kind t ≡ option_map g (f t))
    → ((a : A) (ts : List Token) → with_front (front ++ g a ∷ []) (read action more ts) ≡ shows see (k (a, ts))) → (ts : List Token)
    → with_front front (read action (One kind more) ts) ≡ shows see (take_one f ts >>= k)
one action kind f g more k see front said rest [] = refl
one action kind f g more k see front said rest (t ∷ ts) =
    ap (λ (o : Option ReadAs). with_front front (then_read_as o (read action more ts))) (said t)
    ∙ one_read_as (f t) g front (read action more ts) ts k see (λ a. rest a ts)

pub the_end : {B : Type 0} (action : List Token → Reads) (front : List ReadAs) (x : B) (see : B → List ReadAs) → front ++ [] ≡ see x → (ts : List Token)
    → with_front front (read action End ts) ≡ shows see (ended ts >>= λ e. Ok x)
the_end action front x see is [] = ap Ok is
the_end action front x see is (t ∷ ts) = refl

no_more : (keys : List Key) → read_keys keys [] ≡ Ok (no_keys keys)
no_more [] = refl
no_more (key ∷ keys) = refl

pub keys_end : {B : Type 0} (front : List ReadAs) (x : B) (see : B → List ReadAs) → front ++ [] ≡ see x → (ts : List Token)
    → with_front front (read_keys [] ts) ≡ shows see (ended ts >>= λ e. Ok x)
keys_end front x see is [] = ap Ok is
keys_end front x see is (t ∷ ts) = refl

abbrev pub after : {A : Type 0} → Option A → List Token → Result (A × List Token) Bad
after o ts = or_word o >>= λ a. Ok (a, ts)

abbrev pub then_some : {A : Type 0} → Result (A × List Token) Bad → Result (Option A × List Token) Bad
then_some read = read >>= λ x. Ok (Some x.0, x.1)

abbrev some_after : {A : Type 0} → Option A → List Token → Result (Option A × List Token) Bad
some_after o ts = then_some (after o ts)

abbrev pub some_one : {A : Type 0} → (Token → Option A) → List Token → Result (Option A × List Token) Bad
some_one f ts = then_some (take_one f ts)

behind_one : {A B : Type 0} (kind : Kind) (f : Token → Option A) (g : A → ReadAs) (keys : List Key) (k : Option A × List Token → Result B Bad) (see : B
    → List ReadAs) (front : List ReadAs) → ((t : Token) → said_as kind t ≡ option_map g (f t))
    → ((o : Option A) (ts : List Token) → with_front (front ++ part g o ∷ []) (read_keys keys ts) ≡ shows see (k (o, ts))) → (ts : List Token)
    → with_front front (behind_key (Some kind) (read_keys keys) ts) ≡ shows see (some_one f ts >>= k)
behind_one kind f g keys k see front said rest [] = refl
behind_one kind f g keys k see front said rest (t ∷ ts) =
    ap (λ (o : Option ReadAs). with_front front (then_read_as o (read_keys keys ts))) (said t)
    ∙ some_read_as (f t) g front (read_keys keys ts) ts k see (λ a. rest (Some a) ts)
  where
    some_read_as : {A B : Type 0} (o : Option A) (g : A → ReadAs) (front : List ReadAs) (others : Reads) (ts : List Token) (k : Option A × List Token
        → Result B Bad) (see : B → List ReadAs) → ((a : A) → with_front (front ++ g a ∷ []) others ≡ shows see (k (Some a, ts)))
        → with_front front (then_read_as (option_map g o) others) ≡ shows see (some_after o ts >>= k)
    some_read_as None g front others ts k see rest = refl
    some_read_as (Some a) g front others ts k see rest = fronts front (g a) others ∙ rest a

abbrev marks_of : Bool → List Token → List Token → Bool × List Token
marks_of b ts us = if b then (true, ts) else (false, us)

by_mark : {A B : Type 0} (b : Bool) (f : Token → Option A) (ts us : List Token) (front : List ReadAs) (x y : Reads) (k : Option A × List Token → Result B Bad)
    (see : B → List ReadAs) → with_front front x ≡ shows see (some_one f ts >>= k) → with_front front y ≡ shows see (k (None, us))
    → with_front front (if b then x else y)
    ≡ shows see ((if (marks_of b ts us).0 then some_one f (marks_of b ts us).1 else Ok (None, (marks_of b ts us).1)) >>= k)
by_mark true f ts us front x y k see p q = p
by_mark false f ts us front x y k see p q = q

pub opt : {A B : Type 0} (word : Keyword) (kind : Kind) (f : Token → Option A) (g : A → ReadAs) (keys : List Key) (k : Option A × List Token → Result B Bad)
    (see : B → List ReadAs) (front : List ReadAs) → ((t : Token) → said_as kind t ≡ option_map g (f t))
    → ((o : Option A) (ts : List Token) → with_front (front ++ part g o ∷ []) (read_keys keys ts) ≡ shows see (k (o, ts))) → (ts : List Token)
    → with_front front (read_keys (record { word = word; operand = Some kind } ∷ keys) ts) ≡ shows see (optional word f ts >>= k)
opt word kind f g keys k see front said rest [] =
    fronts front read_as.NotThere (Ok (no_keys keys)) ∙ (ap (λ (r : Reads). with_front (front ++ read_as.NotThere ∷ []) r) (sym (no_more keys)) ∙ rest None [])
opt word kind f g keys k see front said rest (t ∷ ts) =
    by_mark (is_word (keyword word) t) f ts (t ∷ ts) front (behind_key (Some kind) (read_keys keys) ts)
    (with_front (read_as.NotThere ∷ []) (read_keys keys (t ∷ ts))) k see
    (behind_one kind f g keys k see front said rest ts)
    (fronts front read_as.NotThere (read_keys keys (t ∷ ts)) ∙ rest None (t ∷ ts))

pub marks : {B : Type 0} (word : Keyword) (keys : List Key) (k : Bool × List Token → Result B Bad) (see : B → List ReadAs) (front : List ReadAs)
    → ((m : Bool) (ts : List Token) → with_front (front ++ mark m ∷ []) (read_keys keys ts) ≡ shows see (k (m, ts))) → (ts : List Token)
    → with_front front (read_keys (record { word = word; operand = None } ∷ keys) ts) ≡ shows see (k (marked word ts))
marks word keys k see front rest [] =
    fronts front read_as.NotThere (Ok (no_keys keys)) ∙ (ap (λ (r : Reads). with_front (front ++ read_as.NotThere ∷ []) r) (sym (no_more keys)) ∙ rest false [])
marks word keys k see front rest (t ∷ ts) =
    tested (is_word (keyword word) t) (fronts front read_as.There (read_keys keys ts) ∙ rest true ts)
    (fronts front read_as.NotThere (read_keys keys (t ∷ ts)) ∙ rest false (t ∷ ts))
  where
    tested : (b : Bool) → with_front front (with_front (read_as.There ∷ []) (read_keys keys ts)) ≡ shows see (k (true, ts))
        → with_front front (with_front (read_as.NotThere ∷ []) (read_keys keys (t ∷ ts))) ≡ shows see (k (false, t ∷ ts))
        → with_front front (if b then with_front (read_as.There ∷ []) (read_keys keys ts) else with_front (read_as.NotThere ∷ []) (read_keys keys (t ∷ ts)))
        ≡ shows see (k (if b then (true, ts) else (false, t ∷ ts)))
    tested true p q = p
    tested false p q = q

abbrev maybe_of : Option Operand → List Token → Result (Option Operand × List Token) Bad
maybe_of o ts = or_word o >>= λ a. Ok (Some a, ts)

pub perhaps : {B : Type 0} (action : List Token → Reads) (x : Option Operand → B) (see : B → List ReadAs) (front : List ReadAs)
    → ((o : Option Operand) → front ++ part read_as.Node o ∷ [] ≡ see (x o)) → (ts : List Token)
    → with_front front (read action (Maybe kinds.Node) ts) ≡ shows see (maybe node ts >>= λ o. ended o.1 >>= λ e. Ok (x o.0))
perhaps action x see front is [] = ap Ok (is None)
perhaps action x see front is (t ∷ []) = alone (node t)
  where
    alone : (o : Option Operand) → with_front front (then_read_as (option_map read_as.Node o) (Ok []))
        ≡ shows see (maybe_of o [] >>= λ o. ended o.1 >>= λ e. Ok (x o.0))
    alone None = refl
    alone (Some p) = ap Ok (is (Some p))
perhaps action x see front is (t ∷ u ∷ ts) = over (node t)
  where
    over : (o : Option Operand) → with_front front (then_read_as (option_map read_as.Node o) (Err Arity))
        ≡ shows see (maybe_of o (u ∷ ts) >>= λ o. ended o.1 >>= λ e. Ok (x o.0))
    over None = refl
    over (Some p) = refl

abbrev pub on_off_wants : Wants
on_off_wants = Pick (Row words.On End (LastRow words.Off End))

switch_read : {B : Type 0} (action : List Token → Reads) (x : Bool → B) (see : B → List ReadAs) (front : List ReadAs)
    → ((b : Bool) → front ++ read_as.Word (switch b) ∷ [] ≡ see (x b)) → (ts : List Token)
    → with_front front (read action on_off_wants ts) ≡ shows see (take_one on_off ts >>= λ b. ended b.1 >>= λ e. Ok (x b.0))
switch_read action x see front is [] = refl
switch_read action x see front is (t ∷ []) = alone (is_word (spelling words.On) t) (is_word (spelling words.Off) t)
  where
    alone : (a b : Bool) → with_front front
        (if a then with_front (read_as.Word words.On ∷ []) (Ok []) else (if b then with_front (read_as.Word words.Off ∷ []) (Ok []) else Err BadWord))
        ≡ shows see (after (if a then Some true else (if b then Some false else None)) [] >>= λ b. ended b.1 >>= λ e. Ok (x b.0))
    alone true b = ap Ok (is true)
    alone false true = ap Ok (is false)
    alone false false = refl
switch_read action x see front is (t ∷ u ∷ ts) = over (is_word (spelling words.On) t) (is_word (spelling words.Off) t)
  where
    over : (a b : Bool) → with_front front
        (if a then with_front (read_as.Word words.On ∷ []) (Err Arity) else (if b then with_front (read_as.Word words.Off ∷ []) (Err Arity) else Err BadWord))
        ≡ shows see (after (if a then Some true else (if b then Some false else None)) (u ∷ ts) >>= λ b. ended b.1 >>= λ e. Ok (x b.0))
    over true b = refl
    over false true = refl
    over false false = refl

-- ---- operands to the end

pub assoc : {A B C : Type 0} (r : Result A Bad) (k : A → Result B Bad) (l : B → Result C Bad) → ((r >>= k) >>= l) ≡ (r >>= λ x. k x >>= l)
assoc (Ok x) k l = refl
assoc (Err b) k l = refl

-- what is made of two steps is made of what they give together
together : {A B C D : Type 0} (read : Result A Bad) (next : A → Result B Bad) (f : A → B → C) (k : C → Result D Bad)
    → (read >>= λ a. next a >>= λ b. k (f a b)) ≡ ((read >>= λ a. next a >>= λ b. Ok (f a b)) >>= k)
together (Ok a) next f k = sym (assoc (next a) (λ b. Ok (f a b)) k)
together (Err e) next f k = refl

pub last_one : {A B : Type 0} (action : List Token → Reads) (kind : Kind) (f : Token → Option A) (g : A → ReadAs) (x : A → B) (see : B → List ReadAs)
    (front : List ReadAs) → ((t : Token) → said_as kind t ≡ option_map g (f t)) → ((a : A) → front ++ g a ∷ [] ≡ see (x a)) → (ts : List Token)
    → with_front front (read action (One kind End) ts) ≡ shows see (only f ts >>= λ a. Ok (x a))
last_one action kind f g x see front said is ts =
    one action kind f g End (λ a. ended a.1 >>= λ e. Ok (x a.0)) see front said
    (λ a rest. the_end action (front ++ g a ∷ []) (x a) see (append-nil (front ++ g a ∷ []) ∙ is a) rest) ts
    ∙ ap (shows see) (together (take_one f ts) (λ a. ended a.1) (λ a e. a.0) (λ a. Ok (x a)))

pub last_two : {A B C : Type 0} (action : List Token → Reads) (first second : Kind) (f : Token → Option A) (g : Token → Option B) (as_first : A → ReadAs)
    (as_second : B → ReadAs) (x : A → B → C) (see : C → List ReadAs) (front : List ReadAs) → ((t : Token) → said_as first t ≡ option_map as_first (f t))
    → ((t : Token) → said_as second t ≡ option_map as_second (g t)) → ((a : A) (b : B) → (front ++ as_first a ∷ []) ++ as_second b ∷ [] ≡ see (x a b))
    → (ts : List Token) → with_front front (read action (One first (One second End)) ts) ≡ shows see (two f g ts >>= λ both. Ok (x both.0 both.1))
last_two action first second f g as_first as_second x see front said_first said_second is ts =
    one action first f as_first (One second End) (λ a. only g a.1 >>= λ b. Ok (x a.0 b)) see front said_first
    (λ a rest. last_one action second g as_second (x a) see (front ++ as_first a ∷ []) said_second (is a) rest) ts
    ∙ ap (shows see) (together (take_one f ts) (λ a. only g a.1) (λ a b. (a.0, b)) (λ both. Ok (x both.0 both.1)))

pub node_switched : {B : Type 0} (action : List Token → Reads) (x : Operand → Bool → B) (see : B → List ReadAs) (front : List ReadAs)
    → ((a : Operand) (b : Bool) → (front ++ read_as.Node a ∷ []) ++ read_as.Word (switch b) ∷ [] ≡ see (x a b)) → (ts : List Token)
    → with_front front (read action (One kinds.Node on_off_wants) ts) ≡ shows see (two node on_off ts >>= λ both. Ok (x both.0 both.1))
node_switched action x see front is ts =
    one action kinds.Node node read_as.Node on_off_wants (λ a. only on_off a.1 >>= λ b. Ok (x a.0 b)) see front (λ t. refl)
    (λ a rest. switch_read action (x a) see (front ++ read_as.Node a ∷ []) (is a) rest
    ∙ ap (shows see) (together (take_one on_off rest) (λ b. ended b.1) (λ b e. b.0) (λ b. Ok (x a b)))) ts
    ∙ ap (shows see) (together (take_one node ts) (λ a. only on_off a.1) (λ a b. (a.0, b)) (λ both. Ok (x both.0 both.1)))

-- ---- an operand behind a keyword, to the end

an_end : {A B : Type 0} (end : Result (Unit {0}) Bad) (a : A) (x : Option A → B)
    → (end >>= λ e. Ok (x (Some a))) ≡ (((end >>= λ e. Ok a) >>= λ b. Ok (Some b)) >>= λ o. Ok (x o))
an_end (Ok e) a x = refl
an_end (Err b) a x = refl

some_to_end : {A B : Type 0} (read : Result (A × List Token) Bad) (x : Option A → B)
    → (then_some read >>= λ o. ended o.1 >>= λ e. Ok (x o.0)) ≡ (((read >>= λ a. ended a.1 >>= λ e. Ok a.0) >>= λ a. Ok (Some a)) >>= λ o. Ok (x o))
some_to_end (Ok a) x = an_end (ended a.1) a.0 x
some_to_end (Err b) x = refl

to_end : {A B : Type 0} (there : Bool) (f : Token → Option A) (ts : List Token) (x : Option A → B)
    → ((if there then some_one f ts else Ok (None, ts)) >>= λ o. ended o.1 >>= λ e. Ok (x o.0))
    ≡ ((if there then (only f ts >>= λ a. Ok (Some a)) else (ended ts >>= λ e. Ok None)) >>= λ o. Ok (x o))
to_end true f ts x = some_to_end (take_one f ts) x
to_end false f ts x = sym (assoc (ended ts) (λ e. Ok None) (λ o. Ok (x o)))

pub last_opt : {A B : Type 0} (word : Keyword) (kind : Kind) (f : Token → Option A) (g : A → ReadAs) (x : Option A → B) (see : B → List ReadAs)
    (front : List ReadAs) → ((t : Token) → said_as kind t ≡ option_map g (f t)) → ((o : Option A) → front ++ part g o ∷ [] ≡ see (x o)) → (ts : List Token)
    → with_front front (read_keys (record { word = word; operand = Some kind } ∷ []) ts) ≡ shows see (only_behind word f ts >>= λ o. Ok (x o))
last_opt word kind f g x see front said is ts =
    opt word kind f g [] (λ o. ended o.1 >>= λ e. Ok (x o.0)) see front said
    (λ o rest. keys_end (front ++ part g o ∷ []) (x o) see (append-nil (front ++ part g o ∷ []) ∙ is o) rest) ts
    ∙ ap (shows see) (to_end (marked word ts).0 f (marked word ts).1 x)
