-- The same for the forms that have lists of operands, or words behind the first.
use Rattle.std.proofs.Common.{◌≡◌, ℕ, zero, suc, ◌-◌, ◌==◌, Bool, true, false, List, [], ◌∷◌, ◌++◌, map, Option, Some, None, Result, Ok, Err, if◌then◌else◌}
use Rattle.std.proofs.Common.{refl, sym, ap, ◌∙◌, append_assoc, arith}
use Rattle.std.specs.Option.{option_map}
use Rattle.ce_base.specs.declared.entries.Entry.{Entry}
use Rattle.ce_base.specs.Texts.{entry}
use Rattle.rule_tokens.specs.declared.refused.Bad.{Bad}
use Rattle.rule_tokens.specs.declared.refused.Bad.TheVariants.{Arity}
use Rattle.rule_tokens.specs.declared.operand.Operand.{Operand}
use Rattle.rule_tokens.specs.declared.token.Token.{Token}
use Rattle.rule_tokens.specs.Gives.{◌>>=◌, with_front, or_word}
use Rattle.rule_tokens.specs.OperandForms.{is_word, node, class_name, text, value}
use Rattle.rule_lines.specs.declared.op.Op.TheVariants as ops
use Rattle.rule_lines.specs.Grammar.{said_as, End, One, Pick, Many, Pairs, LastRow, Row}
use Rattle.rule_lines.specs.Read.{Reads, then_read_as, read_many, read_pairs, read}
use Rattle.rule_lines.specs.Rows.{state_rows, user_rows}
use Rattle.rule_lines.specs.FixedWords.{spelling}
use Rattle.rule_lines.specs.declared.read_as.Kind.{Kind}
use Rattle.rule_lines.specs.declared.read_as.Kind.TheVariants as kinds
use Rattle.rule_lines.specs.declared.read_as.ReadAs.{ReadAs}
use Rattle.rule_lines.specs.declared.read_as.ReadAs.TheVariants as read_as
use Rattle.rule_lines.specs.declared.word.Word.TheVariants as words
use Rattle.rule_reader.specs.declared.form.Leaf.TheVariants as leaves
use Rattle.rule_reader.specs.Bodies.{log_of}
use Rattle.rule_reader.specs.Classes.{observe_of, disable_of, disabled_of}
use Rattle.rule_reader.specs.AsRead.{pairs, leaf_as_read}
use Rattle.rule_reader.specs.Internals.{state_of, state_change_of, form_list_of}
use Rattle.rule_reader.specs.Takes.{next, up_to, entries_up_to}
use Rattle.rule_reader.specs.Users.{user_of}
use Rattle.rule_reader.proofs.Same.{shows, fronts, one, last_one, the_end}
use Rattle.rule_reader.proofs.SameForms.{same_user_edit, same_user_check, same_user_choose, same_user_reset, same_user_restore, same_user_autofill}
use Rattle.rule_reader.proofs.SameForms.{same_user_press}

-- ---- lists of operands

many_read_as : {A : Type 0} (o : Option A) (g : A → ReadAs) (front : List ReadAs) (others : Reads) (more : Result (List A) Bad)
    → ((a : A) → with_front (front ++ g a ∷ []) others ≡ shows (λ xs. (front ++ g a ∷ []) ++ map g xs) more)
    → with_front front (then_read_as (option_map g o) others) ≡ shows (λ xs. front ++ map g xs) (or_word o >>= λ a. with_front (a ∷ []) more)
many_read_as None g front others more rest = refl
many_read_as {A = A} (Some a) g front others more rest = fronts front (g a) others ∙ (rest a ∙ shift more)
  where
    shift : (r : Result (List A) Bad) → shows (λ xs. (front ++ g a ∷ []) ++ map g xs) r ≡ shows (λ xs. front ++ map g xs) (with_front (a ∷ []) r)
    shift (Ok xs) = ap Ok (append_assoc front (g a ∷ []) (map g xs))
    shift (Err b) = refl

many : {A : Type 0} (kind : Kind) (f : Token → Option A) (g : A → ReadAs) → ((t : Token) → said_as kind t ≡ option_map g (f t))
    → (n : ℕ) (front : List ReadAs) (ts : List Token) → with_front front (read_many n kind ts) ≡ shows (λ xs. front ++ map g xs) (up_to n f ts)
many kind f g said zero front [] = refl
many kind f g said (suc n) front [] = refl
many kind f g said zero front (t ∷ ts) = refl
many kind f g said (suc n) front (t ∷ ts) =
    let z : (suc n == 0) ≡ false = grind arith in
    let k : suc n - 1 ≡ n = omega arith in
    rw (z, k, said t) (many_read_as (f t) g front (read_many n kind ts) (up_to n f ts) (λ a. many kind f g said n (front ++ g a ∷ []) ts))

seen : {A B : Type 0} (s : A → List ReadAs) (c : A → B) (see : B → List ReadAs) → ((x : A) → s x ≡ see (c x)) → (r : Result A Bad)
    → shows s r ≡ shows see (r >>= λ x. Ok (c x))
seen s c see is (Ok x) = ap Ok (is x)
seen s c see is (Err b) = refl

some : {A B : Type 0} (action : List Token → Reads) (n : ℕ) (kind : Kind) (f : Token → Option A) (g : A → ReadAs) (front : List ReadAs) (c : List A → B)
    (see : B → List ReadAs) → ((t : Token) → said_as kind t ≡ option_map g (f t)) → ((xs : List A) → front ++ map g xs ≡ see (c xs)) → (ts : List Token)
    → with_front front (read action (One kind (Many n kind)) ts) ≡ shows see (next ts >>= λ first. up_to (suc n) f ts >>= λ xs. Ok (c xs))
some action n kind f g front c see said is [] = refl
some action n kind f g front c see said is (t ∷ ts) =
    many kind f g said (suc n) front (t ∷ ts) ∙ seen (λ xs. front ++ map g xs) c see is (up_to (suc n) f (t ∷ ts))

pub same_log : (action : List Token → Reads) (ts : List Token)
    → with_front (read_as.Word words.Log ∷ []) (read action (One kinds.Value (Many 7 kinds.Value)) ts) ≡ shows leaf_as_read (log_of ts)
same_log action ts = some action 7 kinds.Value value read_as.Value (read_as.Word words.Log ∷ []) leaves.Log leaf_as_read (λ t. refl) (λ xs. refl) ts

pub same_observe : (action : List Token → Reads) (ts : List Token)
    → with_front (read_as.Word words.Observe ∷ []) (read action (One kinds.Class (One kinds.Chars (Many 15 kinds.Chars))) ts)
    ≡ shows leaf_as_read (observe_of ts)
same_observe action ts = one action kinds.Class class_name read_as.Class (One kinds.Chars (Many 15 kinds.Chars)) _ leaf_as_read
    (read_as.Word words.Observe ∷ []) (λ t. refl)
    (λ class rest. some action 15 kinds.Chars text read_as.Chars (read_as.Word words.Observe ∷ read_as.Class class ∷ [])
    (λ xs. leaves.Observe class xs) leaf_as_read (λ t. refl) (λ xs. refl) rest) ts

pair_read_as : (a b : Option (List ℕ)) (front : List ReadAs) (others : Reads) (more : Result (List Entry) Bad)
    → ((e : Entry) → with_front (front ++ read_as.Chars e.name ∷ read_as.Chars e.value ∷ []) others
    ≡ shows (λ es. (front ++ read_as.Chars e.name ∷ read_as.Chars e.value ∷ []) ++ pairs es) more)
    → with_front front (then_read_as (option_map read_as.Chars a) (then_read_as (option_map read_as.Chars b) others))
    ≡ shows (λ es. front ++ pairs es) (or_word a >>= λ name. or_word b >>= λ val. with_front (entry name val ∷ []) more)
pair_read_as None b front others more rest = refl
pair_read_as (Some n) None front others more rest = refl
pair_read_as (Some n) (Some v) front others more rest = both others ∙ (rest (entry n v) ∙ shift more)
  where
    both : (r : Reads) → with_front front (with_front (read_as.Chars n ∷ []) (with_front (read_as.Chars v ∷ []) r))
        ≡ with_front (front ++ read_as.Chars n ∷ read_as.Chars v ∷ []) r
    both (Ok xs) = ap Ok (sym (append_assoc front (read_as.Chars n ∷ read_as.Chars v ∷ []) xs))
    both (Err e) = refl

    shift : (r : Result (List Entry) Bad)
        → shows (λ es. (front ++ read_as.Chars n ∷ read_as.Chars v ∷ []) ++ pairs es) r ≡ shows (λ es. front ++ pairs es) (with_front (entry n v ∷ []) r)
    shift (Ok es) = ap Ok (append_assoc front (read_as.Chars n ∷ read_as.Chars v ∷ []) (pairs es))
    shift (Err e) = refl

odd_read_as : (a : Option (List ℕ)) (front : List ReadAs)
    → with_front front (then_read_as (option_map read_as.Chars a) (Err Arity)) ≡ shows (λ es. front ++ pairs es) (or_word a >>= λ name. Err Arity)
odd_read_as None front = refl
odd_read_as (Some n) front = refl

all_pairs : (n : ℕ) (front : List ReadAs) (ts : List Token)
    → with_front front (read_pairs n kinds.Chars ts) ≡ shows (λ es. front ++ pairs es) (entries_up_to n ts)
all_pairs zero front [] = refl
all_pairs (suc n) front [] = refl
all_pairs zero front (t ∷ []) = refl
all_pairs zero front (t ∷ u ∷ ts) = refl
all_pairs (suc n) front (t ∷ []) = let z : (suc n == 0) ≡ false = grind arith in rw z (odd_read_as (text t) front)
all_pairs (suc n) front (t ∷ u ∷ ts) =
    let z : (suc n == 0) ≡ false = grind arith in
    let k : suc n - 1 ≡ n = omega arith in
    rw (z, k) (pair_read_as (text t) (text u) front (read_pairs n kinds.Chars ts) (entries_up_to n ts)
    (λ e. all_pairs n (front ++ read_as.Chars e.name ∷ read_as.Chars e.value ∷ []) ts))

pub same_form_list : (action : List Token → Reads) (ts : List Token)
    → with_front (read_as.Word words.FormList ∷ []) (read action (One kinds.Node (Pairs 32 kinds.Chars)) ts) ≡ shows leaf_as_read (form_list_of ts)
same_form_list action ts = one action kinds.Node node read_as.Node (Pairs 32 kinds.Chars) _ leaf_as_read (read_as.Word words.FormList ∷ []) (λ t. refl)
    (λ target rest. all_pairs 32 (read_as.Word words.FormList ∷ read_as.Node target ∷ []) rest
    ∙ seen (λ es. read_as.Word words.FormList ∷ read_as.Node target ∷ pairs es) (λ es. leaves.Both (ops.FormList target es)) leaf_as_read (λ es. refl)
    (entries_up_to 32 rest)) ts

pub by_if : {B : Type 0} (b : Bool) (front : List ReadAs) (see : B → List ReadAs) (x y : Reads) (u v : Result B Bad) → with_front front x ≡ shows see u
    → with_front front y ≡ shows see v → with_front front (if b then x else y) ≡ shows see (if b then u else v)
by_if true front see x y u v p q = p
by_if false front see x y u v p q = q

pub same_user : (action : List Token → Reads) (ts : List Token)
    → with_front (read_as.Word words.User ∷ []) (read action (Pick user_rows) ts) ≡ shows leaf_as_read (user_of ts)
same_user action [] = refl
same_user action (t ∷ ts) = by_if (is_word (spelling words.Edit) t) (read_as.Word words.User ∷ []) leaf_as_read _ _ _ _
    (fronts (read_as.Word words.User ∷ []) (read_as.Word words.Edit) _ ∙ same_user_edit action ts)
    (by_if (is_word (spelling words.Check) t) (read_as.Word words.User ∷ []) leaf_as_read _ _ _ _
    (fronts (read_as.Word words.User ∷ []) (read_as.Word words.Check) _ ∙ same_user_check action ts)
    (by_if (is_word (spelling words.Choose) t) (read_as.Word words.User ∷ []) leaf_as_read _ _ _ _
    (fronts (read_as.Word words.User ∷ []) (read_as.Word words.Choose) _ ∙ same_user_choose action ts)
    (by_if (is_word (spelling words.Reset) t) (read_as.Word words.User ∷ []) leaf_as_read _ _ _ _
    (fronts (read_as.Word words.User ∷ []) (read_as.Word words.Reset) _ ∙ same_user_reset action ts)
    (by_if (is_word (spelling words.Restore) t) (read_as.Word words.User ∷ []) leaf_as_read _ _ _ _
    (fronts (read_as.Word words.User ∷ []) (read_as.Word words.Restore) _ ∙ same_user_restore action ts)
    (by_if (is_word (spelling words.Autofill) t) (read_as.Word words.User ∷ []) leaf_as_read _ _ _ _
    (fronts (read_as.Word words.User ∷ []) (read_as.Word words.Autofill) _ ∙ same_user_autofill action ts)
    (by_if (is_word (spelling words.Press) t) (read_as.Word words.User ∷ []) leaf_as_read _ _ _ _
    (fronts (read_as.Word words.User ∷ []) (read_as.Word words.Press) _ ∙ same_user_press action ts) (refl)))))))

changes : (action : List Token → Reads) (target : Operand) (ts : List Token)
    → with_front (read_as.Word words.State ∷ read_as.Node target ∷ []) (read action (Pick state_rows) ts)
    ≡ shows leaf_as_read (next ts >>= λ change. state_change_of target change.0 change.1)
changes action target [] = refl
changes action target (t ∷ ts) =
    by_if (is_word (spelling words.Add) t) (read_as.Word words.State ∷ read_as.Node target ∷ []) leaf_as_read _ _ _ _
    (fronts (read_as.Word words.State ∷ read_as.Node target ∷ []) (read_as.Word words.Add) (read action (One kinds.Chars End) ts)
    ∙ last_one action kinds.Chars text read_as.Chars (λ x. leaves.Both (ops.StateAdd target x)) leaf_as_read
    (read_as.Word words.State ∷ read_as.Node target ∷ read_as.Word words.Add ∷ []) (λ t. refl) (λ x. refl) ts)
    (by_if (is_word (spelling words.Delete) t) (read_as.Word words.State ∷ read_as.Node target ∷ []) leaf_as_read _ _ _ _
    (fronts (read_as.Word words.State ∷ read_as.Node target ∷ []) (read_as.Word words.Delete) (read action (One kinds.Chars End) ts)
    ∙ last_one action kinds.Chars text read_as.Chars (λ x. leaves.Both (ops.StateDelete target x)) leaf_as_read
    (read_as.Word words.State ∷ read_as.Node target ∷ read_as.Word words.Delete ∷ []) (λ t. refl) (λ x. refl) ts)
    (by_if (is_word (spelling words.Clear) t) (read_as.Word words.State ∷ read_as.Node target ∷ []) leaf_as_read _ _ _ _
    (fronts (read_as.Word words.State ∷ read_as.Node target ∷ []) (read_as.Word words.Clear) (read action End ts)
    ∙ the_end action (read_as.Word words.State ∷ read_as.Node target ∷ read_as.Word words.Clear ∷ [])
    (leaves.Both (ops.StateClear target)) leaf_as_read refl ts) (refl)))

pub same_state : (action : List Token → Reads) (ts : List Token)
    → with_front (read_as.Word words.State ∷ []) (read action (One kinds.Node (Pick state_rows)) ts) ≡ shows leaf_as_read (state_of ts)
same_state action ts = one action kinds.Node node read_as.Node (Pick state_rows) _ leaf_as_read (read_as.Word words.State ∷ []) (λ t. refl)
    (λ target rest. changes action target rest) ts

disables : (action : List Token → Reads) (class : List ℕ) (ts : List Token)
    → with_front (read_as.Word words.Disable ∷ read_as.Class class ∷ []) (read action (Pick (Row words.Shadow End (LastRow words.Internals End))) ts)
    ≡ shows leaf_as_read (next ts >>= λ what. disabled_of class what.0 what.1)
disables action class [] = refl
disables action class (t ∷ ts) =
    by_if (is_word (spelling words.Shadow) t) (read_as.Word words.Disable ∷ read_as.Class class ∷ []) leaf_as_read _ _ _ _
    (fronts (read_as.Word words.Disable ∷ read_as.Class class ∷ []) (read_as.Word words.Shadow) (read action End ts)
    ∙ the_end action (read_as.Word words.Disable ∷ read_as.Class class ∷ read_as.Word words.Shadow ∷ []) (leaves.DisableShadow class) leaf_as_read refl ts)
    (by_if (is_word (spelling words.Internals) t) (read_as.Word words.Disable ∷ read_as.Class class ∷ []) leaf_as_read _ _ _ _
    (fronts (read_as.Word words.Disable ∷ read_as.Class class ∷ []) (read_as.Word words.Internals) (read action End ts)
    ∙ the_end action (read_as.Word words.Disable ∷ read_as.Class class ∷ read_as.Word words.Internals ∷ [])
    (leaves.DisableInternals class) leaf_as_read refl ts) (refl))

pub same_disable : (action : List Token → Reads) (ts : List Token)
    → with_front (read_as.Word words.Disable ∷ []) (read action (One kinds.Class (Pick (Row words.Shadow End (LastRow words.Internals End)))) ts)
    ≡ shows leaf_as_read (disable_of ts)
same_disable action ts = one action kinds.Class class_name read_as.Class (Pick (Row words.Shadow End (LastRow words.Internals End))) _ leaf_as_read
    (read_as.Word words.Disable ∷ []) (λ t. refl) (λ class rest. disables action class rest) ts
