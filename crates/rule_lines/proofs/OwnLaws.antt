-- What a token says as an operand is said by the token that is the operand's own.
use Rattle.std.proofs.Common.{◌≡◌, ◌==◌, ℕ, Bool, true, false, cond, not, ◌||◌, List, [], ◌∷◌, Option, Some, None, refl, subst}
use Rattle.std.specs.Option.{option_map}
use Rattle.rule_tokens.specs.declared.callback.CallName.{CallName}
use Rattle.rule_tokens.specs.declared.operand.Operand.{Operand}
use Rattle.rule_tokens.specs.declared.operand.Operand.TheVariants as operands
use Rattle.rule_tokens.specs.declared.operand.Val.{Val}
use Rattle.rule_tokens.specs.declared.operand.Val.TheVariants as values
use Rattle.rule_tokens.specs.declared.token.Token.{Token}
use Rattle.rule_tokens.specs.Callbacks.{call_word}
use Rattle.rule_tokens.specs.Flags.{flags}
use Rattle.rule_tokens.specs.FlagsText.{flags_text}
use Rattle.rule_tokens.specs.OperandForms.{is_variable, is_class, is_word, variable_in, variable, node, class_name, text, value, call_name}
use Rattle.rule_lines.specs.declared.read_as.Kind.{Kind}
use Rattle.rule_lines.specs.declared.read_as.Kind.TheVariants as kinds
use Rattle.rule_lines.specs.declared.read_as.ReadAs.{ReadAs}
use Rattle.rule_lines.specs.declared.read_as.ReadAs.TheVariants as read_as
use Rattle.rule_lines.specs.declared.keyword.Keyword.{Keyword}
use Rattle.rule_lines.specs.Canon.{bare, quoted, tokens_of, keyed}
use Rattle.rule_lines.specs.Grammar.{said_as}
use Rattle.rule_lines.specs.FixedWords.{keyword}
use Rattle.rule_tokens.proofs.CallNames.{call_again}

-- flags that a token names are named by their canonical text
abbrev pub FlagsAgain : Type 0
FlagsAgain = (t : Token) (raised : List Bool) → flags t ≡ Some raised → flags (bare (flags_text raised)) ≡ Some raised

-- ---- an operand by its own token

-- the operand has a token of its own, which says it
pub record Own (kind : Kind) (g : ReadAs) : Type 0 where
  pub token : Token
  pub alone : tokens_of g ≡ token ∷ []
  pub behind : (word : Keyword) → keyed word g ≡ bare (keyword word) ∷ token ∷ []
  pub said : said_as kind token ≡ Some g

pub mapped : {A : Type 0} (f : A → ReadAs) (o : Option A) (g : ReadAs) → option_map f o ≡ Some g → (a : A) × ((o ≡ Some a) × (f a ≡ g))
mapped f None g e = absurd cc
mapped f (Some a) g e = (a, (refl, cc))

variable_in_has : (bs v : List ℕ) → variable_in bs ≡ Some v → is_variable v ≡ true
variable_in_has [] v e = absurd cc
variable_in_has (b ∷ bs) v e = at (b == 36) (is_variable bs) refl e
  where
    at : (dollar named : Bool) → is_variable bs ≡ named → cond dollar (cond named (Some bs) None) None ≡ Some v → is_variable v ≡ true
    at true true is read = let same : bs ≡ v = cc in subst (λ (x : List ℕ). is_variable x ≡ true) same is
    at true false is read = absurd cc
    at false named is read = absurd cc

variable_has_by : (q : Bool) (bs v : List ℕ) → variable (record { quoted = q; text = bs }) ≡ Some v → is_variable v ≡ true
variable_has_by true bs v e = absurd cc
variable_has_by false bs v e = variable_in_has bs v e

pub variable_has : (t : Token) (v : List ℕ) → variable t ≡ Some v → is_variable v ≡ true
variable_has t v e = variable_has_by t.quoted t.text v e

own_variable : (v : List ℕ) → is_variable v ≡ true → Own kinds.Variable (read_as.Variable v)
own_variable v is = record { token = bare (36 ∷ v); alone = refl; behind = λ word. refl; said = rw is refl }

own_node : (place : Operand) → ((v : List ℕ) → place ≡ operands.Variable v → is_variable v ≡ true) → Own kinds.Node (read_as.Node place)
own_node operands.Doc is = record { token = bare _; alone = refl; behind = λ word. refl; said = refl }
own_node operands.This is = record { token = bare _; alone = refl; behind = λ word. refl; said = refl }
own_node (operands.Variable v) is = record { token = bare (36 ∷ v); alone = refl; behind = λ word. refl; said = rw (is v refl) refl }

-- a node that is a variable is one by name
pub node_has : (t : Token) (place : Operand) → node t ≡ Some place → (v : List ℕ) → place ≡ operands.Variable v → is_variable v ≡ true
node_has t place e v same = at (is_word _ t) (is_word _ t) e
  where
    at : (doc this : Bool) → cond doc (Some operands.Doc) (cond this (Some operands.This) (option_map operands.Variable (variable t))) ≡ Some place
        → is_variable v ≡ true
    at true this read = let clash : operands.Doc ≡ operands.Variable v = cc in absurd cc
    at false true read = let clash : operands.This ≡ operands.Variable v = cc in absurd cc
    at false false read = by (variable t) refl read
      where
        by : (o : Option (List ℕ)) → variable t ≡ o → option_map operands.Variable o ≡ Some place → is_variable v ≡ true
        by None is read = absurd cc
        by (Some w) is read = let both : operands.Variable w ≡ operands.Variable v = cc in let w_is : w ≡ v =
            cc in subst (λ (x : List ℕ). is_variable x ≡ true) w_is (variable_has t w is)

pub class_has : (t : Token) (name : List ℕ) → class_name t ≡ Some name → is_class name ≡ true
class_has t name e = at (t.quoted) (is_class t.text) refl e
  where
    at : (q named : Bool) → is_class t.text ≡ named → cond (q || not named) None (Some t.text) ≡ Some name → is_class name ≡ true
    at true named is read = absurd cc
    at false true is read = let same : t.text ≡ name = cc in subst (λ (x : List ℕ). is_class x ≡ true) same is
    at false false is read = absurd cc

own_class : (name : List ℕ) → is_class name ≡ true → Own kinds.Class (read_as.Class name)
own_class name is = record { token = bare name; alone = refl; behind = λ word. refl; said = rw is refl }

own_value : (val : Val) → Own kinds.Value (read_as.Value val)
own_value (values.Fixed text) = record { token = quoted text; alone = refl; behind = λ word. refl; said = refl }
own_value values.Count = record { token = bare _; alone = refl; behind = λ word. refl; said = refl }
own_value values.Kept = record { token = bare _; alone = refl; behind = λ word. refl; said = refl }
own_value values.First = record { token = bare _; alone = refl; behind = λ word. refl; said = refl }
own_value values.Second = record { token = bare _; alone = refl; behind = λ word. refl; said = refl }
own_value values.Third = record { token = bare _; alone = refl; behind = λ word. refl; said = refl }

own_callback : (call : CallName) → Own kinds.Callback (read_as.Callback call)
own_callback call = record { token = bare (call_word call); alone = refl; behind = λ word. refl; said = rw (call_again call) refl }

own_flags : FlagsAgain → (t : Token) (raised : List Bool) → flags t ≡ Some raised → Own kinds.Flags (read_as.Flags (record { 0 = raised }))
own_flags again t raised e = record { token = bare (flags_text raised); alone = refl; behind = λ word. refl; said = rw (again t raised e) refl }

pub own : FlagsAgain → (kind : Kind) (t : Token) (g : ReadAs) → said_as kind t ≡ Some g → Own kind g
own again kinds.Variable t g e = let m =
    mapped read_as.Variable (variable t) g e in subst (Own kinds.Variable) m.1.1 (own_variable m.0 (variable_has t m.0 m.1.0))
own again kinds.Node t g e = let m = mapped read_as.Node (node t) g e in subst (Own kinds.Node) m.1.1 (own_node m.0 (node_has t m.0 m.1.0))
own again kinds.Class t g e = let m = mapped read_as.Class (class_name t) g e in subst (Own kinds.Class) m.1.1 (own_class m.0 (class_has t m.0 m.1.0))
own again kinds.Chars t g e = let m =
    mapped read_as.Chars (text t) g e in subst (Own kinds.Chars) m.1.1 (record { token = quoted m.0; alone = refl; behind = λ word. refl; said = refl })
own again kinds.Value t g e = let m = mapped read_as.Value (value t) g e in subst (Own kinds.Value) m.1.1 (own_value m.0)
own again kinds.Flags t g e = let m =
    mapped (λ (raised : List Bool). read_as.Flags (record { 0 = raised })) (flags t) g e in subst (Own kinds.Flags) m.1.1 (own_flags again t m.0 m.1.0)
own again kinds.Callback t g e = let m = mapped read_as.Callback (call_name t) g e in subst (Own kinds.Callback) m.1.1 (own_callback m.0)
