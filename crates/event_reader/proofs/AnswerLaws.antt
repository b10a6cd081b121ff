-- The tokens of an answer.
use Rattle.std.proofs.Common.{◌≡◌, ℕ, ◌^◌, ◌<◌, Bool, true, false, not, ◌&&◌, List, [], ◌∷◌, length, Option, Some, None, refl, sym, ap}
use Rattle.std.specs.Prelude.{codes, is_none}
use Rattle.std.specs.List.{list_all}
use Rattle.std.proofs.lemmas.Bool.{and_parts, not-true}
use Rattle.std.proofs.lemmas.List.{append-nil}
use Rattle.ce_base.specs.declared.custom_state.CustomState.{CustomState}
use Rattle.ce_base.specs.declared.custom_state.CustomState.TheVariants.{Undefined, Failed, Uncustomized, Precustomized, Custom}
use Rattle.ce_base.specs.declared.flags.Flags.{Flags}
use Rattle.rule_tokens.specs.declared.token.Token.{Token}
use Rattle.rule_tokens.specs.Flags.{flag_names, raised}
use Rattle.rule_tokens.specs.FlagsText.{names_after, names_joined, raised_names}
use Rattle.rule_tokens.specs.Laws.{FlagsAreNamed}
use Rattle.rule_tokens.specs.Spaced.{AreClean, as_line, spaced as spaced_tokens}
use Rattle.ce_events.specs.declared.event.Answer.{Answer}
use Rattle.ce_events.specs.declared.event.Answer.TheVariants.{Null, One, Many, Node as NodeAnswer, Nodes, Texts, State, Truth, Raised}
use Rattle.ce_events.specs.Text.{answer, custom_state, node, yes_or_no}
use Rattle.event_reader.specs.Answers.{answer_named, answer_of}
use Rattle.event_reader.specs.IsEvent.{IsAnswer}
use Rattle.event_reader.specs.Parts.{begins_node, texts_of}
use Rattle.event_reader.specs.Replies.{answered_of, is_reply_word, reply_of}
use Rattle.event_reader.proofs.TokenLaws.{bare, quoted, is_word_text, word_clean, node_clean, node_back, text_tokens, texts_written, texts_clean, texts_back}
use Rattle.event_reader.proofs.TokenLaws.{node_tokens, nodes_written, nodes_clean, nodes_back}
use Rattle.rule_tokens.proofs.FlagsLaws.{all_raised}

-- ---- the names of flags

-- a name of a flag: it stands bare, and is no other answer and no other reply
abbrev is_flag_word : List ℕ → Bool
is_flag_word word =
    is_word_text word && (not (begins_node word) && (is_none (answer_named word) && not (is_reply_word word)))

none_is : {A : Type 0} (o : Option A) → is_none o ≡ true → o ≡ None
none_is None e = refl
none_is (Some a) e = absurd cc

abbrev name_tokens : List (List ℕ) → List Token
name_tokens [] = []
name_tokens (name ∷ names) = bare name ∷ name_tokens names

abbrev flag_tokens : List (List ℕ) → List Token
flag_tokens [] = bare (codes "valid") ∷ []
flag_tokens (name ∷ names) = bare name ∷ name_tokens names

names_written : (names : List (List ℕ)) → names_after (codes " ") names ≡ spaced_tokens (name_tokens names)
names_written [] = refl
names_written (name ∷ names) = rw (names_written names) refl

flags_written : (names : List (List ℕ)) → names_joined (codes " ") (codes "valid") names ≡ as_line (flag_tokens names)
flags_written [] = refl
flags_written (name ∷ names) = rw (names_written names) refl

names_clean : (names : List (List ℕ)) → list_all is_flag_word names ≡ true → AreClean (name_tokens names)
names_clean [] are = tt
names_clean (name ∷ names) are =
    let both = and_parts (is_flag_word name) (list_all is_flag_word names) are in
    (word_clean name (and_parts (is_word_text name) _ both.0).0, names_clean names both.1)

flags_clean : (names : List (List ℕ)) → list_all is_flag_word names ≡ true → AreClean (flag_tokens names)
flags_clean [] are = (word_clean (codes "valid") refl, tt)
flags_clean (name ∷ names) are = names_clean (name ∷ names) are

names_back : (names : List (List ℕ)) → texts_of (name_tokens names) ≡ names
names_back [] = refl
names_back (name ∷ names) = rw (names_back names) refl

-- ---- tokens

abbrev pub answer_tokens : Answer → List Token
answer_tokens Null = bare (codes "null") ∷ []
answer_tokens (One text) = quoted text ∷ []
answer_tokens Many = bare (codes "list") ∷ []
answer_tokens (NodeAnswer n) = bare (node n) ∷ []
answer_tokens (Nodes []) = bare (codes "empty") ∷ []
answer_tokens (Nodes (n ∷ ns)) = bare (node n) ∷ node_tokens ns
answer_tokens (Texts []) = bare (codes "empty") ∷ []
answer_tokens (Texts (text ∷ texts)) = quoted text ∷ text_tokens texts
answer_tokens (State s) = bare (custom_state s) ∷ []
answer_tokens (Truth b) = bare (yes_or_no b) ∷ []
answer_tokens (Raised flags) = flag_tokens (raised_names flag_names flags.0)

-- the answer is written as these tokens, which are read as an answer that is written so, in a body and as a reply
pub record IsToldAnswer (a : Answer) : Type 0 where
  pub line : answer a ≡ as_line (answer_tokens a)
  pub clean : AreClean (answer_tokens a)
  pub other : Answer
  pub read : answer_of (answer_tokens a) ≡ Some other
  pub replied : (l : ℕ) → reply_of l (answer_tokens a) ≡ answered_of l (answer_tokens a)
  pub same : answer other ≡ answer a

told_node : (n : ℕ) → n < 2 ^ 64 → IsToldAnswer (NodeAnswer n)
told_node n fits = record {
  line = sym (append-nil (node n));
  clean = (node_clean n fits, tt);
  other = NodeAnswer n;
  read = rw (node_back n fits) refl;
  replied = λ l. refl;
  same = refl;
}

told_nodes : (ns : List ℕ) → IsAnswer (Nodes ns) → IsToldAnswer (Nodes ns)
told_nodes [] are = record { line = refl; clean = (word_clean (codes "empty") refl, tt); other = Nodes []; read = refl; replied = λ l. refl; same = refl }
told_nodes (n ∷ []) are = record {
  line = refl;
  clean = (node_clean n are.0, tt);
  other = NodeAnswer n;
  read = rw (node_back n are.0) refl;
  replied = λ l. refl;
  same = sym (append-nil (node n));
}
told_nodes (n ∷ m ∷ ns) are = record {
  line = rw (nodes_written ns) refl;
  clean = nodes_clean (n ∷ m ∷ ns) are;
  other = Nodes (n ∷ m ∷ ns);
  read = rw (nodes_back ns are.1.1, node_back n are.0, node_back m are.1.0) refl;
  replied = λ l. refl;
  same = refl;
}

told_texts : (texts : List (List ℕ)) → IsAnswer (Texts texts) → IsToldAnswer (Texts texts)
told_texts [] are = record { line = refl; clean = (word_clean (codes "empty") refl, tt); other = Nodes []; read = refl; replied = λ l. refl; same = refl }
told_texts (text ∷ []) are = record { line = refl; clean = (are.0, tt); other = One text; read = refl; replied = λ l. refl; same = sym (append-nil _) }
told_texts (text ∷ more ∷ texts) are =
    record {
      line = rw (texts_written texts) refl;
      clean = texts_clean (text ∷ more ∷ texts) are;
      other = Texts (text ∷ more ∷ texts);
      read = rw (texts_back texts) refl;
      replied = λ l. refl;
      same = refl;
    }

told_state : (s : CustomState) → IsToldAnswer (State s)
told_state Undefined = record {
  line = refl;
  clean = (word_clean (codes "undefined") refl, tt);
  other = State Undefined;
  read = refl;
  replied = λ l. refl;
  same = refl;
}
told_state Failed = record { line = refl; clean = (word_clean (codes "failed") refl, tt); other = State Failed; read = refl; replied = λ l. refl; same = refl }
told_state Uncustomized = record {
  line = refl;
  clean = (word_clean (codes "uncustomized") refl, tt);
  other = State Uncustomized;
  read = refl;
  replied = λ l. refl;
  same = refl;
}
told_state Precustomized = record {
  line = refl;
  clean = (word_clean (codes "precustomized") refl, tt);
  other = State Precustomized;
  read = refl;
  replied = λ l. refl;
  same = refl;
}
told_state Custom = record { line = refl; clean = (word_clean (codes "custom") refl, tt); other = State Custom; read = refl; replied = λ l. refl; same = refl }

told_truth : (b : Bool) → IsToldAnswer (Truth b)
told_truth true = record { line = refl; clean = (word_clean (codes "yes") refl, tt); other = Truth true; read = refl; replied = λ l. refl; same = refl }
told_truth false = record { line = refl; clean = (word_clean (codes "no") refl, tt); other = Truth false; read = refl; replied = λ l. refl; same = refl }

-- ---- flags

-- how the names of raised flags are read
record IsToldFlags (fs : List Bool) (names : List (List ℕ)) : Type 0 where
  other : Answer
  read : answer_of (flag_tokens names) ≡ Some other
  replied : (l : ℕ) → reply_of l (flag_tokens names) ≡ answered_of l (flag_tokens names)
  same : answer other ≡ names_joined (codes " ") (codes "valid") names

flag_word : (name : List ℕ) → is_flag_word name ≡ true → (begins_node name ≡ false) × (answer_named name ≡ None) × (is_reply_word name ≡ false)
flag_word name is =
    let a = and_parts (is_word_text name) _ is in
    let b = and_parts (not (begins_node name)) _ a.1 in
    let c = and_parts (is_none (answer_named name)) _ b.1 in
    (not-true _ b.0, none_is _ c.0, not-true _ c.1)

flags_back : (fs : List Bool) (names : List (List ℕ)) → raised names ≡ fs → raised_names flag_names fs ≡ names → list_all is_flag_word names ≡ true
    → IsToldFlags fs names
flags_back fs [] back is are = record { other = Raised (record { 0 = raised (codes "valid" ∷ []) }); read = refl; replied = λ l. refl; same = refl }
flags_back fs (name ∷ names) back is are =
    let word = flag_word name (and_parts (is_flag_word name) (list_all is_flag_word names) are).0 in
    record {
      other = Raised (record { 0 = fs });
      read = rw (word.0, word.1, names_back names, back) refl;
      replied = λ l. rw word.2 refl;
      same = ap (λ (l : List (List ℕ)). names_joined (codes " ") (codes "valid") l) is;
    }

told_raised : FlagsAreNamed → (flags : Flags) → length flags.0 ≡ 10 → IsToldAnswer (Raised flags)
told_raised named flags ten =
    let names = raised_names flag_names flags.0 in
    let words : list_all is_flag_word names ≡ true = all_raised is_flag_word flag_names flags.0 refl in
    let told = flags_back flags.0 names (named flags.0 ten) refl words in
    record { line = flags_written names; clean = flags_clean names words; other = told.other; read = told.read; replied = told.replied; same = told.same }

pub told_answer : FlagsAreNamed → (a : Answer) → IsAnswer a → IsToldAnswer a
told_answer named Null is = record { line = refl; clean = (word_clean (codes "null") refl, tt); other = Null; read = refl; replied = λ l. refl; same = refl }
told_answer named (One text) is = record { line = sym (append-nil _); clean = (is, tt); other = One text; read = refl; replied = λ l. refl; same = refl }
told_answer named Many is = record { line = refl; clean = (word_clean (codes "list") refl, tt); other = Many; read = refl; replied = λ l. refl; same = refl }
told_answer named (NodeAnswer n) is = told_node n is
told_answer named (Nodes ns) is = told_nodes ns is
told_answer named (Texts texts) is = told_texts texts is
told_answer named (State s) is = told_state s
told_answer named (Truth b) is = told_truth b
told_answer named (Raised flags) is = told_raised named flags is
