-- What the table wants of a form is what the form reads.
use Rattle.std.proofs.Common.{◌≡◌, List, [], ◌∷◌, Some, None, Ok, refl}
use Rattle.rule_tokens.specs.declared.token.Token.{Token}
use Rattle.rule_tokens.specs.Gives.{◌>>=◌, with_front}
use Rattle.rule_tokens.specs.OperandForms.{variable, node, class_name, text, value, call_name}
use Rattle.rule_lines.specs.declared.op.Op.TheVariants as ops
use Rattle.rule_lines.specs.Grammar.{End, One, Keys, Maybe}
use Rattle.rule_lines.specs.Read.{Reads, read}
use Rattle.rule_lines.specs.declared.read_as.Kind.TheVariants as kinds
use Rattle.rule_lines.specs.declared.read_as.ReadAs.TheVariants as read_as
use Rattle.rule_lines.specs.declared.keyword.Keyword.TheVariants as keywords
use Rattle.rule_lines.specs.declared.word.Word.TheVariants as words
use Rattle.rule_reader.specs.declared.form.Leaf.TheVariants as leaves
use Rattle.rule_reader.specs.AsRead.{part, mark, leaf_as_read}
use Rattle.rule_reader.specs.Takes.{ended}
use Rattle.rule_reader.specs.Tree.{create_of, new_of, make_text_of, shadow_of, append_of, before_of, remove_of, detach_of, clone_of, adopt_of, let_variable_of}
use Rattle.rule_reader.specs.Tree.{doc_of}
use Rattle.rule_reader.specs.Attributes.{set_attr_of, del_attr_of}
use Rattle.rule_reader.specs.CustomElements.{define_of, upgrade_of}
use Rattle.rule_reader.specs.Internals.{internals_of, form_value_of, form_null_of, validity_of, custom_of}
use Rattle.rule_reader.specs.Controls.{reset_of, value_of, check_of, choose_of, submit_of, request_of}
use Rattle.rule_reader.specs.Bodies.{base_call_of, return_form_of, throw_of, bump_of, keep_of}
use Rattle.rule_reader.specs.Classes.{class_of, has_of, associate_of}
use Rattle.rule_reader.specs.Users as users
use Rattle.rule_tokens.specs.Flags.{flags}
use Rattle.rule_reader.proofs.Same.{shows, one, the_end, last_one, last_two, keys_end, opt, last_opt, marks, perhaps, node_switched, on_off_wants}

pub same_create : (action : List Token → Reads) (ts : List Token)
    → with_front (read_as.Word words.Create ∷ [])
    (read action (One kinds.Variable
    (One kinds.Chars (Keys (record { word = keywords.Is; operand = Some kinds.Chars } ∷ record { word = keywords.In; operand = Some kinds.Node } ∷ [])))) ts)
    ≡ shows leaf_as_read (create_of ts)
same_create action ts = one action kinds.Variable variable read_as.Variable
    (One kinds.Chars (Keys (record { word = keywords.Is; operand = Some kinds.Chars } ∷ record { word = keywords.In; operand = Some kinds.Node } ∷ []))) _
    leaf_as_read (read_as.Word words.Create ∷ []) (λ t. refl)
    (λ x0 ts0. one action kinds.Chars text read_as.Chars
    (Keys (record { word = keywords.Is; operand = Some kinds.Chars } ∷ record { word = keywords.In; operand = Some kinds.Node } ∷ [])) _ leaf_as_read
    (read_as.Word words.Create ∷ read_as.Variable x0 ∷ []) (λ t. refl)
    (λ x1 ts1. opt keywords.Is kinds.Chars text read_as.Chars (record { word = keywords.In; operand = Some kinds.Node } ∷ []) _ leaf_as_read
    (read_as.Word words.Create ∷ read_as.Variable x0 ∷ read_as.Chars x1 ∷ []) (λ t. refl)
    (λ x2 ts2. last_opt keywords.In kinds.Node node read_as.Node (λ o. leaves.Both (ops.Create x0 x1 x2 o)) leaf_as_read
    (read_as.Word words.Create ∷ read_as.Variable x0 ∷ read_as.Chars x1 ∷ part read_as.Chars x2 ∷ []) (λ t. refl) (λ o. refl) ts2) ts1) ts0) ts

pub same_new : (action : List Token → Reads) (ts : List Token)
    → with_front (read_as.Word words.New ∷ []) (read action (One kinds.Variable (One kinds.Class End)) ts) ≡ shows leaf_as_read (new_of ts)
same_new action ts = one action kinds.Variable variable read_as.Variable (One kinds.Class End) _ leaf_as_read (read_as.Word words.New ∷ []) (λ t. refl)
    (λ var rest. last_one action kinds.Class class_name read_as.Class (λ a. leaves.Both (ops.New var a)) leaf_as_read
    (read_as.Word words.New ∷ read_as.Variable var ∷ []) (λ t. refl) (λ a. refl) rest) ts

pub same_make_text : (action : List Token → Reads) (ts : List Token)
    → with_front (read_as.Word words.Text ∷ [])
    (read action (One kinds.Variable (One kinds.Chars (Keys (record { word = keywords.In; operand = Some kinds.Node } ∷ [])))) ts)
    ≡ shows leaf_as_read (make_text_of ts)
same_make_text action ts = one action kinds.Variable variable read_as.Variable
    (One kinds.Chars (Keys (record { word = keywords.In; operand = Some kinds.Node } ∷ []))) _ leaf_as_read (read_as.Word words.Text ∷ []) (λ t. refl)
    (λ x0 ts0. one action kinds.Chars text read_as.Chars (Keys (record { word = keywords.In; operand = Some kinds.Node } ∷ [])) _ leaf_as_read
    (read_as.Word words.Text ∷ read_as.Variable x0 ∷ []) (λ t. refl)
    (λ x1 ts1. last_opt keywords.In kinds.Node node read_as.Node (λ o. leaves.Both (ops.MakeText x0 x1 o)) leaf_as_read
    (read_as.Word words.Text ∷ read_as.Variable x0 ∷ read_as.Chars x1 ∷ []) (λ t. refl) (λ o. refl) ts1) ts0) ts

pub same_shadow : (action : List Token → Reads) (ts : List Token)
    → with_front (read_as.Word words.Shadow ∷ []) (read action (One kinds.Variable (One kinds.Node End)) ts) ≡ shows leaf_as_read (shadow_of ts)
same_shadow action ts = last_two action kinds.Variable kinds.Node variable node read_as.Variable read_as.Node
    (λ a b. leaves.Both (ops.Shadow a b)) leaf_as_read (read_as.Word words.Shadow ∷ []) (λ t. refl) (λ t. refl) (λ a b. refl) ts

pub same_append : (action : List Token → Reads) (ts : List Token)
    → with_front (read_as.Word words.Append ∷ []) (read action (One kinds.Node (One kinds.Node End)) ts) ≡ shows leaf_as_read (append_of ts)
same_append action ts = last_two action kinds.Node kinds.Node node node read_as.Node read_as.Node (λ a b. leaves.Both (ops.Append a b)) leaf_as_read
    (read_as.Word words.Append ∷ []) (λ t. refl) (λ t. refl) (λ a b. refl) ts

pub same_before : (action : List Token → Reads) (ts : List Token)
    → with_front (read_as.Word words.Before ∷ []) (read action (One kinds.Node (One kinds.Node (One kinds.Node End))) ts) ≡ shows leaf_as_read (before_of ts)
same_before action ts = one action kinds.Node node read_as.Node (One kinds.Node (One kinds.Node End)) _ leaf_as_read (read_as.Word words.Before ∷ [])
    (λ t. refl) (λ parent rest. last_two action kinds.Node kinds.Node node node read_as.Node read_as.Node
    (λ a b. leaves.Both (ops.Before parent a b)) leaf_as_read (read_as.Word words.Before ∷ read_as.Node parent ∷ []) (λ t. refl) (λ t. refl)
    (λ a b. refl) rest) ts

pub same_remove : (action : List Token → Reads) (ts : List Token)
    → with_front (read_as.Word words.Remove ∷ []) (read action (One kinds.Node (One kinds.Node End)) ts) ≡ shows leaf_as_read (remove_of ts)
same_remove action ts = last_two action kinds.Node kinds.Node node node read_as.Node read_as.Node (λ a b. leaves.Both (ops.Remove a b)) leaf_as_read
    (read_as.Word words.Remove ∷ []) (λ t. refl) (λ t. refl) (λ a b. refl) ts

pub same_detach : (action : List Token → Reads) (ts : List Token)
    → with_front (read_as.Word words.Detach ∷ []) (read action (One kinds.Node End) ts) ≡ shows leaf_as_read (detach_of ts)
same_detach action ts = last_one action kinds.Node node read_as.Node (λ a. leaves.Both (ops.Detach a)) leaf_as_read (read_as.Word words.Detach ∷ [])
    (λ t. refl) (λ a. refl) ts

pub same_clone : (action : List Token → Reads) (ts : List Token)
    → with_front (read_as.Word words.Clone ∷ [])
    (read action (One kinds.Variable (One kinds.Node (Keys (record { word = keywords.Deep; operand = None } ∷ [])))) ts) ≡ shows leaf_as_read (clone_of ts)
same_clone action ts = one action kinds.Variable variable read_as.Variable
    (One kinds.Node (Keys (record { word = keywords.Deep; operand = None } ∷ []))) _ leaf_as_read (read_as.Word words.Clone ∷ []) (λ t. refl)
    (λ x0 ts0. one action kinds.Node node read_as.Node (Keys (record { word = keywords.Deep; operand = None } ∷ [])) _ leaf_as_read
    (read_as.Word words.Clone ∷ read_as.Variable x0 ∷ []) (λ t. refl)
    (λ x1 ts1. marks keywords.Deep [] (λ d. ended d.1 >>= λ e. Ok (leaves.Both (ops.Clone x0 x1 d.0))) leaf_as_read
    (read_as.Word words.Clone ∷ read_as.Variable x0 ∷ read_as.Node x1 ∷ [])
    (λ x2 ts2. keys_end (read_as.Word words.Clone ∷ read_as.Variable x0 ∷ read_as.Node x1 ∷ mark x2 ∷ [])
    (leaves.Both (ops.Clone x0 x1 x2)) leaf_as_read refl ts2) ts1) ts0) ts

pub same_adopt : (action : List Token → Reads) (ts : List Token)
    → with_front (read_as.Word words.Adopt ∷ []) (read action (One kinds.Node (One kinds.Node End)) ts) ≡ shows leaf_as_read (adopt_of ts)
same_adopt action ts = last_two action kinds.Node kinds.Node node node read_as.Node read_as.Node (λ a b. leaves.Both (ops.Adopt a b)) leaf_as_read
    (read_as.Word words.Adopt ∷ []) (λ t. refl) (λ t. refl) (λ a b. refl) ts

pub same_let_variable : (action : List Token → Reads) (ts : List Token)
    → with_front (read_as.Word words.Let ∷ []) (read action (One kinds.Variable (One kinds.Node End)) ts) ≡ shows leaf_as_read (let_variable_of ts)
same_let_variable action ts = last_two action kinds.Variable kinds.Node variable node read_as.Variable read_as.Node
    (λ a b. leaves.Both (ops.Let a b)) leaf_as_read (read_as.Word words.Let ∷ []) (λ t. refl) (λ t. refl) (λ a b. refl) ts

pub same_doc : (action : List Token → Reads) (ts : List Token)
    → with_front (read_as.Word words.Doc ∷ []) (read action (One kinds.Variable End) ts) ≡ shows leaf_as_read (doc_of ts)
same_doc action ts = one action kinds.Variable variable read_as.Variable End _ leaf_as_read (read_as.Word words.Doc ∷ []) (λ t. refl)
    (λ x0 ts0. the_end action (read_as.Word words.Doc ∷ read_as.Variable x0 ∷ []) _ leaf_as_read refl ts0) ts

pub same_set_attr : (action : List Token → Reads) (ts : List Token)
    → with_front (read_as.Word words.SetAttr ∷ []) (read action (One kinds.Node (One kinds.Chars (One kinds.Value End))) ts)
    ≡ shows leaf_as_read (set_attr_of ts)
same_set_attr action ts = one action kinds.Node node read_as.Node (One kinds.Chars (One kinds.Value End)) _ leaf_as_read (read_as.Word words.SetAttr ∷ [])
    (λ t. refl) (λ target rest. one action kinds.Chars text read_as.Chars (One kinds.Value End) _ leaf_as_read
    (read_as.Word words.SetAttr ∷ read_as.Node target ∷ []) (λ t. refl)
    (λ name rest. last_one action kinds.Value value read_as.Value (λ a. leaves.Both (ops.SetAttr target name a)) leaf_as_read
    (read_as.Word words.SetAttr ∷ read_as.Node target ∷ read_as.Chars name ∷ []) (λ t. refl) (λ a. refl) rest) rest) ts

pub same_del_attr : (action : List Token → Reads) (ts : List Token)
    → with_front (read_as.Word words.DelAttr ∷ []) (read action (One kinds.Node (One kinds.Chars End)) ts) ≡ shows leaf_as_read (del_attr_of ts)
same_del_attr action ts = one action kinds.Node node read_as.Node (One kinds.Chars End) _ leaf_as_read (read_as.Word words.DelAttr ∷ []) (λ t. refl)
    (λ target rest. last_one action kinds.Chars text read_as.Chars (λ a. leaves.Both (ops.DelAttr target a)) leaf_as_read
    (read_as.Word words.DelAttr ∷ read_as.Node target ∷ []) (λ t. refl) (λ a. refl) rest) ts

pub same_define : (action : List Token → Reads) (ts : List Token)
    → with_front (read_as.Word words.Define ∷ [])
    (read action (One kinds.Chars (One kinds.Class (Keys (record { word = keywords.Extends; operand = Some kinds.Chars } ∷ [])))) ts)
    ≡ shows leaf_as_read (define_of ts)
same_define action ts = one action kinds.Chars text read_as.Chars
    (One kinds.Class (Keys (record { word = keywords.Extends; operand = Some kinds.Chars } ∷ []))) _ leaf_as_read (read_as.Word words.Define ∷ []) (λ t. refl)
    (λ x0 ts0. one action kinds.Class class_name read_as.Class (Keys (record { word = keywords.Extends; operand = Some kinds.Chars } ∷ [])) _ leaf_as_read
    (read_as.Word words.Define ∷ read_as.Chars x0 ∷ []) (λ t. refl)
    (λ x1 ts1. last_opt keywords.Extends kinds.Chars text read_as.Chars (λ o. leaves.Both (ops.Define x0 x1 o)) leaf_as_read
    (read_as.Word words.Define ∷ read_as.Chars x0 ∷ read_as.Class x1 ∷ []) (λ t. refl) (λ o. refl) ts1) ts0) ts

pub same_upgrade : (action : List Token → Reads) (ts : List Token)
    → with_front (read_as.Word words.Upgrade ∷ []) (read action (One kinds.Node End) ts) ≡ shows leaf_as_read (upgrade_of ts)
same_upgrade action ts = last_one action kinds.Node node read_as.Node (λ a. leaves.Both (ops.Upgrade a)) leaf_as_read (read_as.Word words.Upgrade ∷ [])
    (λ t. refl) (λ a. refl) ts

pub same_internals : (action : List Token → Reads) (ts : List Token)
    → with_front (read_as.Word words.Internals ∷ []) (read action (One kinds.Node End) ts) ≡ shows leaf_as_read (internals_of ts)
same_internals action ts = last_one action kinds.Node node read_as.Node (λ a. leaves.Both (ops.Internals a)) leaf_as_read (read_as.Word words.Internals ∷ [])
    (λ t. refl) (λ a. refl) ts

pub same_form_value : (action : List Token → Reads) (ts : List Token)
    → with_front (read_as.Word words.FormValue ∷ [])
    (read action (One kinds.Node (One kinds.Value (Keys (record { word = keywords.State; operand = Some kinds.Value } ∷ [])))) ts)
    ≡ shows leaf_as_read (form_value_of ts)
same_form_value action ts = one action kinds.Node node read_as.Node
    (One kinds.Value (Keys (record { word = keywords.State; operand = Some kinds.Value } ∷ []))) _ leaf_as_read (read_as.Word words.FormValue ∷ []) (λ t. refl)
    (λ x0 ts0. one action kinds.Value value read_as.Value (Keys (record { word = keywords.State; operand = Some kinds.Value } ∷ [])) _ leaf_as_read
    (read_as.Word words.FormValue ∷ read_as.Node x0 ∷ []) (λ t. refl)
    (λ x1 ts1. last_opt keywords.State kinds.Value value read_as.Value (λ o. leaves.Both (ops.FormValue x0 x1 o)) leaf_as_read
    (read_as.Word words.FormValue ∷ read_as.Node x0 ∷ read_as.Value x1 ∷ []) (λ t. refl) (λ o. refl) ts1) ts0) ts

pub same_form_null : (action : List Token → Reads) (ts : List Token)
    → with_front (read_as.Word words.FormNull ∷ []) (read action (One kinds.Node End) ts) ≡ shows leaf_as_read (form_null_of ts)
same_form_null action ts = last_one action kinds.Node node read_as.Node (λ a. leaves.Both (ops.FormNull a)) leaf_as_read (read_as.Word words.FormNull ∷ [])
    (λ t. refl) (λ a. refl) ts

pub same_validity : (action : List Token → Reads) (ts : List Token)
    → with_front (read_as.Word words.Validity ∷ []) (read action (One kinds.Node (One kinds.Flags (One kinds.Value End))) ts)
    ≡ shows leaf_as_read (validity_of ts)
same_validity action ts = one action kinds.Node node read_as.Node (One kinds.Flags (One kinds.Value End)) _ leaf_as_read (read_as.Word words.Validity ∷ [])
    (λ t. refl) (λ target rest. one action kinds.Flags flags (λ r. read_as.Flags (record { 0 = r })) (One kinds.Value End) _ leaf_as_read
    (read_as.Word words.Validity ∷ read_as.Node target ∷ []) (λ t. refl)
    (λ raised rest. last_one action kinds.Value value read_as.Value (λ a. leaves.Both (ops.Validity target (record { 0 = raised }) a)) leaf_as_read
    (read_as.Word words.Validity ∷ read_as.Node target ∷ read_as.Flags (record { 0 = raised }) ∷ []) (λ t. refl) (λ a. refl) rest) rest) ts

pub same_custom : (action : List Token → Reads) (ts : List Token)
    → with_front (read_as.Word words.Custom ∷ []) (read action (One kinds.Node (One kinds.Value End)) ts) ≡ shows leaf_as_read (custom_of ts)
same_custom action ts = last_two action kinds.Node kinds.Value node value read_as.Node read_as.Value (λ a b. leaves.Both (ops.Custom a b)) leaf_as_read
    (read_as.Word words.Custom ∷ []) (λ t. refl) (λ t. refl) (λ a b. refl) ts

pub same_reset : (action : List Token → Reads) (ts : List Token)
    → with_front (read_as.Word words.Reset ∷ []) (read action (One kinds.Node End) ts) ≡ shows leaf_as_read (reset_of ts)
same_reset action ts = last_one action kinds.Node node read_as.Node (λ a. leaves.Both (ops.Reset a)) leaf_as_read (read_as.Word words.Reset ∷ []) (λ t. refl)
    (λ a. refl) ts

pub same_value : (action : List Token → Reads) (ts : List Token)
    → with_front (read_as.Word words.Value ∷ []) (read action (One kinds.Node (One kinds.Value End)) ts) ≡ shows leaf_as_read (value_of ts)
same_value action ts = last_two action kinds.Node kinds.Value node value read_as.Node read_as.Value (λ a b. leaves.Both (ops.Value a b)) leaf_as_read
    (read_as.Word words.Value ∷ []) (λ t. refl) (λ t. refl) (λ a b. refl) ts

pub same_check : (action : List Token → Reads) (ts : List Token)
    → with_front (read_as.Word words.Check ∷ []) (read action (One kinds.Node on_off_wants) ts) ≡ shows leaf_as_read (check_of ts)
same_check action ts = node_switched action (λ a b. leaves.Both (ops.Check a b)) leaf_as_read (read_as.Word words.Check ∷ []) (λ a b. refl) ts

pub same_choose : (action : List Token → Reads) (ts : List Token)
    → with_front (read_as.Word words.Choose ∷ []) (read action (One kinds.Node on_off_wants) ts) ≡ shows leaf_as_read (choose_of ts)
same_choose action ts = node_switched action (λ a b. leaves.Both (ops.Choose a b)) leaf_as_read (read_as.Word words.Choose ∷ []) (λ a b. refl) ts

pub same_submit : (action : List Token → Reads) (ts : List Token)
    → with_front (read_as.Word words.Submit ∷ []) (read action (One kinds.Node End) ts) ≡ shows leaf_as_read (submit_of ts)
same_submit action ts = last_one action kinds.Node node read_as.Node (λ a. leaves.Both (ops.Submit a)) leaf_as_read (read_as.Word words.Submit ∷ [])
    (λ t. refl) (λ a. refl) ts

pub same_request : (action : List Token → Reads) (ts : List Token)
    → with_front (read_as.Word words.Request ∷ []) (read action (One kinds.Node (Maybe kinds.Node)) ts) ≡ shows leaf_as_read (request_of ts)
same_request action ts = one action kinds.Node node read_as.Node (Maybe kinds.Node) _ leaf_as_read (read_as.Word words.Request ∷ []) (λ t. refl)
    (λ x0 ts0. perhaps action (λ o. leaves.Both (ops.Request x0 o)) leaf_as_read (read_as.Word words.Request ∷ read_as.Node x0 ∷ []) (λ x1. refl) ts0) ts

pub same_base_call : (action : List Token → Reads) (ts : List Token)
    → with_front (read_as.Word words.Super ∷ []) (read action End ts) ≡ shows leaf_as_read (base_call_of ts)
same_base_call action ts = the_end action (read_as.Word words.Super ∷ []) _ leaf_as_read refl ts

pub same_return_form : (action : List Token → Reads) (ts : List Token)
    → with_front (read_as.Word words.Return ∷ []) (read action (Maybe kinds.Node) ts) ≡ shows leaf_as_read (return_form_of ts)
same_return_form action ts = perhaps action (λ o. leaves.Return o) leaf_as_read (read_as.Word words.Return ∷ []) (λ x0. refl) ts

pub same_throw : (action : List Token → Reads) (ts : List Token)
    → with_front (read_as.Word words.Throw ∷ []) (read action (One kinds.Value End) ts) ≡ shows leaf_as_read (throw_of ts)
same_throw action ts = last_one action kinds.Value value read_as.Value (λ a. leaves.Throw a) leaf_as_read (read_as.Word words.Throw ∷ []) (λ t. refl)
    (λ a. refl) ts

pub same_bump : (action : List Token → Reads) (ts : List Token)
    → with_front (read_as.Word words.Bump ∷ []) (read action End ts) ≡ shows leaf_as_read (bump_of ts)
same_bump action ts = the_end action (read_as.Word words.Bump ∷ []) _ leaf_as_read refl ts

pub same_keep : (action : List Token → Reads) (ts : List Token)
    → with_front (read_as.Word words.Keep ∷ []) (read action (One kinds.Value End) ts) ≡ shows leaf_as_read (keep_of ts)
same_keep action ts = last_one action kinds.Value value read_as.Value (λ a. leaves.Keep a) leaf_as_read (read_as.Word words.Keep ∷ []) (λ t. refl)
    (λ a. refl) ts

pub same_class : (action : List Token → Reads) (ts : List Token)
    → with_front (read_as.Word words.Class ∷ []) (read action (One kinds.Class End) ts) ≡ shows leaf_as_read (class_of ts)
same_class action ts = last_one action kinds.Class class_name read_as.Class (λ a. leaves.Class a) leaf_as_read (read_as.Word words.Class ∷ []) (λ t. refl)
    (λ a. refl) ts

pub same_has : (action : List Token → Reads) (ts : List Token)
    → with_front (read_as.Word words.Has ∷ []) (read action (One kinds.Class (One kinds.Callback End)) ts) ≡ shows leaf_as_read (has_of ts)
same_has action ts = one action kinds.Class class_name read_as.Class (One kinds.Callback End) _ leaf_as_read (read_as.Word words.Has ∷ []) (λ t. refl)
    (λ x0 ts0. one action kinds.Callback call_name read_as.Callback End _ leaf_as_read (read_as.Word words.Has ∷ read_as.Class x0 ∷ []) (λ t. refl)
    (λ x1 ts1. the_end action (read_as.Word words.Has ∷ read_as.Class x0 ∷ read_as.Callback x1 ∷ []) _ leaf_as_read refl ts1) ts0) ts

pub same_associate : (action : List Token → Reads) (ts : List Token)
    → with_front (read_as.Word words.Associate ∷ []) (read action (One kinds.Class End) ts) ≡ shows leaf_as_read (associate_of ts)
same_associate action ts = last_one action kinds.Class class_name read_as.Class (λ a. leaves.Associate a) leaf_as_read (read_as.Word words.Associate ∷ [])
    (λ t. refl) (λ a. refl) ts

pub same_user_edit : (action : List Token → Reads) (ts : List Token)
    → with_front (read_as.Word words.User ∷ read_as.Word words.Edit ∷ []) (read action (One kinds.Node (One kinds.Value End)) ts)
    ≡ shows leaf_as_read (users.edit_of ts)
same_user_edit action ts = last_two action kinds.Node kinds.Value node value read_as.Node read_as.Value (λ a b. leaves.UserEdit a b) leaf_as_read
    (read_as.Word words.User ∷ read_as.Word words.Edit ∷ []) (λ t. refl) (λ t. refl) (λ a b. refl) ts

pub same_user_check : (action : List Token → Reads) (ts : List Token)
    → with_front (read_as.Word words.User ∷ read_as.Word words.Check ∷ []) (read action (One kinds.Node on_off_wants) ts)
    ≡ shows leaf_as_read (users.check_of ts)
same_user_check action ts = node_switched action (λ a b. leaves.UserCheck a b) leaf_as_read (read_as.Word words.User ∷ read_as.Word words.Check ∷ [])
    (λ a b. refl) ts

pub same_user_choose : (action : List Token → Reads) (ts : List Token)
    → with_front (read_as.Word words.User ∷ read_as.Word words.Choose ∷ []) (read action (One kinds.Node on_off_wants) ts)
    ≡ shows leaf_as_read (users.choose_of ts)
same_user_choose action ts = node_switched action (λ a b. leaves.UserChoose a b) leaf_as_read (read_as.Word words.User ∷ read_as.Word words.Choose ∷ [])
    (λ a b. refl) ts

pub same_user_reset : (action : List Token → Reads) (ts : List Token)
    → with_front (read_as.Word words.User ∷ read_as.Word words.Reset ∷ []) (read action (One kinds.Node End) ts) ≡ shows leaf_as_read (users.reset_of ts)
same_user_reset action ts = last_one action kinds.Node node read_as.Node (λ a. leaves.UserReset a) leaf_as_read
    (read_as.Word words.User ∷ read_as.Word words.Reset ∷ []) (λ t. refl) (λ a. refl) ts

pub same_user_restore : (action : List Token → Reads) (ts : List Token)
    → with_front (read_as.Word words.User ∷ read_as.Word words.Restore ∷ []) (read action (One kinds.Node (One kinds.Value End)) ts)
    ≡ shows leaf_as_read (users.restore_of ts)
same_user_restore action ts = last_two action kinds.Node kinds.Value node value read_as.Node read_as.Value (λ a b. leaves.UserRestore a b) leaf_as_read
    (read_as.Word words.User ∷ read_as.Word words.Restore ∷ []) (λ t. refl) (λ t. refl) (λ a b. refl) ts

pub same_user_autofill : (action : List Token → Reads) (ts : List Token)
    → with_front (read_as.Word words.User ∷ read_as.Word words.Autofill ∷ []) (read action (One kinds.Node (One kinds.Value End)) ts)
    ≡ shows leaf_as_read (users.autofill_of ts)
same_user_autofill action ts =
    last_two action kinds.Node kinds.Value node value read_as.Node read_as.Value (λ a b. leaves.UserAutofill a b) leaf_as_read
    (read_as.Word words.User ∷ read_as.Word words.Autofill ∷ []) (λ t. refl) (λ t. refl) (λ a b. refl) ts

pub same_user_press : (action : List Token → Reads) (ts : List Token)
    → with_front (read_as.Word words.User ∷ read_as.Word words.Press ∷ []) (read action (One kinds.Node End) ts) ≡ shows leaf_as_read (users.press_of ts)
same_user_press action ts = last_one action kinds.Node node read_as.Node (λ a. leaves.UserPress a) leaf_as_read
    (read_as.Word words.User ∷ read_as.Word words.Press ∷ []) (λ t. refl) (λ a. refl) ts
