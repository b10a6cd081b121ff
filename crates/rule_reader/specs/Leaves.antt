-- The forms without an action behind them, by their first words.
use Rattle.std.specs.Prelude.{List, Result, Err}
use Rattle.rule_tokens.specs.declared.refused.Bad.{Bad}
use Rattle.rule_tokens.specs.declared.refused.Bad.TheVariants as bad
use Rattle.rule_tokens.specs.declared.token.Token.{Token}
use Rattle.rule_lines.specs.declared.word.Word.{Word}
use Rattle.rule_lines.specs.declared.word.Word.TheVariants as words
use Rattle.rule_reader.specs.declared.form.Leaf.{Leaf}
use Rattle.rule_reader.specs.Attributes.{set_attr_of, del_attr_of}
use Rattle.rule_reader.specs.Bodies.{log_of, base_call_of, return_form_of, throw_of, bump_of, keep_of}
use Rattle.rule_reader.specs.Classes.{class_of, has_of, observe_of, associate_of, disable_of}
use Rattle.rule_reader.specs.Controls.{reset_of, value_of, check_of, choose_of, submit_of, request_of, ask_of}
use Rattle.rule_reader.specs.CustomElements.{define_of, upgrade_of}
use Rattle.rule_reader.specs.Internals.{internals_of, form_value_of, form_list_of, form_null_of, validity_of, state_of, custom_of}
use Rattle.rule_reader.specs.Tree.{create_of, new_of, make_text_of, shadow_of, append_of, before_of}
use Rattle.rule_reader.specs.Tree.{remove_of, detach_of, clone_of, adopt_of, let_variable_of, doc_of}
use Rattle.rule_reader.specs.Users.{user_of}

-- what the tokens behind the first word say
abbrev pub leaf_of : Word → List Token → Result Leaf Bad
leaf_of words.Create ts = create_of ts
leaf_of words.New ts = new_of ts
leaf_of words.Text ts = make_text_of ts
leaf_of words.Shadow ts = shadow_of ts
leaf_of words.Append ts = append_of ts
leaf_of words.Before ts = before_of ts
leaf_of words.Remove ts = remove_of ts
leaf_of words.Detach ts = detach_of ts
leaf_of words.SetAttr ts = set_attr_of ts
leaf_of words.DelAttr ts = del_attr_of ts
leaf_of words.Clone ts = clone_of ts
leaf_of words.Adopt ts = adopt_of ts
leaf_of words.Define ts = define_of ts
leaf_of words.Upgrade ts = upgrade_of ts
leaf_of words.Reset ts = reset_of ts
leaf_of words.Internals ts = internals_of ts
leaf_of words.FormValue ts = form_value_of ts
leaf_of words.FormList ts = form_list_of ts
leaf_of words.FormNull ts = form_null_of ts
leaf_of words.Validity ts = validity_of ts
leaf_of words.State ts = state_of ts
leaf_of words.Custom ts = custom_of ts
leaf_of words.Value ts = value_of ts
leaf_of words.Check ts = check_of ts
leaf_of words.Choose ts = choose_of ts
leaf_of words.Submit ts = submit_of ts
leaf_of words.Request ts = request_of ts
leaf_of words.Ask ts = ask_of ts
leaf_of words.Let ts = let_variable_of ts
leaf_of words.Log ts = log_of ts
leaf_of words.Super ts = base_call_of ts
leaf_of words.Return ts = return_form_of ts
leaf_of words.Throw ts = throw_of ts
leaf_of words.Bump ts = bump_of ts
leaf_of words.Keep ts = keep_of ts
leaf_of words.Class ts = class_of ts
leaf_of words.Has ts = has_of ts
leaf_of words.Observe ts = observe_of ts
leaf_of words.Associate ts = associate_of ts
leaf_of words.Disable ts = disable_of ts
leaf_of words.Doc ts = doc_of ts
leaf_of words.User ts = user_of ts
leaf_of _ ts = Err bad.Word
