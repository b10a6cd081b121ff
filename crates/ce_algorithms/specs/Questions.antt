-- Questions: of which nodes each can be asked, and what it answers.
use Rattle.std.specs.Prelude.{ℕ, if◌then◌else◌, List, Option, Some, None}
use Rattle.std.specs.Str.{str_to_ascii_lowercase}
use Rattle.node_trees.specs.Spots.{parent_at, children_at, attribute_at}
use Rattle.rule_lines.specs.declared.ask_word.AskWord.{AskWord}
use Rattle.rule_lines.specs.declared.ask_word.AskWord.TheVariants as words
use Rattle.reaction_queue.specs.Queues.{or_empty}
use Rattle.ce_events.specs.declared.event.Answer.{Answer}
use Rattle.ce_events.specs.declared.event.Answer.TheVariants as answers
use Rattle.ce_algorithms.specs.declared.fit.Fit.{Fit}
use Rattle.ce_algorithms.specs.declared.fit.Fit.TheVariants as fit
use Rattle.ce_algorithms.specs.Page.{Page, definition_of, state_of}
use Rattle.form_controls.specs.declared.value.Value.{Value}
use Rattle.form_controls.specs.declared.value.Value.TheVariants as values
use Rattle.form_controls.specs.Barred.{will_validate}
use Rattle.form_controls.specs.Checkedness.{is_checked}
use Rattle.form_controls.specs.Internals.{kept_by}
use Rattle.form_controls.specs.Validity.{flags, message_of}
use Rattle.form_controls.specs.Values.{value}
use Rattle.ce_algorithms.specs.Forms.{forms_of, form_owner, controls_of, is_disabled, is_form_associated}

pub record Question : Type 0 where
  pub asked_of : Fit  -- the node that it can be asked of
  pub answer : Page → ℕ → Answer

abbrev pub text_answer : Option (List ℕ) → Answer
text_answer None = answers.Null
text_answer (Some text) = answers.One text

abbrev pub node_answer : Option ℕ → Answer
node_answer None = answers.Null
node_answer (Some n) = answers.Node n

-- a submission value or a state
abbrev pub kept_answer : Value → Answer
kept_answer values.Nothing = answers.Null
kept_answer (values.One text) = answers.One text
kept_answer (values.Many entries) = answers.Many

-- a form-associated custom element has its submission value
abbrev pub value_answer : Page → ℕ → Answer
value_answer p n = if is_form_associated (definition_of p n) then kept_answer (kept_by p.internals n).value else answers.One (value p.controls p.forest n)

abbrev asked_of : Fit → (Page → ℕ → Answer) → Question
asked_of what answer = record { asked_of = what; answer = answer }

-- a row for each question; an attribute is asked for by its name, lowercased
abbrev pub question : AskWord → Option (List ℕ) → Question
question words.Attr name = asked_of fit.Element (λ p n. text_answer (attribute_at p.forest n (str_to_ascii_lowercase (or_empty name))))
question words.Parent name = asked_of fit.Any (λ p n. node_answer (parent_at p.forest n))
question words.Kids name = asked_of fit.Any (λ p n. answers.Nodes (children_at p.forest n))
question words.State name = asked_of fit.Element (λ p n. answers.State (state_of p n))
question words.Owner name = asked_of fit.Listed (λ p n. node_answer (form_owner p n))
question words.Controls name = asked_of fit.Form (λ p n. answers.Nodes (controls_of p n))
question words.Disabled name = asked_of fit.SubmittableOrOption (λ p n. answers.Truth (is_disabled p n))
question words.Value name = asked_of fit.Submittable value_answer
question words.Saved name = asked_of fit.FormAssociated (λ p n. kept_answer (kept_by p.internals n).saved)
question words.States name = asked_of fit.WithInternals (λ p n. answers.Texts (kept_by p.internals n).states)
question words.Checked name = asked_of fit.Tickable (λ p n. answers.Truth (is_checked (forms_of p) p.controls n))
question words.Candidate name = asked_of fit.Submittable (λ p n. answers.Truth (will_validate (forms_of p) n))
question words.Valid name = asked_of fit.Submittable (λ p n. answers.Raised (flags (forms_of p) p.controls p.internals n))
question words.Message name = asked_of fit.Submittable (λ p n. answers.One (message_of (forms_of p) p.controls p.internals n))
