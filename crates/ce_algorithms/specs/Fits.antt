-- What a node has to be where an operand names it: tests of the page and the node.
use Rattle.std.specs.Prelude.{ℕ, Bool, true, ◌||◌}
use Rattle.node_trees.specs.Facts.{is_document, is_element, is_text}
use Rattle.node_trees.specs.Spots.{kind_at}
use Rattle.element_names.specs.declared.natives.Native.TheVariants.{Form as FormElement, OptionItem}
use Rattle.form_controls.specs.Internals.{is_attached}
use Rattle.form_controls.specs.Kinds.{is_a, is_button, is_text_control, is_tickable, native_at}
use Rattle.form_controls.specs.Owners.{is_listed_native}
use Rattle.ce_algorithms.specs.declared.fit.Fit.{Fit}
use Rattle.ce_algorithms.specs.declared.fit.Fit.TheVariants.{Any, Element, Document, ElementOrText, Form, Listed, ListedNative, Submittable}
use Rattle.ce_algorithms.specs.declared.fit.Fit.TheVariants.{SubmittableOrOption, TextControl, Tickable, AnOption, Button}
use Rattle.ce_algorithms.specs.declared.fit.Fit.TheVariants.{FormAssociated, CustomFormAssociated, WithInternals}
use Rattle.ce_algorithms.specs.Page.{Page, definition_of}
use Rattle.ce_algorithms.specs.Forms.{is_custom_form_associated, is_form_associated, is_listed, is_submittable}

abbrev pub fits : Fit → Page → ℕ → Bool
fits Any p n = true
fits Element p n = is_element (kind_at p.forest n)
fits Document p n = is_document (kind_at p.forest n)
fits ElementOrText p n = is_element (kind_at p.forest n) || is_text (kind_at p.forest n)
fits Form p n = is_a FormElement p.forest n
fits Listed p n = is_listed p n
fits ListedNative p n = is_listed_native (native_at p.forest n)
fits Submittable p n = is_submittable p n
fits SubmittableOrOption p n = is_submittable p n || is_a OptionItem p.forest n
fits TextControl p n = is_text_control p.forest n
fits Tickable p n = is_tickable p.forest n
fits AnOption p n = is_a OptionItem p.forest n
fits Button p n = is_button p.forest n
fits FormAssociated p n = is_form_associated (definition_of p n)
fits CustomFormAssociated p n = is_custom_form_associated p n
fits WithInternals p n = is_attached p.internals n
