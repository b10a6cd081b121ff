-- What doing a deed asks of the page: the nodes that its steps read are there, and are what they need.
use Rattle.std.specs.Prelude.{◌≡◌}
use Rattle.node_trees.specs.declared.kind.NodeKind.TheVariants.{Element as ElementKind}
use Rattle.node_trees.specs.Nodes.{IsNode, IsNodeOrNone}
use Rattle.node_trees.specs.Spots.{kind_at}
use Rattle.node_trees.specs.Trees.{Trees}
use Rattle.ce_algorithms.specs.declared.deed.FormDeed.{FormDeed}
use Rattle.ce_algorithms.specs.declared.deed.FormDeed.TheVariants.{Reset, Restore}
use Rattle.ce_algorithms.specs.declared.deed.InternalsDeed.{InternalsDeed}
use Rattle.ce_algorithms.specs.declared.deed.InternalsDeed.TheVariants.{Attach, SetValue, SetValidity, AddState, DeleteState, ClearStates}
use Rattle.ce_algorithms.specs.declared.deed.PageDeed.{PageDeed}
use Rattle.ce_algorithms.specs.declared.deed.PageDeed.TheVariants as page_deeds
use Rattle.ce_algorithms.specs.declared.deed.SubmitDeed.{SubmitDeed}
use Rattle.ce_algorithms.specs.declared.deed.SubmitDeed.TheVariants.{Submit, Request, Press}

abbrev pub IsReadyOnPage : Trees → PageDeed → Type 0
IsReadyOnPage f (page_deeds.MakeText chars document) = Unit {0}
IsReadyOnPage f (page_deeds.Shadow host) = IsNode f host × (kind_at f host ≡ ElementKind)
IsReadyOnPage f (page_deeds.Insert parent n before) = IsNode f parent × (IsNode f n × IsNodeOrNone f before)
IsReadyOnPage f (page_deeds.Remove parent n) = IsNode f n
IsReadyOnPage f (page_deeds.Detach n) = IsNode f n
IsReadyOnPage f (page_deeds.SetAttr n name value) = IsNode f n × (kind_at f n ≡ ElementKind)
IsReadyOnPage f (page_deeds.DelAttr n name) = IsNode f n × (kind_at f n ≡ ElementKind)
IsReadyOnPage f (page_deeds.Clone n deep) = IsNode f n
IsReadyOnPage f (page_deeds.Adopt document n) = IsNode f n
IsReadyOnPage f (page_deeds.Upgrade n) = IsNode f n

abbrev pub IsReadyOnInternals : Trees → InternalsDeed → Type 0
IsReadyOnInternals f (Attach n) = IsNode f n
IsReadyOnInternals f (SetValue n value saved) = IsNode f n
IsReadyOnInternals f (SetValidity n flags message) = IsNode f n
IsReadyOnInternals f (AddState n word) = IsNode f n
IsReadyOnInternals f (DeleteState n word) = IsNode f n
IsReadyOnInternals f (ClearStates n) = IsNode f n

abbrev pub IsReadyOnForms : Trees → FormDeed → Type 0
IsReadyOnForms f (Reset form by_user) = IsNode f form
IsReadyOnForms f (Restore n text mode) = IsNode f n

abbrev pub IsReadyToSubmit : Trees → SubmitDeed → Type 0
IsReadyToSubmit f (Submit form) = IsNode f form
IsReadyToSubmit f (Request form submitter) = IsNode f form × IsNodeOrNone f submitter
IsReadyToSubmit f (Press button) = IsNode f button
