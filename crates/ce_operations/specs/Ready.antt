-- What doing a deed asks of the page: the nodes that its steps read are there, and are what they need.
use Rattle.node_trees.specs.Nodes.{IsNode}
use Rattle.node_trees.specs.Trees.{Trees}
use Rattle.ce_algorithms.specs.declared.deed.Deed.{Deed}
use Rattle.ce_algorithms.specs.declared.deed.Deed.TheVariants as deeds
use Rattle.ce_algorithms.specs.declared.deed.Deed.TheVariants.{OnPage, OnControls, OnInternals, OnForms, Submits}
use Rattle.session_state.specs.Commands.{IsReadyOnControls}
use Rattle.session_state.specs.Ready.{IsReadyOnForms, IsReadyOnInternals, IsReadyOnPage, IsReadyToSubmit}

abbrev pub IsReady : Trees → Deed → Type 0
IsReady f (deeds.Create local is document) = Unit {0}
IsReady f (deeds.New class) = Unit {0}
IsReady f (deeds.Define name class base) = Unit {0}
IsReady f (OnPage what) = IsReadyOnPage f what
IsReady f (OnControls what) = IsReadyOnControls f what
IsReady f (OnInternals what) = IsReadyOnInternals f what
IsReady f (OnForms what) = IsReadyOnForms f what
IsReady f (Submits what) = IsReadyToSubmit f what
IsReady f (deeds.Ask word n name) = IsNode f n
IsReady f (deeds.Let var n) = IsNode f n
