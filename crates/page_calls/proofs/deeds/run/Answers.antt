use Rattle.page_calls.proofs.GivenLaws.{grows_where_it_stays, keeps_unrefused, node_ends, node_keeps, node_there, nothing_ends, nothing_keeps, nothing_there}
use Rattle.page_calls.proofs.deeds.run.Goals as goal

pub returns-in-MakeText : goal.returns-in-MakeText
returns-in-MakeText c = record {
  step = rw (c.gives_node.ensures, c.in-MakeText.is) (node_ends _ _ _ c.create_text.ensures.step);
  within = c.create_text.ensures.within;
  there = rw c.gives_node.ensures (node_there _ _ c.create_text.ensures.made);
  refused = rw c.gives_node.ensures (node_keeps _ _ _ (keeps_unrefused _ _ _ c.create_text.ensures.refused));
}

pub returns-in-Shadow : goal.returns-in-Shadow
returns-in-Shadow c = record {
  step = rw (c.gives_node-in-Shadow.ensures, c.in-Shadow.is) (node_ends _ _ _ c.attach_shadow.ensures.step);
  within = c.attach_shadow.ensures.within;
  there = rw c.gives_node-in-Shadow.ensures (node_there _ _ c.attach_shadow.ensures.made);
  refused = rw c.gives_node-in-Shadow.ensures (node_keeps _ _ _ c.attach_shadow.ensures.refused);
}

pub returns-in-Insert : goal.returns-in-Insert
returns-in-Insert c = record {
  step = rw (c.gives_nothing.ensures, c.in-Insert.is) (nothing_ends _ _ _ c.insert_node.ensures.step);
  within = grows_where_it_stays _ _ _ _ c.insert_node.ensures.within;
  there = rw c.gives_nothing.ensures (nothing_there _ _);
  refused = rw c.gives_nothing.ensures (nothing_keeps _ _ _ c.insert_node.ensures.refused);
}

pub returns-in-Remove : goal.returns-in-Remove
returns-in-Remove c = record {
  step = rw (c.gives_nothing-in-Remove.ensures, c.in-Remove.is) (nothing_ends _ _ _ c.remove_child.ensures.step);
  within = grows_where_it_stays _ _ _ _ c.remove_child.ensures.within;
  there = rw c.gives_nothing-in-Remove.ensures (nothing_there _ _);
  refused = rw c.gives_nothing-in-Remove.ensures (nothing_keeps _ _ _ c.remove_child.ensures.refused);
}

pub returns-in-Detach : goal.returns-in-Detach
returns-in-Detach c = record {
  step = rw (c.gives_nothing-in-Detach.ensures, c.in-Detach.is) (nothing_ends _ _ _ c.detach.ensures.step);
  within = grows_where_it_stays _ _ _ _ c.detach.ensures.within;
  there = rw c.gives_nothing-in-Detach.ensures (nothing_there _ _);
  refused = rw c.gives_nothing-in-Detach.ensures (nothing_keeps _ _ _ c.detach.ensures.refused);
}

pub returns-in-SetAttr : goal.returns-in-SetAttr
returns-in-SetAttr c = record {
  step = rw (c.gives_nothing-in-SetAttr.ensures, c.in-SetAttr.is) (nothing_ends _ _ _ (rw c.as_str.ensures at c.set_named.ensures.step));
  within = grows_where_it_stays _ _ _ _ c.set_named.ensures.within;
  there = rw c.gives_nothing-in-SetAttr.ensures (nothing_there _ _);
  refused = rw c.gives_nothing-in-SetAttr.ensures (nothing_keeps _ _ _ c.set_named.ensures.refused);
}

pub returns-in-DelAttr : goal.returns-in-DelAttr
returns-in-DelAttr c = record {
  step = rw (c.gives_nothing-in-DelAttr.ensures, c.in-DelAttr.is) (nothing_ends _ _ _ (rw c.as_str-in-DelAttr.ensures at c.remove_named.ensures.step));
  within = grows_where_it_stays _ _ _ _ c.remove_named.ensures.within;
  there = rw c.gives_nothing-in-DelAttr.ensures (nothing_there _ _);
  refused = rw c.gives_nothing-in-DelAttr.ensures (nothing_keeps _ _ _ c.remove_named.ensures.refused);
}

pub returns-in-Clone : goal.returns-in-Clone
returns-in-Clone c = record {
  step = rw (c.gives_node-in-Clone.ensures, c.in-Clone.is) (node_ends _ _ _ c.clone_node.ensures.step);
  within = c.clone_node.ensures.within;
  there = rw c.gives_node-in-Clone.ensures (node_there _ _ c.clone_node.ensures.made);
  refused = rw c.gives_node-in-Clone.ensures (node_keeps _ _ _ c.clone_node.ensures.refused);
}

pub returns-in-Adopt : goal.returns-in-Adopt
returns-in-Adopt c = record {
  step = rw (c.gives_nothing-in-Adopt.ensures, c.in-Adopt.is) (nothing_ends _ _ _ c.adopt.ensures.step);
  within = grows_where_it_stays _ _ _ _ c.adopt.ensures.within;
  there = rw c.gives_nothing-in-Adopt.ensures (nothing_there _ _);
  refused = rw c.gives_nothing-in-Adopt.ensures (nothing_keeps _ _ _ c.adopt.ensures.refused);
}

pub returns-in-Upgrade : goal.returns-in-Upgrade
returns-in-Upgrade c = record {
  step = rw (c.gives_nothing-in-Upgrade.ensures, c.in-Upgrade.is) (nothing_ends _ _ _ c.upgrade_all.ensures.step);
  within = grows_where_it_stays _ _ _ _ c.upgrade_all.ensures.within;
  there = rw c.gives_nothing-in-Upgrade.ensures (nothing_there _ _);
  refused = rw c.gives_nothing-in-Upgrade.ensures (nothing_keeps _ _ _ (keeps_unrefused _ _ _ c.upgrade_all.ensures.refused));
}
