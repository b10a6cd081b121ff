-- The law computes.
use Rattle.std.specs.Prelude.{[], ◌∷◌, refl}
use Rattle.std.specs.Str.{chars}
use Rattle.ce_algorithms.specs.Worked.Logs as logs
use Rattle.order_law.specs.Broken.{Breaks, CountsUp, RunsOnce, RunsInOrder, DropsByThrow, ClosesEmpty, Nests, UpgradesOnce, RepliesAtRest, FuelIsLast}
use Rattle.order_law.specs.Law.{Lawful}
use Rattle.order_law.specs.Samples as samples

pub traced_lawful : Lawful logs.traced
unfolding chars
traced_lawful = refl

pub traced_throws_lawful : Lawful logs.traced_throws
unfolding chars
traced_throws_lawful = refl

pub upgrade_lawful : Lawful samples.upgrade
unfolding chars
upgrade_lawful = refl

pub throws_lawful : Lawful samples.throws
unfolding chars
throws_lawful = refl

pub ruleset logs_lawful = (traced_lawful, traced_throws_lawful, upgrade_lawful, throws_lawful)

-- first clause

pub number_skipped_breaks : Breaks (CountsUp ∷ []) samples.number_skipped
unfolding chars
number_skipped_breaks = (refl, refl)

pub number_again_breaks : Breaks (CountsUp ∷ []) samples.number_again
unfolding chars
number_again_breaks = (refl, refl)

pub queue_skipped_breaks : Breaks (CountsUp ∷ []) samples.queue_skipped
unfolding chars
queue_skipped_breaks = (refl, refl)

pub other_queue_breaks : Breaks (CountsUp ∷ []) samples.other_queue
unfolding chars
other_queue_breaks = (refl, refl)

pub current_queue_passed_over_breaks : Breaks (CountsUp ∷ []) samples.current_queue_passed_over
unfolding chars
current_queue_passed_over_breaks = (refl, refl)

pub ruleset counts_up_breaks = (
  number_skipped_breaks,
  number_again_breaks,
  queue_skipped_breaks,
  other_queue_breaks,
  current_queue_passed_over_breaks,
)

-- second clause

pub start_of_nothing_breaks : Breaks (RunsOnce ∷ []) samples.start_of_nothing
unfolding chars
start_of_nothing_breaks = (refl, refl)

pub second_start_breaks : Breaks (RunsOnce ∷ []) samples.second_start
unfolding chars
second_start_breaks = (refl, refl)

pub start_in_upgrade_breaks : Breaks (RunsOnce ∷ []) samples.start_in_upgrade
unfolding chars
start_in_upgrade_breaks = (refl, refl)

pub call_outside_breaks : Breaks (RunsOnce ∷ []) samples.call_outside
unfolding chars
call_outside_breaks = (refl, refl)

pub call_in_upgrade_breaks : Breaks (RunsOnce ∷ []) samples.call_in_upgrade
unfolding chars
call_in_upgrade_breaks = (refl, refl)

pub call_of_other_element_breaks : Breaks (RunsOnce ∷ []) samples.call_of_other_element
unfolding chars
call_of_other_element_breaks = (refl, refl)

pub other_callback_breaks : Breaks (RunsOnce ∷ []) samples.other_callback
unfolding chars
other_callback_breaks = (refl, refl)

pub second_call_breaks : Breaks (RunsOnce ∷ []) samples.second_call
unfolding chars
second_call_breaks = (refl, refl)

pub no_call_breaks : Breaks (RunsOnce ∷ []) samples.no_call
unfolding chars
no_call_breaks = (refl, refl)

pub ruleset runs_once_breaks = (
  start_of_nothing_breaks,
  second_start_breaks,
  start_in_upgrade_breaks,
  call_outside_breaks,
  call_in_upgrade_breaks,
  call_of_other_element_breaks,
  other_callback_breaks,
  second_call_breaks,
  no_call_breaks,
)

-- third clause

pub start_before_lower_breaks : Breaks (RunsInOrder ∷ []) samples.start_before_lower
unfolding chars
start_before_lower_breaks = (refl, refl)

pub drop_before_lower_breaks : Breaks (RunsInOrder ∷ []) samples.drop_before_lower
unfolding chars
drop_before_lower_breaks = (refl, refl)

pub ruleset runs_in_order_breaks = (start_before_lower_breaks, drop_before_lower_breaks)

-- fourth clause

pub drop_without_throw_breaks : Breaks (DropsByThrow ∷ []) samples.drop_without_throw
unfolding chars
drop_without_throw_breaks = (refl, refl)

pub drop_and_no_throw_breaks : Breaks (DropsByThrow ∷ []) samples.drop_and_no_throw
unfolding chars
drop_and_no_throw_breaks = (refl, refl)

pub drop_in_reaction_breaks : Breaks (DropsByThrow ∷ []) samples.drop_in_reaction
unfolding chars
drop_in_reaction_breaks = (refl, refl)

pub drop_in_drain_breaks : Breaks (DropsByThrow ∷ []) samples.drop_in_drain
unfolding chars
drop_in_drain_breaks = (refl, refl)

pub throw_with_one_waiting_breaks : Breaks (DropsByThrow ∷ []) samples.throw_with_one_waiting
unfolding chars
throw_with_one_waiting_breaks = (refl, refl)

pub ruleset drops_by_throw_breaks = (
  drop_without_throw_breaks,
  drop_and_no_throw_breaks,
  drop_in_reaction_breaks,
  drop_in_drain_breaks,
  throw_with_one_waiting_breaks,
)

-- fifth clause

pub close_with_one_waiting_breaks : Breaks (ClosesEmpty ∷ []) samples.close_with_one_waiting
unfolding chars
close_with_one_waiting_breaks = (refl, refl)

-- sixth clause

pub end_around_another_breaks : Breaks (Nests ∷ []) samples.end_around_another
unfolding chars
end_around_another_breaks = (refl, refl)

pub end_of_other_reaction_breaks : Breaks (Nests ∷ []) samples.end_of_other_reaction
unfolding chars
end_of_other_reaction_breaks = (refl, refl)

pub end_of_other_upgrade_breaks : Breaks (Nests ∷ []) samples.end_of_other_upgrade
unfolding chars
end_of_other_upgrade_breaks = (refl, refl)

pub close_of_other_queue_breaks : Breaks (Nests ∷ []) samples.close_of_other_queue
unfolding chars
close_of_other_queue_breaks = (refl, refl)

pub drain_twice_breaks : Breaks (Nests ∷ []) samples.drain_twice
unfolding chars
drain_twice_breaks = (refl, refl)

pub checkpoint_in_drain_breaks : Breaks (Nests ∷ []) samples.checkpoint_in_drain
unfolding chars
checkpoint_in_drain_breaks = (refl, refl)

pub no_checkpoint_breaks : Breaks (Nests ∷ []) samples.no_checkpoint
unfolding chars
no_checkpoint_breaks = (refl, refl)

pub ruleset nests_breaks = (
  end_around_another_breaks,
  end_of_other_reaction_breaks,
  end_of_other_upgrade_breaks,
  close_of_other_queue_breaks,
  drain_twice_breaks,
  checkpoint_in_drain_breaks,
  no_checkpoint_breaks,
)

-- seventh clause

pub second_upgrade_breaks : Breaks (UpgradesOnce ∷ []) samples.second_upgrade
unfolding chars
second_upgrade_breaks = (refl, refl)

pub upgrade_in_drain_breaks : Breaks (UpgradesOnce ∷ []) samples.upgrade_in_drain
unfolding chars
upgrade_in_drain_breaks = (refl, refl)

pub callback_after_throw_breaks : Breaks (UpgradesOnce ∷ []) samples.callback_after_throw
unfolding chars
callback_after_throw_breaks = (refl, refl)

pub ruleset upgrades_once_breaks = (
  second_upgrade_breaks,
  upgrade_in_drain_breaks,
  callback_after_throw_breaks,
)

-- eighth clause

pub reply_in_bracket_breaks : Breaks (RepliesAtRest ∷ []) samples.reply_in_bracket
unfolding chars
reply_in_bracket_breaks = (refl, refl)

pub reply_with_one_waiting_breaks : Breaks (Nests ∷ RepliesAtRest ∷ []) samples.reply_with_one_waiting
unfolding chars
reply_with_one_waiting_breaks = (refl, refl)

pub ruleset replies_at_rest_breaks = (reply_in_bracket_breaks, reply_with_one_waiting_breaks)

-- the end of the fuel

pub behind_fuel_breaks : Breaks (FuelIsLast ∷ []) samples.behind_fuel
unfolding chars
behind_fuel_breaks = (refl, refl)
