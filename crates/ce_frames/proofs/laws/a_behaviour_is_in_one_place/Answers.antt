use Rattle.ce_frames.proofs.Moves.{at_home, all_home, top_has, fetched, handed_back, from_home, to_home, changed, waits, waited, seen_holding}
use Rattle.ce_frames.proofs.laws.a_behaviour_is_in_one_place.Goals as goal

pub returns-clause-top : goal.returns-clause-top
returns-clause-top c = top_has

pub returns-clause-fetched : goal.returns-clause-fetched
returns-clause-fetched c = fetched

pub returns-clause-handed_back : goal.returns-clause-handed_back
returns-clause-handed_back c = handed_back

pub returns-clause-from_home : goal.returns-clause-from_home
returns-clause-from_home c = from_home

pub returns-clause-to_home : goal.returns-clause-to_home
returns-clause-to_home c = to_home

pub returns-clause-changed : goal.returns-clause-changed
returns-clause-changed c = changed

pub returns-clause-waits : goal.returns-clause-waits
returns-clause-waits c = waits

pub returns-clause-waited : goal.returns-clause-waited
returns-clause-waited c = waited

pub returns-clause-seen : goal.returns-clause-seen
returns-clause-seen c = seen_holding

pub returns-clause-at_home : goal.returns-clause-at_home
returns-clause-at_home c = at_home

pub returns-clause-all_home : goal.returns-clause-all_home
returns-clause-all_home c = all_home
