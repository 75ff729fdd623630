use Rattle.run_law.proofs.Memory.{memory_counts_events, memory_is_the_state}
use Rattle.run_law.proofs.laws.memory_is_the_state.Goals as goal

pub returns-clause-kept : goal.returns-clause-kept
returns-clause-kept c = memory_is_the_state c.what_is_kept_is_a_state.ensures.stands c.events_up_to_the_last_are_in_a_row.ensures.numbered

pub returns-clause-counted : goal.returns-clause-counted
returns-clause-counted c = memory_counts_events c.what_is_kept_is_a_state.ensures.stands
