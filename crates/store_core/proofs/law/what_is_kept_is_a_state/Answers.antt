use Rattle.store_core.proofs.Validity.{kept_is_valid, live_is_queued, queued_is_live, held_stands}
use Rattle.store_core.proofs.law.what_is_kept_is_a_state.Goals as goal

pub returns-clause-valid : goal.returns-clause-valid
returns-clause-valid c = λ flow contents events k is none in_row last connections counts. kept_is_valid contents events k flow is in_row last connections counts

pub returns-clause-queued : goal.returns-clause-queued
returns-clause-queued c = λ contents events k a is has. live_is_queued contents events k a is has

pub returns-clause-live : goal.returns-clause-live
returns-clause-live c = λ contents events k place file has. queued_is_live contents events k place file has

pub returns-clause-stands : goal.returns-clause-stands
returns-clause-stands c = held_stands
