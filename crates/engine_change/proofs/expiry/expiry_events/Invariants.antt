use Rattle.flowfile_record.specs.Stored.{kept_of}
use Rattle.engine_change.proofs.Expiring.{IsTold}
use Rattle.engine_change.proofs.expiry.expiry_events.Given as goal

abbrev pub invariant-loop-number : goal.invariant-loop-number
invariant-loop-number l = IsTold l.component l.moment (kept_of l.state) l.numbers l.number-index l.last l.events.items
