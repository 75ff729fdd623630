use Rattle.flow_query.proofs.Live.{IsFileLeft}
use Rattle.flow_query.proofs.content.find_live.Given as goal

abbrev pub invariant-loop-active : goal.invariant-loop-active
invariant-loop-active l = IsFileLeft l.stored.store l.id l.stored.files.items l.active-iterator
