use Rattle.engine_queues.proofs.Sources.{AreSourcesSoFar}
use Rattle.engine_queues.proofs.listing.Listing.new.Given as goal

abbrev pub invariant-loop-processor : goal.invariant-loop-processor
invariant-loop-processor l =
    AreSourcesSoFar l.flow.processors l.names.items l.taken.items l.processor-index l.sources.items
