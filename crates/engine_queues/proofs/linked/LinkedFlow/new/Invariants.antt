use Rattle.engine_queues.proofs.Linking.{AreLinksSoFar}
use Rattle.engine_queues.proofs.linked.LinkedFlow.new.Given as goal

abbrev pub invariant-loop-processor : goal.invariant-loop-processor
invariant-loop-processor l = AreLinksSoFar l.flow.connections l.processor l.links.items
