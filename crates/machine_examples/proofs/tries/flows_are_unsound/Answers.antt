use Rattle.machine_examples.proofs.TriedFlows.{untrue, alone-not-joined, unmarked-unsound, exact-marked}
use Rattle.machine_examples.specs.Flows.{getting}
use Rattle.std.proofs.Common.{arith, refl}
use Rattle.machine_examples.proofs.tries.flows_are_unsound.Goals as goal

pub returns : goal.returns
returns c = record {
  unconnected = λ sound. untrue sound.relationships;
  terminated = λ sound. untrue sound.relationships;
  into_source = λ sound. untrue sound.connections;
  doubled = λ sound. untrue sound.processor_ids;
  tight = λ sound. untrue sound.connections;
  turned = λ sound. untrue (sound.kinds 1 getting (omega arith)).ranges;
  blank = λ sound. untrue sound.processors;
  nowhere = λ sound. untrue sound.connections;
  crowded = λ sound. untrue sound.processors;
  strange = λ sound. untrue sound.connections;
  fanned = λ sound. untrue sound.relationships;
  alone = alone-not-joined;
  unmarked = unmarked-unsound;
  exact = exact-marked;
  empty_name = refl;
  comma = refl;
  blank_front = refl;
  blank_end = refl;
}
