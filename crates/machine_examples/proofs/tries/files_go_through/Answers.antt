use Rattle.machine_examples.proofs.TriedRun.{received-hi, received-empty, sent-hi, sent-empty, delivered}
use Rattle.machine_examples.proofs.TriedSizes.{full-received, too-long-refused, too-long-left}
use Rattle.machine_examples.specs.Small.{hi}
use Rattle.std.proofs.Common.{[]}
use Rattle.machine_examples.proofs.tries.files_go_through.Goals as goal

pub returns : goal.returns
returns c = record {
  received = received-hi;
  sent = sent-hi;
  replayed = delivered hi received-hi sent-hi;
  replayed_empty = delivered [] received-empty sent-empty;
  long_full = full-received;
  long_too_long = too-long-refused;
  long_left = too-long-left;
}
