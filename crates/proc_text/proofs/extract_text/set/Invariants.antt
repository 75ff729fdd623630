use Rattle.std.proofs.Common.{◌≡◌, drop, map}
use Rattle.process_session.specs.Bench.{bench_attributes}
use Rattle.processor_api.specs.Acts.{KeepsTaken}
use Rattle.processor_api.specs.Sessions.{BeganWithOne}
use Rattle.proc_text.specs.Extracting.{pair_of, with_named}
use Rattle.proc_text.proofs.extract_text.set.Given as goal

abbrev pub invariant-loop-extract : goal.invariant-loop-extract
invariant-loop-extract l = record {
  began : BeganWithOne l.session;
  kept : KeepsTaken l.initial.session l.session;
  same : with_named (bench_attributes l.initial.session 0) (map pair_of l.extracts) ≡ with_named (bench_attributes l.session 0) (map pair_of (drop l.extract-index l.extracts));
}
