use Rattle.std.proofs.Common.{◌≡◌, replicate}
use Rattle.machine_model.specs.Making.{clone_of}
use Rattle.process_session.specs.Bench.{bench_attributes}
use Rattle.processor_api.specs.Cloning.{with_ended}
use Rattle.proc_attribute.proofs.duplicate_flow_file.add_clones.Given as goal

abbrev pub invariant-loop : goal.invariant-loop
invariant-loop l = l.session ≡ with_ended l.fn.session (replicate l.counter (clone_of 0 (bench_attributes l.fn.session 0) 0))
