use Rattle.std.proofs.Common.{◌≡◌, ◌*◌, ◌≤◌, All, length, map, sum_by}
use Rattle.flowfile_record.specs.Attributes.{IsWithinLimits}
use Rattle.flowfile_record.specs.declared.attributes.TheConstants.{ATTRIBUTES_MAX}
use Rattle.process_session.specs.Bench.{file_size, taken_source, files_taken}
use Rattle.process_session.proofs.session.taking.begin.Given as goal

abbrev pub invariant-loop-file : goal.invariant-loop-file
invariant-loop-file l = record {
  sources : l.begun.sources.items ≡ map taken_source l.yielded;
  files : l.begun.files.items ≡ files_taken 0 l.yielded;
  summed : l.begun.counted ≡ sum_by file_size (files_taken 0 l.yielded);
  small : l.begun.counted ≤ length l.yielded * ATTRIBUTES_MAX;
  limits : All (λ file. IsWithinLimits file.attributes) l.yielded;
  place : l.place ≡ length l.yielded;
}
