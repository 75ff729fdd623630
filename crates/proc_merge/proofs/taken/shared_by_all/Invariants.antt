use Rattle.std.proofs.Common.{◌≡◌, drop, take}
use Rattle.std.specs.List.{All}
use Rattle.machine_model.specs.MergeContent.{shared_by_all}
use Rattle.proc_merge.specs.Taken.{IsSmall, files_seen}
use Rattle.proc_merge.proofs.Shared.{shared_with}
use Rattle.proc_merge.proofs.taken.shared_by_all.Given as goal

abbrev pub invariant-loop-place : goal.invariant-loop-place
invariant-loop-place l = record {
  same : shared_by_all (files_seen l.session) ≡ shared_with l.shared (drop l.place l.session.files);
  small : All IsSmall (take l.place l.session.files);
}
