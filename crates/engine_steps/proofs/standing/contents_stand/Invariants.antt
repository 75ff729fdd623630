use Rattle.std.proofs.Common.{◌≡◌, ◌≤◌, Some, map, take, IsTrue}
use Rattle.disk_trait.specs.Images.{Stays}
use Rattle.content_repo.specs.Claims.{content_in}
use Rattle.flowfile_record.specs.declared.flow_file.FlowFile.{FlowFile}
use Rattle.process_session.specs.declared.file.Source.{Source}
use Rattle.engine_steps.proofs.standing.contents_stand.Given as goal

abbrev pub invariant-loop-place : goal.invariant-loop-place
invariant-loop-place g l = record {
  same : l.store ≡ l.fn.store;
  stays : Stays g.D.Disk.held g.D.Disk.moment g.D.Disk.images l.fn.disk l.disk;
  faults : g.D.Disk.faults l.fn.disk ≤ g.D.Disk.faults l.disk;
  stand : IsTrue g.D.Disk.tells → map (λ (source : Source). source.bytes) (take l.place l.sources) ≡ map (λ (file : FlowFile). Some (content_in (g.D.Disk.held l.fn.disk) file.content)) (take l.place l.files);
}
