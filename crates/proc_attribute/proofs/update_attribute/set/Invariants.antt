use Rattle.std.proofs.Common.{◌≡◌, true, drop, map}
use Rattle.flowfile_record.specs.declared.worked.Origin.TheVariants.{Taken as FromQueue}
use Rattle.machine_model.specs.Making.{with_all_set}
use Rattle.process_session.specs.Bench.{bench_attributes}
use Rattle.process_session.specs.Changes.{with_attributes}
use Rattle.proc_attribute.specs.Setting.{have_keys, set_by}
use Rattle.proc_attribute.proofs.update_attribute.set.Given as goal

abbrev pub invariant-loop-setting : goal.invariant-loop-setting
invariant-loop-setting l = record {
  after : l.session ≡ with_attributes l.initial.session 0 (bench_attributes l.session 0);
  same : with_all_set (FromQueue 0) (bench_attributes l.initial.session 0) (map set_by l.settings)
      ≡ with_all_set (FromQueue 0) (bench_attributes l.session 0) (map set_by (drop l.setting-index l.settings));
  keys : have_keys (map set_by (drop l.setting-index l.settings)) ≡ true;
}
