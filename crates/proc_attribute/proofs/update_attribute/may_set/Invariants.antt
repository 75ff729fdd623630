use Rattle.std.proofs.Common.{◌≡◌, true, drop, map}
use Rattle.flowfile_record.specs.declared.worked.Origin.TheVariants.{Taken as FromQueue}
use Rattle.machine_model.specs.Making.{with_all_set}
use Rattle.proc_attribute.specs.Setting.{have_keys, set_by}
use Rattle.proc_attribute.proofs.update_attribute.may_set.Given as goal

abbrev pub invariant-loop-setting : goal.invariant-loop-setting
invariant-loop-setting l = record {
  same : with_all_set (FromQueue 0) l.attributes (map set_by l.settings) ≡ with_all_set (FromQueue 0) l.tried (map set_by (drop l.setting-index l.settings));
  keys : have_keys (map set_by (drop l.setting-index l.settings)) ≡ true;
}
