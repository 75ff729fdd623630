use Rattle.flowfile_record.specs.Name.{is_name}
use Rattle.machine_examples.proofs.TriedNames.{a_txt-name, bad-name, no-name}
use Rattle.machine_examples.proofs.TriedOutboxes.{put-reads}
use Rattle.machine_examples.proofs.TriedParts.{same_attributes-self}
use Rattle.machine_examples.proofs.TriedPuts.{puts, fails, replaces, ignores, refuses}
use Rattle.machine_examples.proofs.TriedWorlds.{no-kin-more}
use Rattle.machine_examples.specs.Small.{a_txt, no_kin}
use Rattle.machine_model.specs.Acting.{received_attributes}
use Rattle.machine_model.specs.declared.kind.Conflict.TheVariants.{Replace, Ignore, Fail}
use Rattle.std.proofs.Common.{[], refl}
use Rattle.std.specs.FinMap.{empty}
use Rattle.std.specs.Prelude.{Some, true, false, codes}
use Rattle.std.specs.Str.{is_utf8, chars}
use lib.Utf8.{encode}
use Rattle.machine_examples.proofs.tries.puts_are_told.Goals as goal

pub returns : goal.returns
unfolding is_name is_utf8 chars encode
returns c = record {
  replace_new = puts Replace false (received_attributes a_txt) (Some a_txt) a_txt-name;
  ignore_new = puts Ignore false (received_attributes a_txt) (Some a_txt) a_txt-name;
  fail_new = puts Fail false (received_attributes a_txt) (Some a_txt) a_txt-name;
  replace_there = puts Replace true (received_attributes a_txt) (Some a_txt) a_txt-name;
  ignore_there = puts Ignore true (received_attributes a_txt) (Some a_txt) a_txt-name;
  fail_there = puts Fail true (received_attributes a_txt) (Some a_txt) a_txt-name;
  name_none = fails empty no-name;
  name_slash = fails (received_attributes (codes "a/b")) (bad-name (codes "a/b") refl);
  name_nothing = fails (received_attributes []) (bad-name [] refl);
  name_parent = fails (received_attributes (codes "..")) (bad-name (codes "..") refl);
  over_replace = replaces;
  over_ignore = ignores;
  over_fail = refuses;
  read = put-reads;
  back_free = rw (same_attributes-self (received_attributes a_txt), no-kin-more no_kin) refl;
  back_penalised = rw (same_attributes-self (received_attributes a_txt), no-kin-more no_kin) refl;
  back_saturated = rw (same_attributes-self (received_attributes a_txt), no-kin-more no_kin) refl;
  back_as_made = refl;
}
