use Rattle.flowfile_record.proofs.FieldLaws.{only_one}
use Rattle.record_codec.specs.Group.{group, IsGroup}
use Rattle.record_codec.specs.GroupReading.{group_at}
use Rattle.record_codec.proofs.Groups.{group_is}
use Rattle.record_codec.proofs.group.groups_have_one_encoding.Goals as goal

pub returns : goal.returns
returns c = only_one group_at group IsGroup group_is
