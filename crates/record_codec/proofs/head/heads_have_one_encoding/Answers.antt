use Rattle.flowfile_record.proofs.FieldLaws.{only_one}
use Rattle.record_codec.specs.StoreHead.{head, IsHead}
use Rattle.record_codec.specs.StoreHeadReading.{head_at}
use Rattle.record_codec.proofs.StoreHeads.{head_is}
use Rattle.record_codec.proofs.head.heads_have_one_encoding.Goals as goal

pub returns : goal.returns
returns c = only_one head_at head IsHead head_is
