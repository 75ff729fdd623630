use Rattle.flowfile_record.proofs.FieldLaws.{only_one}
use Rattle.record_codec.specs.EntryReading.{entry_at}
use Rattle.record_codec.specs.EntryEncoding.{entry, IsEntryOf}
use Rattle.record_codec.proofs.EntryLaws.{entry_is}
use Rattle.record_codec.proofs.entry.entries_have_one_encoding.Goals as goal

pub returns : goal.returns
returns c = λ kind. only_one (entry_at kind) entry (IsEntryOf kind) (entry_is kind)
