use Rattle.flowfile_record.proofs.FieldLaws.{only_one}
use Rattle.record_codec.specs.ActiveFile.{active_file, active_file_at, IsActiveFile}
use Rattle.record_codec.proofs.ActiveFiles.{active_file_is}
use Rattle.record_codec.proofs.active_file.active_files_have_one_encoding.Goals as goal

pub returns : goal.returns
returns c = only_one active_file_at active_file IsActiveFile active_file_is
