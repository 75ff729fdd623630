use Rattle.flowfile_record.proofs.FieldLaws.{only_one}
use Rattle.record_codec.specs.FileReading.{flow_file_at}
use Rattle.record_codec.specs.FileEncoding.{flow_file, IsFlowFile}
use Rattle.record_codec.proofs.FileLaws.{flow_file_is}
use Rattle.record_codec.proofs.flow_file.flow_files_have_one_encoding.Goals as goal

pub returns : goal.returns
returns c = only_one flow_file_at flow_file IsFlowFile flow_file_is
