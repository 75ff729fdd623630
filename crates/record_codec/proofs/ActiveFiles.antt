-- What is read of an active flow file is encoded so, and what is encoded so is read again.
use Rattle.std.proofs.Common.{◌^◌, ◌<◌, ◌++◌, refl}
use Rattle.std.specs.Int.{w16, to_be_bytes}
use Rattle.flowfile_record.specs.Field.{IsField}
use Rattle.flowfile_record.specs.Reading.{◌then◌, uint_at}
use Rattle.flowfile_record.proofs.FieldLaws.{pair_is, made_is, u16_is}
use Rattle.record_codec.specs.ActiveFile.{active_file, active_file_at, IsActiveFile}
use Rattle.record_codec.specs.FileReading.{flow_file_at}
use Rattle.record_codec.specs.FileEncoding.{flow_file, IsFlowFile}
use Rattle.record_codec.proofs.FileLaws.{flow_file_is}

pub active_file_is : IsField active_file_at active_file IsActiveFile
unfolding active_file_at active_file
active_file_is =
    made_is (λ a. record { connection = a.0; file = a.1 }) (λ a. (a.connection, a.file)) (uint_at w16 then flow_file_at) (λ a. to_be_bytes w16 a.0 ++ flow_file a.1) active_file
    (λ a. (a.0 < 2 ^ 16) × IsFlowFile a.1) IsActiveFile (pair_is _ _ _ _ _ _ u16_is flow_file_is)
    (λ a. refl)
    (λ a. refl)
    (λ a has. record { connection = has.0; file = has.1 })
    (λ a has. (has.connection, has.file))
