-- Flow files with the connection whose queue they are active in: how they are encoded, which have an encoding, and how
-- they are read.
use Rattle.std.specs.Prelude.{ℕ, ◌<◌, ◌^◌, List, ◌++◌}
use Rattle.std.specs.Int.{w16, to_be_bytes}
use Rattle.flowfile_record.specs.Attributes.{AttributeMap}
use Rattle.flowfile_record.specs.Reading.{Reading, ◌then◌, made, uint_at}
use Rattle.flowfile_record.specs.declared.flow_file.FlowFile.{FlowFile}
use Rattle.flowfile_record.specs.declared.stored.ActiveFile.{ActiveFile}
use Rattle.record_codec.specs.FileReading.{flow_file_at, file_front_at}
use Rattle.record_codec.specs.FileEncoding.{flow_file, IsFlowFile}

-- this file, active in this connection
abbrev pub active : ℕ → FlowFile → ActiveFile
active connection file = record { connection = connection; file = file }

unfoldable pub active_file : ActiveFile → List ℕ
active_file a = to_be_bytes w16 a.connection ++ flow_file a.file

-- an active flow file that has an encoding
pub record IsActiveFile (a : ActiveFile) : Type 0 where
  pub connection : a.connection < 2 ^ 16
  pub file : IsFlowFile a.file

unfoldable pub active_file_at : Reading ActiveFile
active_file_at = made (λ a. record { connection = a.0; file = a.1 }) (uint_at w16 then flow_file_at)

-- up to the first pair of attributes
abbrev pub active_front_at : Reading (ℕ × (ℕ × AttributeMap))
active_front_at = uint_at w16 then file_front_at
