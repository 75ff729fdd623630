-- How a flow file is encoded, and which flow files have an encoding. Numbers are big-endian.
use Rattle.std.specs.Prelude.{ℕ, ◌+◌, ◌<◌, ◌≤◌, ◌^◌, List, ◌++◌}
use Rattle.std.specs.List.{flat_map}
use Rattle.std.specs.Int.{w16, w32, w64, to_be_bytes}
use Rattle.std.specs.FinMap.{len, entries}
use Rattle.flowfile_record.specs.Encoding.{text, long, IsNumber, IsDigest}
use Rattle.flowfile_record.specs.Attributes.{AttributeMap, IsWithinLimits}
use Rattle.flowfile_record.specs.declared.TheConstants.{CONTENT_MAX}
use Rattle.flowfile_record.specs.declared.content.ContentRef.{ContentRef}
use Rattle.flowfile_record.specs.declared.flow_file.FlowFile.{FlowFile}
use Rattle.record_codec.specs.declared.content.TheConstants.{SLOT_LIMIT}

-- a key and its value
abbrev pub pair : List ℕ × List ℕ → List ℕ
pair p = text p.0 ++ long p.1

-- the count in two bytes, and the pairs, ascending by the bytes of the keys
unfoldable pub attributes : AttributeMap → List ℕ
attributes m = to_be_bytes w16 (len m) ++ flat_map pair (entries m)

unfoldable pub content_ref : ContentRef → List ℕ
content_ref c = to_be_bytes w32 c.slot ++ to_be_bytes w64 c.offset ++ to_be_bytes w64 c.size ++ c.digest

pub record IsContentRef (c : ContentRef) : Type 0 where
  pub slot : c.slot < SLOT_LIMIT
  pub size : c.size ≤ CONTENT_MAX
  pub ends : IsNumber (c.offset + c.size)
  pub digest : IsDigest c.digest

unfoldable pub flow_file : FlowFile → List ℕ
flow_file f =
    to_be_bytes w64 f.number ++ attributes f.attributes ++ content_ref f.content
    ++ to_be_bytes w64 f.entered ++ to_be_bytes w64 f.penalty_end ++ to_be_bytes w64 f.arrival

-- a flow file that has an encoding
pub record IsFlowFile (f : FlowFile) : Type 0 where
  pub first_number : 1 ≤ f.number
  pub number : IsNumber f.number
  pub attributes : IsWithinLimits f.attributes
  pub content : IsContentRef f.content
  pub entered : f.entered < 2 ^ 64
  pub penalty_end : f.penalty_end < 2 ^ 64
  pub arrival : IsNumber f.arrival
