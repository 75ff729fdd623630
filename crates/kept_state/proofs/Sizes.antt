-- How many bytes the record of a file has, whatever its numbers are.
use Rattle.std.proofs.Common.{◌≡◌, ◌+◌, ◌++◌, Bool, true, false, cond, length, length-append, refl, arith}
use Rattle.std.specs.Int.{w32, w64, to_be_bytes}
use Rattle.flowfile_record.specs.Attributes.{encoded_size}
use Rattle.flowfile_record.specs.Shared.{is_stored}
use Rattle.flowfile_record.specs.declared.content.ContentRef.{ContentRef}
use Rattle.flowfile_record.specs.declared.flow_file.FlowFile.{FlowFile}
use Rattle.record_codec.specs.ActiveFile.{active}
use Rattle.record_codec.specs.FileEncoding.{flow_file, content_ref}
use Rattle.record_codec.specs.Placeless.{placeless}
use Rattle.record_codec.proofs.Sizes.{parts_of_file, attributes_size, placeless_size}
use Rattle.flowfile_record.specs.declared.stored.Placed.{Placed}
use Rattle.checkpoint_store.specs.Consistent.{record_size}
use Rattle.kept_state.specs.Changes.{record_of}

content_is : (c : ContentRef) → length (content_ref c) ≡ 20 + length c.digest
unfolding content_ref
content_is c =
    omega (
      arith,
      length-append (to_be_bytes w32 c.slot ++ to_be_bytes w64 c.offset ++ to_be_bytes w64 c.size) c.digest,
      length-append (to_be_bytes w32 c.slot ++ to_be_bytes w64 c.offset) (to_be_bytes w64 c.size),
      length-append (to_be_bytes w32 c.slot) (to_be_bytes w64 c.offset),
    )

pub file_is : (f : FlowFile) → length (flow_file f) ≡ encoded_size f.attributes + 52 + length f.content.digest
file_is f = omega (arith, parts_of_file f, attributes_size f.attributes, content_is f.content)

-- where a content will stand doesn't change the size of a record
pub record_is : (p : Placed) → record_size (record_of p) ≡ length (flow_file p.file)
record_is p = by (is_stored p.fresh)
  where
    by : (stored : Bool) → record_size (active p.connection (cond stored p.file (placeless p.file))) ≡ length (flow_file p.file)
    by true = refl
    by false = placeless_size p.file
