-- The contents of the files of a session, as the calls inside see them.
use Rattle.std.specs.Prelude.{ℕ, ◌+◌, ◌<◌, ◌≤◌, ◌^◌, List, [], length, unwrap_or, slice_get, slice_range}
use Rattle.std.specs.Option.{option_map_or}
use Rattle.sha2.specs.Sha256.{sha256}
use Rattle.flowfile_record.specs.Ranges.{range_of}
use Rattle.flowfile_record.specs.declared.content.ContentRef.{ContentRef}
use Rattle.flowfile_record.specs.declared.flow_file.FlowFile.{FlowFile}
use Rattle.flowfile_record.specs.declared.stored.Fresh.{Fresh}
use Rattle.flowfile_record.specs.declared.stored.Fresh.TheVariants.{No, Bytes, As}
use Rattle.flowfile_record.specs.declared.worked.Body.{Body}
use Rattle.flowfile_record.specs.declared.worked.Body.TheVariants.{Whole, Part, New}
use Rattle.process_session.specs.declared.file.Source.{Source}

-- a reference to a content that isn't in the store yet
abbrev pub fresh_ref : List ℕ → ContentRef
fresh_ref bytes = record { slot = 0; offset = 0; size = length bytes; digest = sha256 bytes }

-- the content of the taken file of a place
abbrev pub kept_content : List FlowFile → ℕ → ContentRef
kept_content taken place = option_map_or (λ file. file.content) (slice_get taken place) (fresh_ref [])

-- the bytes of the taken file of a place, as far as they were read
abbrev pub source_bytes : List Source → ℕ → List ℕ
source_bytes sources place = option_map_or (λ source. unwrap_or source.bytes []) (slice_get sources place) []

-- a part of a taken content stands within it
abbrev pub body_content : List FlowFile → List Source → Body → ContentRef
body_content taken sources (Whole of) = kept_content taken of
body_content taken sources (Part of offset size) =
    range_of (kept_content taken of) offset size
    (sha256 (slice_range (source_bytes sources of) offset (offset + size)))
body_content taken sources (New bytes) = fresh_ref bytes

-- where the content of a body comes from: one that isn't in the store yet has its bytes
abbrev pub fresh_in : Body → Fresh
fresh_in (New bytes) = Bytes bytes
fresh_in _ = No

-- the same for a clone whose original is placed here: it shares a content that isn't in the store yet
abbrev pub shared_in : (place : ℕ) → Body → Fresh
shared_in place (New bytes) = As place
shared_in place _ = No

-- a part is one of bytes that were read
abbrev pub IsBodyWithin : List Source → Body → Type 0
IsBodyWithin sources (Part of offset size) = offset + size ≤ length (source_bytes sources of)
IsBodyWithin sources _ = Unit {0}

-- a part of a taken content begins at an offset of 64 bits
abbrev pub BeginsWithin : List FlowFile → Body → Type 0
BeginsWithin taken (Part of offset size) = (kept_content taken of).offset + offset < 2 ^ 64
BeginsWithin taken _ = Unit {0}
