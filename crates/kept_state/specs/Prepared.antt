-- What is kept true of an entry that is ready to be written.
use Rattle.std.specs.Prelude.{◌≡◌, ◌≤◌, [], length, vec_capacity}
use Rattle.record_codec.specs.EntryEncoding.{entry as encoding, IsEntry}
use Rattle.record_codec.specs.declared.block.TheConstants.{PAYLOAD_MAX}
use Rattle.record_codec.specs.Frames.{entry_frame}
use Rattle.kept_state.specs.declared.prepared.PreparedEntry.TheInside.{Inside}

-- it has an encoding, and there is room for its payload and for its block with a closed gate behind it
pub record IsPrepared (p : Inside) : Type 0 where
  pub encoded : IsEntry p.entry
  pub payload : length (encoding p.entry) ≤ PAYLOAD_MAX
  pub no_payload : p.payload.items ≡ []
  pub no_frame : p.frame.items ≡ []
  pub payload_room : length (encoding p.entry) ≤ vec_capacity p.payload
  pub frame_room : length (entry_frame p.entry) ≤ vec_capacity p.frame
