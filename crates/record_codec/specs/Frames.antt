-- Frames: blocks with the closed gate behind them, as a log's file has them behind its gates.
use Rattle.std.specs.Prelude.{◌≢◌, ◌⊎◌, ℕ, ◌≤◌, ◌==◌, ◌&&◌, nat_lt, Bool, List, [], ◌∷◌, ◌++◌, length, slice_index}
use Rattle.record_codec.specs.Block.{block}
use Rattle.record_codec.specs.EntryEncoding.{entry, kind_of}
use Rattle.record_codec.specs.declared.entry.LogEntry.{LogEntry}
use Rattle.record_codec.specs.declared.entry.LogEntry.TheVariants.{Begin}
use Rattle.record_codec.specs.declared.log.TheConstants.{OPEN_GATE, CLOSED_GATE}

-- the block of this kind and payload, and a closed gate behind it
abbrev pub frame : (kind : ℕ) (payload : List ℕ) → List ℕ
frame kind payload = block kind payload ++ CLOSED_GATE ∷ []

abbrev pub entry_frame : LogEntry → List ℕ
entry_frame e = frame (kind_of e) (entry e)

-- a log that was just begun: an open gate, and the frame of its Begin
abbrev pub begun_log : (version number : ℕ) → List ℕ
begun_log version number = OPEN_GATE ∷ entry_frame (Begin version number)

-- a log that is empty, has one byte, or whose first gate isn't open doesn't count
abbrev pub counts : List ℕ → Bool
counts bytes = (slice_index bytes 0 == OPEN_GATE) && nat_lt 1 (length bytes)

-- a log that is passed over where the current one is looked for: it has at most a byte, or its first gate isn't open
abbrev pub IsPassedOver : List ℕ → Type 0
IsPassedOver bytes = (length bytes ≤ 1) ⊎ (slice_index bytes 0 ≢ OPEN_GATE)
