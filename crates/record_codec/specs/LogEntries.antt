-- What the bytes of a log say: entries in blocks, each block behind an open gate, up to the last gate.
use Rattle.std.specs.Prelude.{◌≡◌, ℕ, zero, suc, ◌+◌, ◌<◌, ◌==◌, ◌&&◌, nat_lt, Bool, true, List, [], ◌∷◌, ◌++◌, length, map, take, drop, slice_index, Option, None, Some, Result, Ok, Err, if◌then◌else◌}
use Rattle.std.specs.List.{list_all}
use Rattle.record_codec.specs.Block.{Reading, Whole, Cut, Long, Differs, reading_of}
use Rattle.record_codec.specs.BlockEntries.{entries_in}
use Rattle.record_codec.specs.declared.TheConstants.{SECOND_VERSION}
use Rattle.record_codec.specs.declared.block.TheConstants.{BLOCK_OVERHEAD}
use Rattle.record_codec.specs.declared.log.TheConstants.{OPEN_GATE}
use Rattle.record_codec.specs.declared.entry.LogEntry.{LogEntry}
use Rattle.record_codec.specs.declared.entry.LogEntry.TheVariants.{Begin, Session, Expire, SwapOut, SwapIn, Age}

-- why no entries stand behind an open gate
pub data Cause : Type 0 where
  -- the digest that stands there, and that of what stands before it
  Digest : (stored found : List ℕ) → Cause
  -- so many bytes are needed, and these are there
  Short : (need have : ℕ) → Cause
  -- a payload longer than any, one that can't be read as entries, or an entry that isn't one of the log's version
  Form : Cause

-- the first damage of a log: the offset of the gate before it, and the cause
pub record LogDamage : Type 0 where
  pub at : ℕ
  pub cause : Cause

-- What a log says: its entries in order, each with the offset of its block's gate, and the offset of the last gate.
-- The last gate is the first that isn't open, that is the last byte, or that is missing.
pub record LogRead : Type 0 where
  pub entries : List (ℕ × LogEntry)
  pub end : ℕ

-- no entry up to a last gate
abbrev pub ended : ℕ → LogRead
ended at = record { entries = []; end = at }

-- entries before what is read behind them
abbrev pub after : List (ℕ × LogEntry) → Result LogRead LogDamage → Result LogRead LogDamage
after entries (Ok read) = Ok (record { entries = entries ++ read.entries; end = read.end })
after entries (Err damage) = Err damage

-- ---- the entries behind a gate

-- entries and the size of their block, of a block's payload
abbrev pub told : ℕ → Option (List LogEntry) → Result (List LogEntry × ℕ) Cause
told size (Some entries) = Ok (entries, size)
told size None = Err Form

-- the entries in front of the bytes behind an open gate, and the size of their block
abbrev pub entries_found : Reading → Result (List LogEntry × ℕ) Cause
entries_found (Whole kind payload) = told (length payload + BLOCK_OVERHEAD) (entries_in kind payload)
entries_found (Cut need have) = Err (Short need have)
entries_found (Long size) = Err Form
entries_found (Differs stored found) = Err (Digest stored found)

-- Events age out in the second version alone.
abbrev pub belongs : (version : ℕ) → LogEntry → Bool
belongs version (Begin begun log) = true
belongs version (Session s) = true
belongs version (Expire e) = true
belongs version (SwapOut s) = true
belongs version (SwapIn connection batch) = true
belongs version (Age line) = version == SECOND_VERSION

-- what was found, where it belongs to the version
abbrev pub of_version : (version : ℕ) → Result (List LogEntry × ℕ) Cause → Result (List LogEntry × ℕ) Cause
of_version version (Ok found) = if list_all (belongs version) found.0 then Ok found else Err Form
of_version version (Err cause) = Err cause

-- the entries of a log of this version in front of the bytes behind an open gate, and the size of their block
abbrev pub entries_at : (version : ℕ) → List ℕ → Result (List LogEntry × ℕ) Cause
entries_at version bytes = of_version version (entries_found (reading_of bytes))

-- ---- a log

-- entries, each behind the gate at this offset
abbrev pub gated : ℕ → List LogEntry → List (ℕ × LogEntry)
gated at entries = map (λ e. (at, e)) entries

-- What stands behind the open gate at this offset. What follows is asked for behind so many bytes.
abbrev pub behind_gate : ℕ → Result (List LogEntry × ℕ) Cause → (ℕ → Result LogRead LogDamage)
    → Result LogRead LogDamage
behind_gate at (Ok found) following = after (gated at found.0) (following found.1)
behind_gate at (Err cause) following = Err (record { at = at; cause = cause })

-- What a log of a version says from an offset on. Bytes of the block before are passed over first.
abbrev pub log_from : (version passed at : ℕ) → List ℕ → Result LogRead LogDamage
log_from version passed at [] = Ok (ended at)
log_from version (suc passed) at (byte ∷ rest) = log_from version passed (at + 1) rest
log_from version zero at (gate ∷ rest) =
    if (gate == OPEN_GATE) && nat_lt 0 (length rest)
    then behind_gate at (entries_at version rest) (λ size. log_from version size (at + 1) rest)
    else Ok (ended at)

abbrev pub log_of : (version : ℕ) → List ℕ → Result LogRead LogDamage
log_of version bytes = log_from version 0 0 bytes

-- The damage is the first: the bytes before its gate are a log without damage, whose end is there, and behind the open
-- gate there stand no entries of the version, for this cause.
pub record IsFirstDamage (version : ℕ) (bytes : List ℕ) (damage : LogDamage) : Type 0 where
  pub before : LogRead
  pub sound : log_of version (take damage.at bytes) ≡ Ok before
  pub ends : before.end ≡ damage.at
  pub gate : slice_index bytes damage.at ≡ OPEN_GATE
  pub behind : damage.at + 1 < length bytes
  pub cause : entries_at version (drop (damage.at + 1) bytes) ≡ Err damage.cause

-- a log with the entries of one block more, which has this size
abbrev pub log_with_more : LogRead → List LogEntry → ℕ → LogRead
log_with_more read entries size = record {
  entries = read.entries ++ gated read.end entries;
  end = read.end + 1 + size;
}
