-- How the entries of a log are encoded, and which have an encoding.
use Rattle.std.specs.Prelude.{◌≡◌, ℕ, ◌+◌, ◌<◌, ◌==◌, ◌^◌, IsTrue, List, ◌++◌, Option, Some, None, if◌then◌else◌}
use Rattle.std.specs.Int.{w16, w64, to_be_bytes}
use Rattle.flowfile_record.specs.Encoding.{byte, listed, numbers, IsNumber, AreListed, AreNumbers}
use Rattle.flowfile_record.specs.declared.stored.Counted.{Counted}
use Rattle.record_codec.specs.ActiveFile.{active_file, IsActiveFile}
use Rattle.flowfile_record.specs.declared.limits.TheConstants.{NUMBER_LIMIT}
use Rattle.record_codec.specs.Version.{is_version}
use Rattle.record_codec.specs.declared.TheConstants.{SECOND_VERSION}
use Rattle.record_codec.specs.declared.entry.TheConstants.{NO_GENERATOR}
use Rattle.record_codec.specs.declared.entry.SessionEntry.{SessionEntry}
use Rattle.record_codec.specs.declared.entry.ExpireEntry.{ExpireEntry}
use Rattle.record_codec.specs.declared.entry.SwapOutEntry.{SwapOutEntry}
use Rattle.record_codec.specs.declared.entry.LogEntry.{LogEntry}
use Rattle.record_codec.specs.declared.entry.LogEntry.TheVariants.{Begin, Session, Expire, SwapOut, SwapIn, Age}

-- ---- encodings

-- the place of the processor and its count; for none the place that no processor has, and 0
unfoldable pub generator : Option Counted → List ℕ
generator None = to_be_bytes w16 NO_GENERATOR ++ to_be_bytes w64 0
generator (Some g) = to_be_bytes w16 g.processor ++ to_be_bytes w64 g.count

-- the counters behind a session
unfoldable pub counters : SessionEntry → List ℕ
counters s = to_be_bytes w64 s.next_number ++ to_be_bytes w64 s.next_arrival ++ to_be_bytes w64 s.last_event
    ++ generator s.generator

unfoldable pub session : SessionEntry → List ℕ
session s = to_be_bytes w16 s.processor ++ to_be_bytes w64 s.moment ++ numbers s.gone ++ listed active_file s.placed
    ++ counters s

unfoldable pub expire : ExpireEntry → List ℕ
expire e = to_be_bytes w16 e.connection ++ to_be_bytes w64 e.moment ++ numbers e.numbers ++ to_be_bytes w64 e.last_event

unfoldable pub swap_out : SwapOutEntry → List ℕ
swap_out s = to_be_bytes w16 s.connection ++ to_be_bytes w64 s.batch ++ numbers s.numbers

-- the version of the format comes first in a log
unfoldable pub entry : LogEntry → List ℕ
entry (Begin version log) = byte version ++ to_be_bytes w64 log
entry (Session s) = session s
entry (Expire e) = expire e
entry (SwapOut s) = swap_out s
entry (SwapIn connection batch) = to_be_bytes w16 connection ++ to_be_bytes w64 batch
entry (Age line) = to_be_bytes w64 line

abbrev pub kind_of : LogEntry → ℕ
kind_of (Begin version log) = 1
kind_of (Session s) = 2
kind_of (Expire e) = 3
kind_of (SwapOut s) = 4
kind_of (SwapIn connection batch) = 5
kind_of (Age line) = 7

-- ---- what has an encoding

-- the numbers of a version's logs are below it: in the second, a log has one number more than other things
abbrev pub log_limit : (version : ℕ) → ℕ
log_limit version = if version == SECOND_VERSION then NUMBER_LIMIT + 1 else NUMBER_LIMIT

abbrev pub IsPlace : ℕ → Type 0
IsPlace place = place < 2 ^ 16

abbrev pub IsMoment : ℕ → Type 0
IsMoment moment = moment < 2 ^ 64

abbrev pub IsGenerator : Option Counted → Type 0
IsGenerator None = Unit {0}
IsGenerator (Some g) = (g.processor < NO_GENERATOR) × IsNumber g.count

pub record IsSession (s : SessionEntry) : Type 0 where
  pub processor : IsPlace s.processor
  pub moment : IsMoment s.moment
  pub gone : AreNumbers s.gone
  pub placed : AreListed IsActiveFile s.placed
  pub next_number : IsNumber s.next_number
  pub next_arrival : IsNumber s.next_arrival
  pub last_event : IsNumber s.last_event
  pub generator : IsGenerator s.generator

pub record IsExpire (e : ExpireEntry) : Type 0 where
  pub connection : IsPlace e.connection
  pub moment : IsMoment e.moment
  pub numbers : AreNumbers e.numbers
  pub last_event : IsNumber e.last_event

pub record IsSwapOut (s : SwapOutEntry) : Type 0 where
  pub connection : IsPlace s.connection
  pub batch : IsNumber s.batch
  pub numbers : AreNumbers s.numbers

abbrev pub IsEntry : LogEntry → Type 0
IsEntry (Begin version log) = IsTrue (is_version version) × (log < log_limit version)
IsEntry (Session s) = IsSession s
IsEntry (Expire e) = IsExpire e
IsEntry (SwapOut s) = IsSwapOut s
IsEntry (SwapIn connection batch) = IsPlace connection × IsNumber batch
IsEntry (Age line) = IsNumber line

abbrev pub IsEntryOf : ℕ → LogEntry → Type 0
IsEntryOf kind e = IsEntry e × (kind_of e ≡ kind)
