-- Reading the entries of a log from left to right, up to the first field that can't be read.
use Rattle.std.specs.Prelude.{ℕ, ◌==◌, ◌||◌, nat_lt, Bool, false, not, is_ok, List, length, Option, Some, None, Ok, Err, if◌then◌else◌}
use Rattle.std.specs.Int.{w16, w64}
use Rattle.flowfile_record.specs.Reading.{Reading, ◌>>=◌, ◌then◌, made, such, uint_at, number_at, numbers_at, listed_at, first_at}
use Rattle.flowfile_record.specs.declared.stored.Counted.{Counted}
use Rattle.record_codec.specs.ActiveFile.{active_file_at, active_front_at}
use Rattle.record_codec.specs.EntryEncoding.{log_limit}
use Rattle.record_codec.specs.Version.{version_at}
use Rattle.record_codec.specs.declared.entry.TheConstants.{NO_GENERATOR}
use Rattle.record_codec.specs.declared.entry.SessionEntry.{SessionEntry}
use Rattle.record_codec.specs.declared.entry.ExpireEntry.{ExpireEntry}
use Rattle.record_codec.specs.declared.entry.SwapOutEntry.{SwapOutEntry}
use Rattle.record_codec.specs.declared.entry.LogEntry.{LogEntry}
use Rattle.record_codec.specs.declared.entry.LogEntry.TheVariants.{Begin, Session, Expire, SwapOut, SwapIn, Age}

-- the number of a log of this version
unfoldable pub log_number_at : (version : ℕ) → Reading ℕ
log_number_at version = such (λ log. nat_lt log (log_limit version)) (uint_at w64)

unfoldable pub begin_at : Reading LogEntry
begin_at bytes = do
  version ← version_at bytes
  log ← log_number_at version.0 version.1
  Ok (Begin version.0 log.0, log.1)

-- the count behind the place of a generator, which is 0 for none
unfoldable pub count_at : ℕ → Reading ℕ
count_at processor = such (λ count. not (processor == NO_GENERATOR) || count == 0) number_at

unfoldable pub generator_at : Reading (Option Counted)
generator_at bytes = do
  processor ← uint_at w16 bytes
  count ← count_at processor.0 processor.1
  Ok (
    (if processor.0 == NO_GENERATOR then None
        else Some (record { processor = processor.0; count = count.0 })),
    count.1,
  )

unfoldable pub session_at : Reading SessionEntry
session_at = made (λ s. record {
  processor = s.0;
  moment = s.1.0;
  gone = s.1.1.0;
  placed = s.1.1.1.0;
  next_number = s.1.1.1.1.0;
  next_arrival = s.1.1.1.1.1.0;
  last_event = s.1.1.1.1.1.1.0;
  generator = s.1.1.1.1.1.1.1;
})
    (uint_at w16 then uint_at w64 then numbers_at then listed_at active_file_at then number_at then number_at
    then number_at then generator_at)

unfoldable pub expire_at : Reading ExpireEntry
expire_at = made (λ e. record { connection = e.0; moment = e.1.0; numbers = e.1.1.0; last_event = e.1.1.1 })
    (uint_at w16 then uint_at w64 then numbers_at then number_at)

unfoldable pub swap_out_at : Reading SwapOutEntry
swap_out_at = made (λ s. record { connection = s.0; batch = s.1.0; numbers = s.1.1 })
    (uint_at w16 then number_at then numbers_at)

unfoldable pub swap_in_at : Reading LogEntry
swap_in_at = made (λ s. SwapIn s.0 s.1) (uint_at w16 then number_at)

unfoldable pub age_at : Reading LogEntry
age_at = made Age number_at

-- no entry has another kind
unfoldable pub entry_at : ℕ → Reading LogEntry
entry_at kind bytes =
    if kind == 1 then begin_at bytes
    else if kind == 2 then made Session session_at bytes
    else if kind == 3 then made Expire expire_at bytes
    else if kind == 4 then made SwapOut swap_out_at bytes
    else if kind == 5 then swap_in_at bytes
    else if kind == 7 then age_at bytes
    else Err (length bytes)

-- ---- where memory is taken: for the first item of a list, and in a placed file for its first pair of attributes

abbrev pub session_takes_memory : List ℕ → Bool
session_takes_memory bytes =
    is_ok ((uint_at w16 then uint_at w64 then first_at number_at) bytes)
    || is_ok ((uint_at w16 then uint_at w64 then numbers_at then first_at active_front_at) bytes)
    || is_ok ((uint_at w16 then uint_at w64 then numbers_at then first_at active_file_at) bytes)

abbrev pub expire_takes_memory : List ℕ → Bool
expire_takes_memory bytes = is_ok ((uint_at w16 then uint_at w64 then first_at number_at) bytes)

abbrev pub swap_out_takes_memory : List ℕ → Bool
swap_out_takes_memory bytes = is_ok ((uint_at w16 then number_at then first_at number_at) bytes)

-- entries of the other kinds take none
abbrev pub takes_memory : ℕ → List ℕ → Bool
takes_memory kind bytes =
    if kind == 2 then session_takes_memory bytes
    else if kind == 3 then expire_takes_memory bytes
    else if kind == 4 then swap_out_takes_memory bytes
    else false
