-- Reading the head of a snapshot from left to right, up to the first field that can't be read.
use Rattle.std.specs.Prelude.{ℕ, ◌%◌, ◌==◌, List, [], length, Bool, ◌&&◌, ◌||◌, is_ok, nat_lt, nat_le, Ok, Err, if◌then◌else◌}
use Rattle.std.specs.Int.{w64}
use Rattle.flowfile_record.specs.Reading.{Reading, ◌>>=◌, ◌then◌, such, raw_at, uint_at, number_at, numbers_at, text_at, first_at}
use Rattle.flowfile_record.specs.declared.limits.TheConstants.{DIGEST_SIZE, STORE_LIMIT, EVENTS_PER_FILE}
use Rattle.record_codec.specs.declared.TheConstants.{SECOND_VERSION}
use Rattle.record_codec.specs.declared.head.Head.{Head}
use Rattle.record_codec.specs.Version.{version_at}
use Rattle.record_codec.specs.Texts.{texts_at}

unfoldable pub store_at : Reading ℕ
store_at = such (λ store. nat_lt store STORE_LIMIT) (uint_at w64)

-- the ids of the processors, which the first version doesn't have
unfoldable pub processors_at : (version : ℕ) → Reading (List (List ℕ))
processors_at version bytes = if version == SECOND_VERSION then texts_at bytes else Ok ([], bytes)

-- the line behind the last event, which is 0 in the first version
unfoldable pub line_at : (version last_event : ℕ) → Reading ℕ
line_at version last_event bytes =
    if version == SECOND_VERSION
    then such (λ line. (line % EVENTS_PER_FILE == 0) && nat_le line last_event) (uint_at w64) bytes
    else Ok (0, bytes)

unfoldable pub head_at : Reading Head
head_at bytes = do
  version ← version_at bytes
  store ← store_at version.1
  flow ← raw_at DIGEST_SIZE store.1
  connections ← texts_at flow.1
  processors ← processors_at version.0 connections.1
  counts ← numbers_at processors.1
  next_number ← number_at counts.1
  next_arrival ← number_at next_number.1
  last_event ← number_at next_arrival.1
  line ← line_at version.0 last_event.0 last_event.1
  next_batch ← number_at line.1
  Ok (
    record {
      version = version.0;
      store = store.0;
      flow = flow.0;
      connections = connections.0;
      processors = processors.0;
      counts = counts.0;
      next_number = next_number.0;
      next_arrival = next_arrival.0;
      last_event = last_event.0;
      line = line.0;
      next_batch = next_batch.0;
    },
    next_batch.1,
  )

-- ---- where memory is taken: for the first item of a list

-- the fields up to the connections
abbrev pub connected_at : Reading (ℕ × (ℕ × (List ℕ × List (List ℕ))))
connected_at = version_at then store_at then raw_at DIGEST_SIZE then texts_at

-- of the ids of the processors
abbrev pub first_processor_at : Reading (List ℕ)
first_processor_at bytes = do
  connected ← connected_at bytes
  if connected.0.0 == SECOND_VERSION then first_at text_at connected.1 else Err (length connected.1)

-- of the counts
abbrev pub first_count_at : Reading ℕ
first_count_at bytes = do
  connected ← connected_at bytes
  processors ← processors_at connected.0.0 connected.1
  first_at number_at processors.1

abbrev pub head_takes_memory : List ℕ → Bool
head_takes_memory bytes =
    is_ok ((version_at then store_at then raw_at DIGEST_SIZE then first_at text_at) bytes)
    || is_ok (first_processor_at bytes)
    || is_ok (first_count_at bytes)
