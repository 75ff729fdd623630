-- Which entries fit what is kept, and what a log's entries make of it. Which files a batch has is told by `files`.
use Rattle.std.specs.Prelude.{ℕ, ◌+◌, ◌==◌, ◌&&◌, nat_lt, nat_le, not, Bool, true, false, List, [], ◌∷◌, ◌++◌, length, map, Option, None, Some, is_none, Result, Ok, Err, if◌then◌else◌}
use Rattle.std.specs.List.{list_any, list_all, flat_map}
use Rattle.flowfile_record.specs.NumberedItems.{item_of}
use Rattle.flowfile_record.specs.Stored.{Kept}
use Rattle.flowfile_record.specs.declared.flow_file.FlowFile.{FlowFile}
use Rattle.flowfile_record.specs.declared.stored.ActiveFile.{ActiveFile}
use Rattle.flowfile_record.specs.declared.stored.Counted.{Counted}
use Rattle.record_codec.specs.declared.entry.SessionEntry.{SessionEntry}
use Rattle.record_codec.specs.declared.entry.ExpireEntry.{ExpireEntry}
use Rattle.record_codec.specs.declared.entry.SwapOutEntry.{SwapOutEntry}
use Rattle.record_codec.specs.declared.entry.LogEntry.{LogEntry}
use Rattle.record_codec.specs.declared.entry.LogEntry.TheVariants.{Begin, Session, Expire, SwapOut, SwapIn, Age}
use Rattle.kept_state.specs.Applied.{active_number, left_after, session_applied, applied}
use Rattle.kept_state.specs.Limits.{live_limit}

-- ---- words

-- no number stands twice
abbrev pub are_distinct_numbers : List ℕ → Bool
are_distinct_numbers [] = true
are_distinct_numbers (n ∷ ns) = not (list_any (λ m. m == n) ns) && are_distinct_numbers ns

-- the active file of a number
abbrev pub active_of : ℕ → List ActiveFile → Option ActiveFile
active_of number files = item_of active_number number files

abbrev pub is_in_connection : ℕ → Option ActiveFile → Bool
is_in_connection connection None = false
is_in_connection connection (Some a) = a.connection == connection

-- the files that live: the active ones, and those that are swapped out
abbrev pub live : (files : ℕ → List FlowFile) → Kept → List FlowFile
live files k = map (λ a. a.file) k.files ++ flat_map (λ b. files b.batch) k.batches

-- ---- the rules on files that go

-- these files are active in this connection
abbrev pub are_active_in : List ActiveFile → ℕ → List ℕ → Bool
are_active_in files connection numbers = list_all (λ n. is_in_connection connection (active_of n files)) numbers

-- these files are active in the connection of this one
abbrev pub are_active_with : List ActiveFile → Option ActiveFile → List ℕ → Bool
are_active_with files None numbers = false
are_active_with files (Some a) numbers = are_active_in files a.connection numbers

-- these files are active in one connection
abbrev pub are_active_in_one : List ActiveFile → List ℕ → Bool
are_active_in_one files [] = true
are_active_in_one files (n ∷ ns) = are_active_with files (active_of n files) (n ∷ ns)

-- ---- the rules on files that are placed

-- no two of these numbers are the same, and no file that lives has one of them as its number or as its arrival
abbrev pub are_new : (part : FlowFile → ℕ) → List ℕ → List FlowFile → Bool
are_new part numbers lives =
    are_distinct_numbers numbers && list_all (λ n. not (list_any (λ f. part f == n) lives)) numbers

-- the placed files have numbers and arrivals that no other file has once those that go are gone
abbrev pub placed_are_new : (files : ℕ → List FlowFile) → Kept → SessionEntry → Bool
placed_are_new files k s =
    let lives = live files (record k { files = left_after s.gone k.files }) in
    are_new (λ f. f.number) (map (λ a. a.file.number) s.placed) lives
    && are_new (λ f. f.arrival) (map (λ a. a.file.arrival) s.placed) lives

-- the file's connection is there, and its number and its arrival, which is at least 1, are below what comes next
abbrev pub has_place : Kept → SessionEntry → ActiveFile → Bool
has_place k s a =
    nat_lt a.connection (length k.connections)
    && nat_lt a.file.number s.next_number
    && nat_lt 0 a.file.arrival
    && nat_lt a.file.arrival s.next_arrival

-- ---- the rules on what else an entry says

-- the generator's processor is there
abbrev pub has_count : List ℕ → Option Counted → Bool
has_count counts None = true
has_count counts (Some g) = nat_lt g.processor (length counts)

-- no counter falls
abbrev pub keeps_counters : Kept → SessionEntry → Bool
keeps_counters k s =
    nat_le k.next_number s.next_number && nat_le k.next_arrival s.next_arrival && nat_le k.last_event s.last_event

-- ---- which entries fit

-- a session's entry fits, but that it may pass a limit of what lives
abbrev pub session_suits : (files : ℕ → List FlowFile) → Kept → SessionEntry → Bool
session_suits files k s =
    are_distinct_numbers s.gone && are_active_in_one k.files s.gone
    && placed_are_new files k s && list_all (has_place k s) s.placed
    && has_count k.counts s.generator && keeps_counters k s

abbrev pub expire_fits : Kept → ExpireEntry → Bool
expire_fits k e =
    are_distinct_numbers e.numbers && are_active_in k.files e.connection e.numbers
    && (e.last_event == k.last_event + length e.numbers)

abbrev pub swap_out_fits : Kept → SwapOutEntry → Bool
swap_out_fits k s =
    are_distinct_numbers s.numbers && are_active_in k.files s.connection s.numbers
    && (s.batch == k.next_batch) && nat_lt s.connection (length k.connections)

-- A Begin doesn't fit: it is the first entry of its log alone. Nor does an Age, which no log has that counts today.
abbrev pub entry_suits : (files : ℕ → List FlowFile) → Kept → LogEntry → Bool
entry_suits files k (Begin version log) = false
entry_suits files k (Session s) = session_suits files k s && is_none (live_limit (session_applied k s))
entry_suits files k (Expire e) = expire_fits k e
entry_suits files k (SwapOut s) = swap_out_fits k s
entry_suits files k (SwapIn connection batch) =
    list_any (λ b. (b.batch == batch) && (b.connection == connection)) k.batches
entry_suits files k (Age line) = false

-- ---- what a log's entries make of what is kept

-- what is kept after these entries, or the offset of the first that doesn't fit
abbrev pub replayed : (files : ℕ → List FlowFile) → Kept → List (ℕ × LogEntry) → Result Kept ℕ
replayed files k [] = Ok k
replayed files k (e ∷ entries) =
    if entry_suits files k e.1 then replayed files (applied files k e.1) entries else Err e.0
