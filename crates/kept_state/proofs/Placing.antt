-- Where contents stand doesn't change whether an entry fits.
use Rattle.std.proofs.Common.{◌≡◌, ℕ, ◌&&◌, Bool, List, [], ◌∷◌, map, Option, refl, ap, ◌∙◌, arith}
use Rattle.std.specs.Prelude.{is_none}
use Rattle.std.specs.List.{sum, list_all}
use Rattle.std.specs.Option.{option_or}
use Rattle.std.proofs.lemmas.List.{length-map}
use Rattle.flowfile_record.specs.Stored.{Kept}
use Rattle.flowfile_record.specs.declared.flow_file.FlowFile.{FlowFile}
use Rattle.flowfile_record.specs.declared.limits.TheConstants.{LIVE_FILES_MAX, LIVE_BYTES_MAX}
use Rattle.flowfile_record.specs.declared.stored.ActiveFile.{ActiveFile}
use Rattle.record_codec.specs.Placeless.{placeless_active, placeless_entry}
use Rattle.record_codec.specs.declared.entry.LogEntry.{LogEntry}
use Rattle.record_codec.specs.declared.entry.LogEntry.TheVariants.{Begin, Session, Expire, SwapOut, SwapIn, Age}
use Rattle.record_codec.specs.declared.entry.SessionEntry.{SessionEntry}
use Rattle.record_codec.proofs.Sizes.{placeless_size}
use Rattle.checkpoint_store.specs.Consistent.{record_size}
use Rattle.kept_state.specs.Applied.{left_after, session_applied}
use Rattle.kept_state.specs.Fits.{are_distinct_numbers, are_active_in_one, are_new, has_place, has_count, keeps_counters, live, entry_suits}
use Rattle.kept_state.specs.Limits.{live_file_count, live_bytes, live_limit, limit_passed}
use Rattle.kept_state.specs.declared.limit.Limit.{Limit}
use Rattle.kept_state.specs.declared.limit.Which.TheVariants as which
use Rattle.kept_state.proofs.Keeping.{length-with_files, sum-with_files}

-- the session, each content at offset 0 of slot 0
abbrev pub placeless_session : SessionEntry → SessionEntry
placeless_session s = record {
  processor = s.processor;
  moment = s.moment;
  gone = s.gone;
  placed = map placeless_active s.placed;
  next_number = s.next_number;
  next_arrival = s.next_arrival;
  last_event = s.last_event;
  generator = s.generator;
}

parts_same : (part : FlowFile → ℕ) → ((a : ActiveFile) → part (placeless_active a).file ≡ part a.file) → (placed : List ActiveFile) → map (λ a. part a.file) (map placeless_active placed) ≡ map (λ a. part a.file) placed
parts_same part same [] = refl
parts_same part same (a ∷ placed) = ap (λ n. n ∷ map (λ b. part b.file) (map placeless_active placed)) (same a) ∙ ap (λ (ns : List ℕ). part a.file ∷ ns) (parts_same part same placed)

places_same : (k : Kept) (s : SessionEntry) (placed : List ActiveFile) → list_all (has_place k (placeless_session s)) (map placeless_active placed) ≡ list_all (has_place k s) placed
places_same k s [] = refl
places_same k s (a ∷ placed) = ap (λ b. has_place k s a && b) (places_same k s placed)

sizes_same : (placed : List ActiveFile) → map record_size (map placeless_active placed) ≡ map record_size placed
sizes_same [] = refl
sizes_same (a ∷ placed) = ap (λ n. n ∷ map record_size (map placeless_active placed)) (placeless_size a.file) ∙ ap (λ (ns : List ℕ). record_size a ∷ ns) (sizes_same placed)

limit_same : (k : Kept) (s : SessionEntry) → live_limit (session_applied k (placeless_session s)) ≡ live_limit (session_applied k s)
limit_same k s =
    let left = left_after s.gone k.files in
    let count : live_file_count (session_applied k (placeless_session s)) ≡ live_file_count (session_applied k s) =
    omega (arith, length-with_files (map placeless_active s.placed) left, length-with_files s.placed left, length-map s.placed placeless_active) in
    let bytes : live_bytes (session_applied k (placeless_session s)) ≡ live_bytes (session_applied k s) =
    omega (arith, sum-with_files (map placeless_active s.placed) left, sum-with_files s.placed left, ap sum (sizes_same s.placed)) in
    ap (λ n. option_or (limit_passed which.Files LIVE_FILES_MAX n) (limit_passed which.FileBytes LIVE_BYTES_MAX (live_bytes (session_applied k (placeless_session s))))) count
    ∙ ap (λ n. option_or (limit_passed which.Files LIVE_FILES_MAX (live_file_count (session_applied k s))) (limit_passed which.FileBytes LIVE_BYTES_MAX n)) bytes

session_same : (files : ℕ → List FlowFile) (k : Kept) (s : SessionEntry) → entry_suits files k (Session (placeless_session s)) ≡ entry_suits files k (Session s)
session_same files k s =
    let lives = live files (record k { files = left_after s.gone k.files }) in
    let test : List ℕ → List ℕ → Bool → Option Limit → Bool = λ numbers arrivals places limit.
    are_distinct_numbers s.gone && are_active_in_one k.files s.gone && (are_new (λ f. f.number) numbers lives && are_new (λ f. f.arrival) arrivals lives) && places && has_count k.counts s.generator && keeps_counters k s && is_none limit in
    let numbers = map (λ a. a.file.number) s.placed in
    let arrivals = map (λ a. a.file.arrival) s.placed in
    let places = list_all (has_place k s) s.placed in
    ap (λ (ns : List ℕ). test ns (map (λ a. a.file.arrival) (map placeless_active s.placed)) (list_all (has_place k (placeless_session s)) (map placeless_active s.placed)) (live_limit (session_applied k (placeless_session s)))) (parts_same (λ f. f.number) (λ a. refl) s.placed)
    ∙ ap (λ (ns : List ℕ). test numbers ns (list_all (has_place k (placeless_session s)) (map placeless_active s.placed)) (live_limit (session_applied k (placeless_session s)))) (parts_same (λ f. f.arrival) (λ a. refl) s.placed)
    ∙ ap (λ b. test numbers arrivals b (live_limit (session_applied k (placeless_session s)))) (places_same k s s.placed)
    ∙ ap (test numbers arrivals places) (limit_same k s)

pub placeless_fits : (files : ℕ → List FlowFile) (k : Kept) (e : LogEntry) → entry_suits files k (placeless_entry e) ≡ entry_suits files k e
placeless_fits files k (Begin version log) = refl
placeless_fits files k (Session s) = session_same files k s
placeless_fits files k (Expire e) = refl
placeless_fits files k (SwapOut s) = refl
placeless_fits files k (SwapIn connection batch) = refl
placeless_fits files k (Age line) = refl
