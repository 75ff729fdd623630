-- How many bytes the entry of a settled session has: no more than a block takes.
use Rattle.std.proofs.Common.{◌≡◌, ℕ, ◌+◌, ◌*◌, ◌≤◌, List, [], ◌∷◌, length, map, length-append, ap, arith}
use Rattle.std.specs.Prelude.{All}
use Rattle.std.specs.List.{flat_map, sum}
use Rattle.std.specs.Int.{w32, to_be_bytes}
use Rattle.std.proofs.lemmas.List.Concat.{flat_map-cons}
use Rattle.std.proofs.lemmas.List.Elements.{All-head, All-tail}
use Rattle.std.proofs.lemmas.List.Sums.{sum_by-cons}
use Rattle.flowfile_record.specs.Attributes.{encoded_size}
use Rattle.flowfile_record.specs.Encoding.{IsDigest}
use Rattle.flowfile_record.specs.Stored.{Kept}
use Rattle.flowfile_record.specs.declared.change.Settled.{Settled}
use Rattle.flowfile_record.specs.declared.limits.TheConstants.{FILES_MAX, FILENAME_SIZE, SESSION_ATTRIBUTES_MAX, TAKEN_MAX}
use Rattle.flowfile_record.specs.declared.stored.Placed.{Placed}
use Rattle.record_codec.specs.ActiveFile.{active_file}
use Rattle.record_codec.specs.EntryEncoding.{entry as encoding}
use Rattle.record_codec.specs.declared.block.TheConstants.{PAYLOAD_MAX}
use Rattle.record_codec.specs.declared.entry.LogEntry.TheVariants.{Session}
use Rattle.flowfile_record.proofs.Sizes.{numbers_size}
use Rattle.record_codec.proofs.Sizes.{active_size, session_size}
use Rattle.kept_state.specs.Changes.{record_of, entry_of_session}
use Rattle.kept_state.proofs.Sizes.{file_is, record_is}
use Rattle.machine_model.specs.declared.limits.TheConstants.{FAN_OUT_MAX}

-- the placed files' records, each with its connection
records_size : (placed : List Placed) → All (λ p. IsDigest p.file.content.digest) placed
    → length (flat_map active_file (map record_of placed)) ≡ sum (map (λ p. encoded_size p.file.attributes) placed) + 86 * length placed
records_size [] digests = omega arith
records_size (p ∷ placed) digests =
    let digest : length p.file.content.digest ≡ 32 = All-head (λ q. IsDigest q.file.content.digest) p placed digests in
    omega (
      arith,
      ap length (flat_map-cons active_file (record_of p) (map record_of placed)),
      length-append (active_file (record_of p)) (flat_map active_file (map record_of placed)),
      active_size (record_of p),
      record_is p,
      file_is p.file,
      digest,
      sum_by-cons (λ (n : ℕ). n) (encoded_size p.file.attributes) (map (λ q. encoded_size q.file.attributes) placed),
      records_size placed (All-tail (λ q. IsDigest q.file.content.digest) p placed digests),
    )

encoded_is : (k : Kept) (s : Settled) → All (λ p. IsDigest p.file.content.digest) s.placed
    → length (encoding (Session (entry_of_session k s))) ≡ 52 + 8 * length s.gone + (sum (map (λ p. encoded_size p.file.attributes) s.placed) + 86 * length s.placed)
unfolding encoding
encoded_is k s digests =
    let records = map record_of s.placed in
    omega (
      arith,
      session_size (entry_of_session k s),
      numbers_size s.gone,
      length-append (to_be_bytes w32 (length records)) (flat_map active_file records),
      records_size s.placed digests,
    )

pub payload : (k : Kept) (s : Settled) → All (λ p. IsDigest p.file.content.digest) s.placed → length s.gone ≤ TAKEN_MAX
    → length s.placed ≤ FAN_OUT_MAX * FILES_MAX
    → sum (map (λ p. encoded_size p.file.attributes) s.placed) ≤ FAN_OUT_MAX * (SESSION_ATTRIBUTES_MAX + FILES_MAX * FILENAME_SIZE)
    → length (encoding (Session (entry_of_session k s))) ≤ PAYLOAD_MAX
payload k s digests gone few attributes = omega (arith, encoded_is k s digests)
