-- The frame of one entry, and the files to which it was added.
use Rattle.std.proofs.Common.{◌≡◌, ◌≢◌, ℕ, ◌≤◌, ◌&&◌, Bool, List, [], ◌∷◌, length, ap, subst}
use Rattle.std.specs.Prelude.{IsTrue}
use Rattle.std.specs.List.{list_all}
use Rattle.disk_trait.specs.Files.{Files}
use Rattle.disk_trait.specs.Images.{Since}
use Rattle.record_codec.specs.EntryEncoding.{entry as encoding, kind_of, IsEntry}
use Rattle.record_codec.specs.Frames.{entry_frame}
use Rattle.record_codec.specs.LogEntries.{belongs}
use Rattle.record_codec.specs.declared.block.TheConstants.{PAYLOAD_MAX}
use Rattle.record_codec.specs.declared.entry.LogEntry.{LogEntry}
use Rattle.record_codec.proofs.BlockContents.{one_held}
use Rattle.flowfile_wal.specs.Calls.{InEach, WithOrWithout, WithOrWithoutEntry}
use Rattle.flowfile_wal.specs.Steps.{AddsEntries, AddsEntry, IsFrame}

-- an entry of the version that is no Begin has a frame, which is that of this entry alone
pub one_framed : (version : ℕ) (e : LogEntry) (bytes : List ℕ) → IsEntry e → length (encoding e) ≤ PAYLOAD_MAX → kind_of e ≢ 1 → IsTrue (belongs version e) → bytes ≡ entry_frame e → IsFrame version (e ∷ []) bytes
one_framed version e bytes encodes small later belong is = record {
  kind = kind_of e;
  payload = encoding e;
  small = small;
  says = one_held e encodes;
  later = later;
  belong = ap (λ (b : Bool). b && list_all (belongs version) []) belong;
  is = is;
}

-- where its frame is appended, the log gets this entry
pub one_added : (left : Files → Type 0) (held : Files) (number : ℕ) (e : LogEntry) (bytes : List ℕ) → bytes ≡ entry_frame e → InEach left (AddsEntries number (e ∷ []) (length bytes) held)
    → InEach left (AddsEntry number e held)
one_added left held number e bytes is added = subst (λ (l : List ℕ). InEach left (AddsEntries number (e ∷ []) (length l) held)) is added

-- or a stop leaves the log without it
pub one_or_none : {D : Type 0} (moment : D → ℕ) (images : D → ℕ → Files → Type 0) (old new : D) (held : Files) (number : ℕ) (e : LogEntry) (bytes : List ℕ) → bytes ≡ entry_frame e
    → Since moment images old new (WithOrWithout number (e ∷ []) (length bytes) (images old (moment old)) held)
    → Since moment images old new (WithOrWithoutEntry number e (images old (moment old)) held)
one_or_none moment images old new held number e bytes is either =
    subst (λ (l : List ℕ). Since moment images old new (WithOrWithout number (e ∷ []) (length l) (images old (moment old)) held)) is either
