-- What a settlement says of its session, whatever the state.
use Rattle.std.specs.Prelude.{◌≡◌, ◌⊎◌, ℕ, ◌+◌, ◌≤◌, List, map, length, All, Contains, None, IfSome}
use Rattle.sha2.specs.Sha256.{sha256}
use Rattle.flowfile_record.specs.Outcome.{written_by}
use Rattle.flowfile_record.specs.Ranges.{HaveRanges, IsRangeOfOne}
use Rattle.flowfile_record.specs.Shared.{AreShared, own_bytes}
use Rattle.flowfile_record.specs.declared.change.Settled.{Settled}
use Rattle.flowfile_record.specs.declared.content.ContentRef.{ContentRef}
use Rattle.flowfile_record.specs.declared.flow_file.FlowFile.{FlowFile}
use Rattle.flowfile_record.specs.declared.stored.Fresh.{Fresh}
use Rattle.flowfile_record.specs.declared.stored.Fresh.TheVariants.{No, Bytes, Staged, As}
use Rattle.flowfile_record.specs.declared.stored.Placed.{Placed}
use Rattle.flowfile_record.specs.declared.worked.Outcome.{Outcome}
use Rattle.machine_model.specs.Changing.{HaveDigests}
use Rattle.machine_model.specs.declared.given.Given.{Given}
use Rattle.machine_model.specs.Placing.{count_made}
use Rattle.settlement.specs.Handed.{AreReadSources}
use Rattle.settlement.specs.declared.counters.Counters.{Counters}
use Rattle.settlement.specs.declared.handed.Ended.{Ended}

-- the digest is that of a taken content, or of some bytes
abbrev pub IsDigestBy : List FlowFile → ContentRef → Type 0
IsDigestBy taken content =
    Contains (map (λ file. file.content.digest) taken) content.digest
    ⊎ ((bytes : List ℕ) × (content.digest ≡ sha256 bytes))

-- A content that is in the store is that of a file that was taken, or a part of it; and a new one has its size and its
-- digest. Nothing is staged. Of a shared one see `shared` below, of the digests of parts `digests`.
abbrev pub IsContentBy : List FlowFile → ContentRef → Fresh → Type 0
IsContentBy taken content No = IsRangeOfOne (map (λ file. file.content) taken) content × IsDigestBy taken content
IsContentBy taken content (Bytes bytes) = (content.size ≡ length bytes) × (content.digest ≡ sha256 bytes)
IsContentBy taken content Staged = ⊥
IsContentBy taken content (As place) = Unit {0}

abbrev pub HasPlacedContent : List FlowFile → Placed → Type 0
HasPlacedContent taken placed = IsContentBy taken placed.file.content placed.fresh

-- the number of a clone that the settlement made: no taken file has it, and it stands behind those of the made files
pub record IsNumberOfClone (counters : Counters) (ended : Ended) (number : ℕ) : Type 0 where
  pub untaken : Contains (map (λ file. file.number) ended.taken) number → ⊥
  pub behind : counters.next_number + count_made ended.outcome.files ≤ number

-- a clone brings no bytes of its own: a new content that goes into several queues is there once
abbrev pub BringsNoneAsClone : Counters → Ended → Placed → Type 0
BringsNoneAsClone counters ended placed =
    IsNumberOfClone counters ended placed.file.number → own_bytes placed.fresh ≡ None

-- a placed file brings only what the session wrote: a content that was taken, or a part of one, is never brought again
abbrev pub BringsWhatWasWritten : Outcome → Placed → Type 0
BringsWhatWasWritten outcome placed = IfSome (own_bytes placed.fresh) (Contains (written_by outcome))

-- all files that were taken are gone, also those that are placed again
pub record TellsOfEnded (given : Given) (counters : Counters) (ended : Ended) (settled : Settled) : Type 0 where
  pub processor : settled.processor ≡ ended.processor
  pub moment : settled.moment ≡ given.moment
  pub gone : settled.gone ≡ map (λ file. file.number) ended.taken
  pub contents : All (HasPlacedContent ended.taken) settled.placed
  pub digests : (bytes : ContentRef → List ℕ) → HaveRanges bytes → AreReadSources bytes ended.taken ended.sources
      → HaveDigests bytes settled.placed
  pub written : All (BringsWhatWasWritten ended.outcome) settled.placed
  pub shared : AreShared settled.placed
  pub clones : All (BringsNoneAsClone counters ended) settled.placed
