-- A step on the files of claims alone leaves the log and what is kept.
use Rattle.std.proofs.Common.{◌≡◌, ◌≢◌, ℕ, List, refl, sym, ap, subst, ◌∙◌}
use Rattle.std.specs.Prelude.{Option, None, Some, All}
use Rattle.disk_trait.specs.Files.{Files, named}
use Rattle.disk_trait.specs.declared.file_name.FileKind.TheVariants.{Log, Snapshot, Claim, Events}
use Rattle.disk_trait.specs.declared.file_name.FileName.{FileName}
use Rattle.checkpoint_store.specs.Snapshot.{snapshot_file}
use Rattle.record_codec.specs.Frames.{counts}
use Rattle.flowfile_wal.specs.Current.{current_log, log_in, log_of_number, of_some, current_number}
use Rattle.flowfile_wal.specs.Steps.{EndsClosed}
use Rattle.flowfile_wal.proofs.Files.{same_number}
use Rattle.prov_store.specs.Events.{events_file}
use Rattle.store_core.specs.Agreement.{SameContent, SameEventFiles}
use Rattle.store_core.specs.Flow.{flow_in}
use Rattle.store_core.specs.Store.{StoreState, kept_by, live_in, FilesHold, HasLog}
use Rattle.store_core.proofs.Agreeing.{kept_alike, contents_sound}
use Rattle.store_core.proofs.EventsStay.{has_same}

-- only files of claims change
abbrev pub OthersStay : Files → Files → Type 0
OthersStay old new = (f : FileName) → f.kind ≢ Claim → new f ≡ old f

pub log_stays : (old new : Files) → OthersStay old new → (n : ℕ) → new (named Log n) ≡ old (named Log n)
log_stays old new stay n = stay (named Log n) (λ (e : Log ≡ Claim). absurd cc)

pub snapshot_stays : (old new : Files) → OthersStay old new → (n : ℕ) → new (snapshot_file n) ≡ old (snapshot_file n)
snapshot_stays old new stay n = stay (snapshot_file n) (λ (e : Snapshot ≡ Claim). absurd cc)

pub events_stay : (old new : Files) → OthersStay old new → SameEventFiles old new
events_stay old new stay k = stay (events_file k) (λ (e : Events ≡ Claim). absurd cc)

-- the logs are the same
abbrev pub SameLogs : Files → Files → Type 0
SameLogs old new = (n : ℕ) → new (named Log n) ≡ old (named Log n)

same_of_number : (old new : Files) (n : Option ℕ) → SameLogs old new → log_of_number new n ≡ log_of_number old n
same_of_number old new None same = refl
same_of_number old new (Some n) same = ap (λ (bytes : List ℕ). of_some (log_in n bytes)) (same n)

pub current_same : (old new : Files) → SameLogs old new → current_log new ≡ current_log old
unfolding current_log
current_same old new same =
    same_of_number old new (current_number new) same ∙ ap (log_of_number old) (same_number old new (λ m. ap counts (same m)))

pub current_stays : (old new : Files) → OthersStay old new → current_log new ≡ current_log old
current_stays old new stay = current_same old new (log_stays old new stay)

pub has_log_same : (s : StoreState) (old new : Files) → SameLogs old new → HasLog s old → HasLog s new
has_log_same s old new same has =
    let was = has.ready in
    let log = was.log in
    let current = current_same old new same in
    record {
      ready = record {
        log = log;
        number = was.number;
        version = was.version;
        end = was.end;
        ready = record {
          current = current ∙ was.ready.current;
          closed = subst (λ (bytes : List ℕ). EndsClosed log.end bytes) (sym (same log.number)) was.ready.closed;
        };
      };
      entries = λ l is. has.entries l (sym current ∙ is);
    }

pub has_log_still : (s : StoreState) (old new : Files) → OthersStay old new → HasLog s old → HasLog s new
has_log_still s old new stay = has_log_same s old new (log_stays old new stay)

pub holds_still : (s : StoreState) (old new : Files) → OthersStay old new → HasLog s old → All (SameContent old new) (live_in s) → FilesHold s old → FilesHold s new
holds_still s old new stay has same was =
    let log = has.ready.log in
    let current = has.ready.ready.current in
    record {
      kept =
          kept_alike (flow_in (kept_by s)) s.lot old new log current (current_stays old new stay ∙ current) (snapshot_stays old new stay log.number)
          ∙ was.kept;
      contents = contents_sound old new (live_in s) same was.contents;
      events = has_same s.events old new (events_stay old new stay) was.events;
      line = was.line;
    }
