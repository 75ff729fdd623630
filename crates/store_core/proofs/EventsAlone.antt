-- A step on the files of events alone leaves the log, what is kept and the contents.
use Rattle.std.proofs.Common.{◌≡◌, ◌≢◌, ℕ, List, refl, sym, ap, subst, ◌∙◌, get_or, take, drop, length, ◌≤◌}
use Rattle.std.specs.Prelude.{Option, None, Some, All}
use Rattle.disk_trait.specs.Files.{Files, named}
use Rattle.disk_trait.specs.declared.file_name.FileKind.TheVariants.{Log, Snapshot, Claim, Events}
use Rattle.disk_trait.specs.declared.file_name.FileName.{FileName}
use Rattle.flowfile_record.specs.declared.content.ContentRef.{ContentRef}
use Rattle.checkpoint_store.specs.Snapshot.{snapshot_file}
use Rattle.content_repo.specs.Claims.{claim}
use Rattle.content_repo.specs.Slots.{end_of}
use Rattle.record_codec.specs.Frames.{counts}
use Rattle.flowfile_wal.specs.Current.{current_log, log_in, log_of_number, of_some, current_number}
use Rattle.flowfile_wal.specs.Steps.{EndsClosed}
use Rattle.flowfile_wal.proofs.Files.{same_number}
use Rattle.store_core.specs.Agreement.{SameContent}
use Rattle.store_core.specs.Store.{StoreState, HasLog}

-- only files of events change
abbrev pub OthersStay : Files → Files → Type 0
OthersStay old new = (f : FileName) → f.kind ≢ Events → new f ≡ old f

pub log_stays : (old new : Files) → OthersStay old new → (n : ℕ) → new (named Log n) ≡ old (named Log n)
log_stays old new stay n = stay (named Log n) (λ (e : Log ≡ Events). absurd cc)

pub snapshot_stays : (old new : Files) → OthersStay old new → (n : ℕ) → new (snapshot_file n) ≡ old (snapshot_file n)
snapshot_stays old new stay n = stay (snapshot_file n) (λ (e : Snapshot ≡ Events). absurd cc)

pub claim_stays : (old new : Files) → OthersStay old new → (n : ℕ) → new (claim n) ≡ old (claim n)
claim_stays old new stay n = stay (claim n) (λ (e : Claim ≡ Events). absurd cc)

pub contents_stay : (old new : Files) (contents : List ContentRef) → OthersStay old new → All (SameContent old new) contents
contents_stay old new contents stay = λ k d lt.
    let at = get_or contents k d in
    record {
      bytes = ap (λ (bytes : List ℕ). take at.size (drop at.offset bytes)) (claim_stays old new stay at.slot);
      covered = λ h. subst (λ (bytes : List ℕ). end_of at ≤ length bytes) (sym (claim_stays old new stay at.slot)) h;
    }

same_of_number : (old new : Files) (n : Option ℕ) → OthersStay old new → log_of_number new n ≡ log_of_number old n
same_of_number old new None stay = refl
same_of_number old new (Some n) stay = ap (λ (bytes : List ℕ). of_some (log_in n bytes)) (log_stays old new stay n)

pub current_stays : (old new : Files) → OthersStay old new → current_log new ≡ current_log old
unfolding current_log
current_stays old new stay =
    same_of_number old new (current_number new) stay
    ∙ ap (log_of_number old) (same_number old new (λ m. ap counts (log_stays old new stay m)))

pub has_log_still : (s : StoreState) (old new : Files) → OthersStay old new → HasLog s old → HasLog s new
has_log_still s old new stay has =
    let was = has.ready in
    let log = was.log in
    let current = current_stays old new stay in
    record {
      ready = record {
        log = log;
        number = was.number;
        version = was.version;
        end = was.end;
        ready = record {
          current = current ∙ was.ready.current;
          closed = subst (λ (bytes : List ℕ). EndsClosed log.end bytes) (sym (log_stays old new stay log.number)) was.ready.closed;
        };
      };
      entries = λ l is. has.entries l (sym current ∙ is);
    }
