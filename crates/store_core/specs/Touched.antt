-- Which files a call changes, and how.
use Rattle.std.specs.Prelude.{◌≡◌, ◌⊎◌, ℕ, ◌≤◌, Bool, IsTrue, List, length, take, Option, None, Some, Result, OnOk}
use Rattle.disk_trait.specs.Files.{Files, Shortened, named}
use Rattle.disk_trait.specs.Images.{After, Since}
use Rattle.disk_trait.specs.declared.file_name.FileKind.TheVariants.{Claim, Events, Log, Snapshot}
use Rattle.disk_trait.specs.declared.file_name.FileName.{FileName}
use Rattle.flowfile_record.specs.declared.content.ContentRef.{ContentRef}
use Rattle.content_repo.specs.Claims.{claim, OnClaims}
use Rattle.content_repo.specs.Slots.{size_of}
use Rattle.content_repo.specs.declared.slot.Slot.{Slot}
use Rattle.store_core.specs.New.{first_log}
use Rattle.store_core.specs.Store.{StandsIn}

-- but for these, each file is as it was
abbrev pub TouchesOnly : (FileName → Type 0) → Files → Files → Type 0
TouchesOnly may old new = (f : FileName) → (may f → ⊥) → new f ≡ old f

-- But for these, each file is as it was, or no longer: then its bytes may be any, as behind a cut that no sync followed.
abbrev pub OnlyShortens : (FileName → Type 0) → Files → Files → Type 0
OnlyShortens may old new = (f : FileName) → (may f → ⊥) → Shortened 0 (old f) (new f)

-- ---- an opening

-- The file of the current log. Where none is current: those of the first log and its snapshot, which are made.
abbrev pub IsOfLog : (current : Option ℕ) → FileName → Type 0
IsOfLog (Some number) f = f ≡ named Log number
IsOfLog None f = (f ≡ named Log first_log) ⊎ (f ≡ named Snapshot first_log)

-- the log of the opened store: the current one, or the first
abbrev pub log_opened : (current : Option ℕ) → ℕ
log_opened (Some number) = number
log_opened None = first_log

-- The log is mended, or a store is made. Nothing else is written, and the snapshot of a current log stays.
pub record Revives (current : Option ℕ) (old new : Files) : Type 0 where
  pub shorter : OnlyShortens (IsOfLog current) old new
  pub snapshot : (n : ℕ) → current ≡ Some n → new (named Snapshot n) ≡ old (named Snapshot n)

-- ---- a store at work

-- files of claims and of events change, and the log of this number
abbrev pub MayTouch : Option ℕ → FileName → Type 0
MayTouch log f = (f.kind ≡ Claim) ⊎ (f.kind ≡ Events) ⊎ ((n : ℕ) × (log ≡ Some n) × (f ≡ named Log n))

-- each claim has its bytes of before up to the size of its slot, and is no shorter
abbrev pub ClaimsGrow : List Slot → Files → Files → Type 0
ClaimsGrow slots old new =
    (k : ℕ) → (take (size_of slots k) (new (claim k)) ≡ take (size_of slots k) (old (claim k)))
    × (length (old (claim k)) ≤ length (new (claim k)))

-- Whatever a stop leaves of a commit, only claims, files of events and the store's log are changed, and claims only
-- grow. So do those that are held once it has answered Ok.
pub record CommitsTo {D A E : Type 0} (tells : Bool) (held : D → Files) (moment : D → ℕ)
    (images : D → ℕ → Files → Type 0) (log : Option ℕ) (slots : List Slot) (old new : D) (result : Result A E)
    : Type 0 where
  pub alone : Since moment images old new (After (TouchesOnly (MayTouch log)) (images old (moment old)))
  pub claims : Since moment images old new (After (ClaimsGrow slots) (images old (moment old)))
  pub acknowledged : OnOk result (IsTrue tells → ClaimsGrow slots (held old) (held new))

-- only claims change, and they get shorter; one that any of these contents stands in stays
abbrev pub Frees : List ContentRef → Files → Files → Type 0
Frees live = OnClaims (λ k old new. Shortened 0 old new × (StandsIn k live → new ≡ old))
