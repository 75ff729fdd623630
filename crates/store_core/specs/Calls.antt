-- What the calls of a store leave, and why they refuse.
use Rattle.std.specs.Prelude.{◌≡◌, ◌⊎◌, ◌↔◌, ℕ, ◌+◌, ◌<◌, true, Ok, Result, IfErr, IsErrOf}
use Rattle.disk_trait.specs.Faults.{CountsFaults}
use Rattle.disk_trait.specs.Files.{Files}
use Rattle.disk_trait.specs.Images.{SinceMoment, Since, next_moment}
use Rattle.disk_trait.specs.declared.damage.Damage.{Damage}
use Rattle.flowfile_record.specs.declared.content.ContentRef.{ContentRef}
use Rattle.kept_state.specs.declared.limit.Limit.{Limit as TheLimit}
use Rattle.machine_model.specs.State.{State}
use Rattle.store_core.specs.Flow.{flow_in}
use Rattle.store_core.specs.State.{stands_for}
use Rattle.store_core.specs.Store.{StoreState, kept_by, EachStandsFor, FilesHold}
use Rattle.store_core.specs.declared.error.StoreError.{StoreError}
use Rattle.store_core.specs.declared.error.StoreError.TheVariants.{Disk, Memory, MustReopen, Limit, Damaged}

-- ---- what a call leaves

-- From the call on, whatever a stop may leave holds what the store keeps, and stands for the same state.
pub record KeepsMeaning {D : Type 0} (moment : D → ℕ) (images : D → ℕ → Files → Type 0) (s : StoreState) (old new : D)
    : Type 0 where
  pub holds : Since moment images old new (FilesHold s)
  pub states : (state : State) → EachStandsFor (flow_in (kept_by s)) s.lot state (images old (moment old))
      → Since moment images old new (λ c. stands_for (flow_in (kept_by s)) s.lot c ≡ Ok state)

-- ---- why a call refuses

-- the errors of a call that tells no damage and takes no memory
abbrev pub IsDiskOrReopen : StoreError → Type 0
IsDiskOrReopen error = (error ≡ Disk) ⊎ (error ≡ MustReopen)

-- the errors of a call that tells no damage
abbrev pub IsDiskOrMemory : StoreError → Type 0
IsDiskOrMemory error = (error ≡ Disk) ⊎ (error ≡ Memory)

-- the errors of a call that reads files, and neither refuses a change nor knows the flow
abbrev pub IsDiskMemoryOrDamage : StoreError → Type 0
IsDiskMemoryOrDamage error = (error ≡ Disk) ⊎ (error ≡ Memory) ⊎ ((damage : Damage) × (error ≡ Damaged damage))

-- A call that tells no damage and takes no memory refuses so. MustReopen comes exactly where an earlier call of this
-- store answered Disk, and then nothing is done. Disk comes only where the disk's fault count rose, and no other error
-- comes.
pub record StopsOnFault {D A : Type 0} (result : Result A StoreError) (s_old s_new : StoreState) (faults : D → ℕ)
    (old new : D) : Type 0 where
  pub reopen : IsErrOf result MustReopen ↔ (s_old.failed ≡ true)
  pub failed : (s_new.failed ≡ true) ↔ ((s_old.failed ≡ true) ⊎ IsErrOf result Disk)
  pub cause : CountsFaults (faults old) (faults new) (IsErrOf result Disk)
  pub kinds : IfErr result IsDiskOrReopen
  pub untouched : s_old.failed ≡ true → (s_new ≡ s_old) × (new ≡ old)

-- A call that writes and takes memory refuses so: Memory may come too, and then nothing is done.
pub record StopsOrLacksMemory {D A : Type 0} (result : Result A StoreError) (s_old s_new : StoreState)
    (faults : D → ℕ) (old new : D) : Type 0 where
  pub reopen : IsErrOf result MustReopen ↔ (s_old.failed ≡ true)
  pub failed : (s_new.failed ≡ true) ↔ ((s_old.failed ≡ true) ⊎ IsErrOf result Disk)
  pub cause : CountsFaults (faults old) (faults new) (IsErrOf result Disk)
  pub kinds : IfErr result (λ error. IsDiskOrMemory error ⊎ (error ≡ MustReopen))
  pub untouched : IsErrOf result Memory ⊎ IsErrOf result MustReopen → (s_new ≡ s_old) × (new ≡ old)

-- A content isn't read so: by the disk, which may have failed before, for want of memory for its bytes, or by damage.
pub record RefusesToRead {D A : Type 0} (result : Result A StoreError) (at : ContentRef) (s_old s_new : StoreState)
    (faults : D → ℕ) (old new : D) : Type 0 where
  pub reopen : IsErrOf result MustReopen ↔ (s_old.failed ≡ true)
  pub failed : (s_new.failed ≡ true) ↔ ((s_old.failed ≡ true) ⊎ IsErrOf result Disk)
  pub cause : CountsFaults (faults old) (faults new) (IsErrOf result Disk)
  pub kinds : IfErr result (λ error. IsDiskMemoryOrDamage error ⊎ (error ≡ MustReopen))
  pub memory : IsErrOf result Memory → 0 < at.size
  pub untouched : s_old.failed ≡ true → (s_new ≡ s_old) × (new ≡ old)

-- An opening refuses by no failure of an earlier call and by no limit, and by the disk only where its fault count rose.
pub record RefusesToOpen {D A : Type 0} (result : Result A StoreError) (faults : D → ℕ) (old new : D) : Type 0 where
  pub reopen : IsErrOf result MustReopen → ⊥
  pub limit : (limit : TheLimit) → IsErrOf result (Limit limit) → ⊥
  pub cause : CountsFaults (faults old) (faults new) (IsErrOf result Disk)

-- ---- the opening

-- from behind the opening's first sync on, whatever a stop may leave has P
abbrev pub SinceSync : {D : Type 0} → (D → ℕ) → (D → ℕ → Files → Type 0) → D → D → (Files → Type 0) → Type 0
SinceSync moment images old new P = SinceMoment moment images (moment old + 1) old new (λ k. P)

-- the opening's first sync failed, which is told: all that is left is one of the images of before
pub record IsUnsynced {D A : Type 0} (moment : D → ℕ) (images : D → ℕ → Files → Type 0) (old new : D)
    (result : Result A StoreError) : Type 0 where
  pub told : IsErrOf result Disk
  pub left : Since moment images old new (images old (moment old))

-- what is held is as before, and of the calls that change something there was one sync
pub record IsUnwritten {D : Type 0} (held : D → Files) (moment : D → ℕ) (old new : D) : Type 0 where
  pub files : held new ≡ held old
  pub one_sync : moment new ≡ next_moment (moment old)
