-- Why a run of an engine ended, on any devices.
use Rattle.std.specs.Prelude.{◌≡◌, ◌⊎◌, ⊤, ℕ, ◌+◌, Bool}
use Rattle.disk_trait.specs.Files.{Files}
use Rattle.disk_trait.specs.Faults.{CountsFaults}
use Rattle.disk_trait.specs.declared.damage.Damage.{Damage}
use Rattle.kept_state.specs.declared.limit.Limit.{Limit}
use Rattle.kept_state.specs.declared.limit.Which.TheVariants.{Journal}
use Rattle.machine_model.specs.declared.flow.Flow.{Flow}
use Rattle.run_law.specs.declared.ended.Ended.{Ended}
use Rattle.run_law.specs.declared.ended.Ended.TheVariants as ending
use Rattle.run_law.specs.declared.ended.Fault.TheVariants as fault
use Rattle.run_law.specs.Work.{DoesNotTell, IsEndedByLimit, IsShortOn}

-- the journal has as many entries as it may
abbrev pub journal_full : (most : ℕ) → Limit
journal_full most = record { which = Journal; number = most; wanted = most + 1 }

-- something failed
abbrev pub IsFault : Ended → Type 0
IsFault (ending.Fault cause) = ⊤
IsFault _ = ⊥

-- a store at work refused a change by the limit and then was closed, or the journal was full
abbrev pub IsLimitMet : {D : Type 0} → Flow → (tells : Bool) → (D → Files) → (D → ℕ) → (D → ℕ → Files → Type 0)
    → (lot start most : ℕ) → Limit → (new : D) → Type 0
IsLimitMet flow tells held moment images lot start most limit new =
    IsEndedByLimit flow tells held moment images lot start limit new ⊎ (limit ≡ journal_full most)

-- nothing was left to do, or all of it was held back
abbrev pub IsQuietOrBlocked : Ended → Type 0
IsQuietOrBlocked ended = (ended ≡ ending.Quiet) ⊎ ((place : ℕ) × (ended ≡ ending.Blocked place))

-- there the log is short: checkpoints were made
abbrev pub EndsShort : {D : Type 0} → (D → ℕ) → (D → ℕ → Files → Type 0) → (checkpoint : ℕ) → Ended → (new : D)
    → Type 0
EndsShort moment images checkpoint ended new = IsQuietOrBlocked ended → IsShortOn moment images checkpoint new

-- A device's fault count never falls, and its fault ends a run only where the count rose, or stands at its type's end.
pub record EndsOnFaults (ended : Ended) (disk_old disk_new inbox_old inbox_new outbox_old outbox_new : ℕ) : Type 0 where
  pub disk : CountsFaults disk_old disk_new (ended ≡ ending.Fault fault.Disk)
  pub inbox : CountsFaults inbox_old inbox_new (ended ≡ ending.Fault fault.Inbox)
  pub outbox : CountsFaults outbox_old outbox_new (ended ≡ ending.Fault fault.Outbox)

-- Its causes: a limit that was met, damage only on a disk that doesn't tell, and a device's fault only where it was
-- counted.
pub record EndsForCause {D : Type 0} (ended : Ended) (flow : Flow) (tells : Bool) (held : D → Files) (moment : D → ℕ)
    (images : D → ℕ → Files → Type 0) (faults : D → ℕ) (lot most : ℕ) (old new : D)
    (inbox_old inbox_new outbox_old outbox_new : ℕ) : Type 0 where
  pub limited : (limit : Limit) → ended ≡ ending.Limit limit
      → IsLimitMet flow tells held moment images lot (moment old) most limit new
  pub damaged : (damage : Damage) → ended ≡ ending.Fault (fault.Damaged damage) → DoesNotTell tells
  pub faults_counted : EndsOnFaults ended (faults old) (faults new) inbox_old inbox_new outbox_old outbox_new
