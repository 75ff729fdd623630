-- What holds between two steps of a run, and what a step leaves.
use Rattle.std.specs.Prelude.{◌≡◌, ◌⊎◌, ℕ, List}
use Rattle.disk_trait.specs.Files.{Files}
use Rattle.disk_trait.specs.Images.{Since}
use Rattle.flowfile_record.specs.NamedFile.{NamedFile}
use Rattle.flowfile_wal.specs.Calls.{InEach}
use Rattle.machine_model.specs.declared.flow.Flow.{Flow}
use Rattle.machine_model.specs.declared.journal.Entry.{Entry}
use Rattle.machine_model.specs.State.{Machine}
use Rattle.machine_model.specs.Valid.{IsValid}
use Rattle.machine_model.specs.Acknowledged.{steps}
use Rattle.run_law.specs.Journal.{inbox_left, AreAcknowledged}
use Rattle.run_law.specs.Puts.{Outgoing, Start}
use Rattle.run_law.specs.Run.{HasPut, IsGoneByEntry, Replays, StandsFor}
use Rattle.run_law.specs.Turns.{AreWithin}

-- Each entry of the journal is acknowledged, each was made at a moment from the start's time up to now, and store, inbox
-- and outbox are those of the whole journal, which leads to this machine.
pub record IsRunningAt {D : Type 0} (flow : Flow) (start : Start) (time : ℕ) (moment : D → ℕ)
    (images : D → ℕ → Files → Type 0) (lot : ℕ) (opened : Machine) (old now : D) (journal : List Entry)
    (reached : Machine) (left : List NamedFile) (out : Outgoing) : Type 0 where
  pub ran : Replays flow moment images lot opened journal reached old now
  pub all : AreAcknowledged journal
  pub within : AreWithin start.time time (steps journal)
  pub gone : IsGoneByEntry flow opened.world.inbox left journal
  pub valid : IsValid flow reached.state
  pub holds : InEach (images now (moment now)) (StandsFor flow lot reached)
  pub lies : left ≡ inbox_left reached.world
  pub stands : HasPut flow start opened journal reached out

-- Within a step whatever a stop leaves stands for the state before it or for that behind it, ..
abbrev pub IsBetween : {D : Type 0} → Flow → (D → ℕ) → (D → ℕ → Files → Type 0) → (lot : ℕ)
    → (before after : Machine) → (old new : D) → Type 0
IsBetween flow moment images lot before after old new =
    Since moment images old new (λ c. StandsFor flow lot before c ⊎ StandsFor flow lot after c)

-- .. and once it is done, for that behind it.
pub record IsStepped {D : Type 0} (flow : Flow) (moment : D → ℕ) (images : D → ℕ → Files → Type 0) (lot : ℕ)
    (before after : Machine) (old new : D) : Type 0 where
  pub since : IsBetween flow moment images lot before after old new
  pub done : InEach (images new (moment new)) (StandsFor flow lot after)

-- whatever a stop leaves still stands for the state before
abbrev pub IsSpared : {D : Type 0} → Flow → (D → ℕ) → (D → ℕ → Files → Type 0) → (lot : ℕ) → Machine
    → (old new : D) → Type 0
IsSpared flow moment images lot before old new = Since moment images old new (StandsFor flow lot before)
