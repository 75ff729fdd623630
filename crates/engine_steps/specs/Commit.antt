-- What becomes of a session that was worked on.
use Rattle.std.specs.Prelude.{◌≡◌, ◌⊎◌, ℕ, true, Contains, List, [], ◌∷◌, ◌++◌, length, find, Bool, IsTrue, Option, None, Some, Result, Ok, Err, IsErrOf}
use Rattle.disk_trait.specs.Files.{Files}
use Rattle.disk_trait.specs.Images.{Stays}
use Rattle.flowfile_record.specs.NamedFile.{NamedFile}
use Rattle.flowfile_record.specs.declared.content.ContentRef.{ContentRef}
use Rattle.content_repo.specs.Claims.{content_in}
use Rattle.kept_state.specs.declared.limit.Limit.{Limit as TheLimit}
use Rattle.machine_model.specs.declared.journal.Entry.{Entry}
use Rattle.run_law.specs.Puts.{Outgoing}
use Rattle.store_core.specs.Store.{kept_by}
use Rattle.run_law.specs.Work.{WritesLog}
use Rattle.engine_session.specs.Change.{names_without, with_sending, without_received}
use Rattle.engine_session.specs.Sending.{sending_of}
use Rattle.engine_session.specs.declared.change.Sending.{Sending}
use Rattle.engine_session.specs.Taken.{IsNextIndex}
use Rattle.engine_steps.specs.Committing.{IsLeftBySend}
use Rattle.engine_steps.specs.Ending.{SessionHasEnded}
use Rattle.engine_steps.specs.Flights.{has_session, names_to_come, received_in, without_session}
use Rattle.engine_session.specs.Done.{IsSame, IsWorkOn, WorkIsDone, step_done}
use Rattle.engine_steps.specs.Engine.{EngineState, IsOfSameRun}
use Rattle.engine_steps.specs.OwnJob.{IsJobOf}
use Rattle.engine_steps.specs.Tending.{counted_on}
use Rattle.engine_steps.specs.declared.commit.Committed.{Committed}
use Rattle.engine_steps.specs.declared.commit.Committed.TheVariants.{Acked, Changed}
use Rattle.engine_session.specs.declared.done.Done.{Done}
use Rattle.engine_steps.specs.declared.error.EngineError.{EngineError}
use Rattle.engine_steps.specs.declared.error.EngineError.TheVariants.{Disk, Inbox, Put, Limit}
use Rattle.engine_steps.specs.declared.flight.InFlight.{InFlight}
use Rattle.engine_session.specs.declared.job.Job.{Job}

-- a generator's index is the one that comes next
abbrev pub IndexIsNext : EngineState → InFlight → Type 0
IndexIsNext e flight = IsNextIndex (kept_by e.store).counts flight.choice.processor flight.choice.taking

-- it is the work on the job of a session in flight, as that stands now
abbrev pub StandsSo : (tells in_tells out_tells : Bool) → EngineState → (ContentRef → List ℕ) → List NamedFile
    → (List ℕ → Option (List ℕ)) → Done → Type 0
StandsSo tells in_tells out_tells e contents left standing done =
    (flight : InFlight) × (job : Job) × IndexIsNext e flight
    × IsJobOf tells in_tells out_tells e contents left standing flight job
    × IsWorkOn e.flow (kept_by e.store).store job done

-- a generator's index isn't the one that comes next, or the session has another job than was worked on
abbrev pub StandsOtherwise : (tells in_tells out_tells : Bool) → EngineState → (ContentRef → List ℕ)
    → List NamedFile
    → (List ℕ → Option (List ℕ)) → Done → Type 0
StandsOtherwise tells in_tells out_tells e contents left standing done =
    (flight : InFlight) × Contains e.out flight × (flight.session ≡ done.session)
    × ((IndexIsNext e flight → ⊥)
    ⊎ ((job : Job) × IsJobOf tells in_tells out_tells e contents left standing flight job
    × (IsSame done job → ⊥)))

-- ---- what it needs

-- If a session in flight has the work's number, and receives the file that the work was given, or both have none, then the
-- work was done on what was read, and that file is left as it was.
abbrev pub IsWorkFor : (in_tells : Bool) → EngineState → List NamedFile → Done → Type 0
IsWorkFor in_tells e left done =
    (flight : InFlight) → find (has_session done.session) e.out ≡ Some flight
    → done.given.file ≡ received_in flight.choice.taking
    → WorkIsDone e.flow (kept_by e.store).store in_tells left done

-- ---- what it leaves

-- The journal has one entry more, the session, acknowledged at this moment; it is no longer in flight, the file that it
-- received is no longer to come, and its processor got the last session.
pub record SessionIsAcknowledged (done : Done) (at : ℕ) (old new : EngineState) : Type 0 where
  pub journal : new.journal ≡ old.journal ++ record { step = step_done done; acked = Some at } ∷ []
  pub out : new.out ≡ without_session done.session old.out
  pub names : names_to_come new ≡ names_without done.given.file (names_to_come old)
  pub last : new.last ≡ Some done.processor
  pub since : new.since_reclaim ≡ counted_on old.since_reclaim

-- what is to come, who worked last and how many entries came are as before
pub record IsUncounted (old new : EngineState) : Type 0 where
  pub names : names_to_come new ≡ names_to_come old
  pub last : new.last ≡ old.last
  pub since : new.since_reclaim ≡ old.since_reclaim

-- .. and so is the journal, and what the store keeps
abbrev pub IsUnjournaled : (old new : EngineState) → Type 0
IsUnjournaled old new =
    (new.journal ≡ old.journal) × IsUncounted old new × (kept_by new.store ≡ kept_by old.store)

-- .. and so are the sessions in flight
abbrev pub StaysInFlight : (old new : EngineState) → Type 0
StaysInFlight old new = IsUnjournaled old new × (new.out ≡ old.out)

-- .. but that the session may stand in it, not acknowledged
abbrev pub SessionIsUnacknowledged : Done → (old new : EngineState) → Type 0
SessionIsUnacknowledged done old new =
    (new.journal ≡ old.journal ++ record { step = step_done done; acked = None } ∷ []) × IsUncounted old new
    × (new.out ≡ old.out)

-- What a commit leaves, at a disk whose moment is then this one. Where something has changed the session has ended. Where
-- the disk failed the journal may have the session, not acknowledged; where the inbox failed, acknowledged by now; and at
-- any other answer all is as it was.
abbrev pub IsJournaled : Result Committed EngineError → Done → (now : ℕ) → (old new : EngineState) → Type 0
IsJournaled (Ok (Acked entry moment)) done now old new =
    (entry ≡ length old.journal) × (moment ≡ now) × SessionIsAcknowledged done moment old new
IsJournaled (Ok Changed) done now old new = IsUnjournaled old new × SessionHasEnded done.session old new
IsJournaled (Err Disk) done now old new = StaysInFlight old new ⊎ SessionIsUnacknowledged done old new
IsJournaled (Err Inbox) done now old new = StaysInFlight old new ⊎ SessionIsAcknowledged done now old new
IsJournaled _ done now old new = StaysInFlight old new

-- the same of work whose job stands
abbrev pub IsEntered : Result ℕ EngineError → Done → (now : ℕ) → (old new : EngineState) → Type 0
IsEntered (Ok moment) done now old new = (moment ≡ now) × SessionIsAcknowledged done moment old new
IsEntered (Err Disk) done now old new = StaysInFlight old new ⊎ SessionIsUnacknowledged done old new
IsEntered (Err Inbox) done now old new = SessionIsAcknowledged done now old new
IsEntered _ done now old new = StaysInFlight old new

-- what the inbox has then: the file that was received goes where it is acknowledged
abbrev pub IsInboxBehind : Result Committed EngineError → (received : Option (List ℕ)) → (old new : List NamedFile)
    → Type 0
IsInboxBehind (Ok (Acked entry moment)) received old new = new ≡ without_received received old
IsInboxBehind (Err Inbox) received old new = (new ≡ old) ⊎ (new ≡ without_received received old)
IsInboxBehind _ received old new = new ≡ old

-- the same of work whose job stands
abbrev pub IsInboxLeft : Result ℕ EngineError → (received : Option (List ℕ)) → (old new : List NamedFile) → Type 0
IsInboxLeft (Ok moment) received old new = new ≡ without_received received old
IsInboxLeft (Err Inbox) received old new = (new ≡ old) ⊎ (new ≡ without_received received old)
IsInboxLeft _ received old new = new ≡ old

-- What the outbox has then of what the session sends: it was put where the session is acknowledged; where disk or inbox
-- failed it may have been; where the put failed it may have been tried; and else nothing was.
abbrev pub IsOutboxBehind : Result Committed EngineError → Option Sending → (old new : Outgoing) → Type 0
IsOutboxBehind (Ok (Acked entry moment)) sending old new = new ≡ with_sending sending old
IsOutboxBehind (Err Disk) sending old new = (new ≡ old) ⊎ (new ≡ with_sending sending old)
IsOutboxBehind (Err Inbox) sending old new = (new ≡ old) ⊎ (new ≡ with_sending sending old)
IsOutboxBehind (Err Put) sending old new = IsLeftBySend sending old new
IsOutboxBehind _ sending old new = new ≡ old

-- Inbox and outbox follow the journal. Where that is as it was, so are both, but for a put that failed; and where it isn't,
-- what the session sends was put.
pub record DevicesFollow {A : Type 0} (result : Result A EngineError) (in_tells out_tells : Bool)
    (sending : Option Sending) (old new : List Entry) (left now_left : List NamedFile) (out now_out : Outgoing) : Type 0
  where
    pub inbox : new ≡ old → IsTrue in_tells → now_left ≡ left
    pub outbox : new ≡ old → (IsErrOf result Put → ⊥) → IsTrue out_tells → now_out ≡ out
    pub sent : (new ≡ old → ⊥) → IsTrue out_tells → now_out ≡ with_sending sending out

-- Nothing was made of the session: there is no entry, no limit was met, and the store must be opened anew only where it
-- had to be before, or the disk failed.
pub record IsLeftOut {A : Type 0} (result : Result A EngineError) (old new : EngineState) : Type 0 where
  pub journal : new.journal ≡ old.journal
  pub limit : (limit : TheLimit) → IsErrOf result (Limit limit) → ⊥
  pub failed : new.failed ≡ true → (old.failed ≡ true) ⊎ IsErrOf result Disk

-- Acknowledged, the journal has one entry more, this session, its file has left the inbox, and what it sends was put. Else
-- all three are as they were, but at a failure of a device.
pub record MakesEntry (result : Result Committed EngineError) (done : Done) (now : ℕ) (in_tells out_tells : Bool)
    (old new : EngineState) (left now_left : List NamedFile) (out now_out : Outgoing) : Type 0 where
  pub journal : IsJournaled result done now old new
  pub inbox : IsTrue in_tells → IsInboxBehind result done.given.file left now_left
  pub outbox : IsTrue out_tells → IsOutboxBehind result (sending_of done.outcome.sent done.sources) out now_out
  pub follow : DevicesFollow result in_tells out_tells (sending_of done.outcome.sent done.sources) old.journal new.journal
      left now_left out now_out

-- Only what stands is made part of the run. Where something has changed, that is so, and nothing is done but that the
-- session has ended.
pub record TakesWhatStands {D : Type 0} (result : Result Committed EngineError) (tells in_tells out_tells : Bool)
    (held : D → Files) (moment : D → ℕ) (images : D → ℕ → Files → Type 0) (done : Done) (e_old e_new : EngineState) (old new : D)
    (left : List NamedFile) (out now_out : Outgoing) : Type 0 where
  pub stands : IsLeftOut result e_old e_new
      ⊎ StandsSo tells in_tells out_tells e_old (content_in (held old)) left out.standing done
  pub changed : result ≡ Ok Changed
      → StandsOtherwise tells in_tells out_tells e_old (content_in (held old)) left out.standing done
      × Stays held moment images old new × (now_out ≡ out)

-- What stays: the run's constants, the number of the log, and that of the next session. Only claims, files of events, the log and what may follow
-- it are written.
pub record CommitsAlone {D : Type 0} (moment : D → ℕ) (images : D → ℕ → Files → Type 0) (e_old e_new : EngineState)
    (old new : D) : Type 0 where
  pub same : IsOfSameRun e_old e_new
  pub log : e_new.store.log.number ≡ e_old.store.log.number
  pub next_session : e_new.next_session ≡ e_old.next_session
  pub alone : WritesLog moment images e_old.store.log.number old new
