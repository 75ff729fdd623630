-- How a run goes on by a session that is read.
use Rattle.std.proofs.Common.{◌≡◌, ◌⊎◌, ℕ, Bool, true, false, true≢false, List, refl, sym, subst, ◌∙◌, arith}
use Rattle.std.specs.Prelude.{Option, None, Result, Ok, Err, IsErrOf}
use Rattle.disk_trait.specs.Files.{Files}
use Rattle.disk_trait.specs.Images.{Stays}
use Rattle.flowfile_record.specs.NamedFile.{NamedFile}
use Rattle.engine_session.specs.declared.job.Job.{Job}
use Rattle.run_law.specs.Puts.{outgoing}
use Rattle.run_law.proofs.Writing.{reads_only, same_log}
use Rattle.engine_steps.specs.Engine.{EngineState, IsOfSameRun}
use Rattle.engine_steps.specs.Errors.{EngineRefusesToRead, OnlyReads}
use Rattle.engine_steps.specs.Flights.{is_in_flight, names_to_come}
use Rattle.engine_steps.specs.Ready.{IsUsableWith}
use Rattle.engine_steps.specs.declared.error.EngineError.{EngineError}
use Rattle.engine_steps.specs.declared.error.EngineError.TheVariants.{Damaged, Disk, Inbox, Limit, Memory, MustReopen, NoSession, Outbox, Put}
use Rattle.session_history.specs.Runs.{ReadingPlaysOn}
use Rattle.flow_workers.specs.Going.{AreGiven, WorkGoesOn, DeskIsInOrder}
use Rattle.flow_workers.specs.Seen.{Seen, stopped_by}
use Rattle.flow_workers.specs.declared.cause.Cause.{Cause}
use Rattle.flow_workers.proofs.ByCalls.{goes_by, order_by, works_on}
use Rattle.flow_workers.proofs.Listed.{listed_still}
use Rattle.flow_workers.proofs.Tended.{not_before, on_ok}

-- ---- what reading leaves

-- an engine that has failed by it
abbrev failed_in : EngineState → EngineState
failed_in e = record e { store = record e.store { failed = true }; failed = true }

-- it is as it was, or has failed
by_reading : {A : Type 0} (result : Result A EngineError) (P : EngineState → Type 0) (e f : EngineState) → OnlyReads result e f → P e → P (failed_in e) → P f
by_reading {A} result P e f reads was failed = by result refl
  where
    same : (IsErrOf result Disk → ⊥) → P f
    same apart = subst P (sym (reads.unchanged apart)) was

    other : (error : EngineError) → result ≡ Err error → (error ≡ Disk → ⊥) → P f
    other error is apart = same (λ disk. let both : ◌≡◌ {A = Result A EngineError} (Err error) (Err Disk) = sym is ∙ disk in let it : error ≡ Disk = cc in apart it)

    by : (r : Result A EngineError) → result ≡ r → P f
    by (Ok answer) is = same (λ disk. let both : ◌≡◌ {A = Result A EngineError} (Ok answer) (Err Disk) = sym is ∙ disk in cc)
    by (Err Disk) is = subst P (sym (reads.failed is)) failed
    by (Err (Damaged damage)) is = other (Damaged damage) is (λ e. cc)
    by (Err Inbox) is = other Inbox is (λ e. cc)
    by (Err Outbox) is = other Outbox is (λ e. cc)
    by (Err Put) is = other Put is (λ e. cc)
    by (Err (Limit limit)) is = other (Limit limit) is (λ e. cc)
    by (Err MustReopen) is = other MustReopen is (λ e. cc)
    by (Err NoSession) is = other NoSession is (λ e. cc)
    by (Err Memory) is = other Memory is (λ e. cc)

abbrev IsSameBut : (e f : EngineState) → Type 0
IsSameBut e f = IsOfSameRun e f × (f.store.log.number ≡ e.store.log.number) × (f.journal ≡ e.journal) × (f.out ≡ e.out) × (names_to_come f ≡ names_to_come e)

-- ---- a call that reads

module _ {D I O C : Type 0} (tells : Bool) (held : D → Files) (moment_of : D → ℕ) (images : D → ℕ → Files → Type 0) (faults : D → ℕ) (in_tells : Bool) (left : I → List NamedFile) (in_faults : I → ℕ)
    (out_tells : Bool) (standing : O → List ℕ → Option (List ℕ)) (puts : O → List NamedFile) (out_faults : O → ℕ) (time : C → ℕ) (given : ℕ → Type 0)
    (e f : EngineState) (old new : D) (in_old in_new : I) (out_old out_new : O) (clock : C) (p q : Option Cause) where
  abbrev s : Seen D I O C
  s = record { engine = e; disk = old; inbox = in_old; outbox = out_old; clock = clock; cause = p }

  abbrev t : Seen D I O C
  t = record { engine = f; disk = new; inbox = in_new; outbox = out_new; clock = clock; cause = q }

  pub read_goes : (law : ReadingPlaysOn tells held moment_of images) → DeskIsInOrder tells held moment_of images in_tells left time given s → p ≡ None → (result : Result Job EngineError) → q ≡ stopped_by result → (session : ℕ) → is_in_flight session e.out ≡ true
      → OnlyReads result e f → Stays held moment_of images old new → left in_new ≡ left in_old → outgoing standing puts out_new ≡ outgoing standing puts out_old → IsUsableWith tells held moment_of images in_tells (left in_new) f new
      → EngineRefusesToRead result session tells faults in_faults out_faults e f old new in_old in_new out_old out_new
      → WorkGoesOn tells held moment_of images faults in_tells left in_faults out_tells standing puts out_faults time given s t
  read_goes law order none result noted_is session flies reads stays lies stands usable refusal =
      goes_by tells held moment_of images in_tells left time given faults in_faults out_tells standing puts out_faults result s t none noted_is
      (order_by tells held moment_of images in_tells left time given result t noted_is usable (λ fails. not_before e.failed (IsErrOf result Disk ⊎ IsErrOf result Put) works ((refusal.asks.reopen flies).only fails))
      (record { limited = λ limit is. absurd (refusal.unlimited limit is); damaged = refusal.damaged }) (λ is. true≢false (sym ((refusal.asks.reopen flies).exactly.0 is) ∙ works)) (λ is. true≢false (sym flies ∙ refusal.asks.exactly.0 is))) same.0
      (on_ok result _ (same_log e.store.log.number f.store.log.number same.1)) (reads_only moment_of images e.store.log.number held old new stays) refusal.devices (omega arith)
      (λ all. by_reading result (AreGiven given) e f reads all all) (on_ok result _ (λ files all. listed_still in_tells files (left in_old) (left in_new) (names_to_come e) (names_to_come f) (λ telling. lies) same.4 all))
      (λ telling in_telling out_telling. law result e f old new (left in_old) (left in_new) (outgoing standing puts out_old) (outgoing standing puts out_new) (time clock) reads stays lies stands refusal.unlimited)
    where
      works : e.failed ≡ false
      works = works_on tells held moment_of images in_tells left time given s order none

      same : IsSameBut e f
      same =
          by_reading result (IsSameBut e) e f reads (record { flow = refl; most = refl; checkpoint = refl; too_large = refl; lot = refl; id = refl }, refl, refl, refl, refl)
          (record { flow = refl; most = refl; checkpoint = refl; too_large = refl; lot = refl; id = refl }, refl, refl, refl, refl)
