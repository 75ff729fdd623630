-- What holds from turn to turn of an engine, and how a turn stops.
use Rattle.std.proofs.Common.{◌≡◌, ◌⊎◌, inl, inr, ℕ, ◌≤◌, Bool, true, false, true≢false, List, length, refl, sym, ◌∙◌, ap, subst, arith}
use Rattle.std.specs.Prelude.{Some, Ok, Err, Result, IsErrOf, MatchResult}
use Rattle.disk_trait.specs.Faults.{CountsFaults}
use Rattle.disk_trait.specs.Files.{Files}
use Rattle.flowfile_record.specs.NamedFile.{NamedFile}
use Rattle.flowfile_record.specs.Stored.{Kept}
use Rattle.machine_model.specs.declared.given.Given.{Given}
use Rattle.machine_model.specs.State.{Machine}
use Rattle.processor_api.specs.Acts.{KeepsGiven}
use Rattle.engine_choice.specs.Laws.{given_for}
use Rattle.engine_choice.specs.declared.choice.Taking.{Taking}
use Rattle.engine_choice.specs.declared.choice.Taking.TheVariants as taking
use Rattle.run_law.specs.Ending.{journal_full}
use Rattle.run_law.specs.Laws.{SparedRunsGoOn}
use Rattle.run_law.proofs.Turns.{since_start}
use Rattle.machine_model.specs.Acknowledged.{steps}
use Rattle.engine_queues.specs.Listing.{names_left}
use Rattle.engine_steps.specs.Engine.{AreTakeable, EngineState, IsOfSameRun}
use Rattle.engine_steps.specs.Errors.{CountsEachFault, OnlyReads, Reopens}
use Rattle.engine_steps.specs.Flights.{given_back, names_to_come}
use Rattle.engine_steps.specs.Handing.{JobIsHanded}
use Rattle.engine_steps.specs.Ready.{EngineIsReady}
use Rattle.engine_steps.specs.Running.{IsLimited, IsRunning}
use Rattle.engine_steps.specs.declared.flight.InFlight.{InFlight}
use Rattle.engine_steps.specs.declared.error.EngineError.{EngineError}
use Rattle.engine_steps.specs.declared.error.EngineError.TheVariants.{Damaged, Disk, Inbox, Outbox, Put, Limit, MustReopen, NoSession, Memory}
use Rattle.engine_session.specs.declared.job.Job.{Job}
use Rattle.flow_scheduler.specs.Driving.{MayTurn}
use Rattle.engine_steps.proofs.Choosing.{HasStep}
use Rattle.engine_steps.proofs.Goes.{IsNoLimit}
use Rattle.engine_steps.proofs.RunsOn.{spared_by_none}
use Rattle.run_law.specs.Puts.{Outgoing, Start}
use Rattle.engine_steps.proofs.Steps.{runs_on}

-- ---- the same run

pub same_run_on : (old mid new : EngineState) → IsOfSameRun old mid → IsOfSameRun mid new → IsOfSameRun old new
same_run_on old mid new first second = record {
  flow = second.flow ∙ first.flow;
  most = second.most ∙ first.most;
  checkpoint = second.checkpoint ∙ first.checkpoint;
  too_large = second.too_large ∙ first.too_large;
  lot = second.lot ∙ first.lot;
  id = second.id ∙ first.id;
}

-- ---- a store that works on

not_so : (failed : Bool) → (failed ≡ true → ⊥) → failed ≡ false
not_so true works = absurd (works refl)
not_so false works = refl

-- behind a call that ended well
pub still_works : {W A : Type 0} (answer : A) (e f : EngineState) (old new : W) → e.failed ≡ false → Reopens (Ok answer) e f old new → f.failed ≡ false
still_works answer e f old new works reopen = not_so f.failed (λ fails. of (reopen.only fails))
  where
    of : (e.failed ≡ true) ⊎ IsErrOf (Ok answer) Disk ⊎ IsErrOf (Ok answer) Put → ⊥
    of (inl before) = true≢false (sym before ∙ works)
    of (inr (inl disk)) = cc
    of (inr (inr put)) = cc

-- the names that are to come are those that were, where nothing was taken or given back
same_names : (e f : EngineState) → f.listing ≡ e.listing → f.out ≡ e.out → names_to_come f ≡ names_to_come e
same_names e f listing out = λ i. names_left (given_back (out i) (listing i))

-- so another turn may follow
pub may_turn : {D : Type 0} (tells : Bool) (held : D → Files) (moment : D → ℕ) (images : D → ℕ → Files → Type 0) (in_tells : Bool) (left : List NamedFile) (e f : EngineState) (old new : D)
    → MayTurn tells held moment images in_tells left e old → f.listing ≡ e.listing → f.out ≡ e.out → EngineIsReady tells held moment images f new → f.failed ≡ false → MayTurn tells held moment images in_tells left f new
may_turn tells held moment images in_tells left e f old new may listing out ready works = record {
  may = record { ready = ready; works = works; left = λ telling. subst (AreTakeable left) (sym (same_names e f listing out)) (may.may.left telling) };
  none = out ∙ may.none;
}

-- ---- faults are counted

pub counts_after : (failed : Type 0) (old mid new : ℕ) → old ≤ mid → CountsFaults mid new failed → CountsFaults old new failed
counts_after failed old mid new first second = record {
  never_falls = omega (arith, first, second.never_falls);
  rose = λ is below. omega (arith, first, second.rose is below);
}

-- the counts only rose before
pub each_counts_after : {A : Type 0} (result : Result A EngineError) (disk_old disk_mid disk_new inbox_old inbox_mid inbox_new outbox_old outbox_mid outbox_new : ℕ)
    → disk_old ≤ disk_mid → inbox_old ≤ inbox_mid → outbox_old ≤ outbox_mid
    → CountsEachFault result disk_mid disk_new inbox_mid inbox_new outbox_mid outbox_new → CountsEachFault result disk_old disk_new inbox_old inbox_new outbox_old outbox_new
each_counts_after result disk_old disk_mid disk_new inbox_old inbox_mid inbox_new outbox_old outbox_mid outbox_new disk inbox outbox each = record {
  disk = counts_after (IsErrOf result Disk) disk_old disk_mid disk_new disk each.disk;
  inbox = counts_after (IsErrOf result Inbox) inbox_old inbox_mid inbox_new inbox each.inbox;
  outbox = counts_after (IsErrOf result Outbox) outbox_old outbox_mid outbox_new outbox each.outbox;
  put = counts_after (IsErrOf result Put) outbox_old outbox_mid outbox_new outbox each.put;
}

-- a call that ended well tells no fault
pub no_fault : {A : Type 0} (answer : A) (disk_old disk_new inbox_old inbox_new outbox_old outbox_new : ℕ) → disk_old ≤ disk_new → inbox_old ≤ inbox_new → outbox_old ≤ outbox_new
    → CountsEachFault (Ok answer) disk_old disk_new inbox_old inbox_new outbox_old outbox_new
no_fault answer disk_old disk_new inbox_old inbox_new outbox_old outbox_new disk inbox outbox = record {
  disk = record { never_falls = disk; rose = λ is below. absurd cc };
  inbox = record { never_falls = inbox; rose = λ is below. absurd cc };
  outbox = record { never_falls = outbox; rose = λ is below. absurd cc };
  put = record { never_falls = outbox; rose = λ is below. absurd cc };
}

-- ---- a run is stopped

-- the exit of a `?` answers this error, which stops the run
pub stopped_at : {A : Type 0} (result : Result A EngineError) (behind : A → Type 0) (stops : EngineError → Type 0) (error : EngineError) → result ≡ Err error → stops error → MatchResult result behind stops
stopped_at {A = A} result behind stops error is stopped = subst (λ (r : Result A EngineError). MatchResult r behind stops) (sym is) stopped

-- ---- .. between two steps

-- neither want of memory nor a store that must be opened anew is a limit
pub no_limit : (one error : EngineError) → one ≡ error → (one ≡ MustReopen) ⊎ (one ≡ Memory) → IsNoLimit error
no_limit one error same (inl reopen) limit is = let both : MustReopen ≡ Limit limit = sym reopen ∙ same ∙ is in cc
no_limit one error same (inr memory) limit is = let both : Memory ≡ Limit limit = sym memory ∙ same ∙ is in cc

module _ {D : Type 0} (tells : Bool) (held : D → Files) (moment : D → ℕ) (images : D → ℕ → Files → Type 0) (e : EngineState) (opened : Machine) (first : D) (start : Start) (time : ℕ) (now : D) (left : List NamedFile) (out : Outgoing) where
  module _ (law : SparedRunsGoOn moment images) (later : ℕ) (by : time ≤ later) where
    -- at a later time the journal has as many entries as it may, and a session comes next
    pub limited : (run : IsRunning moment images e opened first start time now left out) → length e.journal ≡ e.most → images now (moment now) (held now)
        → (goes : HasStep e.flow e.last later run.reached) → IsLimited tells held moment images e (journal_full e.most) opened first start later now left out (Some goes.next)
    limited run full is_left goes = record {
      reached = run.reached;
      to = (runs_on moment images law e opened first start time later now now left out run by (spared_by_none tells held moment images e.flow e.store.lot run.reached now run.to.run.holds)).to;
      met = record {
        one = goes.next;
        is = refl;
        within = (omega (arith, since_start start.time time (steps e.journal) run.to.run.within, by, goes.at), omega (arith, goes.at));
        after = goes.after;
        goes = goes.goes;
        stands = run.to.run.holds (held now) is_left;
        met = inr (ap journal_full (sym full));
      };
    }

-- ---- a session's moment

moment_given : (moment : ℕ) (there : Bool) (takes : Taking) → (given_for moment there takes).moment ≡ moment
moment_given moment there (taking.Files connection numbers) = refl
moment_given moment there (taking.Generate index) = refl
moment_given moment there (taking.Receive name) = refl

-- the work on a session's job is of the moment at which it was checked out
pub moment_of_work : (k : Kept) (flight : InFlight) (job : Job) (given : Given) → JobIsHanded k flight job → KeepsGiven job.given given → given.moment ≡ flight.moment
moment_of_work k flight job given handed kept =
    ap (λ (g : Given). g.moment) kept.but_bytes ∙ ap (λ (g : Given). g.moment) handed.given ∙ moment_given flight.moment job.given.there flight.choice.taking
