-- How a run goes on by a session that is read.
use Rattle.std.proofs.Common.{◌≡◌, ℕ, ◌≤◌, Bool, List, sym, ap, ◌∙◌}
use Rattle.std.specs.Prelude.{None, Result, Ok, Err, IsErrOf, MatchResult}
use Rattle.disk_trait.specs.Files.{Files}
use Rattle.disk_trait.specs.Images.{Stays}
use Rattle.flowfile_record.specs.NamedFile.{NamedFile}
use Rattle.kept_state.specs.declared.limit.Limit.{Limit as TheLimit}
use Rattle.machine_model.specs.State.{Machine}
use Rattle.run_law.specs.Laws.{FaultsEnd, SparedRunsGoOn}
use Rattle.run_law.specs.Puts.{Outgoing, Start}
use Rattle.engine_session.specs.declared.job.Job.{Job}
use Rattle.engine_steps.specs.Engine.{EngineState}
use Rattle.engine_steps.specs.Errors.{OnlyReads}
use Rattle.engine_steps.specs.Flights.{names_to_come}
use Rattle.engine_steps.specs.declared.error.EngineError.{EngineError}
use Rattle.engine_steps.specs.declared.error.EngineError.TheVariants.{Disk, Limit}
use Rattle.engine_steps.proofs.AsRead.{read_same}
use Rattle.engine_steps.proofs.Goes.{spared_by_read, stops_unmoved}
use Rattle.engine_steps.proofs.Reread.{still_runs}
use Rattle.session_history.specs.Runs.{RunsAsPlayed, StopsAsPlayed}
use Rattle.session_history.proofs.Playing.{history_still, plays_still}

module _ {D : Type 0} (tells : Bool) (held : D → Files) (moment_of : D → ℕ) (images : D → ℕ → Files → Type 0) where
  -- ---- a session is read

  module _ (spared : SparedRunsGoOn moment_of images) (faults : FaultsEnd tells held moment_of images) (result : Result Job EngineError) (e f : EngineState) (old new : D) (left now_left : List NamedFile) (out now_out : Outgoing) (at : ℕ)
      (reads : OnlyReads result e f) (stays : Stays held moment_of images old new) (lies : now_left ≡ left) (stands : now_out ≡ out) (unlimited : (limit : TheLimit) → IsErrOf result (Limit limit) → ⊥)
      (opened : Machine) (first : D) (start : Start) (time : ℕ) (by : time ≤ at) (plays : RunsAsPlayed moment_of images e opened first start time old left out) where
    pub read_on : (one : Result Job EngineError) → result ≡ one
        → MatchResult one (λ answer. RunsAsPlayed moment_of images f opened first start at new now_left now_out) (λ error. StopsAsPlayed error tells held moment_of images f opened first start at new now_left now_out)
    read_on (Ok job) is =
        let same : f ≡ e = reads.unchanged (λ disk. let both : ◌≡◌ {A = Result Job EngineError} (Ok job) (Err Disk) = sym is ∙ disk in cc) in
        plays_still tells held moment_of images e opened first start time old left out plays f (ap (λ (x : EngineState). x.flow) same) at new now_left now_out
        (still_runs tells held moment_of images old new stays spared e f same opened first start time at by left now_left out now_out lies stands plays.run)
        (ap (λ (x : EngineState). x.out) same) (ap (λ (x : EngineState). x.last) same) (ap (λ (x : EngineState). x.journal) same) (ap (λ (x : EngineState). names_to_come x) same) by
    read_on (Err error) is =
        let same = read_same result e f reads error is in
        record {
          next = None;
          stops = stops_unmoved tells held moment_of images e f opened first start time old new left out plays.run same.0 same.1 faults same.2
              (spared_by_read tells held moment_of images e.flow e.store.lot plays.run.reached old new stays plays.run.to.run.holds)
              error (λ limit limited. unlimited limit (is ∙ ap Err limited)) at by now_left now_out lies stands None;
          history = history_still tells held moment_of images e opened first start time old left out plays f same.0 same.2 at by None tt;
        }
