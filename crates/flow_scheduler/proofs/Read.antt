-- What a read of the only session's job leaves, and its commit.
use Rattle.std.proofs.Common.{◌≡◌, ◌⊎◌, inl, inr, ℕ, Bool, true, false, true≢false, List, sym, ◌∙◌, subst}
use Rattle.std.specs.Prelude.{Err, IsErrOf, OnOk, Result}
use Rattle.disk_trait.specs.Files.{Files}
use Rattle.disk_trait.specs.Images.{Stays}
use Rattle.flowfile_record.specs.NamedFile.{NamedFile}
use Rattle.run_law.proofs.Writing.{reads_only, writes_in_turn}
use Rattle.engine_steps.specs.Commit.{CommitsAlone}
use Rattle.engine_steps.specs.Engine.{EngineState}
use Rattle.engine_steps.specs.Errors.{EngineRefusesToRead, OnlyReads, RefusesToCommit}
use Rattle.engine_steps.specs.Flights.{is_in_flight}
use Rattle.engine_steps.specs.Ready.{IsUsable}
use Rattle.engine_steps.specs.declared.commit.Committed.{Committed}
use Rattle.engine_steps.specs.declared.error.EngineError.{EngineError}
use Rattle.engine_steps.specs.declared.error.EngineError.TheVariants.{Disk, Put}
use Rattle.flow_scheduler.specs.Driving.{LeavesRun, MayTurn}
use Rattle.engine_steps.proofs.AsRead.{read_run}

-- a store that had to be opened anew before is none that works
not_before : (failed : Bool) (behind : Type 0) → failed ≡ false → (failed ≡ true) ⊎ behind → behind
not_before failed behind works (inl before) = absurd (true≢false (sym before ∙ works))
not_before failed behind works (inr is) = is

module _ {D I O : Type 0} (tells : Bool) (held : D → Files) (moment : D → ℕ) (images : D → ℕ → Files → Type 0) (faults : D → ℕ) (in_faults : I → ℕ) (out_faults : O → ℕ) (in_tells : Bool)
    (e : EngineState) (works : e.failed ≡ false) where
  pub read_leaves : {A : Type 0} (result : Result A EngineError) (error : EngineError) → result ≡ Err error → (session : ℕ) → is_in_flight session e.out ≡ true → (f : EngineState) (old new : D) (in_old in_new : I) (out_old out_new : O)
      → (left : List NamedFile) → OnlyReads result e f → EngineRefusesToRead result session tells faults in_faults out_faults e f old new in_old in_new out_old out_new → Stays held moment images old new
      → IsUsable tells held moment images f new → LeavesRun result tells held moment images in_tells left e f old new
  read_leaves {A} result error is session flies f old new in_old in_new out_old out_new left reads refusal stays usable =
      let reopen = refusal.asks.reopen flies in
      record {
        may = subst (λ (r : Result A EngineError). OnOk r (MayTurn tells held moment images in_tells left f new)) (sym is) tt;
        usable = usable;
        failed = λ fails. not_before e.failed (IsErrOf result Disk ⊎ IsErrOf result Put) works (reopen.only fails);
        works = λ reopens. true≢false (sym (reopen.exactly.0 reopens) ∙ works);
        known = λ unknown. true≢false (sym flies ∙ refusal.asks.exactly.0 unknown);
        same = read_run result e f reads error is;
        alone = reads_only moment images e.store.log.number held old new stays;
        why = record { limited = λ limit limited. absurd (refusal.unlimited limit limited); damaged = refusal.damaged };
      }

  pub commit_leaves : (result : Result Committed EngineError) (session : ℕ) → is_in_flight session e.out ≡ true → (f g : EngineState) → f ≡ e → (old mid new : D) (in_old in_new : I) (out_old out_new : O) → (left : List NamedFile)
      → Stays held moment images old mid → OnOk result (MayTurn tells held moment images in_tells left g new) → IsUsable tells held moment images g new → CommitsAlone moment images f g mid new
      → RefusesToCommit result session tells held moment images faults in_faults out_faults f g mid new in_old in_new out_old out_new → LeavesRun result tells held moment images in_tells left e g old new
  commit_leaves result session flies f g same old mid new in_old in_new out_old out_new left stays may usable alone_so refusal_so =
      let alone = subst (λ (x : EngineState). CommitsAlone moment images x g mid new) same alone_so in
      let refusal = subst (λ (x : EngineState). RefusesToCommit result session tells held moment images faults in_faults out_faults x g mid new in_old in_new out_old out_new) same refusal_so in
      let reopen = refusal.asks.reopen flies in
      record {
        may = may;
        usable = usable;
        failed = λ fails. not_before e.failed (IsErrOf result Disk ⊎ IsErrOf result Put) works (reopen.only fails);
        works = λ reopens. true≢false (sym (reopen.exactly.0 reopens) ∙ works);
        known = refusal.known;
        same = alone.same;
        alone = writes_in_turn moment images e.store.log.number old mid new (reads_only moment images e.store.log.number held old mid stays) alone.alone;
        why = refusal.why;
      }
