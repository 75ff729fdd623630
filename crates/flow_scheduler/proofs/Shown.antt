-- What a run hands over whose store was closed: the machine's state, or nothing where something failed.
use Rattle.std.proofs.Common.{◌≡◌, ◌⊎◌, ⊎_elim, ℕ, ◌+◌, Bool, IsTrue, List, length, refl, sym, ap, ◌∙◌, subst}
use Rattle.std.specs.Prelude.{Option, Some, None, Result, Ok, Err, IfErr, IfOk, IfSome, MatchOption, OnOk}
use Rattle.std.specs.Result.{result_ok}
use Rattle.disk_trait.specs.Files.{Files}
use Rattle.flowfile_record.specs.NamedFile.{NamedFile}
use Rattle.flowfile_wal.specs.Calls.{InEach}
use Rattle.machine_model.specs.declared.flow.Flow.{Flow}
use Rattle.machine_model.specs.declared.journal.Entry.{Entry}
use Rattle.machine_model.specs.declared.journal.Step.{Step}
use Rattle.machine_model.specs.Acknowledged.{steps}
use Rattle.machine_model.specs.Laws.{StepsLoseNames}
use Rattle.machine_model.specs.State.{Machine, State}
use Rattle.machine_model.specs.Stepping.{replay}
use Rattle.engine_choice.specs.Choice.{coming_of}
use Rattle.run_law.specs.Ending.{IsFault}
use Rattle.run_law.specs.Puts.{Outgoing, Start}
use Rattle.run_law.specs.Run.{StandsFor, machine_at}
use Rattle.run_law.specs.declared.ended.Ended.{Ended}
use Rattle.engine_steps.specs.Closing.{EngineIsClosed, ShowsState}
use Rattle.engine_steps.specs.Engine.{EngineState}
use Rattle.engine_steps.specs.Errors.{ended_by}
use Rattle.engine_steps.specs.Running.{IsRunningTo}
use Rattle.engine_steps.specs.declared.close.Closed.{Closed}
use Rattle.engine_steps.specs.declared.error.EngineError.{EngineError}
use Rattle.engine_steps.specs.declared.error.EngineError.TheVariants.{Damaged, Disk, Inbox, Outbox, Put, Limit, MustReopen, NoSession, Memory}
use Rattle.flow_scheduler.proofs.Closing.{IsNoLimit}
use Rattle.engine_steps.specs.Flights.{names_to_come}
use Rattle.flow_scheduler.specs.Driving.{HandsOver}
use Rattle.flow_scheduler.proofs.Counted.{all_counted}

-- ---- where it is closed

-- unless something failed
abbrev pub ClosesUnlessFailed : Option Closed → Ended → Type 0
ClosesUnlessFailed o r = MatchOption o (IsFault r) (λ closed. IsFault r → ⊥)

failed : (o : Option Closed) (r : Ended) → o ≡ None → IsFault r → ClosesUnlessFailed o r
failed o r none fault = subst (λ (x : Option Closed). ClosesUnlessFailed x r) (sym none) fault

pub fails_to_open : (o : Option Closed) (r : Ended) (error : EngineError) → o ≡ None → r ≡ ended_by error → (error ≡ Inbox) ⊎ (error ≡ Memory) → ClosesUnlessFailed o r
fails_to_open o r error none is kinds =
    failed o r none (subst IsFault (sym is)
    (⊎_elim (λ (inbox : error ≡ Inbox). subst (λ (e : EngineError). IsFault (ended_by e)) (sym inbox) tt) (λ (memory : error ≡ Memory). subst (λ (e : EngineError). IsFault (ended_by e)) (sym memory) tt) kinds))

no_limit_is_fault : (error : EngineError) → IsNoLimit error → IsFault (ended_by error)
no_limit_is_fault (Damaged damage) none = tt
no_limit_is_fault Disk none = tt
no_limit_is_fault Inbox none = tt
no_limit_is_fault Outbox none = tt
no_limit_is_fault Put none = tt
no_limit_is_fault (Limit limit) none = absurd (none limit refl)
no_limit_is_fault MustReopen none = tt
no_limit_is_fault NoSession none = tt
no_limit_is_fault Memory none = tt

pub fails_to_run : (o : Option Closed) (r : Ended) (error : EngineError) → o ≡ None → r ≡ ended_by error → IsNoLimit error → ClosesUnlessFailed o r
fails_to_run o r error none is no_limit = failed o r none (subst IsFault (sym is) (no_limit_is_fault error no_limit))

pub closes_or_fails : (closed : Result Closed EngineError) (r wanted : Ended) (o : Option Closed) → o ≡ result_ok closed → OnOk closed (r ≡ wanted) → IfErr closed (λ error. r ≡ ended_by error)
    → IfErr closed (λ error. (error ≡ Disk) ⊎ (error ≡ MustReopen)) → (IsFault wanted → ⊥) → ClosesUnlessFailed o r
closes_or_fails (Ok closed) r wanted o is ok err kinds no_fault =
    subst (λ (x : Option Closed). ClosesUnlessFailed x r) (sym is) (λ fault. no_fault (subst IsFault ok fault))
closes_or_fails (Err error) r wanted o is ok err kinds no_fault =
    failed o r is (subst IsFault (sym err)
    (⊎_elim (λ (disk : error ≡ Disk). subst (λ (e : EngineError). IsFault (ended_by e)) (sym disk) tt) (λ (reopen : error ≡ MustReopen). subst (λ (e : EngineError). IsFault (ended_by e)) (sym reopen) tt) kinds))

-- ---- what is handed over

pub none_shown : (flow : Flow) (o : Option Closed) (m : Machine) (journal : List Entry) → o ≡ None → IfSome o (HandsOver flow m journal)
none_shown flow o m journal none = subst (λ (x : Option Closed). IfSome x (HandsOver flow m journal)) (sym none) tt

-- the machine that a journal leads to is one
one_end : (flow other : Flow) (opened one two : Machine) (journal : List Step) → other ≡ flow → replay other opened journal ≡ Some one → replay flow opened journal ≡ Some two → one ≡ two
one_end flow other opened one two journal same first second =
    let both : Some one ≡ Some two = sym first ∙ ap (λ (f : Flow). replay f opened journal) same ∙ second in cc

shown : {D : Type 0} (tells : Bool) (held : D → Files) (moment : D → ℕ) (images : D → ℕ → Files → Type 0) (e : EngineState) (old new : D) (reached : Machine) (result : Result Closed EngineError)
    → IfOk result (EngineIsClosed tells held moment images e new)
    → IfOk result (λ closed. IsTrue tells → (m : Machine) → InEach (images old (moment old)) (StandsFor e.flow e.store.lot m) → ShowsState e.flow m closed)
    → IsTrue tells → InEach (images old (moment old)) (StandsFor e.flow e.store.lot reached) → length reached.world.left ≡ length (names_to_come e) + e.listing.too_large
    → IfSome (result_ok result) (HandsOver e.flow reached e.journal)
shown tells held moment images e old new reached (Ok closed) is shows telling stands counted = record { journal = is.journal; shows = record { state = shows telling reached stands; left = is.left ∙ sym counted } }
shown tells held moment images e old new reached (Err error) is shows telling stands counted = tt

-- the store of a run that leads to this machine was closed
pub run_shows : StepsLoseNames → {D : Type 0} (tells : Bool) (held : D → Files) (moment : D → ℕ) (images : D → ℕ → Files → Type 0) (flow : Flow) (e0 e : EngineState) (state : State) (left now_left : List NamedFile)
    (standing : List ℕ → Option (List ℕ)) (now_out : Outgoing) (first old new : D) (start : Start) (time : ℕ) (reached m : Machine) (result : Result Closed EngineError) (o : Option Closed) → e.flow ≡ flow → e.listing.too_large ≡ e0.listing.too_large
    → coming_of (machine_at state left standing).world ≡ (names_to_come e0) → length left ≡ length (names_to_come e0) + e0.listing.too_large
    → IsRunningTo moment images e (machine_at state left standing) first start time old now_left now_out reached
    → replay flow (machine_at state left standing) (steps e.journal) ≡ Some m → o ≡ result_ok result → IfOk result (EngineIsClosed tells held moment images e new)
    → IfOk result (λ closed. IsTrue tells → (m : Machine) → InEach (images old (moment old)) (StandsFor e.flow e.store.lot m) → ShowsState e.flow m closed) → IsTrue tells → IfSome o (HandsOver flow m e.journal)
run_shows law tells held moment images flow e0 e state left now_left standing now_out first old new start time reached m result o flow_is large_is coming counted to ends is closed shows telling =
    let all : length reached.world.left ≡ length (names_to_come e) + e0.listing.too_large
    = all_counted law e.flow state left standing (steps e.journal) reached (names_to_come e0) (names_to_come e) e0.listing.too_large to.run.ran.replays coming counted to.coming in
    let same : reached ≡ m = one_end flow e.flow (machine_at state left standing) reached m (steps e.journal) flow_is to.run.ran.replays ends in
    subst (λ (x : Option Closed). IfSome x (HandsOver flow m e.journal)) (sym is)
    (subst (λ (f : Flow). IfSome (result_ok result) (HandsOver f m e.journal)) flow_is
    (subst (λ (x : Machine). IfSome (result_ok result) (HandsOver e.flow x e.journal)) same
    (shown tells held moment images e old new reached result closed shows telling to.run.holds (all ∙ ap (λ (n : ℕ). length (names_to_come e) + n) (sym large_is)))))
