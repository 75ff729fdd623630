-- What is left where a change was sent and committed, by the call that refused.
use Rattle.std.proofs.Common.{◌≡◌, ◌⊎◌, inl, inr, ℕ, Bool, false, List, refl, sym, ◌∙◌, ap, subst}
use Rattle.std.specs.Prelude.{All, Result, Err, IsSome, IsTrue}
use Rattle.disk_trait.specs.Files.{Files}
use Rattle.flowfile_wal.specs.Calls.{InEach}
use Rattle.content_repo.specs.Claims.{content_in}
use Rattle.kept_state.specs.Fits.{active_of}
use Rattle.kept_state.specs.declared.limit.Limit.{Limit as TheLimit}
use Rattle.machine_model.specs.declared.flow.Flow.{Flow}
use Rattle.machine_model.specs.Changing.{state_after}
use Rattle.machine_model.specs.State.{Machine}
use Rattle.flow_queue.specs.Queue.{QueueState}
use Rattle.store_core.specs.Calls.{IsDiskOrReopen}
use Rattle.store_core.specs.Change.{IsLimitOf}
use Rattle.store_core.specs.Committed.{HasChange, PreparedChange}
use Rattle.store_core.specs.Store.{StoreState, kept_by}
use Rattle.store_core.specs.declared.error.StoreError.{StoreError}
use Rattle.engine_queues.specs.Queues.{AreQueuesOf}
use Rattle.run_law.specs.Going.{IsBetween}
use Rattle.run_law.specs.Run.{StandsFor}
use Rattle.run_law.specs.Work.{IsAtWork}
use Rattle.engine_session.specs.Change.{with_sending}
use Rattle.engine_steps.specs.Committing.{HasWritten, IsLeftBySend, with_room}
use Rattle.engine_steps.specs.Errors.{engine_error}
use Rattle.engine_session.specs.declared.change.Changed.{Changed}
use Rattle.engine_steps.specs.declared.error.EngineError.{EngineError}
use Rattle.engine_steps.specs.declared.error.EngineError.TheVariants.{Disk, Limit, Memory, Put}
use Rattle.run_law.specs.Puts.{Outgoing}
use Rattle.engine_steps.proofs.Commits.{work_roomy}

-- the errors that come before the commit
abbrev pub IsBefore : EngineError → Type 0
IsBefore error = (error ≡ Memory) ⊎ (error ≡ Put) ⊎ ((limit : TheLimit) × (error ≡ Limit limit))

not_disk : (error : EngineError) → IsBefore error → error ≡ Disk → ⊥
not_disk error (inl memory) disk = cc
not_disk error (inr (inl put)) disk = cc
not_disk error (inr (inr (limit, limited))) disk = cc

before_kinds : (error : EngineError) → IsBefore error → (error ≡ Disk) ⊎ (error ≡ Memory) ⊎ (error ≡ Put) ⊎ ((limit : TheLimit) × (error ≡ Limit limit))
before_kinds error (inl memory) = inr (inl memory)
before_kinds error (inr (inl put)) = inr (inr (inl put))
before_kinds error (inr (inr limited)) = inr (inr (inr limited))

same_error : (one other : EngineError) → ◌≡◌ {A = Result ℕ EngineError} (Err one) (Err other) → one ≡ other
same_error one other is = cc

module _ {D : Type 0} (tells : Bool) (held : D → Files) (moment : D → ℕ) (images : D → ℕ → Files → Type 0) (out_tells : Bool) (s t : StoreState) (queues now_queues : List QueueState) (changed : Changed)
    (out now_out : Outgoing) (old new : D) where
  abbrev pub Written : Result ℕ EngineError → Type 0
  Written result = HasWritten result tells held moment images out_tells s t queues now_queues changed out now_out old new

  -- an error before the commit
  pub unwritten_by : (error : EngineError) → IsBefore error → new ≡ old → t ≡ with_room t.memory.room s → ((flow : Flow) (taken : List ℕ) → AreQueuesOf flow (kept_by s) taken queues → AreQueuesOf flow (kept_by s) taken now_queues)
      → ((error ≡ Put → ⊥) → now_out ≡ out) → (error ≡ Put → IsTrue out_tells → IsLeftBySend changed.sending out now_out)
      → ((limit : TheLimit) → error ≡ Limit limit → IsLimitOf s changed.settled limit) → (result : Result ℕ EngineError) → result ≡ Err error → Written result
  unwritten_by error before same roomy still unsent put passes result was = subst Written (sym was) (record {
    stepped = tt;
    cut_off = λ is. absurd (not_disk error before (same_error error Disk is));
    moment_is = tt;
    sent = tt;
    sent_before = λ is. absurd (not_disk error before (same_error error Disk is));
    unwritten = λ other is not. (same, roomy);
    unsent = λ other is not not_put. unsent (λ put. not_put (sym (same_error error other is) ∙ put));
    put = λ is. put (same_error error Put is);
    passes = λ limit is. passes limit (same_error error (Limit limit) is);
    kinds = before_kinds error before;
    work = λ not flow taken queued. record {
      work = subst (λ (d : D). IsAtWork flow tells held moment images t d) (sym same) (work_roomy flow tells held moment images s t t.memory.room old roomy queued.work);
      are = subst (λ (u : StoreState). AreQueuesOf flow (kept_by u) taken now_queues) (sym roomy) (still flow taken queued.are);
      live = subst (λ (u : StoreState). All (λ number. IsSome (active_of number (kept_by u).files)) taken) (sym roomy) queued.live;
    };
    stay = λ not number other live. ap (λ (u : StoreState). active_of number (kept_by u).files) roomy;
    lot = (ap (λ (u : StoreState). u.lot) roomy, ap (λ (u : StoreState). u.log.number) roomy);
    id = ap (λ (u : StoreState). (kept_by u).store) roomy;
  })

  -- the disk's error within the commit
  pub cut_off_by : (error : EngineError) → error ≡ Disk
      → ((flow : Flow) (before after : Machine) → IsAtWork flow tells held moment images s old → InEach (images old (moment old)) (StandsFor flow s.lot before)
      → state_after (content_in (held old)) before.state changed.settled ≡ after.state → IsBetween flow moment images s.lot before after old new)
      → (IsTrue out_tells → now_out ≡ with_sending changed.sending out) → (t.lot ≡ s.lot) × (t.log.number ≡ s.log.number) → (kept_by t).store ≡ (kept_by s).store → (result : Result ℕ EngineError) → result ≡ Err error → Written result
  cut_off_by error disk between sent lot id result was = subst Written (sym (was ∙ ap Err disk)) (record {
    stepped = tt;
    cut_off = λ is. between;
    moment_is = tt;
    sent = tt;
    sent_before = λ is. sent;
    unwritten = λ other is not. absurd (not (sym (same_error Disk other is)));
    unsent = λ other is not not_put. absurd (not (sym (same_error Disk other is)));
    put = λ is. absurd cc;
    passes = λ limit is. absurd cc;
    kinds = inl refl;
    work = λ not. absurd (not refl);
    stay = λ not. absurd (not refl);
    lot = lot;
    id = id;
  })

-- what a preparation is refused by
abbrev IsRefusal : StoreError → Type 0
IsRefusal error = (error ≡ StoreError.Memory) ⊎ ((limit : TheLimit) × (error ≡ StoreError.Limit limit))

pub refused_before : (error : StoreError) → IsRefusal error → IsBefore (engine_error error)
refused_before error (inl memory) = inl (ap engine_error memory)
refused_before error (inr (limit, limited)) = inr (inr (limit, ap engine_error limited))

pub refused_unput : (error : StoreError) → IsRefusal error → engine_error error ≡ Put → ⊥
refused_unput error (inl memory) put = let both : Memory ≡ Put = sym (ap engine_error memory) ∙ put in cc
refused_unput error (inr (limit, limited)) put = let both : Limit limit ≡ Put = sym (ap engine_error limited) ∙ put in cc

-- a store that works and refuses a commit met a failure of its disk
pub refused_by_disk : (error : StoreError) → IsDiskOrReopen error → engine_error error ≡ Disk
refused_by_disk error (inl disk) = ap engine_error disk
refused_by_disk error (inr reopen) = ap engine_error reopen

-- what a commit leaves of the store as it was before the preparation
pub lot_after : (p : PreparedChange) (s t u : StoreState) (room : ℕ) → t ≡ with_room room s → HasChange p t u → (u.lot ≡ s.lot) × (u.log.number ≡ s.log.number)
lot_after p s t u room same change = (change.lot ∙ ap (λ (v : StoreState). v.lot) same, change.log ∙ ap (λ (v : StoreState). v.log.number) same)

pub works_roomy : (s t : StoreState) (room : ℕ) → t ≡ with_room room s → s.failed ≡ false → t.failed ≡ false
works_roomy s t room same works = ap (λ (v : StoreState). v.failed) same ∙ works
