-- What reading leaves of an engine, and what a journal has more.
use Rattle.std.proofs.Common.{◌≡◌, ◌⊎◌, inl, inr, ℕ, true, List, [], ◌∷◌, ◌++◌, length, refl, sym, ap, subst, ◌∙◌, arith, length-append}
use Rattle.std.specs.Prelude.{Some, Result, Ok, Err, IsErrOf}
use Rattle.machine_model.specs.declared.journal.Entry.{Entry}
use Rattle.store_core.specs.Store.{StoreState}
use Rattle.engine_session.specs.Done.{step_done}
use Rattle.engine_steps.specs.Engine.{EngineState, IsOfSameRun}
use Rattle.engine_steps.specs.Errors.{IsReadBy, OnlyReads}
use Rattle.engine_session.specs.declared.done.Done.{Done}
use Rattle.engine_steps.specs.declared.error.EngineError.{EngineError}

-- ---- answers

pub same_error : {A : Type 0} (one other : EngineError) → ◌≡◌ {A = Result A EngineError} (Err one) (Err other) → one ≡ other
same_error one other is = cc

-- a call that ended well met no error
pub read_well : {A X : Type 0} (x : A) (error : EngineError) → ◌≡◌ {A = Result A EngineError} (Ok x) (Err error) → X
read_well x error is = absurd cc

-- ---- what reading leaves

module _ {A : Type 0} (result : Result A EngineError) where
  pub lot_read : (s t : StoreState) → IsReadBy result s t → t.lot ≡ s.lot
  lot_read s t read = by result refl
    where
      other : (error : EngineError) → result ≡ Err error → (error ≡ EngineError.Disk → ⊥) → t.lot ≡ s.lot
      other error is apart = ap (λ (u : StoreState). u.lot) (read.unchanged (λ disk. apart (same_error error EngineError.Disk (sym is ∙ disk))))

      by : (r : Result A EngineError) → result ≡ r → t.lot ≡ s.lot
      by (Ok x) is = ap (λ (u : StoreState). u.lot) (read.unchanged (λ disk. read_well x EngineError.Disk (sym is ∙ disk)))
      by (Err EngineError.Disk) is = ap (λ (u : StoreState). u.lot) (read.failed is)
      by (Err (EngineError.Damaged damage)) is = other (EngineError.Damaged damage) is (λ e. cc)
      by (Err EngineError.Inbox) is = other EngineError.Inbox is (λ e. cc)
      by (Err EngineError.Outbox) is = other EngineError.Outbox is (λ e. cc)
      by (Err EngineError.Put) is = other EngineError.Put is (λ e. cc)
      by (Err (EngineError.Limit limit)) is = other (EngineError.Limit limit) is (λ e. cc)
      by (Err EngineError.MustReopen) is = other EngineError.MustReopen is (λ e. cc)
      by (Err EngineError.NoSession) is = other EngineError.NoSession is (λ e. cc)
      by (Err EngineError.Memory) is = other EngineError.Memory is (λ e. cc)

  -- where the disk didn't fail the engine is as it was
  pub as_read : (e f : EngineState) → IsReadBy result e.store f.store → f ≡ record e { store = f.store } → (IsErrOf result EngineError.Disk → ⊥) → f ≡ e
  as_read e f read rest other = rest ∙ (λ i. record e { store = read.unchanged other i })

-- ---- the journal

-- an entry more makes it longer
pub longer : (done : Done) (old new mid : List Entry) (at : ℕ) → mid ≡ old → new ≡ old → new ≡ mid ++ record { step = step_done done; acked = Some at } ∷ [] → ⊥
longer done old new mid at same unmoved entered = omega (
  arith,
  ap length unmoved,
  ap length entered,
  ap length same,
  length-append mid (record { step = step_done done; acked = Some at } ∷ []),
)

-- ---- a read that failed

-- it is as it was, or has failed
read_is : {A : Type 0} (result : Result A EngineError) (e f : EngineState) → OnlyReads result e f → (error : EngineError) → IsErrOf result error
    → (f ≡ e) ⊎ (f ≡ record e { store = record e.store { failed = true }; failed = true })
read_is result e f reads EngineError.Disk is = inr (reads.failed is)
read_is result e f reads (EngineError.Damaged damage) is = inl (reads.unchanged (λ disk. cc))
read_is result e f reads EngineError.Inbox is = inl (reads.unchanged (λ disk. cc))
read_is result e f reads EngineError.Outbox is = inl (reads.unchanged (λ disk. cc))
read_is result e f reads EngineError.Put is = inl (reads.unchanged (λ disk. cc))
read_is result e f reads (EngineError.Limit limit) is = inl (reads.unchanged (λ disk. cc))
read_is result e f reads EngineError.MustReopen is = inl (reads.unchanged (λ disk. cc))
read_is result e f reads EngineError.NoSession is = inl (reads.unchanged (λ disk. cc))
read_is result e f reads EngineError.Memory is = inl (reads.unchanged (λ disk. cc))

-- the run's parts of an engine are as they were
abbrev pub IsSameRunIn : (e f : EngineState) → Type 0
IsSameRunIn e f = (f.flow ≡ e.flow) × (f.store.lot ≡ e.store.lot) × (f.journal ≡ e.journal)

-- .. as in one that is the same, but for whether it has failed
as_it : (P : EngineState → Type 0) (e f : EngineState) → P e → P (record e { store = record e.store { failed = true }; failed = true }) → (f ≡ e) ⊎ (f ≡ record e { store = record e.store { failed = true }; failed = true }) → P f
as_it P e f was failed (inl same) = subst P (sym same) was
as_it P e f was failed (inr same) = subst P (sym same) failed

pub read_same : {A : Type 0} (result : Result A EngineError) (e f : EngineState) → OnlyReads result e f → (error : EngineError) → IsErrOf result error → IsSameRunIn e f
read_same result e f reads error is = as_it (λ (x : EngineState). IsSameRunIn e x) e f (refl, refl, refl) (refl, refl, refl) (read_is result e f reads error is)

pub read_run : {A : Type 0} (result : Result A EngineError) (e f : EngineState) → OnlyReads result e f → (error : EngineError) → IsErrOf result error → IsOfSameRun e f
read_run result e f reads error is =
    as_it (λ (x : EngineState). IsOfSameRun e x) e f (record { flow = refl; most = refl; checkpoint = refl; too_large = refl; lot = refl; id = refl })
    (record { flow = refl; most = refl; checkpoint = refl; too_large = refl; lot = refl; id = refl }) (read_is result e f reads error is)
