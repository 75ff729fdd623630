-- What a call's answer tells of an engine and its journal.
use Rattle.std.proofs.Common.{◌≡◌, ⊎_elim, Bool, true, false, List, [], ◌∷◌, ◌++◌, length, ap, refl, sym, ◌∙◌, arith, length-append}
use Rattle.std.specs.Prelude.{Result, Ok, Err}
use Rattle.machine_model.specs.declared.journal.Entry.{Entry}
use Rattle.engine_steps.specs.Engine.{EngineState}
use Rattle.engine_steps.specs.declared.error.EngineError.{EngineError}
use Rattle.engine_steps.specs.declared.error.EngineError.TheVariants.{Disk, Put}
use Rattle.session_history.specs.Runs.{FailsByDevices}

not_failed : (failed : Bool) → (failed ≡ true → ⊥) → failed ≡ false
not_failed true none = absurd (none refl)
not_failed false none = refl

-- it has not failed behind an answer
pub works_behind : {A : Type 0} (result : Result A EngineError) (answer : A) (e : EngineState) → result ≡ Ok answer → FailsByDevices result e → e.failed ≡ false
works_behind {A} result answer e is fails =
    not_failed e.failed (λ failed. ⊎_elim (λ disk. none Disk disk) (λ put. none Put put) (fails.only failed))
  where
    none : (error : EngineError) → result ≡ Err error → ⊥
    none error so = let both : ◌≡◌ {A = Result A EngineError} (Ok answer) (Err error) = sym is ∙ so in cc

-- with an entry more a journal is another one
pub longer : (journal : List Entry) (entry : Entry) → journal ++ entry ∷ [] ≡ journal → ⊥
longer journal entry is = omega (arith, ap length is, length-append journal (entry ∷ []))
