-- How `read` refuses.
use Rattle.std.proofs.Common.{◌≡◌, ◌⊎◌, inl, ℕ, Bool, true, false, List, refl, sym, true≢false, ◌∙◌, arith}
use Rattle.std.specs.Prelude.{Option, Result, Err, IsErrOf}
use Rattle.disk_trait.specs.Faults.{CountsFaults}
use Rattle.disk_trait.specs.Files.{Files}
use Rattle.flowfile_record.specs.NamedFile.{NamedFile}
use Rattle.store_core.specs.Store.{StoreState}
use Rattle.engine_steps.specs.Engine.{EngineState}
use Rattle.engine_steps.specs.Errors.{EngineRefusesToRead}
use Rattle.engine_steps.specs.Flights.{is_in_flight}
use Rattle.engine_steps.specs.HandingParts.{LeavesAsRead}
use Rattle.engine_steps.specs.declared.error.EngineError.{EngineError}

-- no call was refused yet, and no device asked
stays_counted : (failed : Type 0) (count : ℕ) → (failed → ⊥) → CountsFaults count count failed
stays_counted failed count not_so = record { never_falls = omega arith; rose = λ is. absurd (not_so is) }

module _ {D I O A : Type 0} (session : ℕ) (tells : Bool) (faults : D → ℕ) (in_faults : I → ℕ) (out_faults : O → ℕ) (e : EngineState) (disk : D) (inbox : I) (outbox : O) where
  -- a session that isn't in flight
  pub refuses_unknown : is_in_flight session e.out ≡ false
      → EngineRefusesToRead {A = A} (Err EngineError.NoSession) session tells faults in_faults out_faults e e disk disk inbox inbox outbox outbox
  refuses_unknown unknown = record {
    asks = record {
      exactly = (λ is. unknown, λ is. refl);
      untouched = λ is. (refl, refl);
      reopen = λ flying. absurd (true≢false (sym flying ∙ unknown));
    };
    unlimited = λ limit is. cc;
    damaged = λ damage is. absurd cc;
    devices = record {
      disk = stays_counted _ (faults disk) (λ is. cc);
      inbox = stays_counted _ (in_faults inbox) (λ is. cc);
      outbox = stays_counted _ (out_faults outbox) (λ is. cc);
      put = stays_counted _ (out_faults outbox) (λ is. cc);
    };
  }

  -- a store that must be opened anew
  pub refuses_anew : is_in_flight session e.out ≡ true → e.failed ≡ true
      → EngineRefusesToRead {A = A} (Err EngineError.MustReopen) session tells faults in_faults out_faults e e disk disk inbox inbox outbox outbox
  refuses_anew flying failed = record {
    asks = record {
      exactly = (λ is. absurd cc, λ unknown. absurd (true≢false (sym flying ∙ unknown)));
      untouched = λ is. absurd cc;
      reopen = λ known. record {
        exactly = (λ is. failed, λ is. refl);
        untouched = λ is. (refl, refl);
        from = λ is. failed;
        from_put = λ is. failed;
        only = λ is. inl failed;
      };
    };
    unlimited = λ limit is. cc;
    damaged = λ damage is. absurd cc;
    devices = record {
      disk = stays_counted _ (faults disk) (λ is. cc);
      inbox = stays_counted _ (in_faults inbox) (λ is. cc);
      outbox = stays_counted _ (out_faults outbox) (λ is. cc);
      put = stays_counted _ (out_faults outbox) (λ is. cc);
    };
  }

-- a job that was to be read by a store that works
pub refuses_read : {D I O A : Type 0} (result : Result A EngineError) (session : ℕ) (tells : Bool) (held : D → Files) (moment : D → ℕ) (images : D → ℕ → Files → Type 0) (faults : D → ℕ) (left_in : I → List NamedFile) (in_faults : I → ℕ)
    (standing : O → List ℕ → Option (List ℕ)) (puts : O → List NamedFile) (out_faults : O → ℕ) (e f : EngineState) (s t : StoreState) (old new : D) (in_old in_new : I) (out_old out_new : O)
    → is_in_flight session e.out ≡ true → e.failed ≡ false → LeavesAsRead result tells held moment images faults left_in in_faults standing puts out_faults s t old new in_old in_new out_old out_new
    → (IsErrOf result EngineError.Disk → f.failed ≡ true) → (f.failed ≡ true → (e.failed ≡ true) ⊎ IsErrOf result EngineError.Disk ⊎ IsErrOf result EngineError.Put)
    → EngineRefusesToRead result session tells faults in_faults out_faults e f old new in_old in_new out_old out_new
refuses_read result session tells held moment images faults left_in in_faults standing puts out_faults e f s t old new in_old in_new out_old out_new flying works leaves from only = record {
  asks = record {
    exactly = (λ is. absurd (leaves.known is), λ unknown. absurd (true≢false (sym flying ∙ unknown)));
    untouched = λ is. absurd (leaves.known is);
    reopen = λ known. record {
      exactly = (λ is. absurd (leaves.works is), λ failed. absurd (true≢false (sym failed ∙ works)));
      untouched = λ failed. absurd (true≢false (sym failed ∙ works));
      from = from;
      from_put = λ is. absurd (leaves.outbox.unput is);
      only = only;
    };
  };
  unlimited = leaves.unlimited;
  damaged = leaves.contents.damaged;
  devices = record {
    disk = leaves.contents.cause;
    inbox = leaves.inbox.cause;
    outbox = leaves.outbox.cause;
    put = record { never_falls = leaves.outbox.cause.never_falls; rose = λ is. absurd (leaves.outbox.unput is) };
  };
}
