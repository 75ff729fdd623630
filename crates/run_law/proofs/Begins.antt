-- How a run begins.
use Rattle.std.proofs.Common.{◌≡◌, inl, ℕ, ◌+◌, Bool, List, [], refl, sym, ◌∙◌, arith}
use Rattle.std.specs.Prelude.{Option, Ok}
use Rattle.disk_trait.specs.Files.{Files}
use Rattle.disk_trait.proofs.Moments.{wider_at_each}
use Rattle.flowfile_record.specs.NamedFile.{NamedFile}
use Rattle.machine_model.specs.declared.flow.Flow.{Flow}
use Rattle.machine_model.specs.State.{Machine, State}
use Rattle.store_core.specs.Calls.{SinceSync}
use Rattle.store_core.specs.Opened.{SameMeaning}
use Rattle.store_core.specs.State.{stands_for}
use Rattle.engine_change.specs.Committing.{identity_of}
use Rattle.run_law.specs.Laws.{FailedOpeningsEnd, OpenedRunsBegin, RunsBegin}
use Rattle.run_law.specs.Run.{IsPrefix, Replays, StandsFor, machine_at}
use Rattle.run_law.specs.declared.ended.Ended.TheVariants as ending
use Rattle.run_law.proofs.Behind.{follows_all}
use Rattle.run_law.proofs.Gone.{all_left, none_gone}
use Rattle.run_law.proofs.Journals.{whole_prefix}
use Rattle.run_law.proofs.Puts.{nothing_put}

module _ {D : Type 0} (moment : D → ℕ) (images : D → ℕ → Files → Type 0) where
  module _ (flow : Flow) (lot : ℕ) (old now : D) (opened : Machine) (since : SinceSync moment images old now (StandsFor flow lot opened)) where
    -- nothing was done yet
    begun : Replays flow moment images lot opened [] opened old now
    begun = record {
      replays = refl;
      in_order = tt;
      prefixes = wider_at_each moment images (moment old + 1) old now (λ k. StandsFor flow lot opened) (IsPrefix flow lot opened []) since (λ k c from up there stands. whole_prefix flow lot opened opened [] k c refl stands);
    }

  pub begins : RunsBegin moment images
  begins flow start time lot old now state left standing valid le since = record {
    ran = begun flow lot old now (machine_at state left standing) since;
    all = tt;
    within = le;
    gone = none_gone flow left;
    valid = valid;
    holds = λ c there. since.each (moment now) c since.begun (omega arith) there;
    lies = sym (all_left left);
    stands = nothing_put flow start (machine_at state left standing) standing refl;
  }

  -- whatever means the same as the files stands for the same state
  stands_same : (flow : Flow) (lot : ℕ) (files : Files) (old now : D) (state : State) (left : List NamedFile) (standing : List ℕ → Option (List ℕ)) → stands_for (identity_of flow) lot files ≡ Ok state
      → SinceSync moment images old now (SameMeaning (identity_of flow) lot files) → SinceSync moment images old now (StandsFor flow lot (machine_at state left standing))
  stands_same flow lot files old now state left standing stands since =
      wider_at_each moment images (moment old + 1) old now (λ k. SameMeaning (identity_of flow) lot files) (λ k. StandsFor flow lot (machine_at state left standing)) since
      (λ k c from up there same. same.state ∙ stands)

  pub opened_begins : OpenedRunsBegin moment images
  opened_begins flow start time lot files old now state left standing valid le stands since =
      begins flow start time lot old now state left standing valid le (stands_same flow lot files old now state left standing stands since)

  pub failed_opening : (tells : Bool) (held : D → Files) → FailedOpeningsEnd tells held moment images
  failed_opening tells held flow start time lot files old now state left standing cause le stands since = record {
    reached = machine_at state left standing;
    ran = begun flow lot old now (machine_at state left standing) (stands_same flow lot files old now state left standing stands since);
    acked = λ closed. absurd closed;
    few_open = inl refl;
    within = le;
    gone = none_gone flow left;
    inbox = (follows_all flow (ending.Fault cause) (machine_at state left standing) (machine_at state left standing) [] left refl (sym (all_left left))).0;
    few_left = (follows_all flow (ending.Fault cause) (machine_at state left standing) (machine_at state left standing) [] left refl (sym (all_left left))).1;
    outbox = inl (nothing_put flow start (machine_at state left standing) standing refl);
    ends = tt;
  }
