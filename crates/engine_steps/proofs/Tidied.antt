-- What the disk holds once a store was closed.
use Rattle.std.proofs.Common.{◌≡◌, ◌⊎◌, ⊎_elim, Bool, true, false, IsTrue, [], refl, sym, ◌∙◌, ap, subst}
use Rattle.std.proofs.lemmas.Bool.{false≢true}
use Rattle.std.specs.Prelude.{ℕ, ◌↔◌, Result, Ok, Err, IsErrOf}
use Rattle.disk_trait.specs.Files.{Files}
use Rattle.disk_trait.specs.Images.{Since}
use Rattle.flowfile_record.specs.Stored.{Kept, kept_of}
use Rattle.flowfile_wal.specs.Calls.{InEach}
use Rattle.content_repo.specs.Claims.{content_in}
use Rattle.machine_model.specs.declared.flow.Flow.{Flow}
use Rattle.machine_model.specs.State.{Machine, State}
use Rattle.prov_store.specs.State.{counts_of}
use Rattle.store_core.specs.Calls.{KeepsMeaning}
use Rattle.store_core.specs.Flow as store
use Rattle.store_core.specs.Flow.{flow_in}
use Rattle.store_core.specs.Kept.{kept_in}
use Rattle.store_core.specs.State.{stands_for}
use Rattle.store_core.specs.Store.{EachStandsFor, IsKeptOn, IsTidy, StoreState, kept_by}
use Rattle.store_core.specs.declared.error.StoreError.{StoreError}
use Rattle.store_core.specs.declared.error.StoreError.TheVariants as refusal
use Rattle.engine_change.specs.Expiring.{HaveContents}
use Rattle.run_law.specs.Run.{IsStateOf, IsTidied, StandsFor}
use Rattle.run_law.specs.Work.{IsAtWork}
use Rattle.engine_steps.specs.Closing.{ShowsState}
use Rattle.engine_steps.specs.declared.close.Closed.{Closed}

-- a call that ended well met no fault
still_works : {A : Type 0} (result : Result A StoreError) (s t : StoreState) (answer : A) → result ≡ Ok answer → s.failed ≡ false → (t.failed ≡ true) ↔ ((s.failed ≡ true) ⊎ IsErrOf result refusal.Disk) → t.failed ≡ false
still_works {A = A} result s t answer is works fails = by t.failed refl
  where
    by : (b : Bool) → t.failed ≡ b → t.failed ≡ false
    by false so = so
    by true so =
        absurd
        (⊎_elim (λ (was : s.failed ≡ true). false≢true (sym works ∙ was)) (λ (failed : result ≡ Err refusal.Disk). let both : ◌≡◌ {A = Result A StoreError} (Ok answer) (Err refusal.Disk) = sym is ∙ failed in cc)
        (fails.0 so))

-- where an engine's store is this one
module _ (flow : Flow) (tells : Bool) {D : Type 0} (held : D → Files) (moment : D → ℕ) (images : D → ℕ → Files → Type 0) (s own : StoreState) (same : s ≡ own) (old new : D) (work : IsAtWork flow tells held moment images own old) where
  -- what its claims hold is needed
  pub tidied : {A : Type 0} (result : Result A StoreError) (t : StoreState) (answer : A) → result ≡ Ok answer → (t.failed ≡ true) ↔ ((s.failed ≡ true) ⊎ IsErrOf result refusal.Disk) → kept_by t ≡ kept_by s → t.lot ≡ s.lot
      → IsKeptOn tells held moment images t new → images new (moment new) (held new) → IsTidy (kept_by t) (held new) → IsTidied flow own.lot (held new)
  tidied result t answer is fails kept lot on is_left tidy =
      let works : s.failed ≡ false = ap (λ (x : StoreState). x.failed) same ∙ work.works in
      record {
        kept = kept_by t;
        keeps =
            ap (λ (f : store.Flow). kept_in f own.lot (held new)) (sym (ap flow_in kept ∙ ap (λ (x : StoreState). flow_in (kept_by x)) same ∙ work.flow_is))
            ∙ ap (λ (l : ℕ). kept_in (flow_in (kept_by t)) l (held new)) (sym (lot ∙ ap (λ (x : StoreState). x.lot) same))
            ∙ (on.holds (still_works result s t answer is works fails) (held new) is_left).kept;
        tidy = tidy;
      }

  -- whatever a stop leaves stands for the same state
  pub stand_still : (s.failed ≡ false → KeepsMeaning moment images s old new) → (state : State) → EachStandsFor (flow_in (kept_by own)) own.lot state (images old (moment old))
      → Since moment images old new (λ files. stands_for (flow_in (kept_by own)) own.lot files ≡ Ok state)
  stand_still keeps state stands =
      subst (λ (x : StoreState). Since moment images old new (λ files. stands_for (flow_in (kept_by x)) x.lot files ≡ Ok state)) same
      ((keeps (ap (λ (x : StoreState). x.failed) same ∙ work.works)).states state
      (subst (λ (x : StoreState). EachStandsFor (flow_in (kept_by x)) x.lot state (images old (moment old))) (sym same) stands))

  -- it has in memory what the disk holds
  pub works_inside : IsAtWork flow tells held moment images s old
  works_inside = subst (λ (x : StoreState). IsAtWork flow tells held moment images x old) (sym same) work

  -- what is handed over is the machine's state
  pub shown_by_close : (m : Machine) (closed : Closed) → kept_of closed.state ≡ kept_by s → closed.events.counts ≡ s.events.counts → IsTrue tells → InEach (images old (moment old)) (StandsFor flow own.lot m)
      → (IsTrue tells → (f : Flow) → IsAtWork f tells held moment images s old → (m : Machine) → InEach (images old (moment old)) (StandsFor f s.lot m) → IsStateOf m (content_in (held old)) (kept_by s))
      → (IsTrue tells → (f : Flow) → IsAtWork f tells held moment images s old → (m : Machine) → InEach (images old (moment old)) (StandsFor f s.lot m) → s.events.counts ≡ counts_of m.state.events)
      → (IsTrue tells → HaveContents (content_in (held old)) (kept_by s)) → (kept_by s).batches ≡ [] → ShowsState flow m closed
  shown_by_close m closed state events telling stands tied counted read in_queues =
      let inside : InEach (images old (moment old)) (StandsFor flow s.lot m) = subst (λ (x : StoreState). InEach (images old (moment old)) (StandsFor flow x.lot m)) (sym same) stands in
      record {
        flow_is = ap flow_in state ∙ works_inside.flow_is;
        in_queues = ap (λ (k : Kept). k.batches) state ∙ in_queues;
        contents = content_in (held old);
        read = subst (HaveContents (content_in (held old))) (sym state) (read telling);
        is = subst (IsStateOf m (content_in (held old))) (sym state) (tied telling flow works_inside m inside);
        counts = events ∙ counted telling flow works_inside m inside;
      }
