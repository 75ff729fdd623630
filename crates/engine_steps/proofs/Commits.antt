-- What the commit of a session's change leaves, in the machine's words.
use Rattle.std.proofs.Common.{◌≡◌, ◌⊎◌, inl, inr, ⊎_elim, ℕ, Bool, true, false, List, [], length, refl, sym, ◌∙◌, ap, subst}
use Rattle.std.proofs.lemmas.Bool.{false≢true}
use Rattle.std.specs.Prelude.{◌↔◌, Option, None, Some, Result, Ok, Err, IsErrOf}
use Rattle.std.proofs.lemmas.List.{length-map, length-set}
use Rattle.disk_trait.specs.Files.{Files}
use Rattle.disk_trait.specs.Images.{Since, Stays}
use Rattle.disk_trait.proofs.Moments.{wider}
use Rattle.flowfile_record.specs.declared.change.Change.TheVariants as change
use Rattle.flowfile_record.specs.declared.change.Settled.{Settled}
use Rattle.flowfile_record.specs.declared.stored.Counted.{Counted}
use Rattle.flowfile_record.specs.Stored.{Kept}
use Rattle.record_codec.specs.Placeless.{placeless_entry}
use Rattle.record_codec.specs.declared.entry.LogEntry.{LogEntry}
use Rattle.record_codec.specs.declared.entry.LogEntry.TheVariants.{Begin, Session, Expire, SwapOut, SwapIn, Age}
use Rattle.content_repo.specs.Claims.{content_in, HasSizes}
use Rattle.flowfile_wal.specs.Calls.{InEach}
use Rattle.kept_state.specs.Applied.{applied}
use Rattle.flowfile_record.specs.Counts.{with_count}
use Rattle.kept_state.specs.Changes.{MaySettleAs, entry_of_change, no_files}
use Rattle.kept_state.specs.Fits.{are_active_in}
use Rattle.kept_state.specs.declared.limit.Limit.{Limit}
use Rattle.machine_model.specs.declared.flow.Flow.{Flow}
use Rattle.machine_model.specs.Changing.{state_after}
use Rattle.machine_model.specs.State.{Machine, State}
use Rattle.prov_store.specs.State.{IsTrimmed}
use Rattle.flow_queue.specs.Queue.{QueueState}
use Rattle.checkpoint_store.specs.Consistent.{IsConsistent}
use Rattle.store_core.specs.Change.{IsLimitOf, MayChange}
use Rattle.store_core.specs.Committed.{HasChange, PreparedChange}
use Rattle.store_core.specs.Flow as store
use Rattle.store_core.specs.Flow.{flow_in}
use Rattle.store_core.specs.State.{stands_for}
use Rattle.store_core.specs.Store.{EachStandsFor, IsKeptOn, StoreState, kept_by}
use Rattle.store_core.specs.declared.error.StoreError.{StoreError}
use Rattle.engine_change.specs.Committing.{identity_of}
use Rattle.engine_queues.specs.Settling.{IsKeptAfter, MaySettleOver}
use Rattle.run_law.specs.Going.{IsBetween, IsStepped}
use Rattle.run_law.specs.Run.{StandsFor}
use Rattle.run_law.specs.Work.{IsAtWork, IsRefused}
use Rattle.engine_steps.specs.Committing.{IsAtWorkWithQueues, with_room}
use Rattle.engine_steps.specs.Errors.{engine_error}
use Rattle.engine_steps.specs.declared.error.EngineError.{EngineError}

-- ---- a store with other room

module _ (flow : Flow) (tells : Bool) {D : Type 0} (held : D → Files) (moment : D → ℕ) (images : D → ℕ → Files → Type 0) where
  kept_roomy : (s t : StoreState) (room : ℕ) (disk : D) → t ≡ with_room room s → IsKeptOn tells held moment images s disk → IsKeptOn tells held moment images t disk
  kept_roomy s t room disk is kept = subst (λ (u : StoreState). IsKeptOn tells held moment images u disk) (sym is) (record {
    holds = λ works c now. let h = kept.holds works c now in record { kept = h.kept; contents = h.contents; events = h.events; line = h.line };
    log = λ works c now. let l = kept.log works c now in record { ready = l.ready; entries = l.entries };
    sizes = kept.sizes;
    trimmed = kept.trimmed;
  })

  pub work_roomy : (s t : StoreState) (room : ℕ) (disk : D) → t ≡ with_room room s → IsAtWork flow tells held moment images s disk → IsAtWork flow tells held moment images t disk
  work_roomy s t room disk is work = record {
    works = ap (λ (u : StoreState). u.failed) is ∙ work.works;
    flow_is = ap (λ (u : StoreState). flow_in (kept_by u)) is ∙ work.flow_is;
    kept = kept_roomy s t room disk is work.kept;
  }

  -- reading leaves a store at work
  pub work_read : (s : StoreState) (old new : D) → Stays held moment images old new → IsAtWork flow tells held moment images s old → IsAtWork flow tells held moment images s new
  work_read s old new stays work = record {
    works = work.works;
    flow_is = work.flow_is;
    kept = record {
      holds = λ f c left. work.kept.holds f c (before c left);
      log = λ f c left. work.kept.log f c (before c left);
      sizes = λ f told. subst (HasSizes s.slots) (sym stays.files) (work.kept.sizes f told);
      trimmed = λ f told. subst (IsTrimmed s.events.line s.events.end) (sym stays.files) (work.kept.trimmed f told);
    };
  }
    where
      before : (c : Files) → images new (moment new) c → images old (moment old) c
      before c left = subst (λ (k : ℕ). images old k c) stays.time (stays.past (moment new) c left)

  -- a preparation that refuses
  pub refuses : (s t : StoreState) (room : ℕ) (settled : Settled) (limit : Limit) (disk : D) → t ≡ with_room room s → IsAtWork flow tells held moment images s disk
      → MayChange (kept_by s) settled → IsLimitOf s settled limit → IsRefused flow tells held moment images limit t disk
  refuses s t room settled limit disk is work may passes = record {
    work = work_roomy s t room disk is work;
    settled = settled;
    may = subst (λ (u : StoreState). MayChange (kept_by u) settled) (sym is) may;
    passes = subst (λ (u : StoreState). IsLimitOf u settled limit) (sym is) passes;
  }

-- ---- a commit, by the store as it was before the preparation

stands_as : (flow : Flow) (s : StoreState) (m : Machine) (c : Files) → flow_in (kept_by s) ≡ identity_of flow → StandsFor flow s.lot m c → stands_for (flow_in (kept_by s)) s.lot c ≡ Ok m.state
stands_as flow s m c flow_is stands = (λ i. stands_for (flow_is i) s.lot c) ∙ stands

stands_back : (flow : Flow) (s : StoreState) (m : Machine) (state : State) (c : Files) → flow_in (kept_by s) ≡ identity_of flow → state ≡ m.state → stands_for (flow_in (kept_by s)) s.lot c ≡ Ok state → StandsFor flow s.lot m c
stands_back flow s m state c flow_is same stands = sym (λ i. stands_for (flow_is i) s.lot c) ∙ stands ∙ ap Ok same

module _ {D : Type 0} (held : D → Files) (moment : D → ℕ) (images : D → ℕ → Files → Type 0) (flow : Flow) (s t : StoreState) (room : ℕ) (settled prepared : Settled) (old new : D) (before after : Machine)
    (same : t ≡ with_room room s) (is : prepared ≡ settled) (flow_is : flow_in (kept_by s) ≡ identity_of flow)
    (stands : InEach (images old (moment old)) (StandsFor flow s.lot before)) (makes : state_after (content_in (held old)) before.state settled ≡ after.state) where
  leaves : state_after (content_in (held old)) before.state prepared ≡ after.state
  leaves = ap (state_after (content_in (held old)) before.state) is ∙ makes

  begins_with : EachStandsFor (flow_in (kept_by s)) s.lot before.state (images old (moment old))
  begins_with c now = stands_as flow s before c flow_is (stands c now)

  pub committed_between : s.failed ≡ false → (t.failed ≡ false → (state : State) → EachStandsFor (flow_in (kept_by t)) t.lot state (images old (moment old))
      → Since moment images old new (λ c. (stands_for (flow_in (kept_by t)) t.lot c ≡ Ok state) ⊎ (stands_for (flow_in (kept_by t)) t.lot c ≡ Ok (state_after (content_in (held old)) state prepared))))
      → IsBetween flow moment images s.lot before after old new
  committed_between works committed =
      let since = subst (λ (u : StoreState). u.failed ≡ false → (state : State) → EachStandsFor (flow_in (kept_by u)) u.lot state (images old (moment old))
      → Since moment images old new (λ c. (stands_for (flow_in (kept_by u)) u.lot c ≡ Ok state) ⊎ (stands_for (flow_in (kept_by u)) u.lot c ≡ Ok (state_after (content_in (held old)) state prepared)))) same committed works
      before.state begins_with in
      wider moment images old new _ (λ c. StandsFor flow s.lot before c ⊎ StandsFor flow s.lot after c) since
      (λ c either. ⊎_elim
      (λ (was : stands_for (flow_in (kept_by s)) s.lot c ≡ Ok before.state). inl (stands_back flow s before before.state c flow_is refl was))
      (λ (done : stands_for (flow_in (kept_by s)) s.lot c ≡ Ok (state_after (content_in (held old)) before.state prepared)).
      inr (stands_back flow s after (state_after (content_in (held old)) before.state prepared) c flow_is leaves done))
      either)

  pub committed : s.failed ≡ false → (t.failed ≡ false → (state : State) → EachStandsFor (flow_in (kept_by t)) t.lot state (images old (moment old))
      → Since moment images old new (λ c. (stands_for (flow_in (kept_by t)) t.lot c ≡ Ok state) ⊎ (stands_for (flow_in (kept_by t)) t.lot c ≡ Ok (state_after (content_in (held old)) state prepared))))
      → ((state : State) → EachStandsFor (flow_in (kept_by t)) t.lot state (images old (moment old))
      → EachStandsFor (flow_in (kept_by t)) t.lot (state_after (content_in (held old)) state prepared) (images new (moment new)))
      → IsStepped flow moment images s.lot before after old new
  committed works commits acknowledged = record {
    since = committed_between works commits;
    done = λ c now.
        let done = subst (λ (u : StoreState). (state : State) → EachStandsFor (flow_in (kept_by u)) u.lot state (images old (moment old))
        → EachStandsFor (flow_in (kept_by u)) u.lot (state_after (content_in (held old)) state prepared) (images new (moment new))) same acknowledged
        before.state begins_with c now in
        stands_back flow s after (state_after (content_in (held old)) before.state prepared) c flow_is leaves done;
  }

-- ---- the store behind it

length-with_count : (count : Option Counted) (counts : List ℕ) → length (with_count count counts) ≡ length counts
length-with_count None counts = refl
length-with_count (Some g) counts = length-set counts g.processor g.count

flow_stays : (k : Kept) (entry : LogEntry) → flow_in (applied no_files k entry) ≡ flow_in k
flow_stays k (Begin version log) = refl
flow_stays k (Session s) = λ i. record { digest = k.flow; connections = k.connections; processors = length-with_count s.generator k.counts i }
flow_stays k (Expire e) = refl
flow_stays k (SwapOut s) = refl
flow_stays k (SwapIn connection batch) = refl
flow_stays k (Age line) = refl

id_stays : (k : Kept) (entry : LogEntry) → (applied no_files k entry).store ≡ k.store
id_stays k (Begin version log) = refl
id_stays k (Session s) = refl
id_stays k (Expire e) = refl
id_stays k (SwapOut s) = refl
id_stays k (SwapIn connection batch) = refl
id_stays k (Age line) = refl

-- the store's id stays
pub id_after : (p : PreparedChange) (t u : StoreState) → HasChange p t u → (kept_by u).store ≡ (kept_by t).store
id_after p t u change = ap (λ (k : Kept). k.store) change.kept ∙ id_stays (kept_by t) change.entry

pub flow_after : (p : PreparedChange) (t u : StoreState) (f : store.Flow) → HasChange p t u → flow_in (kept_by t) ≡ f → flow_in (kept_by u) ≡ f
flow_after p t u f change is = ap flow_in change.kept ∙ flow_stays (kept_by t) change.entry ∙ is

-- what is kept is that before, with the session
pub kept_after : (p : PreparedChange) (s t u : StoreState) (room : ℕ) (settled : Settled) (connection : ℕ) → t ≡ with_room room s → HasChange p t u → p.entry ≡ entry_of_change (kept_by s) (change.Session settled)
    → are_active_in (kept_by s).files connection settled.gone ≡ true → IsKeptAfter (kept_by s) connection settled (kept_by u)
kept_after p s t u room settled connection same changed entry active = record {
  active = active;
  entry = changed.entry;
  same = changed.same ∙ ap placeless_entry entry;
  kept = changed.kept ∙ ap (λ (v : StoreState). applied no_files (kept_by v) changed.entry) same;
}

-- the session may be settled over the queues, beside the files that are taken
pub settles_over : (tells : Bool) {D : Type 0} (held : D → Files) (moment : D → ℕ) (images : D → ℕ → Files → Type 0) (flow : Flow) (s : StoreState) (taken : List ℕ) (queues : List QueueState) (disk : D) (settled : Settled)
    → IsAtWorkWithQueues flow tells held moment images s taken queues disk → IsConsistent (kept_by s) → (kept_by s).batches ≡ [] → MaySettleAs (kept_by s) settled → MaySettleOver flow (kept_by s) taken settled queues
settles_over tells held moment images flow s taken queues disk settled queued consistent none may = record {
  of_kept = queued.are;
  live = queued.live;
  connections = ap (λ (f : store.Flow). length f.connections) queued.work.flow_is ∙ length-map flow.connections (λ c. c.id);
  consistent = consistent;
  no_batches = none;
  may = may;
}

-- a call that ended well met no fault
pub still_works : {A : Type 0} (result : Result A StoreError) (s t : StoreState) (answer : A) → result ≡ Ok answer → s.failed ≡ false → (t.failed ≡ true) ↔ ((s.failed ≡ true) ⊎ IsErrOf result StoreError.Disk) → t.failed ≡ false
still_works {A = A} result s t answer is works fails = by t.failed refl
  where
    by : (b : Bool) → t.failed ≡ b → t.failed ≡ false
    by false so = so
    by true so =
        absurd
        (⊎_elim (λ (was : s.failed ≡ true). false≢true (sym works ∙ was)) (λ (failed : result ≡ Err StoreError.Disk). let both : ◌≡◌ {A = Result A StoreError} (Ok answer) (Err StoreError.Disk) = sym is ∙ failed in cc)
        (fails.0 so))

-- ---- errors

-- which error of the store a limit is
pub limit_of : (e : StoreError) (limit : Limit) → engine_error e ≡ EngineError.Limit limit → e ≡ StoreError.Limit limit
limit_of StoreError.Disk limit is = absurd cc
limit_of StoreError.Memory limit is = absurd cc
limit_of StoreError.MustReopen limit is = absurd cc
limit_of (StoreError.Limit other) limit is = let same : other ≡ limit = cc in ap StoreError.Limit same
limit_of (StoreError.Damaged damage) limit is = absurd cc
limit_of (StoreError.OtherFlow kept found) limit is = absurd cc
