-- What a reclaim and the commit of expired files leave.
use Rattle.std.proofs.Common.{◌≡◌, ◌⊎◌, inl, inr, ⊎_elim, ℕ, Bool, true, false, List, [], ◌+◌, ◌-◌, length, refl, sym, ap, subst, ◌∙◌, arith}
use Rattle.std.specs.Prelude.{◌↔◌, Option, Some, Result, Ok, Err, IsErrOf, nat_le, nat_lt}
use Rattle.std.proofs.lemmas.Bool.{and_parts, false≢true, ltb-true}
use Rattle.disk_trait.specs.Files.{Files}
use Rattle.disk_trait.specs.Images.{After, Since}
use Rattle.disk_trait.proofs.Moments.{wider}
use Rattle.flowfile_record.specs.Encoding.{IsNumber}
use Rattle.flowfile_record.specs.declared.change.Settled.{Settled}
use Rattle.flowfile_record.specs.declared.limits.TheConstants.{NUMBER_LIMIT}
use Rattle.flowfile_record.specs.Stored.{Kept}
use Rattle.record_codec.specs.Placeless.{placeless_entry}
use Rattle.record_codec.specs.declared.entry.ExpireEntry.{ExpireEntry}
use Rattle.record_codec.specs.declared.entry.LogEntry.{LogEntry}
use Rattle.record_codec.specs.declared.entry.LogEntry.TheVariants.{Begin, Session, Expire, SwapOut, SwapIn, Age}
use Rattle.checkpoint_store.specs.Consistent.{IsConsistent}
use Rattle.content_repo.specs.Claims.{content_in, IdleShortened}
use Rattle.content_repo.specs.Slots.{SlotsHaveRoom}
use Rattle.content_repo.specs.declared.slot.Slot.{Slot}
use Rattle.flowfile_record.specs.declared.stored.Placed.{Placed}
use Rattle.flowfile_wal.specs.Calls.{InEach}
use Rattle.kept_state.specs.Applied.{applied, left_after}
use Rattle.kept_state.specs.Changes.{expiry_entry, no_files}
use Rattle.kept_state.specs.Limits.{numbers_limit}
use Rattle.kept_state.specs.declared.limit.Limit.{Limit}
use Rattle.kept_state.proofs.Expiring.{expiry_live}
use Rattle.machine_model.specs.declared.flow.Flow.{Flow}
use Rattle.machine_model.specs.declared.journal.Entry.{Entry}
use Rattle.machine_model.specs.declared.journal.Step.{Step}
use Rattle.machine_model.specs.Changing.{state_after}
use Rattle.machine_model.specs.Due.{is_checkpoint_due}
use Rattle.machine_model.specs.State.{Machine, State}
use Rattle.store_core.specs.Calls.{IsDiskOrMemory}
use Rattle.store_core.specs.Checkpoint.{Checkpoints}
use Rattle.store_core.specs.Change.{IsLimitOf, MayExpire, fresh_sizes_of, kept_with}
use Rattle.store_core.specs.Committed.{HasChange, PreparedChange}
use Rattle.store_core.specs.Flow.{flow_in}
use Rattle.store_core.specs.State.{stands_for}
use Rattle.store_core.specs.Store.{EachStandsFor, StoreState, kept_by}
use Rattle.store_core.specs.Touched.{MayTouch, TouchesOnly}
use Rattle.store_core.specs.declared.error.StoreError.{StoreError}
use Rattle.store_core.specs.declared.prepared.SettledExpiry.{SettledExpiry}
use Rattle.store_core.proofs.Expiring.{expiry_changes}
use Rattle.engine_change.specs.Committing.{identity_of}
use Rattle.run_law.specs.Going.{IsBetween, IsSpared, IsStepped}
use Rattle.run_law.specs.Run.{StandsFor}
use Rattle.run_law.specs.Work.{IsAtWork, IsRefused, WritesLog}
use Rattle.run_law.proofs.Writing.{checkpoint_writes, log_writes, writes_as}
use Rattle.engine_steps.specs.Errors.{engine_error}
use Rattle.engine_steps.specs.Tending.{IsKeptWithout}
use Rattle.engine_steps.specs.Journal.{journaled}
use Rattle.engine_steps.specs.declared.error.EngineError.{EngineError}

-- ---- errors

-- a call that ended well met no fault
pub still_works : {A : Type 0} (result : Result A StoreError) (s t : StoreState) (answer : A) → result ≡ Ok answer → s.failed ≡ false → (t.failed ≡ true) ↔ ((s.failed ≡ true) ⊎ IsErrOf result StoreError.Disk) → t.failed ≡ false
still_works {A = A} result s t answer is works fails = by t.failed refl
  where
    by : (b : Bool) → t.failed ≡ b → t.failed ≡ false
    by false so = so
    by true so =
        absurd
        (⊎_elim (λ (was : s.failed ≡ true). false≢true (sym works ∙ was)) (λ (failed : result ≡ Err StoreError.Disk). let both : ◌≡◌ {A = Result A StoreError} (Ok answer) (Err StoreError.Disk) = sym is ∙ failed in cc)
        (fails.0 so))

-- which error of the store a limit is
pub limit_of : (e : StoreError) (limit : Limit) → engine_error e ≡ EngineError.Limit limit → e ≡ StoreError.Limit limit
limit_of StoreError.Disk limit is = absurd cc
limit_of StoreError.Memory limit is = absurd cc
limit_of StoreError.MustReopen limit is = absurd cc
limit_of (StoreError.Limit other) limit is = let same : other ≡ limit = cc in ap StoreError.Limit same
limit_of (StoreError.Damaged damage) limit is = absurd cc
limit_of (StoreError.OtherFlow kept found) limit is = absurd cc

-- .. and want of memory, of a call that tells no damage
pub memory_of : (e : StoreError) → IsDiskOrMemory e ⊎ (e ≡ StoreError.MustReopen) → engine_error e ≡ EngineError.Memory → e ≡ StoreError.Memory
memory_of StoreError.Disk kind is = absurd cc
memory_of StoreError.Memory kind is = refl
memory_of StoreError.MustReopen kind is = absurd cc
memory_of (StoreError.Limit limit) kind is = absurd cc
memory_of (StoreError.Damaged damage) kind is = absurd cc
memory_of (StoreError.OtherFlow kept found) kind is =
    absurd
    (⊎_elim (λ (either : IsDiskOrMemory (StoreError.OtherFlow kept found)). ⊎_elim (λ (disk : StoreError.OtherFlow kept found ≡ StoreError.Disk). cc) (λ (memory : StoreError.OtherFlow kept found ≡ StoreError.Memory). cc) either)
    (λ (reopen : StoreError.OtherFlow kept found ≡ StoreError.MustReopen). cc) kind)

-- ---- the journal behind a commit

-- it has no entry more where an error came before the commit
pub journaled_kept : (error : EngineError) (one : Step) (journal : List Entry) → (error ≡ EngineError.Disk → ⊥) → journaled (Err error) one journal ≡ journal
journaled_kept (EngineError.Damaged damage) one journal other = refl
journaled_kept EngineError.Disk one journal other = absurd (other refl)
journaled_kept EngineError.Inbox one journal other = refl
journaled_kept EngineError.Outbox one journal other = refl
journaled_kept EngineError.Put one journal other = refl
journaled_kept (EngineError.Limit limit) one journal other = refl
journaled_kept EngineError.MustReopen one journal other = refl
journaled_kept EngineError.NoSession one journal other = refl
journaled_kept EngineError.Memory one journal other = refl

-- ---- what the files stand for

stands_as : (flow : Flow) (s : StoreState) (m : Machine) (c : Files) → flow_in (kept_by s) ≡ identity_of flow → StandsFor flow s.lot m c → stands_for (flow_in (kept_by s)) s.lot c ≡ Ok m.state
stands_as flow s m c flow_is stands = (λ i. stands_for (flow_is i) s.lot c) ∙ stands

stands_back : (flow : Flow) (s : StoreState) (m : Machine) (state : State) (c : Files) → flow_in (kept_by s) ≡ identity_of flow → state ≡ m.state → stands_for (flow_in (kept_by s)) s.lot c ≡ Ok state → StandsFor flow s.lot m c
stands_back flow s m state c flow_is same stands = sym (λ i. stands_for (flow_is i) s.lot c) ∙ stands ∙ ap Ok same

module _ {D : Type 0} (moment : D → ℕ) (images : D → ℕ → Files → Type 0) (flow : Flow) (s : StoreState) (old new : D) (before : Machine) (flow_is : flow_in (kept_by s) ≡ identity_of flow)
    (stands : InEach (images old (moment old)) (StandsFor flow s.lot before)) where
  begins_with : EachStandsFor (flow_in (kept_by s)) s.lot before.state (images old (moment old))
  begins_with c now = stands_as flow s before c flow_is (stands c now)

  pub spares : ((state : State) → EachStandsFor (flow_in (kept_by s)) s.lot state (images old (moment old)) → Since moment images old new (λ c. stands_for (flow_in (kept_by s)) s.lot c ≡ Ok state))
      → IsSpared flow moment images s.lot before old new
  spares states =
      wider moment images old new (λ c. stands_for (flow_in (kept_by s)) s.lot c ≡ Ok before.state) (StandsFor flow s.lot before) (states before.state begins_with)
      (λ c is. stands_back flow s before before.state c flow_is refl is)

  module _ (held : D → Files) (after : Machine) (settled : Settled) (makes : state_after (content_in (held old)) before.state settled ≡ after.state)
      (states : (state : State) → EachStandsFor (flow_in (kept_by s)) s.lot state (images old (moment old))
      → Since moment images old new (λ c. (stands_for (flow_in (kept_by s)) s.lot c ≡ Ok state) ⊎ (stands_for (flow_in (kept_by s)) s.lot c ≡ Ok (state_after (content_in (held old)) state settled)))) where
    pub committed_between : IsBetween flow moment images s.lot before after old new
    committed_between =
        wider moment images old new
        (λ c. (stands_for (flow_in (kept_by s)) s.lot c ≡ Ok before.state) ⊎ (stands_for (flow_in (kept_by s)) s.lot c ≡ Ok (state_after (content_in (held old)) before.state settled)))
        (λ c. StandsFor flow s.lot before c ⊎ StandsFor flow s.lot after c) (states before.state begins_with)
        (λ c either. ⊎_elim
        (λ (was : stands_for (flow_in (kept_by s)) s.lot c ≡ Ok before.state). inl (stands_back flow s before before.state c flow_is refl was))
        (λ (done : stands_for (flow_in (kept_by s)) s.lot c ≡ Ok (state_after (content_in (held old)) before.state settled)).
        inr (stands_back flow s after (state_after (content_in (held old)) before.state settled) c flow_is makes done))
        either)

    pub committed : ((state : State) → EachStandsFor (flow_in (kept_by s)) s.lot state (images old (moment old))
        → EachStandsFor (flow_in (kept_by s)) s.lot (state_after (content_in (held old)) state settled) (images new (moment new)))
        → IsStepped flow moment images s.lot before after old new
    committed acknowledged = record {
      since = committed_between;
      done = λ c now. stands_back flow s after (state_after (content_in (held old)) before.state settled) c flow_is makes (acknowledged before.state begins_with c now);
    }

-- ---- a checkpoint that is due

-- the next log has a number
pub can_follow : (checkpoint entries number : ℕ) → is_checkpoint_due checkpoint entries number ≡ true → IsNumber (number + 1)
can_follow checkpoint entries number due =
    let below = ltb-true number (NUMBER_LIMIT - 1) (and_parts (nat_le checkpoint entries) (nat_lt number (NUMBER_LIMIT - 1)) due).1 in
    omega (arith, below)

-- ---- what is kept behind it

-- the files are gone, and but for the last event all else stays
pub record IsLeftBy (numbers : List ℕ) (k after : Kept) : Type 0 where
  pub files : after.files ≡ left_after numbers k.files
  pub flow_is : flow_in after ≡ flow_in k
  pub kept : IsKeptWithout numbers k after

left_by : (k : Kept) (x : ExpireEntry) (entry : LogEntry) → placeless_entry entry ≡ Expire x → IsLeftBy x.numbers k (applied no_files k entry)
left_by k x (Begin version log) is = absurd cc
left_by k x (Session s) is = absurd cc
left_by k x (Expire e) is = let same : e ≡ x = cc in record {
  files = ap (λ (y : ExpireEntry). left_after y.numbers k.files) same;
  flow_is = refl;
  kept = ap (λ (y : ExpireEntry). record k { files = left_after y.numbers k.files; last_event = e.last_event }) same;
}
left_by k x (SwapOut s) is = absurd cc
left_by k x (SwapIn connection batch) is = absurd cc
left_by k x (Age line) is = absurd cc

pub kept_after : (p : PreparedChange) (s t : StoreState) (x : SettledExpiry) → HasChange p s t → p.entry ≡ expiry_entry (kept_by s) x.connection x.settled → IsLeftBy x.settled.gone (kept_by s) (kept_by t)
kept_after p s t x changed is =
    subst (IsLeftBy x.settled.gone (kept_by s)) (sym changed.kept)
    (left_by (kept_by s) (record { connection = x.connection; moment = x.settled.moment; numbers = x.settled.gone; last_event = (kept_by s).last_event + length x.settled.events }) changed.entry
    (changed.same ∙ ap placeless_entry is))

-- ---- a limit

pub passes : (s : StoreState) (x : SettledExpiry) (limit : Limit) → IsConsistent (kept_by s) → MayExpire (kept_by s) x → numbers_limit (kept_with s x.settled) ≡ Some limit → IsLimitOf s x.settled limit
passes s x limit was may is =
    let placed : x.settled.placed ≡ [] = ap (λ (t : Settled). t.placed) may.expires.as_session in
    inr (
      expiry_live (kept_by s) x.connection x.settled was may.expires,
      inr (subst (λ (placed : List Placed). SlotsHaveRoom s.slots (fresh_sizes_of placed)) (sym placed) tt, is),
    )

pub refuses : {D : Type 0} (flow : Flow) (tells : Bool) (held : D → Files) (moment : D → ℕ) (images : D → ℕ → Files → Type 0) (s : StoreState) (x : SettledExpiry) (limit : Limit) (disk : D)
    → IsAtWork flow tells held moment images s disk → IsConsistent (kept_by s) → MayExpire (kept_by s) x → numbers_limit (kept_with s x.settled) ≡ Some limit → IsRefused flow tells held moment images limit s disk
refuses flow tells held moment images s x limit disk work was may is = record {
  work = work;
  settled = x.settled;
  may = expiry_changes (kept_by s) x was may;
  passes = passes s x limit was may is;
}

-- ---- which files change

touches_claims : (log : Option ℕ) (slots : List Slot) (a b : Files) → IdleShortened slots a b → TouchesOnly (MayTouch log) a b
touches_claims log slots a b step f other = step.others f (λ is. other (inl is))

pub writes_by_reclaim : {D : Type 0} (moment : D → ℕ) (images : D → ℕ → Files → Type 0) (log : Option ℕ) (slots : List Slot) (old new : D)
    → Since moment images old new (After (IdleShortened slots) (images old (moment old))) → WritesLog moment images log old new
writes_by_reclaim moment images log slots old new since =
    writes_as moment images log (IdleShortened slots) old new (λ a b step. log_writes log a b (touches_claims log slots a b step)) since

pub writes_by_checkpoint : {D : Type 0} (moment : D → ℕ) (images : D → ℕ → Files → Type 0) (log : Option ℕ) (number : ℕ) (old new : D) → log ≡ Some number
    → ((n : ℕ) → log ≡ Some n → Since moment images old new (After (Checkpoints n) (images old (moment old)))) → WritesLog moment images log old new
writes_by_checkpoint moment images log number old new is since = writes_as moment images log (Checkpoints number) old new (checkpoint_writes log number is) (since number is)
