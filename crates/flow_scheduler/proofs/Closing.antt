-- How a run over an opened store begins, and how it ends once the store was closed.
use Rattle.std.proofs.Common.{◌≡◌, ◌⊎◌, inl, inr, ⊎_elim, ℕ, ◌≤◌, Bool, true, false, IsTrue, List, [], refl, sym, ◌∙◌, ap, subst, arith}
use Rattle.std.proofs.lemmas.Bool.{false≢true}
use Rattle.std.specs.Prelude.{◌↔◌, Option, None, Result, Ok, Err, IfErr, IsErrOf, OnOk}
use Rattle.disk_trait.specs.Files.{Files}
use Rattle.disk_trait.specs.Images.{After, Since}
use Rattle.disk_trait.specs.declared.damage.Damage.{Damage as TheDamage}
use Rattle.disk_trait.proofs.Moments.{nothing, wider}
use Rattle.flowfile_record.specs.NamedFile.{NamedFile}
use Rattle.flowfile_wal.specs.Calls.{InEach}
use Rattle.kept_state.specs.declared.limit.Limit.{Limit as TheLimit}
use Rattle.machine_model.specs.declared.flow.Flow.{Flow}
use Rattle.machine_model.specs.declared.journal.Entry.{Entry}
use Rattle.machine_model.specs.declared.journal.Step.{Step}
use Rattle.machine_model.specs.Acknowledged.{steps}
use Rattle.machine_model.specs.State.{Machine, State}
use Rattle.store_core.specs.Flow as store
use Rattle.store_core.specs.Flow.{flow_in}
use Rattle.store_core.specs.State.{stands_for}
use Rattle.store_core.specs.Store.{EachStandsFor, StoreState, kept_by, live_in}
use Rattle.store_core.specs.Touched.{Frees}
use Rattle.engine_change.specs.Committing.{identity_of}
use Rattle.engine_choice.specs.Choice.{coming_of}
use Rattle.engine_choice.specs.declared.choice.Ending.TheVariants.{Blocked, Quiet}
use Rattle.run_law.specs.Ending.{EndsOnFaults, IsLimitMet, journal_full}
use Rattle.run_law.specs.Going.{IsRunningAt, IsSpared}
use Rattle.run_law.specs.Laws.{BlockedRunsEnd, FaultsEnd, LimitedRunsEnd, QuietRunsEnd}
use Rattle.run_law.specs.Run.{HasRun, IsTidied, StandsFor}
use Rattle.run_law.specs.Turns.{ComeInTurn, last_worker}
use Rattle.run_law.specs.Work.{IsAtWork, IsRefused}
use Rattle.run_law.specs.declared.ended.Ended.{Ended}
use Rattle.run_law.specs.declared.ended.Ended.TheVariants as ended
use Rattle.run_law.specs.declared.ended.Fault.{Fault}
use Rattle.run_law.specs.declared.ended.Fault.TheVariants as fault
use Rattle.engine_steps.specs.Engine.{EngineState}
use Rattle.engine_steps.specs.Errors.{IsJournalFull, CountsEachFault, ended_by}
use Rattle.engine_steps.specs.Opening.{IsOpened}
use Rattle.flow_scheduler.specs.Driving.{IsEnded, RunsInTurn}
use Rattle.engine_steps.specs.Running.{IsLimited, Stops}
use Rattle.engine_steps.specs.declared.error.EngineError.{EngineError}
use Rattle.run_law.specs.Puts.{Outgoing, Start}
use Rattle.engine_steps.specs.Flights.{names_to_come}
use Rattle.engine_steps.specs.declared.error.EngineError.TheVariants.{Damaged, Disk, Inbox, Outbox, Put, Limit, MustReopen, NoSession, Memory}

-- ---- the store is closed

-- whatever a stop leaves still stands for the machine's state
pub spares : (flow : Flow) {D : Type 0} (moment : D → ℕ) (images : D → ℕ → Files → Type 0) (s : StoreState) (old new : D) → flow_in (kept_by s) ≡ identity_of flow
    → ((state : State) → EachStandsFor (flow_in (kept_by s)) s.lot state (images old (moment old)) → Since moment images old new (λ c. stands_for (flow_in (kept_by s)) s.lot c ≡ Ok state))
    → (m : Machine) → InEach (images old (moment old)) (StandsFor flow s.lot m) → IsSpared flow moment images s.lot m old new
spares flow moment images s old new flow_is states m stands =
    subst (λ (f : store.Flow). Since moment images old new (λ c. stands_for f s.lot c ≡ Ok m.state)) flow_is
    (states m.state (λ c left. ap (λ (f : store.Flow). stands_for f s.lot c) flow_is ∙ stands c left))

-- it ends as it was to, and this holds, or by a fault of the disk
abbrev pub ClosesSo : {A : Type 0} → Result A EngineError → (result wanted : Ended) → (so : Type 0) → Type 0
ClosesSo closed result wanted so = ((result ≡ wanted) × so) ⊎ ((result ≡ ended.Fault fault.Disk) × IsErrOf closed Disk)

-- the store of an engine that works can be closed
pub closes_so : {A : Type 0} (closed : Result A EngineError) (failed : Bool) (result wanted : Ended) (so : Type 0) → failed ≡ false → OnOk closed (result ≡ wanted) → IfErr closed (λ error. result ≡ ended_by error) → OnOk closed so
    → IsErrOf closed MustReopen ↔ (failed ≡ true) → IfErr closed (λ error. (error ≡ Disk) ⊎ (error ≡ MustReopen)) → ClosesSo closed result wanted so
closes_so (Ok answer) failed result wanted so works ok err holds exactly kinds = inl (ok, holds)
closes_so (Err error) failed result wanted so works ok err holds exactly kinds =
    ⊎_elim
    (λ (disk : error ≡ Disk). inr (err ∙ ap ended_by disk, ap Err disk))
    (λ (reopen : error ≡ MustReopen). absurd (false≢true (sym works ∙ exactly.0 (ap Err reopen))))
    kinds

pub wanted_or_disk : {A : Type 0} (closed : Result A EngineError) (result wanted : Ended) (so : Type 0) → ClosesSo closed result wanted so → (result ≡ wanted) ⊎ (result ≡ ended.Fault fault.Disk)
wanted_or_disk closed result wanted so (inl ends) = inl ends.0
wanted_or_disk closed result wanted so (inr fails) = inr fails.0

-- an engine works behind a call that didn't fail so
still_works : (failed : Bool) → (failed ≡ true → ⊥) → failed ≡ false
still_works false none = refl
still_works true none = absurd (none refl)

pub works_at_limit : {A : Type 0} (result : Result A EngineError) (failed : Bool) (limit : TheLimit) → result ≡ Err (Limit limit) → (failed ≡ true → IsErrOf result Disk ⊎ IsErrOf result Put) → failed ≡ false
works_at_limit {A = A} result failed limit is fails =
    still_works failed (λ so.
    ⊎_elim
    (λ (disk : result ≡ Err Disk). let both : ◌≡◌ {A = Result A EngineError} (Err (Limit limit)) (Err Disk) = sym is ∙ disk in cc)
    (λ (put : result ≡ Err Put). let both : ◌≡◌ {A = Result A EngineError} (Err (Limit limit)) (Err Put) = sym is ∙ put in cc)
    (fails so))

-- ---- the ends of a run that goes on, with another state of its engine

-- the run of an engine, told of its flow and a store like its own
pub run_of : (flow other : Flow) (result : Ended) (start : Start) (time : ℕ) (tells : Bool) {D : Type 0} (held : D → Files) (moment : D → ℕ) (images : D → ℕ → Files → Type 0) (lot other_lot : ℕ) (opened : Machine) (first new : D) (left : List NamedFile)
    (out : Outgoing) (journal : List Entry) (next : Option Step) → other ≡ flow → other_lot ≡ lot → HasRun other result start time tells held moment images other_lot opened first new left out journal next
    → HasRun flow result start time tells held moment images lot opened first new left out journal next
run_of flow other result start time tells held moment images lot other_lot opened first new left out journal next flow_is lot_is run =
    subst (λ (f : Flow). HasRun f result start time tells held moment images lot opened first new left out journal next) flow_is
    (subst (λ (l : ℕ). HasRun other result start time tells held moment images l opened first new left out journal next) lot_is run)

module _ {D : Type 0} (tells : Bool) (held : D → Files) (moment : D → ℕ) (images : D → ℕ → Files → Type 0) (faults : FaultsEnd tells held moment images) (e : EngineState) (flow : Flow) (lot : ℕ) (flow_is : e.flow ≡ flow) (lot_is : e.store.lot ≡ lot)
    (flow_in_is : flow_in (kept_by e.store) ≡ identity_of e.flow) (opened : Machine) (first old new : D) (left : List NamedFile) (out : Outgoing) (start : Start) (time : ℕ) (result : Ended)
    (states : (state : State) → EachStandsFor (flow_in (kept_by e.store)) e.store.lot state (images old (moment old)) → Since moment images old new (λ c. stands_for (flow_in (kept_by e.store)) e.store.lot c ≡ Ok state))
    (is_left : images new (moment new) (held new)) where
  abbrev RunsTo : Machine → Type 0
  RunsTo reached = IsRunningAt e.flow start time moment images e.store.lot opened first old e.journal reached left out

  abbrev Ran : Option Step → Ended → Type 0
  Ran next end = HasRun e.flow end start time tells held moment images e.store.lot opened first new left out e.journal next

  spared_by : (reached : Machine) → RunsTo reached → IsSpared e.flow moment images e.store.lot reached old new
  spared_by reached run = spares e.flow moment images e.store old new flow_in_is states reached run.holds

  by_wanted : {A : Type 0} (closed : Result A EngineError) (wanted : Ended) (reached : Machine) (next : Option Step) → RunsTo reached → ClosesSo closed result wanted (IsTrue tells → IsTidied e.flow e.store.lot (held new)) → IsTrue tells
      → (IsTidied e.flow e.store.lot (held new) → Ran next wanted) → HasRun flow result start time tells held moment images lot opened first new left out e.journal next
  by_wanted closed wanted reached next run closes telling ends =
      run_of flow e.flow result start time tells held moment images lot e.store.lot opened first new left out e.journal next flow_is lot_is
      (⊎_elim
      (λ (so : (result ≡ wanted) × (IsTrue tells → IsTidied e.flow e.store.lot (held new))). subst (Ran next) (sym so.0) (ends (so.1 telling)))
      (λ (fails : (result ≡ ended.Fault fault.Disk) × IsErrOf closed Disk).
      subst (Ran next) (sym fails.0) (faults e.flow start time time e.store.lot opened reached first old new e.journal left out next fault.Disk run (omega arith) (spared_by reached run)))
      closes)

  pub closes_blocked : {A : Type 0} (closed : Result A EngineError) → BlockedRunsEnd tells held moment images → (connection : ℕ) → IsEnded (Blocked connection) moment images e opened first start time old left out
      → ClosesSo closed result (ended.Blocked connection) (IsTrue tells → IsTidied e.flow e.store.lot (held new)) → IsTrue tells → HasRun flow result start time tells held moment images lot opened first new left out e.journal None
  closes_blocked closed law connection end closes telling =
      by_wanted closed (ended.Blocked connection) end.reached None end.to.run closes telling (λ tidied.
      law e.flow start time time e.store.lot connection opened end.reached first old new e.journal left out end.to.run (omega arith) (spared_by end.reached end.to.run) is_left tidied end.ends)

  pub closes_quiet : {A : Type 0} (closed : Result A EngineError) → QuietRunsEnd tells held moment images → IsEnded Quiet moment images e opened first start time old left out
      → ClosesSo closed result ended.Quiet (IsTrue tells → IsTidied e.flow e.store.lot (held new)) → IsTrue tells → HasRun flow result start time tells held moment images lot opened first new left out e.journal None
  closes_quiet closed law end closes telling =
      by_wanted closed ended.Quiet end.reached None end.to.run closes telling (λ tidied.
      law e.flow start time time e.store.lot opened end.reached first old new e.journal left out end.to.run (omega arith) (spared_by end.reached end.to.run) is_left tidied end.ends)

  pub closes_limited : {A : Type 0} (closed : Result A EngineError) → LimitedRunsEnd tells held moment images → (limit : TheLimit) (next : Option Step) → IsLimited tells held moment images e limit opened first start time old left out next
      → ClosesSo closed result (ended.Limit limit) (IsTrue tells → IsTidied e.flow e.store.lot (held new)) → IsTrue tells → HasRun flow result start time tells held moment images lot opened first new left out e.journal next
  closes_limited closed law limit next stop closes telling =
      by_wanted closed (ended.Limit limit) stop.reached next stop.to.run closes telling (λ tidied.
      law e.flow start time time e.store.lot opened stop.reached first old new e.journal left out next limit stop.to.run (omega arith) stop.met (spared_by stop.reached stop.to.run) is_left tidied)

-- ---- an engine that was opened

pub begun : {D : Type 0} (moment : D → ℕ) (images : D → ℕ → Files → Type 0) (flow : Flow) (s : StoreState) (most checkpoint : ℕ) (e : EngineState) → IsOpened flow s most checkpoint e → (opened : Machine) (first disk : D) (start : Start) (time : ℕ) (left now_left : List NamedFile)
    (out : Outgoing) → now_left ≡ left → coming_of opened.world ≡ names_to_come e
    → IsRunningAt flow start time moment images s.lot opened first disk [] opened left out → RunsInTurn moment images e opened first start time disk now_left out
begun moment images flow s most checkpoint e is opened first disk start time left now_left out left_is coming run = record {
  run = record {
    reached = opened;
    to = record {
      run = subst (λ (l : List NamedFile). IsRunningAt e.flow start time moment images e.store.lot opened first disk e.journal opened l out) (sym left_is)
          (subst (λ (j : List Entry). IsRunningAt e.flow start time moment images e.store.lot opened first disk j opened left out) (sym is.journal)
          (subst (λ (f : Flow). IsRunningAt f start time moment images e.store.lot opened first disk [] opened left out) (sym is.flow_is)
          (subst (λ (t : StoreState). IsRunningAt flow start time moment images t.lot opened first disk [] opened left out) (sym is.store_is) run)));
      coming = coming;
      last = is.last ∙ ap (λ (j : List Entry). last_worker None (steps j)) (sym is.journal);
    };
  };
  turns = subst (λ (j : List Entry). ComeInTurn e.flow None start.time time opened (steps j)) (sym is.journal) run.within;
}

-- ---- errors

-- an error that isn't a limit ..
abbrev pub IsNoLimit : EngineError → Type 0
IsNoLimit error = (limit : TheLimit) → error ≡ Limit limit → ⊥

-- .. has ended the run
pub has_ended : {D : Type 0} (tells : Bool) (held : D → Files) (moment : D → ℕ) (images : D → ℕ → Files → Type 0) (e : EngineState) (opened : Machine) (first now : D) (left : List NamedFile) (out : Outgoing) (start : Start) (time : ℕ)
    (error : EngineError) (next : Option Step) → IsNoLimit error → Stops error tells held moment images e opened first start time now left out next
    → HasRun e.flow (ended_by error) start time tells held moment images e.store.lot opened first now left out e.journal next
has_ended tells held moment images e opened first now left out start time (Damaged damage) next none stops = stops time (omega arith)
has_ended tells held moment images e opened first now left out start time Disk next none stops = stops time (omega arith)
has_ended tells held moment images e opened first now left out start time Inbox next none stops = stops time (omega arith)
has_ended tells held moment images e opened first now left out start time Outbox next none stops = stops time (omega arith)
has_ended tells held moment images e opened first now left out start time Put next none stops = stops time (omega arith)
has_ended tells held moment images e opened first now left out start time (Limit limit) next none stops = absurd (none limit refl)
has_ended tells held moment images e opened first now left out start time MustReopen next none stops = stops time (omega arith)
has_ended tells held moment images e opened first now left out start time NoSession next none stops = stops time (omega arith)
has_ended tells held moment images e opened first now left out start time Memory next none stops = stops time (omega arith)

pub no_limit_faults : (error : EngineError) → IsNoLimit error → (limit : TheLimit) → ended_by error ≡ ended.Limit limit → ⊥
no_limit_faults (Damaged damage) none limit is = cc
no_limit_faults Disk none limit is = cc
no_limit_faults Inbox none limit is = cc
no_limit_faults Outbox none limit is = cc
no_limit_faults Put none limit is = cc
no_limit_faults (Limit other) none limit is = none other refl
no_limit_faults MustReopen none limit is = cc
no_limit_faults NoSession none limit is = cc
no_limit_faults Memory none limit is = cc

pub by_disk : (error : EngineError) → (error ≡ MustReopen → ⊥) → (error ≡ NoSession → ⊥) → ended_by error ≡ ended.Fault fault.Disk → error ≡ Disk
by_disk (Damaged damage) works known is = absurd cc
by_disk Disk works known is = refl
by_disk Inbox works known is = absurd cc
by_disk Outbox works known is = absurd cc
by_disk Put works known is = absurd cc
by_disk (Limit limit) works known is = absurd cc
by_disk MustReopen works known is = absurd (works refl)
by_disk NoSession works known is = absurd (known refl)
by_disk Memory works known is = absurd cc

pub by_inbox : (error : EngineError) → ended_by error ≡ ended.Fault fault.Inbox → error ≡ Inbox
by_inbox (Damaged damage) is = absurd cc
by_inbox Disk is = absurd cc
by_inbox Inbox is = refl
by_inbox Outbox is = absurd cc
by_inbox Put is = absurd cc
by_inbox (Limit limit) is = absurd cc
by_inbox MustReopen is = absurd cc
by_inbox NoSession is = absurd cc
by_inbox Memory is = absurd cc

pub by_outbox : (error : EngineError) → ended_by error ≡ ended.Fault fault.Outbox → (error ≡ Outbox) ⊎ (error ≡ Put)
by_outbox (Damaged damage) is = absurd cc
by_outbox Disk is = absurd cc
by_outbox Inbox is = absurd cc
by_outbox Outbox is = inl refl
by_outbox Put is = inr refl
by_outbox (Limit limit) is = absurd cc
by_outbox MustReopen is = absurd cc
by_outbox NoSession is = absurd cc
by_outbox Memory is = absurd cc

pub by_damage : (error : EngineError) (damage : TheDamage) → ended_by error ≡ ended.Fault (fault.Damaged damage) → error ≡ Damaged damage
by_damage (Damaged other) damage is = let same : fault.Damaged other ≡ fault.Damaged damage = cc in ap (λ (d : TheDamage). Damaged d) cc
by_damage Disk damage is = absurd cc
by_damage Inbox damage is = absurd cc
by_damage Outbox damage is = absurd cc
by_damage Put damage is = absurd cc
by_damage (Limit limit) damage is = absurd cc
by_damage MustReopen damage is = absurd cc
by_damage NoSession damage is = absurd cc
by_damage Memory damage is = absurd cc

pub ends_on_faults : {A : Type 0} (result : Result A EngineError) (error : EngineError) (end : Ended) (disk_old disk_new inbox_old inbox_new outbox_old outbox_new : ℕ) → result ≡ Err error → (error ≡ MustReopen → ⊥) → (error ≡ NoSession → ⊥) → end ≡ ended_by error
    → CountsEachFault result disk_old disk_new inbox_old inbox_new outbox_old outbox_new → EndsOnFaults end disk_old disk_new inbox_old inbox_new outbox_old outbox_new
ends_on_faults result error end disk_old disk_new inbox_old inbox_new outbox_old outbox_new was works known is counts = record {
  disk = record { never_falls = counts.disk.never_falls; rose = λ so. counts.disk.rose (was ∙ ap Err (by_disk error works known (sym is ∙ so))) };
  inbox = record { never_falls = counts.inbox.never_falls; rose = λ so. counts.inbox.rose (was ∙ ap Err (by_inbox error (sym is ∙ so))) };
  outbox = record {
    never_falls = counts.outbox.never_falls;
    rose = λ so. ⊎_elim
        (λ (question : error ≡ Outbox). counts.outbox.rose (was ∙ ap Err question)) (λ (put : error ≡ Put). counts.put.rose (was ∙ ap Err put))
        (by_outbox error (sym is ∙ so));
  };
}

-- ---- a limit

pub limit_of : (result : Ended) (met limit : TheLimit) → (result ≡ ended.Limit met) ⊎ (result ≡ ended.Fault fault.Disk) → result ≡ ended.Limit limit → met ≡ limit
limit_of result met limit (inl so) is = let same : ended.Limit met ≡ ended.Limit limit = sym so ∙ is in cc
limit_of result met limit (inr failed) is = absurd cc

module _ {D : Type 0} (tells : Bool) (held : D → Files) (moment : D → ℕ) (images : D → ℕ → Files → Type 0) where
  abbrev IsMet : (flow : Flow) (most : ℕ) (journal : List Entry) (limit : TheLimit) (s : StoreState) (disk : D) → Type 0
  IsMet flow most journal limit s disk = IsRefused flow tells held moment images limit s disk ⊎ (IsJournalFull limit most journal × IsAtWork flow tells held moment images s disk)

  pub limit_met : (flow other : Flow) (lot start most other_most : ℕ) (journal : List Entry) (met limit : TheLimit) (s : StoreState) (old new : D) → met ≡ limit → other ≡ flow → other_most ≡ most → s.lot ≡ lot → start ≤ moment old
      → IsMet other other_most journal met s old → Since moment images old new (After (Frees (live_in s)) (images old (moment old)))
      → IsLimitMet flow tells held moment images lot start most limit new
  limit_met flow other lot start most other_most journal met limit s old new same flow_is most_is lot_is from (inl refused) closed = inl (record {
    at = old;
    from = from;
    store = s;
    lot_is = lot_is;
    refused = subst (λ (f : Flow). IsRefused f tells held moment images limit s old) flow_is (subst (λ (l : TheLimit). IsRefused other tells held moment images l s old) same refused);
    closed = closed;
  })
  limit_met flow other lot start most other_most journal met limit s old new same flow_is most_is lot_is from (inr full) closed = inr (sym same ∙ full.0.told ∙ ap journal_full most_is)

  -- an engine that wasn't opened has done nothing
  pub not_opened : FaultsEnd tells held moment images → (flow : Flow) (lot : ℕ) (start : Start) (time : ℕ) (opened : Machine) (first disk : D) (left now_left : List NamedFile) (out : Outgoing) (error : EngineError) (end : Ended)
      → (error ≡ Inbox) ⊎ (error ≡ Memory) → end ≡ ended_by error → now_left ≡ left → IsRunningAt flow start time moment images lot opened first disk [] opened left out
      → HasRun flow end start time tells held moment images lot opened first disk now_left out [] None
  not_opened law flow lot start time opened first disk left now_left out error end kinds is left_is run =
      subst (λ (l : List NamedFile). HasRun flow end start time tells held moment images lot opened first disk l out [] None) (sym left_is) (⊎_elim
      (λ (so : error ≡ Inbox). by fault.Inbox (is ∙ ap ended_by so))
      (λ (so : error ≡ Memory). by fault.Memory (is ∙ ap ended_by so))
      kinds)
    where
      by : (cause : Fault) → end ≡ ended.Fault cause → HasRun flow end start time tells held moment images lot opened first disk left out [] None
      by cause so =
          subst (λ (r : Ended). HasRun flow r start time tells held moment images lot opened first disk left out [] None) (sym so)
          (law flow start time time lot opened opened first disk disk [] left out None cause run (omega arith) (wider moment images disk disk (images disk (moment disk)) (StandsFor flow lot opened) (nothing moment images disk) run.holds))
