-- A run over a store that was opened, or wasn't.
use Rattle.std.proofs.Common.{◌≡◌, ◌⊎◌, inl, inr, ⊎_elim, ℕ, ◌+◌, ◌≤◌, Bool, List, refl, sym, ◌∙◌, ap, subst, arith, []}
use Rattle.std.specs.Prelude.{Option, None, Err, Result, IfSome, IsErrOf}
use Rattle.disk_trait.specs.Faults.{CountsFaults}
use Rattle.disk_trait.specs.Files.{Files}
use Rattle.disk_trait.specs.declared.damage.Damage.{Damage}
use Rattle.flowfile_record.specs.NamedFile.{NamedFile}
use Rattle.kept_state.specs.declared.limit.Limit.{Limit}
use Rattle.machine_model.specs.declared.flow.Flow.{Flow}
use Rattle.machine_model.specs.declared.journal.Entry.{Entry}
use Rattle.machine_model.specs.declared.journal.Step.{Step}
use Rattle.machine_model.specs.State.{Machine, State}
use Rattle.store_core.specs.Calls.{IsUnwritten, SinceSync}
use Rattle.store_core.specs.Flow as store
use Rattle.store_core.specs.Opened.{SameMeaning}
use Rattle.engine_change.specs.Committing.{identity_of}
use Rattle.run_law.specs.Ending.{EndsOnFaults, EndsShort, IsQuietOrBlocked, IsLimitMet}
use Rattle.run_law.specs.Laws.{FailedOpeningsEnd}
use Rattle.run_law.specs.Puts.{Outgoing, Start}
use Rattle.run_law.specs.Run.{HasRun, machine_at}
use Rattle.run_law.specs.Turns.{AreMadeAt, IsInTurn}
use Rattle.run_law.specs.Work.{DoesNotTell, IsEndedByLimit}
use Rattle.run_law.specs.declared.ended.Ended.{Ended}
use Rattle.run_law.specs.declared.ended.Ended.TheVariants as ending
use Rattle.run_law.specs.declared.ended.Fault.TheVariants as fault
use Rattle.flow_scheduler.specs.Driving.{HandsOver}
use Rattle.flow_scheduler.specs.declared.run.Ran.{Ran}
use Rattle.store_core.specs.Touched.{Revives}
use Rattle.flowfile_wal.specs.Current.{current_number}
use Rattle.run_top.specs.Opening.{IsLeftUnwritten, IsOfFlow, IsOfStore, IsShutAnswer, IsToldBy, IsUnopened, Opens}
use Rattle.run_top.specs.Run.{RunCountsFaults, AnswerHasCause, HasEnded, HasFailed, RunHasWritten, IsLeftShut, IsNotOpened, IsToldShut}
use Rattle.run_top.specs.Status.{answer_of_end}
use Rattle.run_top.specs.declared.answer.Answer.{Answer}
use Rattle.run_top.specs.declared.answer.Answer.TheVariants.{OtherFlow, Damaged, Disk, Memory}
use Rattle.run_top.proofs.Answers.{damaged_end, end_of_run, fault_of, limit_end, no_inbox, no_limit, no_outbox, of_end, store_of_run}
use Rattle.run_top.proofs.Opened.{not_opened, not_other}
use Rattle.run_top.proofs.Reading.{faults_in_turn}
use Rattle.run_top.proofs.Short.{not_begun}
use Rattle.run_top.proofs.Writing.{opens_alone}

-- the answer of an opening tells why it may not be opened, that the disk failed, or that memory was wanting
told_shut : (flow : store.Flow) (lot : ℕ) (files : Files) (a : Answer) → IsOfStore a → ((damage : Damage) → a ≡ Damaged damage → IsShutAnswer flow lot files (Damaged damage)) → (a ≡ OtherFlow → IsShutAnswer flow lot files OtherFlow)
    → IsShutAnswer flow lot files a ⊎ (a ≡ Disk) ⊎ (a ≡ Memory)
told_shut flow lot files OtherFlow store damaged other = inl (other refl)
told_shut flow lot files (Damaged damage) store damaged other = inl (damaged damage refl)
told_shut flow lot files Disk store damaged other = inr (inl refl)
told_shut flow lot files Memory store damaged other = inr (inr refl)
told_shut flow lot files _ store damaged other = absurd store

-- ---- a store that wasn't opened

module _ {A D I O : Type 0} (tells : Bool) (held : D → Files) (moment : D → ℕ) (images : D → ℕ → Files → Type 0) (flow : Flow) (lot : ℕ) (old new : D) (inbox : I) (outbox : O)
    (opened : Result A Answer) (answer : Answer) (was : opened ≡ Err answer) (store : IsOfStore answer) (opens : Opens (identity_of flow) moment images lot (held old) old new opened) where
  pub refused_ends : FailedOpeningsEnd tells held moment images → (given : ℕ → Type 0) (start : Start) (time most checkpoint : ℕ) → start.time ≤ time → (state : State) (left : List NamedFile) (standing : List ℕ → Option (List ℕ))
      → (answer ≡ OtherFlow → IsShutAnswer (identity_of flow) lot (held old) OtherFlow) → IsOfFlow flow lot (held old) state
      → HasFailed flow answer given start time tells held moment images lot most checkpoint (machine_at state left standing) old new left (record { standing = standing; puts = start.puts }) ⊎ IsNotOpened answer moment images old new inbox inbox outbox outbox
  refused_ends law given start time most checkpoint le state left standing other of = ⊎_elim
      (λ (since : SinceSync moment images old new (SameMeaning (identity_of flow) lot (held old))).
      let cause = fault_of answer store (λ is. not_other flow lot (held old) state of (other is)) in
      inl (record {
        cause = cause.0;
        told = cause.1;
        ends = record {
          journal = [];
          next = None;
          ran = law flow start time lot (held old) old new state left standing cause.0 le of.stands since;
          turns = record { made = le; stopped = tt };
          limited = λ limit is. absurd (cc);
          moments = tt;
          rest = λ rest. absurd (⊎_elim (λ is. cc) (λ is. cc (is.1)) rest);
        };
      }))
      (λ (un : IsUnopened moment images old new opened). inr (not_opened moment images old new inbox outbox opened answer was un))
      opens

  pub left_shut : ((damage : Damage) → answer ≡ Damaged damage → IsShutAnswer (identity_of flow) lot (held old) (Damaged damage)) → (answer ≡ OtherFlow → IsShutAnswer (identity_of flow) lot (held old) OtherFlow)
      → IsLeftUnwritten held moment images old new opened
      → IsLeftShut (identity_of flow) answer held moment images lot old new inbox inbox outbox outbox ⊎ IsNotOpened answer moment images old new inbox inbox outbox outbox
  left_shut damaged other unwritten = ⊎_elim
      (λ (since : SinceSync moment images old new (SameMeaning (identity_of flow) lot (held old))).
      ⊎_elim
      (λ (only : IsUnwritten held moment old new). inl (record { told = told_shut (identity_of flow) lot (held old) answer store damaged other; since = since; unwritten = only; inbox = refl; outbox = refl }))
      (λ (un : IsUnopened moment images old new opened). inr (not_opened moment images old new inbox outbox opened answer was un))
      unwritten)
      (λ (un : IsUnopened moment images old new opened). inr (not_opened moment images old new inbox outbox opened answer was un))
      opens

  -- it tells so
  told_by : (told : Answer) → answer ≡ told → IsToldBy (identity_of flow) told tells held moment lot old new → IsToldShut (identity_of flow) answer tells held moment lot old new inbox inbox outbox outbox
  told_by told is by = record {
    told = subst (λ (a : Answer). IsToldBy (identity_of flow) a tells held moment lot old new) (sym is) by;
    inbox = refl;
    outbox = refl;
  }

  pub refused_why : (most : ℕ) → ((damage : Damage) → IsErrOf opened (Damaged damage) → IsToldBy (identity_of flow) (Damaged damage) tells held moment lot old new)
      → (IsErrOf opened OtherFlow → IsToldBy (identity_of flow) OtherFlow tells held moment lot old new)
      → AnswerHasCause flow answer tells held moment images lot most old new inbox inbox outbox outbox
  refused_why most damaged other = record {
    one_of = store_of_run answer store;
    other_flow = λ is. told_by OtherFlow is (other (was ∙ ap Err is));
    damaged = λ damage is. inl (told_by (Damaged damage) is (damaged damage (was ∙ ap Err is)));
    limited = λ limit is. absurd (no_limit answer limit store is);
  }

  pub refused_counts : (disk_old disk_new in_faults out_faults : ℕ) → CountsFaults disk_old disk_new (IsErrOf opened Disk) → RunCountsFaults answer disk_old disk_new in_faults in_faults out_faults out_faults
  refused_counts disk_old disk_new in_faults out_faults counts = record {
    disk = record { never_falls = counts.never_falls; rose = λ is. counts.rose (was ∙ ap Err is) };
    inbox = record { never_falls = omega arith; rose = λ is. absurd (no_inbox answer store is) };
    outbox = record { never_falls = omega arith; rose = λ is. absurd (no_outbox answer store is) };
  }

  -- barely anything is written
  pub refused_alone : (checkpoint : ℕ) → SinceSync moment images old new (Revives (current_number (held old)) (held old)) ⊎ IsUnopened moment images old new opened
      → RunHasWritten answer moment images (held old) checkpoint old new ⊎ IsNotOpened answer moment images old new inbox inbox outbox outbox
  refused_alone checkpoint alone = ⊎_elim
      (λ (since : SinceSync moment images old new (Revives (current_number (held old)) (held old))).
      inl (record { alone = opens_alone moment images (held old) old new since; short = not_begun moment images checkpoint new answer store }))
      (λ (un : IsUnopened moment images old new opened). inr (not_opened moment images old new inbox outbox opened answer was un))
      alone

-- ---- a store that was opened

module _ {D : Type 0} (tells : Bool) (held : D → Files) (moment : D → ℕ) (images : D → ℕ → Files → Type 0) (flow : Flow) (lot other : ℕ) (same : other ≡ lot) where
  -- a limit that was met from a later moment on
  met_since : (most : ℕ) (old mid new : D) → moment old + 1 ≤ moment mid → (limit : Limit) → IsLimitMet flow tells held moment images other (moment mid) most limit new
      → IsLimitMet flow tells held moment images other (moment old + 1) most limit new
  met_since most old mid new begun limit met = ⊎_elim
      (λ (by : IsEndedByLimit flow tells held moment images other (moment mid) limit new). inl (record {
        at = by.at;
        from = let from = by.from in omega (arith, begun, from);
        store = by.store;
        lot_is = by.lot_is;
        refused = by.refused;
        closed = by.closed;
      }))
      (λ full. inr full)
      met

  pub ran_ends : (ran : Ran) (given : ℕ → Type 0) (start : Start) (time most checkpoint : ℕ) (opened : Machine) (old mid new : D) (left : List NamedFile) (out : Outgoing) → moment old + 1 ≤ moment mid
      → ((limit : Limit) → ran.ended ≡ ending.Limit limit → IsLimitMet flow tells held moment images other (moment mid) most limit new)
      → (journal : List Entry) (next : Option Step) (run : HasRun flow ran.ended start time tells held moment images other opened old new left out journal next) → IsInTurn flow start.time time opened journal next → AreMadeAt given journal
      → IfSome ran.closed (HandsOver flow run.reached journal)
      → (IsQuietOrBlocked ran.ended → given time) → EndsShort moment images checkpoint ran.ended new
      → HasEnded flow ran given start time tells held moment images lot most checkpoint opened old new left out
  ran_ends ran given start time most checkpoint opened old mid new left out begun met journal next run turns made shows at_rest short =
      let before : HasEnded flow ran given start time tells held moment images other most checkpoint opened old new left out = record {
        ends = record {
          journal = journal;
          next = next;
          ran = run;
          turns = turns;
          limited = λ limit is. met_since most old mid new begun limit (met limit is);
          moments = made;
          rest = λ rest. (at_rest rest, short rest);
        };
        shows = shows;
      } in
      subst (λ (l : ℕ). HasEnded flow ran given start time tells held moment images l most checkpoint opened old new left out) same before

  pub ran_why : (ended : Ended) (most : ℕ) {I O : Type 0} (old mid new : D) (inbox_old inbox_new : I) (outbox_old outbox_new : O) → moment old + 1 ≤ moment mid → moment mid ≤ moment new
      → ((limit : Limit) → ended ≡ ending.Limit limit → IsLimitMet flow tells held moment images other (moment mid) most limit new)
      → ((damage : Damage) → ended ≡ ending.Fault (fault.Damaged damage) → DoesNotTell tells)
      → AnswerHasCause flow (answer_of_end ended) tells held moment images lot most old new inbox_old inbox_new outbox_old outbox_new
  ran_why ended most old mid new inbox_old inbox_new outbox_old outbox_new begun later met damaged = record {
    one_of = end_of_run ended;
    other_flow = λ is. absurd ((of_end ended).other_flow is);
    damaged = λ damage is. inr (record { opened = omega (arith, begun, later); untold = damaged damage (damaged_end ended damage is) });
    limited = λ limit is. record {
      opened = omega (arith, begun, later);
      met = subst (λ (l : ℕ). IsLimitMet flow tells held moment images l (moment old + 1) most limit new) same (met_since most old mid new begun limit (met limit (limit_end ended limit is)));
    };
  }

pub run_counts : (ended : Ended) (disk_old disk_mid disk_new inbox_old inbox_new outbox_old outbox_new : ℕ) → disk_old ≤ disk_mid
    → EndsOnFaults ended disk_mid disk_new inbox_old inbox_new outbox_old outbox_new
    → RunCountsFaults (answer_of_end ended) disk_old disk_new inbox_old inbox_new outbox_old outbox_new
run_counts ended disk_old disk_mid disk_new inbox_old inbox_new outbox_old outbox_new first counts = record {
  disk = faults_in_turn disk_old disk_mid disk_new first counts.disk (of_end ended).disk;
  inbox = faults_in_turn inbox_old inbox_old inbox_new (omega arith) counts.inbox (of_end ended).inbox;
  outbox = faults_in_turn outbox_old outbox_old outbox_new (omega arith) counts.outbox (of_end ended).outbox;
}
