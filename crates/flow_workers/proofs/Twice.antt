-- What has gone on once and once more has gone on.
use Rattle.std.proofs.Common.{◌≡◌, ⊎_elim, ℕ, Bool, true≢false, List, [], ◌∷◌, refl, sym, subst, ◌∙◌, arith}
use Rattle.std.specs.Prelude.{All, Option, None, Some}
use Rattle.std.proofs.lemmas.List.Elements.{All-cons, All-nil}
use Rattle.disk_trait.specs.Files.{Files}
use Rattle.flowfile_record.specs.NamedFile.{NamedFile, bytes_of}
use Rattle.machine_model.specs.declared.flow.Flow.{Flow}
use Rattle.store_core.specs.Store.{kept_by}
use Rattle.run_law.specs.Work.{WritesLog}
use Rattle.run_law.proofs.Writing.{later_log, same_log, writes_none, writes_on}
use Rattle.engine_steps.specs.Engine.{EngineState, IsOfSameRun}
use Rattle.engine_steps.specs.Flights.{names_to_come}
use Rattle.engine_steps.specs.Leaving.{MayGoOn}
use Rattle.engine_steps.specs.declared.error.EngineError.TheVariants.{Damaged, Limit, MustReopen, NoSession}
use Rattle.flow_workers.specs.Going.{WorkGoesOn, DeskIsInOrder}
use Rattle.flow_workers.specs.Held.{IsUnderLock}
use Rattle.flow_workers.specs.Seen.{AtDesk, LentNames, Seen, newly_noted}
use Rattle.flow_workers.specs.declared.cause.Cause.{Cause}
use Rattle.flow_workers.specs.declared.cause.Cause.TheVariants.{Blocked, Quiet, Stopped}
use Rattle.flow_workers.proofs.Noted.{each_counts_twice, none_failed, none_noted, none_or_some}

pub same_run_twice : (old mid new : EngineState) → IsOfSameRun old mid → IsOfSameRun mid new → IsOfSameRun old new
same_run_twice old mid new first second = record {
  flow = second.flow ∙ first.flow;
  most = second.most ∙ first.most;
  checkpoint = second.checkpoint ∙ first.checkpoint;
  too_large = second.too_large ∙ first.too_large;
  lot = second.lot ∙ first.lot;
  id = second.id ∙ first.id;
}

pub same_run : (e : EngineState) → IsOfSameRun e e
same_run e = record { flow = refl; most = refl; checkpoint = refl; too_large = refl; lot = refl; id = refl }

module _ {D I O C : Type 0} (tells : Bool) (held : D → Files) (moment_of : D → ℕ) (images : D → ℕ → Files → Type 0) (faults : D → ℕ) (in_tells : Bool) (left : I → List NamedFile) (in_faults : I → ℕ)
    (out_tells : Bool) (standing : O → List ℕ → Option (List ℕ)) (puts : O → List NamedFile) (out_faults : O → ℕ) (time : C → ℕ) (given : ℕ → Type 0) where
  abbrev Goes : (s t : Seen D I O C) → Type 0
  Goes s t = WorkGoesOn tells held moment_of images faults in_tells left in_faults out_tells standing puts out_faults time given s t

  -- where no cause is noted, none was before
  none_before : (s t : Seen D I O C) → Goes s t → t.cause ≡ None → s.cause ≡ None
  none_before s t goes none = by s.cause refl
    where
      by : (o : Option Cause) → s.cause ≡ o → s.cause ≡ None
      by None is = is
      by (Some cause) is = none_or_some cause (sym none ∙ (goes.stands cause is).0)

  pub goes_twice : (r s t : Seen D I O C) → Goes r s → Goes s t → Goes r t
  goes_twice r s t first second = record {
    run = λ telling in_telling out_telling opened began start was. second.run telling in_telling out_telling opened began start (first.run telling in_telling out_telling opened began start was);
    order = second.order;
    stands = λ cause is. let one = first.stands cause is in let other = second.stands cause one.0 in (other.0, other.1 ∙ one.1);
    same = same_run_twice r.engine s.engine t.engine first.same second.same;
    log = λ none. later_log r.engine.store.log.number s.engine.store.log.number t.engine.store.log.number (first.log (none_before s t second none)) (second.log none);
    alone = alone s.cause refl;
    devices = each_counts_twice r.cause s.cause t.cause (faults r.disk) (faults s.disk) (faults t.disk) (in_faults r.inbox) (in_faults s.inbox) (in_faults t.inbox) (out_faults r.outbox) (out_faults s.outbox) (out_faults t.outbox)
        (λ cause is. (second.stands cause is).0) first.devices second.devices;
    later = omega (arith, first.later, second.later);
    moments = λ all. second.moments (first.moments all);
    bytes = λ none files all. second.bytes none files (first.bytes (none_before s t second none) files all);
  }
    where
      alone : (o : Option Cause) → s.cause ≡ o → WritesLog moment_of images r.engine.store.log.number r.disk t.disk
      alone None is = writes_on moment_of images r.engine.store.log.number s.engine.store.log.number r.disk s.disk t.disk (first.log is) first.alone second.alone
      alone (Some cause) is = subst (λ (d : D). WritesLog moment_of images r.engine.store.log.number r.disk d) (sym (second.stands cause is).1) first.alone

  abbrev at_first : EngineState → D → I → O → C → Seen D I O C
  at_first e disk inbox outbox clock = record { engine = e; disk = disk; inbox = inbox; outbox = outbox; clock = clock; cause = None }

  -- at first nothing has happened
  pub goes_nowhere : (s : Seen D I O C) → DeskIsInOrder tells held moment_of images in_tells left time given s → Goes s s
  goes_nowhere s order = record {
    run = λ telling in_telling out_telling opened began start was. was;
    order = order;
    stands = λ cause is. (is, refl);
    same = same_run s.engine;
    log = λ none. same_log s.engine.store.log.number s.engine.store.log.number refl;
    alone = writes_none moment_of images s.engine.store.log.number s.disk;
    devices = none_failed (newly_noted s.cause s.cause) (faults s.disk) (faults s.disk) (in_faults s.inbox) (in_faults s.inbox) (out_faults s.outbox) (out_faults s.outbox) (omega arith) (omega arith) (omega arith) (none_noted s.cause _)
        (none_noted s.cause _) (none_noted s.cause _) (none_noted s.cause _);
    later = omega arith;
    moments = λ all. all;
    bytes = λ none files all. all;
  }

  -- ---- under the lock

  abbrev Held : (flow : Flow) (store : ℕ) (files : List NamedFile) (lent : LentNames) (began : Option (Seen D I O C)) (d : AtDesk D I O C) → Type 0
  Held flow store files lent began d = IsUnderLock tells held moment_of images faults in_tells left in_faults out_tells standing puts out_faults time given flow store files lent began d

  -- what is held is so still, where the run has gone on
  pub still_held : (flow : Flow) (store : ℕ) (files : List NamedFile) (lent : LentNames) (began : Option (Seen D I O C)) (c d : AtDesk D I O C) → Held flow store files lent began c → Goes c.seen d.seen → d.lent ≡ c.lent
      → Held flow store files lent began d
  still_held flow store files lent began c d is goes same = record {
    order = goes.order;
    flow_is = goes.same.flow ∙ is.flow_is;
    store_is = goes.same.id ∙ is.store_is;
    lent_is = same ∙ is.lent_is;
    bytes = λ none. goes.bytes none files (is.bytes (none_before c.seen d.seen goes none));
    goes = λ s at. goes_twice s c.seen d.seen (is.goes s at) goes;
  }

  -- at first, where the engine may go on
  pub held_at_first : (e : EngineState) (disk : D) (inbox : I) (outbox : O) (clock : C) (lent : LentNames) → MayGoOn tells held moment_of images in_tells (left inbox) e disk
      → Held e.flow (kept_by e.store).store (left inbox) lent (Some (at_first e disk inbox outbox clock)) (record { seen = at_first e disk inbox outbox clock; lent = lent })
  held_at_first e disk inbox outbox clock lent may = record {
    order = order;
    flow_is = refl;
    store_is = refl;
    lent_is = refl;
    bytes = λ none telling. all_same (left inbox) (names_to_come e);
    goes = λ s at. subst (λ (r : Seen D I O C). Goes r (at_first e disk inbox outbox clock)) (the_same (at_first e disk inbox outbox clock) s at) (goes_nowhere (at_first e disk inbox outbox clock) order);
  }
    where
      the_same : (r s : Seen D I O C) → ◌≡◌ {A = Option (Seen D I O C)} (Some r) (Some s) → r ≡ s
      the_same r s is = cc

      all_same : (files : List NamedFile) (names : List (List ℕ)) → All (λ name. bytes_of files name ≡ bytes_of files name) names
      all_same files [] = All-nil (λ name. bytes_of files name ≡ bytes_of files name)
      all_same files (name ∷ names) = All-cons (λ n. bytes_of files n ≡ bytes_of files n) name names refl (all_same files names)

      order : DeskIsInOrder tells held moment_of images in_tells left time given (at_first e disk inbox outbox clock)
      order = record {
        usable = record { usable = λ works. may.ready; takeable = λ works. may.left };
        failed = λ fails. absurd (true≢false (sym fails ∙ may.works));
        limited = λ limit is. none_or_some (Stopped (Limit limit)) is;
        damaged = λ damage is. none_or_some (Stopped (Damaged damage)) is;
        works = λ is. none_or_some (Stopped MustReopen) is;
        known = λ is. none_or_some (Stopped NoSession) is;
        rests = ⊎_elim (λ is. none_or_some Quiet is) (λ is. none_or_some (Blocked is.0) is.1);
      }

  -- at the end, under the names by which the devices were lent
  pub gone_at_last : (s t : Seen D I O C) (cause : Cause) (disk : D) (inbox : I) (outbox : O) (clock : C) → t.cause ≡ Some cause → disk ≡ t.disk → inbox ≡ t.inbox → outbox ≡ t.outbox → clock ≡ t.clock → Goes s t
      → Goes s (record { engine = t.engine; disk = disk; inbox = inbox; outbox = outbox; clock = clock; cause = Some cause })
  gone_at_last s t cause disk inbox outbox clock noted_is disk_is inbox_is outbox_is clock_is goes =
      subst (Goes s) (λ i. record { engine = t.engine; disk = sym disk_is i; inbox = sym inbox_is i; outbox = sym outbox_is i; clock = sym clock_is i; cause = noted_is i }) goes
